-- Every record of the search is as long as the field has places.
use Prim.Native.Nat.{ℕ, zero, suc, ◌+◌}
use Rattle.std.specs.Prelude.{◌≡◌, Bool, ◌||◌, length}
use Rattle.std.proofs.Math.Path.{refl}
use Rattle.std.proofs.Math.Bool.{true, false}
use mathlib.Core.List.{List, []}
use Rattle.std.proofs.Math.Dec.{eqb}
use Rattle.rules.specs.Grid.{right, down, Grid, pads, places}
use Rattle.rules.specs.Drawing.{num}
use Rattle.rules.specs.RecordLaws.{length_field}
use Rattle.model.specs.PadTests.{has_down}
use Rattle.model.specs.Board.{State, decide, enough, line_or_none, fresh}
use Rattle.model.specs.Calls.{state_byte}
use Rattle.model.specs.Runs.{Event}
use Rattle.model.specs.Search.{board_record, next_pad, degree_so_far, try, backtrack, search_from, search}
use Rattle.runs.specs.Progress.{Sized, sized_append}

module _ (g : Grid) where
  abbrev size : ℕ
  size = places g.height g.width

  record_length : (S : State) → length (board_record g S) ≡ size
  unfolding board_record
  record_length S = length_field g.height g.width (λ e. state_byte (S.edge e))

  try_sized : (continue : ℕ → State → List Event) → ((u : ℕ) (T : State) → Sized size (continue u T)) → (v : ℕ) (S : State) (r d : Bool) → Sized size (try g continue v S r d)
  unfolding try
  try_sized continue all v S r d = go (eqb degree 0 || eqb degree 2) refl T.flag refl
    where
      degree : ℕ
      degree = degree_so_far g v S + num r + num d

      T : State
      T = decide g (enough g) (down v) (line_or_none d) (decide g (enough g) (right v) (line_or_none r) S)

      go : (a : Bool) → (eqb degree 0 || eqb degree 2) ≡ a → (b : Bool) → T.flag ≡ b → Sized size (try g continue v S r d)
      go false h b k = rw (h, try) (unfold Sized in tt)
      go true h true k = rw (h, try) (rw k (unfold Sized in tt))
      go true h false k = rw (h, try) (rw k (all (next_pad g (pads g) v T) T))

  pub backtrack_sized : (n v : ℕ) (S : State) → Sized size (backtrack g n v S)
  unfolding backtrack
  backtrack_sized zero v S = unfold Sized in tt
  backtrack_sized (suc n) v S = go (has_down g v) refl (λ u T. backtrack_sized n u T)
    where
      go : (b : Bool) → has_down g v ≡ b → ((u : ℕ) (T : State) → Sized size (backtrack g n u T)) → Sized size (backtrack g (suc n) v S)
      go false h all = unfold Sized in (rw (h, backtrack) (record_length S, tt))
      go true h all = unfold Sized in (rw (h, backtrack) (sized_append size (try g (λ u T. backtrack g n u T) v S false false) _ (try_sized (λ u T. backtrack g n u T) all v S false false)
          (sized_append size (try g (λ u T. backtrack g n u T) v S true false) _ (try_sized (λ u T. backtrack g n u T) all v S true false)
          (sized_append size (try g (λ u T. backtrack g n u T) v S false true) _ (try_sized (λ u T. backtrack g n u T) all v S false true)
          (try_sized (λ u T. backtrack g n u T) all v S true true)))))

  search_from_sized : (S : State) → Sized size (search_from g S)
  unfolding search_from
  search_from_sized S = go S.flag
    where
      go : (b : Bool) → Sized size (elim b [ true ↦ [] | false ↦ backtrack g (pads g) (next_pad g (pads g) 0 S) S ])
      go true = unfold Sized in tt
      go false = backtrack_sized (pads g) (next_pad g (pads g) 0 S) S

  pub search_sized : Sized size (search g)
  unfolding search
  search_sized = search_from_sized (fresh g)
