-- Where the search stands: at a pad, on a board at rest with a clear flag and shut holes, with the edges of all pads before it decided. From such a pad
-- the scan for the next one passes over pads whose right edge is decided, and leads to another such place.
use Prim.Native.Nat.{ℕ, zero, suc, ◌+◌, ◌≤◌, ◌<◌}
use Rattle.std.specs.Prelude.{◌≡◌, Bool, false, ◌&&◌}
use Rattle.std.proofs.Math.Path.{refl}
use Rattle.std.proofs.Common.{ap, arith, ltb-true}
use Rattle.std.proofs.Math.Bool.{true}
use Rattle.rules.specs.Grid.{Edge, first, Grid, pads, right, down}
use Rattle.rules.specs.Drawing.{Drawing, drawn, Placed}
use Rattle.rules.specs.Record.{pad_code}
use Rattle.rules.specs.Tests.{both, both_off, second_off, conflict}
use Rattle.model.specs.PadTests.{has_right, has_down}
use Rattle.model.specs.Board.{EdgeState, is_line, is_undecided, State, undecided, line, none}
use Rattle.model.specs.Search.{next_pad}
use Rattle.propagation.specs.Edges.{drawing}
use Rattle.propagation.specs.Objects.{AtRest, Holds, AllHold, pad}
use Rattle.propagation.specs.Agreement.{Agrees}
use Rattle.rules.specs.ProperGrid.{Proper}
use Rattle.propagation.specs.Preparing.{HolesShut}
use Rattle.exact.specs.Passed.{Passed, passed_edge, pass}

module _ (g : Grid) (proper : Proper g) where
  abbrev wide : 2 ≤ g.width
  wide = proper.wide

  -- THE SEARCH STANDS at pad v
  pub record StandsAt (S : State) (v : ℕ) : Type 0 where
    pub clear : S.flag ≡ false
    pub holds : AllHold g S
    pub holes_shut : HolesShut g S
    pub passed : Passed g wide S v
    pub inside : v < pads g
    -- above the last row, not in the last column
    pub right_there : has_down g v ≡ true → has_right g v ≡ true

  pub rest_at : (S : State) → AllHold g S → (v : ℕ) → AtRest g S v
  rest_at S holds v = unfold Holds in (holds (pad v))

  -- a drawing that agrees with the board has the board's states before v
  pub same_before : (D : Drawing) → Placed g D → (S : State) → Agrees D S → (v : ℕ) → Passed g wide S v → (e : Edge) → first e < v → drawn D e ≡ is_line (S.edge e)
  same_before D placed S agrees v passed e before = go (S.edge e) refl (drawn D e) refl
    where
      go : (m : EdgeState) → S.edge e ≡ m → (x : Bool) → drawn D e ≡ x → drawn D e ≡ is_line (S.edge e)
      go line h x k = rw h (agrees.where_line e h)
      go none h x k = rw h (agrees.where_none e h)
      go undecided h false k = rw h k
      go undecided h true k = conflict {b = is_undecided (S.edge e)} (ap is_undecided h) (passed_edge g wide S v passed e before (placed e k))

  pub same_code : (D : Drawing) → Placed g D → (S : State) → Agrees D S → (v : ℕ) → Passed g wide S v → (u : ℕ) → u < v → pad_code D u ≡ pad_code (drawing S) u
  unfolding drawing
  same_code D placed S agrees v passed u before =
      rw (same_before D placed S agrees v passed (right u) before, same_before D placed S agrees v passed (down u) before) refl

  -- THE NEXT PAD w from v on
  pub record NextFrom (S : State) (v w : ℕ) : Type 0 where
    pub on_to : v ≤ w
    pub passed : Passed g wide S w
    pub inside : w < pads g
    pub right_there : has_down g w ≡ true → has_right g w ≡ true

  one_on : (n : ℕ) → suc n ≡ n + 1
  one_on n = omega arith

  in_next_row : (v : ℕ) → has_down g v ≡ true → v + 1 < pads g
  in_next_row v d = let k = ltb-true (v + g.width) (pads g) d in let w = proper.wide in omega arith

  pub next_from : (n : ℕ) (S : State) (v : ℕ) → AllHold g S → Passed g wide S v → v < pads g → pads g ≤ v + n → NextFrom S v (next_pad g n v S)
  unfolding next_pad
  next_from zero S v holds passed inside bound = absurd (omega arith)
  next_from (suc n) S v holds passed inside bound = go (has_down g v) refl (has_right g v && is_undecided (S.edge (right v))) refl
      (λ p i. next_from n S (v + 1) holds p i (omega arith))
    where
      here : (has_down g v ≡ true → has_right g v ≡ true) → NextFrom S v v
      here h = record { on_to = omega arith; passed = passed; inside = inside; right_there = h }

      go : (d : Bool) → has_down g v ≡ d → (o : Bool) → (has_right g v && is_undecided (S.edge (right v))) ≡ o
          → (Passed g wide S (v + 1) → v + 1 < pads g → NextFrom S (v + 1) (next_pad g n (v + 1) S)) → NextFrom S v (next_pad g (suc n) v S)
      go false d o h r = rw (d, next_pad) (here (λ t. conflict t d))
      go true d true h r = rw (d, next_pad) (rw h (here (λ t. (both (has_right g v) (is_undecided (S.edge (right v))) h).0)))
      go true d false h r = rw (d, next_pad) (rw h (
          let p = r (rw (one_on v) at (pass g wide S v inside (rest_at S holds v) passed (λ x y. second_off (has_right g v) (is_undecided (S.edge (right v))) h x))) (in_next_row v d) in
          record { on_to = (let q = p.on_to in omega arith); passed = p.passed; inside = p.inside; right_there = p.right_there }))

  -- past a pad whose right edge is decided the next one is later
  pub next_is_later : (n : ℕ) (S : State) (v : ℕ) → AllHold g S → Passed g wide S v → v < pads g → 1 ≤ n → pads g ≤ v + n
      → has_down g v ≡ true → is_undecided (S.edge (right v)) ≡ false → NextFrom S (v + 1) (next_pad g n v S)
  unfolding next_pad
  next_is_later zero S v holds passed inside some bound d o = absurd (omega arith)
  next_is_later (suc n) S v holds passed inside some bound d o = rw (d, next_pad) (rw (both_off (has_right g v) (is_undecided (S.edge (right v))) o) (next_from n S (v + 1) holds
      (rw (one_on v) at (pass g wide S v inside (rest_at S holds v) passed (λ x y. o))) (in_next_row v d) (omega arith)))
