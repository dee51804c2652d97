-- THE FRESH ARRAYS SHOW THE MODEL'S FRESH BOARD: once the holes are shut on the bare arrays, edges and ends stay, and the log begins anew with
-- the flag as it is. So nothing that undoes the log goes behind the preparing. It rests on Shutting.antt and on the bare arrays.
use Rattle.std.specs.Prelude.{ℕ, ◌*◌, ◌%◌, ◌<◌, ◌≡◌, refl, Bool, true, false, List, ltb, length, ℤ}
use Rattle.std.proofs.Common.{◌∙◌, arith, le-leb, ltb-true, ltb-false}
use Rattle.std.proofs.Math.Path.{ap}
use Rattle.std.proofs.lemmas.Bool.{lt-leb}
use Rattle.rules.specs.Grid.{Grid, pads}
use Rattle.model.specs.Board.{State, bare, prepared, fresh}
use Rattle.boardview.specs.declared.Arrays.{Arrays}
use Rattle.boardview.specs.declared.kinds.Kinds.{Kinds}
use Rattle.boardview.specs.Told.{pick}
use Rattle.boardview.specs.View.{flag_in, view, grid_in, restarted, Ready}
use Rattle.boardview.specs.SameKinds.{Shows, shown_prepares}
use Rattle.boardview.specs.Stores.{relogged}
use Rattle.boardbare.specs.BareView.{BareBoard}
use Rattle.boardfresh.specs.Shutting.{Shown}

-- WHAT THE CALLERS OF THE FRESH ARRAYS GET, with any log: there are no entries yet
pub record FreshBoard (g : Grid) (edges : List ℕ) (ends : List ℤ) (kinds : Kinds) (count : ℕ) : Type 0 where
  pub told : Shows g kinds
  pub ready : (log : List ℤ) → length log ≡ 1440 → Ready (grid_in kinds) (record { edges = edges; ends = ends; log = log; count = count })
  pub shows : (log : List ℤ) → view (record { edges = edges; ends = ends; log = log; count = count }) ≡ fresh g
  pub no_entries : count % 1024 ≡ 0

record Restarted (count : ℕ) : Type 0 where
  same_flag : flag_in (restarted count) ≡ flag_in count
  in_mode : restarted count < 3072
  empty : restarted count % 1024 ≡ 0

restart : (count : ℕ) → Restarted count
unfolding restarted
restart count = go (ltb count 1024) refl
  where
    go : (b : Bool) → ltb count 1024 ≡ b → Restarted count
    go true h = record { same_flag = rw (h, lt-leb 1024 count (ltb-true count 1024 h)) refl; in_mode = rw h (omega arith); empty = rw h refl }
    go false h = record { same_flag = rw (h, le-leb 1024 count (ltb-false count 1024 h)) refl; in_mode = rw h (omega arith); empty = rw h refl }

-- the arrays with a new log
module _ (g : Grid) (s : Arrays) (log : List ℤ) where
  abbrev anew : Arrays
  anew = record { edges = s.edges; ends = s.ends; log = log; count = restarted s.count }

  view_anew : view anew ≡ view s
  unfolding view
  view_anew = λ i. record { edge = (view s).edge; end = (view s).end; flag = (restart s.count).same_flag i }

  ready_anew : Ready g s → length log ≡ 1440 → Ready g anew
  ready_anew ready long = let r = restart s.count in
      relogged g s log (restarted s.count) ready long r.in_mode (omega (arith, r.empty)) (λ k below. absurd (omega (arith, r.empty)))

module _ (g : Grid) (edges : List ℕ) (ends : List ℤ) (kinds : Kinds) (made : BareBoard g edges ends kinds) (log : List ℤ) (s : Arrays)
    (shut : Shown (grid_in kinds) s (prepared (grid_in kinds) (pads (grid_in kinds)) 0 (view (record { edges = edges; ends = ends; log = log; count = 0 })))) where
  same_pads : pads (grid_in kinds) ≡ pads g
  same_pads = λ i. made.told.height i * made.told.width i

  shows_fresh : view s ≡ fresh g
  unfolding fresh
  shows_fresh = shut.shows
      ∙ ap (λ (S : State). prepared (grid_in kinds) (pads (grid_in kinds)) 0 S) (made.shows log)
      ∙ shown_prepares made.told (pads (grid_in kinds)) 0 (bare g)
      ∙ ap (λ (n : ℕ). prepared g n 0 (bare g)) same_pads

  pub fresh_made : FreshBoard g s.edges s.ends kinds (restarted s.count)
  fresh_made = record {
    told = made.told;
    ready = λ other long. ready_anew (grid_in kinds) s other shut.ready long;
    shows = λ other. view_anew (grid_in kinds) s other ∙ shows_fresh;
    no_entries = (restart s.count).empty;
  }
