-- The search of a grid depends on its codes only by which pads carry equal codes: on alike grids it is the same list of events, the visited
-- boards and the layouts with their records in their order. Then `solve` and `common` answer the same for both, with every byte that is lent. It rests
-- on AlikeStates.antt and on the model's Search.antt.
use Prim.Native.Nat.{ℕ, zero, suc, ◌+◌, ◌-◌}
use Rattle.std.specs.Prelude.{◌≡◌, Bool, ◌&&◌, ◌||◌, ℤ}
use Rattle.std.proofs.Math.Path.{refl, ap}
use Rattle.std.proofs.Math.Bool.{true, false}
use mathlib.Core.List.{List, [], ◌∷◌, ◌++◌}
use Rattle.std.proofs.Math.Dec.{eqb}
use Rattle.rules.specs.Grid.{Edge, right, down, Cell, Grid, pads, grid_of, Accepted}
use Rattle.rules.specs.Drawing.{num}
use Rattle.rules.specs.Record.{field}
use Rattle.model.specs.Calls.{state_byte}
use Rattle.model.specs.PadTests.{has_right, has_down}
use Rattle.model.specs.Board.{EdgeState, State, is_undecided, line_or_none, decide, enough}
use Rattle.model.specs.Runs.{Event, visit, layout, listed_by}
use Rattle.model.specs.Search.{board_record, next_pad, degree_so_far, try, backtrack, search_from, search, solve}
use Rattle.model.specs.Common.{common}
use Rattle.model.specs.RefusalLaws.{accepted_is_not_refused}
use Rattle.alike.specs.Alike.{Alike, same_clues, recoded, of_one_size}
use Rattle.alike.specs.AlikeStates.{AlikeStates}
use Rattle.alike.proofs.AlikeStates.{edge_same, decide_alike, fresh_alike}

module _ (g : Grid) (cell : ℕ → Cell) (alike : Alike g (recoded g cell)) where
  abbrev h : Grid
  h = recoded g cell

  abbrev States : State → State → Type 0
  States S T = AlikeStates g h S T

  record_same : {S T : State} → States S T → board_record g S ≡ board_record h T
  unfolding board_record
  record_same r = ap (λ (edge : Edge → EdgeState). field g.height g.width (λ e. state_byte (edge e))) r.same_edges

  next_same : (n v : ℕ) {S T : State} → States S T → next_pad g n v S ≡ next_pad h n v T
  unfolding next_pad
  next_same zero v r = refl
  next_same (suc n) v r = λ i. elim (has_down g v) [
    | false ↦ v
    | true ↦ elim (has_right g v && is_undecided (r.same_edges i (right v))) [ true ↦ v | false ↦ next_same n (v + 1) r i ]
  ]

  degree_same : (v : ℕ) {S T : State} → States S T → degree_so_far g v S ≡ degree_so_far h v T
  unfolding degree_so_far
  degree_same v r = rw (edge_same r (right (v - 1)), edge_same r (down (v - g.width)), ← same_clues alike v) refl

  abbrev SameEvents : (ℕ → State → List Event) → (ℕ → State → List Event) → Type 0
  SameEvents first second = (v : ℕ) (S T : State) → States S T → first v S ≡ second v T

  from_next : {first second : ℕ → State → List Event} → SameEvents first second
      → (v : ℕ) {S T : State} → States S T → first (next_pad g (pads g) v S) S ≡ second (next_pad h (pads h) v T) T
  from_next same v {S} {T} r = rw (next_same (pads g) v r) (same _ S T r)

  try_same : (first second : ℕ → State → List Event) → SameEvents first second
      → (go_right go_down : Bool) → SameEvents (λ v S. try g first v S go_right go_down) (λ v T. try h second v T go_right go_down)
  unfolding try enough
  try_same first second same go_right go_down v S T r = λ i. elim (eqb (degree i) 0 || eqb (degree i) 2) [
    | false ↦ []
    | true ↦ elim (after.same_flag i) [ true ↦ [] | false ↦ from_next same v after i ]
  ]
    where
      degree : degree_so_far g v S + num go_right + num go_down ≡ degree_so_far h v T + num go_right + num go_down
      degree = ap (λ d. d + num go_right + num go_down) (degree_same v r)

      after : States (decide g (enough g) (down v) (line_or_none go_down) (decide g (enough g) (right v) (line_or_none go_right) S))
          (decide h (enough h) (down v) (line_or_none go_down) (decide h (enough h) (right v) (line_or_none go_right) T))
      after = decide_alike alike _ _ _ _ _ (decide_alike alike _ _ _ _ _ r)

  backtrack_same : (n : ℕ) → SameEvents (λ v S. backtrack g n v S) (λ v T. backtrack h n v T)
  unfolding backtrack
  backtrack_same zero v S T r = refl
  backtrack_same (suc n) v S T r = λ i. visit ∷ (elim (has_down g v) [
    | false ↦ layout (record_same r i) ∷ []
    | true ↦ try_same _ _ (backtrack_same n) false false v S T r i ++ (try_same _ _ (backtrack_same n) true false v S T r i
        ++ (try_same _ _ (backtrack_same n) false true v S T r i ++ try_same _ _ (backtrack_same n) true true v S T r i))
  ])

  search_from_same : (S T : State) → States S T → search_from g S ≡ search_from h T
  unfolding search_from
  search_from_same S T r = λ i. elim (r.same_flag i) [ true ↦ [] | false ↦ from_next (backtrack_same (pads g)) 0 r i ]

-- THE SEARCH
pub search_alike : {g h : Grid} → Alike g h → search g ≡ search h
unfolding search
search_alike {g} alike = of_one_size (λ k. search g ≡ search k) alike (λ cell a. search_from_same g cell a _ _ (fresh_alike a))

-- SOLVE, at every limit and with every buffer
pub solve_alike : (height width : ℕ) (cells others : List ℤ) → Accepted height width cells → Accepted height width others
    → Alike (grid_of height width cells) (grid_of height width others)
    → (limit : ℕ) (buffer : List ℕ) → solve height width cells limit buffer ≡ solve height width others limit buffer
unfolding solve listed_by
solve_alike height width cells others accepted other_accepted alike limit buffer =
    rw (accepted_is_not_refused height width cells accepted, accepted_is_not_refused height width others other_accepted, listed_by) (rw (search_alike alike) refl)

-- COMMON, at every limit and with every buffer and table
pub common_alike : (height width : ℕ) (cells others : List ℤ) → Accepted height width cells → Accepted height width others
    → Alike (grid_of height width cells) (grid_of height width others)
    → (limit : ℕ) (buffer table : List ℕ) → common height width cells limit buffer table ≡ common height width others limit buffer table
unfolding common
common_alike height width cells others accepted other_accepted alike limit buffer table =
    rw (accepted_is_not_refused height width cells accepted, accepted_is_not_refused height width others other_accepted, common) (rw (search_alike alike) refl)
