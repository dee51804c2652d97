-- The search as a list of events with no limit, and `solve`, which runs it with a limit and room. Document 01, 'The search'. It rests on
-- Board.antt, and on Runs.antt for what a run is.
use Rattle.std.specs.Prelude.{ℕ, zero, suc, ◌+◌, ◌-◌, Bool, true, false, ◌&&◌, ◌||◌, List, [], ◌∷◌, ◌++◌, eqb, ℤ}
use Rattle.rules.specs.Grid.{right, down, Grid, pads}
use Rattle.rules.specs.Drawing.{num}
use Rattle.rules.specs.Record.{field}
use Rattle.model.specs.PadTests.{is_clue, has_left, has_right, has_up, has_down}
use Rattle.model.specs.Board.{State, is_line, is_undecided, line_or_none, decide, enough, fresh}
use Rattle.model.specs.Calls.{state_byte}
use Rattle.model.specs.Runs.{Event, visit, layout, Solved, listed_by}

module _ (g : Grid) where
  -- the edges of a board as a record
  unfoldable pub board_record : State → List ℕ
  board_record S = field g.height g.width (λ e. state_byte (S.edge e))

  -- the next pad from v on, above the last row, with its right edge undecided; else the first pad of the last row. n bounds the scan.
  unfoldable pub next_pad : ℕ → ℕ → State → ℕ
  next_pad zero v S = v
  next_pad (suc n) v S = elim (has_down g v) [
    | false ↦ v
    | true ↦ elim (has_right g v && is_undecided (S.edge (right v))) [ true ↦ v | false ↦ next_pad n (v + 1) S ]
  ]

  -- clue + lines that pad v has to the left and upward
  unfoldable pub degree_so_far : ℕ → State → ℕ
  degree_so_far v S = num (is_clue (g.cell v)) + num (has_left g v && is_line (S.edge (right (v - 1)))) + num (has_up g v && is_line (S.edge (down (v - g.width))))

  -- one m: tried where clue + lines is 0 or 2; decide right, decide down, go on if the flag is clear. Checkpoint and undo are that the
  -- next m starts from S again.
  unfoldable pub try : (ℕ → State → List Event) → ℕ → State → Bool → Bool → List Event
  try continue v S go_right go_down =
      let degree = degree_so_far v S + num go_right + num go_down in
      elim (eqb degree 0 || eqb degree 2) [
        | false ↦ []
        | true ↦ let T = decide g (enough g) (down v) (line_or_none go_down) (decide g (enough g) (right v) (line_or_none go_right) S) in
            elim T.flag [ true ↦ [] | false ↦ continue (next_pad (pads g) v T) T ]
      ]

  -- m = 0 to 3, right = m mod 2, down = m div 2
  unfoldable pub backtrack : ℕ → ℕ → State → List Event
  backtrack zero v S = []
  backtrack (suc n) v S = visit ∷ (elim (has_down g v) [
    | false ↦ layout (board_record S) ∷ []
    | true ↦ try (λ u T. backtrack n u T) v S false false ++ (try (λ u T. backtrack n u T) v S true false
        ++ (try (λ u T. backtrack n u T) v S false true ++ try (λ u T. backtrack n u T) v S true true))
  ])

  -- the search of a board: none where its flag is set, else from the first pad with its right edge undecided, or in the last row if there
  -- is none; each entry is at a later pad, so the number of pads bounds the nesting
  unfoldable pub search_from : State → List Event
  search_from S = elim S.flag [ true ↦ [] | false ↦ backtrack (pads g) (next_pad (pads g) 0 S) S ]

  unfoldable pub search : List Event
  search = search_from (fresh g)

-- SOLVE: the grid's refusals, or outcome, layouts, visited, fewest
unfoldable pub solve : ℕ → ℕ → List ℤ → ℕ → List ℕ → Solved
solve height width cells limit buffer = listed_by (λ g. search g) height width cells limit buffer
