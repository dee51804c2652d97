-- A list of events with no limit, and a run with a limit and room as a scan of that list: what every engine that lists layouts has in common.
-- Document 01, 'The search': spent, full, complete, the buffer and the result. What stopping early means is then a matter of scanning a list.
-- It rests on the rules and on the grid's refusals, and knows nothing of boards.
use Rattle.std.specs.Prelude.{ℕ, ◌+◌, ◌-◌, true, false, List, [], ◌∷◌, ◌++◌, eqb, ltb, leb, length, drop, ℤ}
use Rattle.rules.specs.Grid.{Grid, grid_of, places}
use Rattle.rules.specs.Record.{record_lines}
use Rattle.model.specs.Refusals.{grid_refusal}

-- EVENTS: what an engine counts (a visited board of the search, a tried code of the walk), and a layout with its record
pub data Event : Type 0 where
  visit : Event
  layout : List ℕ → Event

-- A RUN: outcome (0 complete, 1 spent, 2 full), how many were counted (visited boards, or tried codes), and the records of its layouts
pub record Run : Type 0 where
  pub outcome : ℕ
  pub visited : ℕ
  pub records : List (List ℕ)

abbrev pub with_record : List ℕ → Run → Run
with_record r run = record { outcome = run.outcome; visited = run.visited; records = r ∷ run.records }

-- Spent: the next that is counted would pass the limit. Full: a layout is due and less than a record of room is left.
unfoldable pub scan : (limit size : ℕ) → (visited room : ℕ) → List Event → Run
scan limit size visited room [] = record { outcome = 0; visited = visited; records = [] }
scan limit size visited room (visit ∷ events) = elim (ltb visited limit) [
  | true ↦ scan limit size (visited + 1) room events
  | false ↦ record { outcome = 1; visited = visited; records = [] }
]
scan limit size visited room (layout r ∷ events) = elim (ltb room size) [
  | true ↦ record { outcome = 2; visited = visited; records = [] }
  | false ↦ with_record r (scan limit size visited (room - size) events)
]

-- the fewest lines of these records, 481 for none; no layout has more than 480
abbrev pub no_fewest : ℕ
no_fewest = 481

abbrev pub least : ℕ → ℕ → ℕ
least a b = elim (leb a b) [ true ↦ a | false ↦ b ]

unfoldable pub fewest : List (List ℕ) → ℕ
fewest [] = no_fewest
fewest (r ∷ records) = least (record_lines r) (fewest records)

-- the records one after another
unfoldable pub concat : List (List ℕ) → List ℕ
concat [] = []
concat (r ∷ records) = r ++ concat records

-- WHAT A CALL ANSWERS: the grid's refusals, or outcome, layouts, visited, fewest; and the answer buffer after it, whose bytes after the last
-- record keep their values
pub record Solved : Type 0 where
  pub number : ℕ
  pub index : ℕ
  pub outcome : ℕ
  pub layouts : ℕ
  pub visited : ℕ
  pub fewest_lines : ℕ
  pub buffer : List ℕ

abbrev pub solved : Run → List ℕ → Solved
solved run buffer = record {
  number = 0;
  index = 0;
  outcome = run.outcome;
  layouts = length run.records;
  visited = run.visited;
  fewest_lines = fewest run.records;
  buffer = concat run.records ++ drop (length (concat run.records)) buffer;
}

-- a declined search: nothing was searched, and no byte changes
abbrev pub declined_search : ℕ → ℕ → List ℕ → Solved
declined_search number index buffer = record
    { number = number; index = index; outcome = 0; layouts = 0; visited = 0; fewest_lines = no_fewest; buffer = buffer }

-- A CALL of an engine, which goes through these events of a grid: the grid's refusals first, then the run, with the answer buffer as room
unfoldable pub listed_by : (Grid → List Event) → ℕ → ℕ → List ℤ → ℕ → List ℕ → Solved
listed_by events height width cells limit buffer =
    let refusal = grid_refusal height width cells in
    elim (eqb refusal.0 0) [
      | true ↦ solved (scan limit (places height width) 0 (length buffer) (events (grid_of height width cells))) buffer
      | false ↦ declined_search refusal.0 refusal.1 buffer
    ]
