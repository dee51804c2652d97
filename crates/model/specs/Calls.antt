-- The board calls: fresh board, decide, read, checkpoint, undo, with their refusals. Document 01, 'The board' and 'When a call declines'.
-- They rest on Board.antt and Refusals.antt. A board needs no history here: it keeps the states at its standing checkpoints. A declined
-- call hands the board back as it was; that is seen at each `board = b`.
use Rattle.std.specs.Prelude.{ℕ, Bool, true, false, ◌&&◌, List, [], ◌∷◌, eqb, ltb, length, ℤ}
use Rattle.rules.specs.Grid.{Edge, Place, edge, no_edge, place_at, field_side, Grid, grid_of, blank_cell, pads}
use Rattle.rules.specs.Drawing.{num}
use Rattle.rules.specs.Record.{field, undecided_byte, line_byte, none_byte, tabulate}
use Rattle.model.specs.JoinedEnds.{end_number}
use Rattle.model.specs.Board.{EdgeState, undecided, line, none, State, decide, enough, fresh}
use Rattle.model.specs.Refusals.{grid_refusal}

-- A BOARD: its grid, its state, and the states at the checkpoints not yet undone, the last one first.
pub record Board : Type 0 where
  pub grid : Grid
  pub state : State
  pub standing : List State

-- what a call hands back: document 01's number (0 if accepted), its answer (0 beside a number), and the board
pub record Answer : Type 0 where
  pub number : ℕ
  pub answer : ℕ
  pub board : Board

unfoldable pub fresh_board : Grid → Board
fresh_board g = record { grid = g; state = fresh g; standing = [] }

-- the fresh 2 by 2 blank board
unfoldable pub blank_board : Board
blank_board = fresh_board (grid_of 2 2 (blank_cell ∷ blank_cell ∷ blank_cell ∷ blank_cell ∷ []))

-- NEW: refusals 7, 8, 9 with the index as answer; a declined board is the fresh 2 by 2 blank one
unfoldable pub new : ℕ → ℕ → List ℤ → Answer
new height width cells =
    let r = grid_refusal height width cells in
    elim (eqb r.0 0) [
      | true ↦ record { number = 0; answer = 0; board = fresh_board (grid_of height width cells) }
      | false ↦ record { number = r.0; answer = r.1; board = blank_board }
    ]

-- the byte of an edge's state
abbrev pub state_byte : EdgeState → ℕ
state_byte undecided = undecided_byte
state_byte line = line_byte
state_byte none = none_byte

-- the edge at a row and a column of the field, any numbers
unfoldable pub edge_at : Grid → ℕ → ℕ → Place
edge_at g row column = elim (ltb row (field_side g.height) && ltb column (field_side g.width))
    [ true ↦ place_at g.width row column | false ↦ no_edge ]

abbrev pub with_state : Board → State → Board
with_state b S = record { grid = b.grid; state = S; standing = b.standing }

-- DECIDE: 10 no such edge place, then 11 a state neither 1 nor 2; accepted, the answer is the flag
abbrev pub decided : Board → Edge → EdgeState → Answer
decided b e m = let S = decide b.grid (enough b.grid) e m b.state in
    record { number = 0; answer = num S.flag; board = with_state b S }

abbrev pub decide_at : Board → Place → ℕ → Answer
decide_at b no_edge byte = record { number = 10; answer = 0; board = b }
decide_at b (edge e) byte = elim (eqb byte line_byte) [
  | true ↦ decided b e line
  | false ↦ elim (eqb byte none_byte) [ true ↦ decided b e none | false ↦ record { number = 11; answer = 0; board = b } ]
]

unfoldable pub decide_edge : Board → ℕ → ℕ → ℕ → Answer
decide_edge b row column byte = decide_at b (edge_at b.grid row column) byte

-- READ: 10 no such edge place; accepted, the answer is the edge's byte
abbrev pub read_at : Board → Place → Answer
read_at b no_edge = record { number = 10; answer = 0; board = b }
read_at b (edge e) = record { number = 0; answer = state_byte (b.state.edge e); board = b }

unfoldable pub read_edge : Board → ℕ → ℕ → Answer
read_edge b row column = read_at b (edge_at b.grid row column)

-- CHECKPOINT: 12 with 256 standing
abbrev pub most_checkpoints : ℕ
most_checkpoints = 256

unfoldable pub add_checkpoint : Board → Answer
add_checkpoint b = elim (ltb (length b.standing) most_checkpoints) [
  | true ↦ record { number = 0; answer = 0; board = record { grid = b.grid; state = b.state; standing = b.state ∷ b.standing } }
  | false ↦ record { number = 12; answer = 0; board = b }
]

-- UNDO never declines: edges, ends and flag of the last checkpoint not yet undone, or of the fresh board if there is none
abbrev pub undo_to : Grid → List State → Board
undo_to g [] = fresh_board g
undo_to g (S ∷ standing) = record { grid = g; state = S; standing = standing }

unfoldable pub undo : Board → Board
undo b = undo_to b.grid b.standing

-- WHAT A BOARD SHOWS: its edges as a record, its end numbers, its flag
pub record Shown : Type 0 where
  pub edges : List ℕ
  pub ends : List ℤ
  pub flag : Bool

unfoldable pub shown : Board → Shown
shown b = record {
  edges = field b.grid.height b.grid.width (λ e. state_byte (b.state.edge e));
  ends = tabulate (λ v. end_number (b.state.end v)) 0 (pads b.grid);
  flag = b.state.flag;
}
