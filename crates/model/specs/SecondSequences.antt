-- Board calls and searches about which the Rust cannot be asked, on grids with holes and with the largest code, as facts by computation. What
-- they say was computed by a second board and search, oracle/holes.py, which is written from the documents; the calls stand there as well.
-- Sequences: the new board and then each call, with its answer, the edges as a record, the ends and the flag. Each is told apart from some
-- wrong version, which its comment names; fresh boards whose flag is set are among them.
use Rattle.std.specs.Prelude.{ℕ, ◌≡◌, refl, true, false, List, [], ◌∷◌, replicate, ℤ, pos, negsuc}
use Rattle.rules.specs.Grid.{cell_of, blank_cell, hole_cell, grid_of, place_at, parity}
use Rattle.rules.specs.Record.{codes, drawing_of, field, record_lines, tabulate}
use Rattle.model.specs.Bounds.{is_size}
use Rattle.model.specs.Refusals.{grid_refusal, is_cell, first_bad_cell}
use Rattle.model.specs.JoinedEnds.{end_number, unjoinable, joined_ends, put_end, put_end_at}
use Rattle.model.specs.Board.{fresh, prepared, shut_at, shut, bare, decide, check, after_store, cannot_join, join_ends, check_items, settled, decide_first, degree, undecideds, lines, keep_aparts, around, do_item, do_items, shape_items, barred, set_flag, set_edge, enough}
use Rattle.model.specs.Calls.{shown, fresh_board, new, edge_at, decide_edge, read_edge, add_checkpoint, undo}
use Rattle.model.specs.Records.{has_record, record_length, record_at}
use Rattle.model.specs.Runs.{listed_by, concat, scan, fewest}
use Rattle.model.specs.Search.{solve, search, search_from, backtrack, try, degree_so_far, next_pad, board_record}
use Rattle.model.specs.Known.{known}
use Rattle.model.specs.Sequences.{Call, decide_call, read_call, checkpoint_call, undo_call, do_call, Seen, seen, replay, after}

-- a new board and the calls on it one after another, with what is seen after each
abbrev from_new : ℕ → ℕ → List ℤ → List Call → List Seen
from_new height width cells calls = let a = new height width cells in seen a ∷ replay a.board calls

-- a clue whose only way is a line, and undo on a clear board: `0,,/#,,/,,0`
-- Refuses: a hole counted as a clue in the degree; a bar on the left that goes on through a hole; a hole's end -1, or 0; holes left
-- unprepared; none stored at holes with no decision; undo that goes behind the preparing
abbrev Sequence1 : Type 0
Sequence1 =
    from_new 3 3 ((pos 0) ∷ blank_cell ∷ blank_cell ∷ hole_cell ∷ blank_cell ∷ blank_cell ∷ blank_cell ∷ blank_cell ∷ (pos 0) ∷ [])
    ((decide_call 2 3 1) ∷ undo_call ∷ undo_call ∷ [])
    ≡ after 0 (0 ∷ 1 ∷ 0 ∷ 0 ∷ 0 ∷ 2 ∷ 0 ∷ 0 ∷ 0 ∷ 0 ∷ 0 ∷ 2 ∷ 0 ∷ 0 ∷ 0 ∷ 2 ∷ 0 ∷ 0 ∷ 0 ∷ 0 ∷ 0 ∷ 2 ∷ 0 ∷ 0 ∷ 0 ∷ []) ((negsuc 0) ∷ (negsuc 1) ∷ (pos 2) ∷ (pos 3) ∷ (pos 4) ∷ (pos 5) ∷ (pos 6) ∷ (pos 7) ∷ (negsuc 1) ∷ []) false
    ∷ after 1 (0 ∷ 1 ∷ 0 ∷ 2 ∷ 0 ∷ 2 ∷ 0 ∷ 1 ∷ 0 ∷ 1 ∷ 0 ∷ 2 ∷ 0 ∷ 1 ∷ 0 ∷ 2 ∷ 0 ∷ 0 ∷ 0 ∷ 2 ∷ 0 ∷ 2 ∷ 0 ∷ 0 ∷ 0 ∷ []) ((negsuc 0) ∷ (negsuc 0) ∷ (negsuc 1) ∷ (pos 3) ∷ (negsuc 0) ∷ (negsuc 0) ∷ (pos 6) ∷ (pos 7) ∷ (negsuc 1) ∷ []) true
    ∷ after 0 (0 ∷ 1 ∷ 0 ∷ 0 ∷ 0 ∷ 2 ∷ 0 ∷ 0 ∷ 0 ∷ 0 ∷ 0 ∷ 2 ∷ 0 ∷ 0 ∷ 0 ∷ 2 ∷ 0 ∷ 0 ∷ 0 ∷ 0 ∷ 0 ∷ 2 ∷ 0 ∷ 0 ∷ 0 ∷ []) ((negsuc 0) ∷ (negsuc 1) ∷ (pos 2) ∷ (pos 3) ∷ (pos 4) ∷ (pos 5) ∷ (pos 6) ∷ (pos 7) ∷ (negsuc 1) ∷ []) false
    ∷ after 0 (0 ∷ 1 ∷ 0 ∷ 0 ∷ 0 ∷ 2 ∷ 0 ∷ 0 ∷ 0 ∷ 0 ∷ 0 ∷ 2 ∷ 0 ∷ 0 ∷ 0 ∷ 2 ∷ 0 ∷ 0 ∷ 0 ∷ 0 ∷ 0 ∷ 2 ∷ 0 ∷ 0 ∷ 0 ∷ []) ((negsuc 0) ∷ (negsuc 1) ∷ (pos 2) ∷ (pos 3) ∷ (pos 4) ∷ (pos 5) ∷ (pos 6) ∷ (pos 7) ∷ (negsuc 1) ∷ []) false
    ∷ []

-- a flag set by the preparing: undo and a checkpoint keep it: `0,,/#,,/0,#,`
-- Refuses: preparing that stops at the flag, or goes on to the next hole there; holes in descending order; the sides of the second hole
-- in any order but left, right, up; none stored at all holes before the first check; a line at a hole taken away; holes not checked; a
-- hole counted as a clue in the degree; a fresh board whose flag is clear; a decision on a flagged board changes nothing; undo that goes
-- behind the preparing; undo that clears the flag
abbrev Sequence2 : Type 0
Sequence2 =
    from_new 3 3 ((pos 0) ∷ blank_cell ∷ blank_cell ∷ hole_cell ∷ blank_cell ∷ blank_cell ∷ (pos 0) ∷ hole_cell ∷ blank_cell ∷ [])
    ((decide_call 1 2 1) ∷ undo_call ∷ checkpoint_call ∷ (decide_call 0 3 2) ∷ (decide_call 4 1 2) ∷ undo_call ∷ undo_call ∷ [])
    ≡ after 0 (0 ∷ 1 ∷ 0 ∷ 0 ∷ 0 ∷ 2 ∷ 0 ∷ 0 ∷ 0 ∷ 0 ∷ 0 ∷ 2 ∷ 0 ∷ 0 ∷ 0 ∷ 2 ∷ 0 ∷ 1 ∷ 0 ∷ 0 ∷ 0 ∷ 1 ∷ 0 ∷ 2 ∷ 0 ∷ []) ((negsuc 0) ∷ (negsuc 1) ∷ (pos 2) ∷ (pos 3) ∷ (negsuc 1) ∷ (pos 5) ∷ (negsuc 0) ∷ (negsuc 0) ∷ (pos 8) ∷ []) true
    ∷ after 1 (0 ∷ 1 ∷ 0 ∷ 0 ∷ 0 ∷ 2 ∷ 0 ∷ 1 ∷ 0 ∷ 0 ∷ 0 ∷ 2 ∷ 0 ∷ 0 ∷ 0 ∷ 2 ∷ 0 ∷ 1 ∷ 0 ∷ 0 ∷ 0 ∷ 1 ∷ 0 ∷ 2 ∷ 0 ∷ []) ((negsuc 0) ∷ (negsuc 0) ∷ (pos 2) ∷ (pos 3) ∷ (negsuc 0) ∷ (pos 5) ∷ (negsuc 0) ∷ (negsuc 0) ∷ (pos 8) ∷ []) true
    ∷ after 0 (0 ∷ 1 ∷ 0 ∷ 0 ∷ 0 ∷ 2 ∷ 0 ∷ 0 ∷ 0 ∷ 0 ∷ 0 ∷ 2 ∷ 0 ∷ 0 ∷ 0 ∷ 2 ∷ 0 ∷ 1 ∷ 0 ∷ 0 ∷ 0 ∷ 1 ∷ 0 ∷ 2 ∷ 0 ∷ []) ((negsuc 0) ∷ (negsuc 1) ∷ (pos 2) ∷ (pos 3) ∷ (negsuc 1) ∷ (pos 5) ∷ (negsuc 0) ∷ (negsuc 0) ∷ (pos 8) ∷ []) true
    ∷ after 0 (0 ∷ 1 ∷ 0 ∷ 0 ∷ 0 ∷ 2 ∷ 0 ∷ 0 ∷ 0 ∷ 0 ∷ 0 ∷ 2 ∷ 0 ∷ 0 ∷ 0 ∷ 2 ∷ 0 ∷ 1 ∷ 0 ∷ 0 ∷ 0 ∷ 1 ∷ 0 ∷ 2 ∷ 0 ∷ []) ((negsuc 0) ∷ (negsuc 1) ∷ (pos 2) ∷ (pos 3) ∷ (negsuc 1) ∷ (pos 5) ∷ (negsuc 0) ∷ (negsuc 0) ∷ (pos 8) ∷ []) true
    ∷ after 1 (0 ∷ 1 ∷ 0 ∷ 2 ∷ 0 ∷ 2 ∷ 0 ∷ 1 ∷ 0 ∷ 0 ∷ 0 ∷ 2 ∷ 0 ∷ 0 ∷ 0 ∷ 2 ∷ 0 ∷ 1 ∷ 0 ∷ 0 ∷ 0 ∷ 1 ∷ 0 ∷ 2 ∷ 0 ∷ []) ((negsuc 0) ∷ (negsuc 0) ∷ (pos 2) ∷ (pos 3) ∷ (negsuc 0) ∷ (pos 5) ∷ (negsuc 0) ∷ (negsuc 0) ∷ (pos 8) ∷ []) true
    ∷ after 1 (0 ∷ 1 ∷ 0 ∷ 2 ∷ 0 ∷ 2 ∷ 0 ∷ 1 ∷ 0 ∷ 0 ∷ 0 ∷ 2 ∷ 0 ∷ 0 ∷ 0 ∷ 2 ∷ 0 ∷ 1 ∷ 0 ∷ 0 ∷ 0 ∷ 1 ∷ 0 ∷ 2 ∷ 0 ∷ []) ((negsuc 0) ∷ (negsuc 0) ∷ (pos 2) ∷ (pos 3) ∷ (negsuc 0) ∷ (pos 5) ∷ (negsuc 0) ∷ (negsuc 0) ∷ (pos 8) ∷ []) true
    ∷ after 0 (0 ∷ 1 ∷ 0 ∷ 0 ∷ 0 ∷ 2 ∷ 0 ∷ 0 ∷ 0 ∷ 0 ∷ 0 ∷ 2 ∷ 0 ∷ 0 ∷ 0 ∷ 2 ∷ 0 ∷ 1 ∷ 0 ∷ 0 ∷ 0 ∷ 1 ∷ 0 ∷ 2 ∷ 0 ∷ []) ((negsuc 0) ∷ (negsuc 1) ∷ (pos 2) ∷ (pos 3) ∷ (negsuc 1) ∷ (pos 5) ∷ (negsuc 0) ∷ (negsuc 0) ∷ (pos 8) ∷ []) true
    ∷ after 0 (0 ∷ 1 ∷ 0 ∷ 0 ∷ 0 ∷ 2 ∷ 0 ∷ 0 ∷ 0 ∷ 0 ∷ 0 ∷ 2 ∷ 0 ∷ 0 ∷ 0 ∷ 2 ∷ 0 ∷ 1 ∷ 0 ∷ 0 ∷ 0 ∷ 1 ∷ 0 ∷ 2 ∷ 0 ∷ []) ((negsuc 0) ∷ (negsuc 1) ∷ (pos 2) ∷ (pos 3) ∷ (negsuc 1) ∷ (pos 5) ∷ (negsuc 0) ∷ (negsuc 0) ∷ (pos 8) ∷ []) true
    ∷ []

-- a line kept at a hole: `,#/2,`
-- Refuses: a line at a hole taken away; none stored at all holes before the first check; down before left; a fresh board whose flag is
-- clear; undo that goes behind the preparing; undo that clears the flag
abbrev Sequence3 : Type 0
Sequence3 =
    from_new 2 2 (blank_cell ∷ hole_cell ∷ (pos 2) ∷ blank_cell ∷ [])
    ((decide_call 1 2 2) ∷ undo_call ∷ [])
    ≡ after 0 (0 ∷ 2 ∷ 0 ∷ 2 ∷ 0 ∷ 1 ∷ 0 ∷ 1 ∷ 0 ∷ []) ((pos 0) ∷ (negsuc 3) ∷ (negsuc 0) ∷ (negsuc 0) ∷ []) true
    ∷ after 1 (0 ∷ 2 ∷ 0 ∷ 2 ∷ 0 ∷ 1 ∷ 0 ∷ 1 ∷ 0 ∷ []) ((pos 0) ∷ (negsuc 3) ∷ (negsuc 0) ∷ (negsuc 0) ∷ []) true
    ∷ after 0 (0 ∷ 2 ∷ 0 ∷ 2 ∷ 0 ∷ 1 ∷ 0 ∷ 1 ∷ 0 ∷ []) ((pos 0) ∷ (negsuc 3) ∷ (negsuc 0) ∷ (negsuc 0) ∷ []) true
    ∷ []

-- the preparing goes on after the flag, at the same hole: `,1/0,#`
-- Refuses: preparing that stops at the flag, or goes on to the next hole there; up before left; a fresh board whose flag is clear; a
-- decision on a flagged board changes nothing
abbrev Sequence4 : Type 0
Sequence4 =
    from_new 2 2 (blank_cell ∷ (pos 1) ∷ (pos 0) ∷ hole_cell ∷ [])
    ((read_call 1 2) ∷ [])
    ≡ after 0 (0 ∷ 2 ∷ 0 ∷ 1 ∷ 0 ∷ 2 ∷ 0 ∷ 2 ∷ 0 ∷ []) ((negsuc 1) ∷ (negsuc 2) ∷ (negsuc 0) ∷ (pos 3) ∷ []) true
    ∷ after 2 (0 ∷ 2 ∷ 0 ∷ 1 ∷ 0 ∷ 2 ∷ 0 ∷ 2 ∷ 0 ∷ []) ((negsuc 1) ∷ (negsuc 2) ∷ (negsuc 0) ∷ (pos 3) ∷ []) true
    ∷ []

-- left before right: `,#,/,1,`
-- Refuses: the sides in the order right, left, down, or right, down, left, or left, down, right; a hole counted as a clue in the degree;
-- holes not checked; a fresh board whose flag is clear
abbrev Sequence5 : Type 0
Sequence5 =
    from_new 2 3 (blank_cell ∷ hole_cell ∷ blank_cell ∷ blank_cell ∷ (pos 1) ∷ blank_cell ∷ [])
    ((read_call 2 3) ∷ [])
    ≡ after 0 (0 ∷ 2 ∷ 0 ∷ 2 ∷ 0 ∷ 2 ∷ 0 ∷ 2 ∷ 0 ∷ 1 ∷ 0 ∷ 2 ∷ 0 ∷ 1 ∷ 0 ∷ []) ((pos 0) ∷ (pos 1) ∷ (negsuc 2) ∷ (pos 3) ∷ (negsuc 0) ∷ (negsuc 0) ∷ []) true
    ∷ after 1 (0 ∷ 2 ∷ 0 ∷ 2 ∷ 0 ∷ 2 ∷ 0 ∷ 2 ∷ 0 ∷ 1 ∷ 0 ∷ 2 ∷ 0 ∷ 1 ∷ 0 ∷ []) ((pos 0) ∷ (pos 1) ∷ (negsuc 2) ∷ (pos 3) ∷ (negsuc 0) ∷ (negsuc 0) ∷ []) true
    ∷ []

-- up before down: `,/#,/1,`
-- Refuses: the sides in any order but right, up, down; none stored at all holes before the first check; a line at a hole taken away; a
-- fresh board whose flag is clear
abbrev Sequence6 : Type 0
Sequence6 =
    from_new 3 2 (blank_cell ∷ blank_cell ∷ hole_cell ∷ blank_cell ∷ (pos 1) ∷ blank_cell ∷ [])
    ((read_call 3 0) ∷ [])
    ≡ after 0 (0 ∷ 2 ∷ 0 ∷ 2 ∷ 0 ∷ 2 ∷ 0 ∷ 2 ∷ 0 ∷ 1 ∷ 0 ∷ 2 ∷ 0 ∷ 2 ∷ 0 ∷ []) ((pos 0) ∷ (pos 1) ∷ (negsuc 2) ∷ (pos 3) ∷ (negsuc 0) ∷ (pos 5) ∷ []) true
    ∷ after 1 (0 ∷ 2 ∷ 0 ∷ 2 ∷ 0 ∷ 2 ∷ 0 ∷ 2 ∷ 0 ∷ 1 ∷ 0 ∷ 2 ∷ 0 ∷ 2 ∷ 0 ∷ []) ((pos 0) ∷ (pos 1) ∷ (negsuc 2) ∷ (pos 3) ∷ (negsuc 0) ∷ (pos 5) ∷ []) true
    ∷ []

-- holes in index order: `1,#/#,`
-- Refuses: holes in descending order; none stored at all holes before the first check; a line at a hole taken away; a hole counted as a
-- clue in the degree; holes not checked; a fresh board whose flag is clear
abbrev Sequence7 : Type 0
Sequence7 =
    from_new 2 2 ((pos 1) ∷ hole_cell ∷ hole_cell ∷ blank_cell ∷ [])
    ((read_call 2 1) ∷ [])
    ≡ after 0 (0 ∷ 2 ∷ 0 ∷ 1 ∷ 0 ∷ 2 ∷ 0 ∷ 1 ∷ 0 ∷ []) ((negsuc 0) ∷ (pos 1) ∷ (negsuc 0) ∷ (negsuc 2) ∷ []) true
    ∷ after 1 (0 ∷ 2 ∷ 0 ∷ 1 ∷ 0 ∷ 2 ∷ 0 ∷ 1 ∷ 0 ∷ []) ((negsuc 0) ∷ (pos 1) ∷ (negsuc 0) ∷ (negsuc 2) ∷ []) true
    ∷ []

-- a hole is no clue to its own check: `,,/,#,`
-- Refuses: a hole counted as a clue in the degree; holes left unprepared; none stored at holes with no decision; undo that goes behind
-- the preparing; undo that always clears the flag
abbrev Sequence8 : Type 0
Sequence8 =
    from_new 2 3 (blank_cell ∷ blank_cell ∷ blank_cell ∷ blank_cell ∷ hole_cell ∷ blank_cell ∷ [])
    ((decide_call 1 2 1) ∷ checkpoint_call ∷ (decide_call 0 1 1) ∷ undo_call ∷ undo_call ∷ [])
    ≡ after 0 (0 ∷ 2 ∷ 0 ∷ 2 ∷ 0 ∷ 2 ∷ 0 ∷ 2 ∷ 0 ∷ 2 ∷ 0 ∷ 2 ∷ 0 ∷ 2 ∷ 0 ∷ []) ((pos 0) ∷ (pos 1) ∷ (pos 2) ∷ (pos 3) ∷ (pos 4) ∷ (pos 5) ∷ []) false
    ∷ after 1 (0 ∷ 2 ∷ 0 ∷ 2 ∷ 0 ∷ 2 ∷ 0 ∷ 2 ∷ 0 ∷ 2 ∷ 0 ∷ 2 ∷ 0 ∷ 2 ∷ 0 ∷ []) ((pos 0) ∷ (pos 1) ∷ (pos 2) ∷ (pos 3) ∷ (pos 4) ∷ (pos 5) ∷ []) true
    ∷ after 0 (0 ∷ 2 ∷ 0 ∷ 2 ∷ 0 ∷ 2 ∷ 0 ∷ 2 ∷ 0 ∷ 2 ∷ 0 ∷ 2 ∷ 0 ∷ 2 ∷ 0 ∷ []) ((pos 0) ∷ (pos 1) ∷ (pos 2) ∷ (pos 3) ∷ (pos 4) ∷ (pos 5) ∷ []) true
    ∷ after 1 (0 ∷ 2 ∷ 0 ∷ 2 ∷ 0 ∷ 2 ∷ 0 ∷ 2 ∷ 0 ∷ 2 ∷ 0 ∷ 2 ∷ 0 ∷ 2 ∷ 0 ∷ []) ((pos 0) ∷ (pos 1) ∷ (pos 2) ∷ (pos 3) ∷ (pos 4) ∷ (pos 5) ∷ []) true
    ∷ after 0 (0 ∷ 2 ∷ 0 ∷ 2 ∷ 0 ∷ 2 ∷ 0 ∷ 2 ∷ 0 ∷ 2 ∷ 0 ∷ 2 ∷ 0 ∷ 2 ∷ 0 ∷ []) ((pos 0) ∷ (pos 1) ∷ (pos 2) ∷ (pos 3) ∷ (pos 4) ∷ (pos 5) ∷ []) true
    ∷ after 0 (0 ∷ 2 ∷ 0 ∷ 2 ∷ 0 ∷ 2 ∷ 0 ∷ 2 ∷ 0 ∷ 2 ∷ 0 ∷ 2 ∷ 0 ∷ 2 ∷ 0 ∷ []) ((pos 0) ∷ (pos 1) ∷ (pos 2) ∷ (pos 3) ∷ (pos 4) ∷ (pos 5) ∷ []) false
    ∷ []

-- corners over a hole: `,,,,/,,#,,/,,,,`
-- Refuses: a hole that does not free the corner on the right, or on the left; a bar on the right or on the left that goes on through a
-- hole; a hole counted as a clue in the degree; holes left unprepared
abbrev Sequence9 : Type 0
Sequence9 =
    from_new 3 5 (blank_cell ∷ blank_cell ∷ blank_cell ∷ blank_cell ∷ blank_cell ∷ blank_cell ∷ blank_cell ∷ hole_cell ∷ blank_cell ∷ blank_cell ∷ blank_cell ∷ blank_cell ∷ blank_cell ∷ blank_cell ∷ blank_cell ∷ [])
    (checkpoint_call ∷ (decide_call 1 2 1) ∷ (decide_call 1 6 1) ∷ undo_call ∷ (decide_call 1 6 1) ∷ (decide_call 1 2 1) ∷ [])
    ≡ after 0 (0 ∷ 0 ∷ 0 ∷ 0 ∷ 0 ∷ 0 ∷ 0 ∷ 0 ∷ 0 ∷ 0 ∷ 0 ∷ 0 ∷ 0 ∷ 2 ∷ 0 ∷ 0 ∷ 0 ∷ 0 ∷ 0 ∷ 0 ∷ 0 ∷ 2 ∷ 0 ∷ 2 ∷ 0 ∷ 0 ∷ 0 ∷ 0 ∷ 0 ∷ 0 ∷ 0 ∷ 2 ∷ 0 ∷ 0 ∷ 0 ∷ 0 ∷ 0 ∷ 0 ∷ 0 ∷ 0 ∷ 0 ∷ 0 ∷ 0 ∷ 0 ∷ 0 ∷ []) ((pos 0) ∷ (pos 1) ∷ (pos 2) ∷ (pos 3) ∷ (pos 4) ∷ (pos 5) ∷ (pos 6) ∷ (pos 7) ∷ (pos 8) ∷ (pos 9) ∷ (pos 10) ∷ (pos 11) ∷ (pos 12) ∷ (pos 13) ∷ (pos 14) ∷ []) false
    ∷ after 0 (0 ∷ 0 ∷ 0 ∷ 0 ∷ 0 ∷ 0 ∷ 0 ∷ 0 ∷ 0 ∷ 0 ∷ 0 ∷ 0 ∷ 0 ∷ 2 ∷ 0 ∷ 0 ∷ 0 ∷ 0 ∷ 0 ∷ 0 ∷ 0 ∷ 2 ∷ 0 ∷ 2 ∷ 0 ∷ 0 ∷ 0 ∷ 0 ∷ 0 ∷ 0 ∷ 0 ∷ 2 ∷ 0 ∷ 0 ∷ 0 ∷ 0 ∷ 0 ∷ 0 ∷ 0 ∷ 0 ∷ 0 ∷ 0 ∷ 0 ∷ 0 ∷ 0 ∷ []) ((pos 0) ∷ (pos 1) ∷ (pos 2) ∷ (pos 3) ∷ (pos 4) ∷ (pos 5) ∷ (pos 6) ∷ (pos 7) ∷ (pos 8) ∷ (pos 9) ∷ (pos 10) ∷ (pos 11) ∷ (pos 12) ∷ (pos 13) ∷ (pos 14) ∷ []) false
    ∷ after 0 (0 ∷ 2 ∷ 0 ∷ 1 ∷ 0 ∷ 1 ∷ 0 ∷ 0 ∷ 0 ∷ 2 ∷ 0 ∷ 1 ∷ 0 ∷ 2 ∷ 0 ∷ 0 ∷ 0 ∷ 0 ∷ 0 ∷ 0 ∷ 0 ∷ 2 ∷ 0 ∷ 2 ∷ 0 ∷ 0 ∷ 0 ∷ 0 ∷ 0 ∷ 0 ∷ 0 ∷ 2 ∷ 0 ∷ 0 ∷ 0 ∷ 0 ∷ 0 ∷ 0 ∷ 0 ∷ 0 ∷ 0 ∷ 0 ∷ 0 ∷ 0 ∷ 0 ∷ []) ((pos 0) ∷ (negsuc 0) ∷ (negsuc 0) ∷ (pos 6) ∷ (pos 4) ∷ (pos 5) ∷ (pos 3) ∷ (pos 7) ∷ (pos 8) ∷ (pos 9) ∷ (pos 10) ∷ (pos 11) ∷ (pos 12) ∷ (pos 13) ∷ (pos 14) ∷ []) false
    ∷ after 0 (0 ∷ 2 ∷ 0 ∷ 1 ∷ 0 ∷ 1 ∷ 0 ∷ 2 ∷ 0 ∷ 2 ∷ 0 ∷ 1 ∷ 0 ∷ 2 ∷ 0 ∷ 1 ∷ 0 ∷ 2 ∷ 0 ∷ 0 ∷ 0 ∷ 2 ∷ 0 ∷ 2 ∷ 0 ∷ 0 ∷ 0 ∷ 0 ∷ 0 ∷ 0 ∷ 0 ∷ 2 ∷ 0 ∷ 0 ∷ 0 ∷ 0 ∷ 0 ∷ 0 ∷ 0 ∷ 0 ∷ 0 ∷ 0 ∷ 0 ∷ 0 ∷ 0 ∷ []) ((pos 0) ∷ (negsuc 0) ∷ (negsuc 0) ∷ (negsuc 0) ∷ (pos 4) ∷ (pos 5) ∷ (pos 8) ∷ (pos 7) ∷ (pos 6) ∷ (pos 9) ∷ (pos 10) ∷ (pos 11) ∷ (pos 12) ∷ (pos 13) ∷ (pos 14) ∷ []) false
    ∷ after 0 (0 ∷ 0 ∷ 0 ∷ 0 ∷ 0 ∷ 0 ∷ 0 ∷ 0 ∷ 0 ∷ 0 ∷ 0 ∷ 0 ∷ 0 ∷ 2 ∷ 0 ∷ 0 ∷ 0 ∷ 0 ∷ 0 ∷ 0 ∷ 0 ∷ 2 ∷ 0 ∷ 2 ∷ 0 ∷ 0 ∷ 0 ∷ 0 ∷ 0 ∷ 0 ∷ 0 ∷ 2 ∷ 0 ∷ 0 ∷ 0 ∷ 0 ∷ 0 ∷ 0 ∷ 0 ∷ 0 ∷ 0 ∷ 0 ∷ 0 ∷ 0 ∷ 0 ∷ []) ((pos 0) ∷ (pos 1) ∷ (pos 2) ∷ (pos 3) ∷ (pos 4) ∷ (pos 5) ∷ (pos 6) ∷ (pos 7) ∷ (pos 8) ∷ (pos 9) ∷ (pos 10) ∷ (pos 11) ∷ (pos 12) ∷ (pos 13) ∷ (pos 14) ∷ []) false
    ∷ after 0 (0 ∷ 0 ∷ 0 ∷ 1 ∷ 0 ∷ 1 ∷ 0 ∷ 2 ∷ 0 ∷ 0 ∷ 0 ∷ 0 ∷ 0 ∷ 2 ∷ 0 ∷ 1 ∷ 0 ∷ 2 ∷ 0 ∷ 0 ∷ 0 ∷ 2 ∷ 0 ∷ 2 ∷ 0 ∷ 0 ∷ 0 ∷ 0 ∷ 0 ∷ 0 ∷ 0 ∷ 2 ∷ 0 ∷ 0 ∷ 0 ∷ 0 ∷ 0 ∷ 0 ∷ 0 ∷ 0 ∷ 0 ∷ 0 ∷ 0 ∷ 0 ∷ 0 ∷ []) ((pos 0) ∷ (pos 8) ∷ (negsuc 0) ∷ (negsuc 0) ∷ (pos 4) ∷ (pos 5) ∷ (pos 6) ∷ (pos 7) ∷ (pos 1) ∷ (pos 9) ∷ (pos 10) ∷ (pos 11) ∷ (pos 12) ∷ (pos 13) ∷ (pos 14) ∷ []) false
    ∷ after 0 (0 ∷ 2 ∷ 0 ∷ 1 ∷ 0 ∷ 1 ∷ 0 ∷ 2 ∷ 0 ∷ 2 ∷ 0 ∷ 1 ∷ 0 ∷ 2 ∷ 0 ∷ 1 ∷ 0 ∷ 2 ∷ 0 ∷ 0 ∷ 0 ∷ 2 ∷ 0 ∷ 2 ∷ 0 ∷ 0 ∷ 0 ∷ 0 ∷ 0 ∷ 0 ∷ 0 ∷ 2 ∷ 0 ∷ 0 ∷ 0 ∷ 0 ∷ 0 ∷ 0 ∷ 0 ∷ 0 ∷ 0 ∷ 0 ∷ 0 ∷ 0 ∷ 0 ∷ []) ((pos 0) ∷ (negsuc 0) ∷ (negsuc 0) ∷ (negsuc 0) ∷ (pos 4) ∷ (pos 5) ∷ (pos 8) ∷ (pos 7) ∷ (pos 6) ∷ (pos 9) ∷ (pos 10) ∷ (pos 11) ∷ (pos 12) ∷ (pos 13) ∷ (pos 14) ∷ []) false
    ∷ []

-- bars that holes end: `,,,/,,,/,,,/#,,,#`
-- Refuses: a bar on the right or on the left that goes on through a hole; a hole counted as a clue in the degree; holes left unprepared;
-- undo that goes behind the preparing
abbrev Sequence10 : Type 0
Sequence10 =
    from_new 4 4 (blank_cell ∷ blank_cell ∷ blank_cell ∷ blank_cell ∷ blank_cell ∷ blank_cell ∷ blank_cell ∷ blank_cell ∷ blank_cell ∷ blank_cell ∷ blank_cell ∷ blank_cell ∷ hole_cell ∷ blank_cell ∷ blank_cell ∷ hole_cell ∷ [])
    ((decide_call 2 3 1) ∷ undo_call ∷ (decide_call 3 2 1) ∷ undo_call ∷ (decide_call 3 4 1) ∷ [])
    ≡ after 0 (0 ∷ 0 ∷ 0 ∷ 0 ∷ 0 ∷ 0 ∷ 0 ∷ 0 ∷ 0 ∷ 0 ∷ 0 ∷ 0 ∷ 0 ∷ 0 ∷ 0 ∷ 0 ∷ 0 ∷ 0 ∷ 0 ∷ 0 ∷ 0 ∷ 0 ∷ 0 ∷ 0 ∷ 0 ∷ 0 ∷ 0 ∷ 0 ∷ 0 ∷ 0 ∷ 0 ∷ 0 ∷ 0 ∷ 0 ∷ 0 ∷ 2 ∷ 0 ∷ 0 ∷ 0 ∷ 0 ∷ 0 ∷ 2 ∷ 0 ∷ 2 ∷ 0 ∷ 0 ∷ 0 ∷ 2 ∷ 0 ∷ []) ((pos 0) ∷ (pos 1) ∷ (pos 2) ∷ (pos 3) ∷ (pos 4) ∷ (pos 5) ∷ (pos 6) ∷ (pos 7) ∷ (pos 8) ∷ (pos 9) ∷ (pos 10) ∷ (pos 11) ∷ (pos 12) ∷ (pos 13) ∷ (pos 14) ∷ (pos 15) ∷ []) false
    ∷ after 0 (0 ∷ 0 ∷ 0 ∷ 0 ∷ 0 ∷ 0 ∷ 0 ∷ 0 ∷ 0 ∷ 0 ∷ 0 ∷ 0 ∷ 0 ∷ 0 ∷ 0 ∷ 0 ∷ 0 ∷ 1 ∷ 0 ∷ 0 ∷ 0 ∷ 0 ∷ 0 ∷ 0 ∷ 0 ∷ 0 ∷ 0 ∷ 0 ∷ 0 ∷ 0 ∷ 0 ∷ 0 ∷ 0 ∷ 0 ∷ 0 ∷ 2 ∷ 0 ∷ 0 ∷ 0 ∷ 0 ∷ 0 ∷ 2 ∷ 0 ∷ 2 ∷ 0 ∷ 0 ∷ 0 ∷ 2 ∷ 0 ∷ []) ((pos 0) ∷ (pos 1) ∷ (pos 2) ∷ (pos 3) ∷ (pos 4) ∷ (pos 6) ∷ (pos 5) ∷ (pos 7) ∷ (pos 8) ∷ (pos 9) ∷ (pos 10) ∷ (pos 11) ∷ (pos 12) ∷ (pos 13) ∷ (pos 14) ∷ (pos 15) ∷ []) false
    ∷ after 0 (0 ∷ 0 ∷ 0 ∷ 0 ∷ 0 ∷ 0 ∷ 0 ∷ 0 ∷ 0 ∷ 0 ∷ 0 ∷ 0 ∷ 0 ∷ 0 ∷ 0 ∷ 0 ∷ 0 ∷ 0 ∷ 0 ∷ 0 ∷ 0 ∷ 0 ∷ 0 ∷ 0 ∷ 0 ∷ 0 ∷ 0 ∷ 0 ∷ 0 ∷ 0 ∷ 0 ∷ 0 ∷ 0 ∷ 0 ∷ 0 ∷ 2 ∷ 0 ∷ 0 ∷ 0 ∷ 0 ∷ 0 ∷ 2 ∷ 0 ∷ 2 ∷ 0 ∷ 0 ∷ 0 ∷ 2 ∷ 0 ∷ []) ((pos 0) ∷ (pos 1) ∷ (pos 2) ∷ (pos 3) ∷ (pos 4) ∷ (pos 5) ∷ (pos 6) ∷ (pos 7) ∷ (pos 8) ∷ (pos 9) ∷ (pos 10) ∷ (pos 11) ∷ (pos 12) ∷ (pos 13) ∷ (pos 14) ∷ (pos 15) ∷ []) false
    ∷ after 0 (0 ∷ 0 ∷ 0 ∷ 0 ∷ 0 ∷ 0 ∷ 0 ∷ 0 ∷ 0 ∷ 0 ∷ 0 ∷ 0 ∷ 0 ∷ 0 ∷ 0 ∷ 2 ∷ 0 ∷ 0 ∷ 0 ∷ 0 ∷ 0 ∷ 0 ∷ 0 ∷ 1 ∷ 0 ∷ 0 ∷ 0 ∷ 0 ∷ 0 ∷ 0 ∷ 0 ∷ 0 ∷ 0 ∷ 0 ∷ 0 ∷ 2 ∷ 0 ∷ 0 ∷ 0 ∷ 0 ∷ 0 ∷ 2 ∷ 0 ∷ 2 ∷ 0 ∷ 0 ∷ 0 ∷ 2 ∷ 0 ∷ []) ((pos 0) ∷ (pos 1) ∷ (pos 2) ∷ (pos 3) ∷ (pos 4) ∷ (pos 9) ∷ (pos 6) ∷ (pos 7) ∷ (pos 8) ∷ (pos 5) ∷ (pos 10) ∷ (pos 11) ∷ (pos 12) ∷ (pos 13) ∷ (pos 14) ∷ (pos 15) ∷ []) false
    ∷ after 0 (0 ∷ 0 ∷ 0 ∷ 0 ∷ 0 ∷ 0 ∷ 0 ∷ 0 ∷ 0 ∷ 0 ∷ 0 ∷ 0 ∷ 0 ∷ 0 ∷ 0 ∷ 0 ∷ 0 ∷ 0 ∷ 0 ∷ 0 ∷ 0 ∷ 0 ∷ 0 ∷ 0 ∷ 0 ∷ 0 ∷ 0 ∷ 0 ∷ 0 ∷ 0 ∷ 0 ∷ 0 ∷ 0 ∷ 0 ∷ 0 ∷ 2 ∷ 0 ∷ 0 ∷ 0 ∷ 0 ∷ 0 ∷ 2 ∷ 0 ∷ 2 ∷ 0 ∷ 0 ∷ 0 ∷ 2 ∷ 0 ∷ []) ((pos 0) ∷ (pos 1) ∷ (pos 2) ∷ (pos 3) ∷ (pos 4) ∷ (pos 5) ∷ (pos 6) ∷ (pos 7) ∷ (pos 8) ∷ (pos 9) ∷ (pos 10) ∷ (pos 11) ∷ (pos 12) ∷ (pos 13) ∷ (pos 14) ∷ (pos 15) ∷ []) false
    ∷ after 0 (0 ∷ 0 ∷ 0 ∷ 0 ∷ 0 ∷ 0 ∷ 0 ∷ 0 ∷ 0 ∷ 0 ∷ 0 ∷ 0 ∷ 0 ∷ 0 ∷ 0 ∷ 0 ∷ 0 ∷ 0 ∷ 0 ∷ 2 ∷ 0 ∷ 0 ∷ 0 ∷ 0 ∷ 0 ∷ 1 ∷ 0 ∷ 0 ∷ 0 ∷ 0 ∷ 0 ∷ 0 ∷ 0 ∷ 0 ∷ 0 ∷ 2 ∷ 0 ∷ 0 ∷ 0 ∷ 0 ∷ 0 ∷ 2 ∷ 0 ∷ 2 ∷ 0 ∷ 0 ∷ 0 ∷ 2 ∷ 0 ∷ []) ((pos 0) ∷ (pos 1) ∷ (pos 2) ∷ (pos 3) ∷ (pos 4) ∷ (pos 5) ∷ (pos 10) ∷ (pos 7) ∷ (pos 8) ∷ (pos 9) ∷ (pos 6) ∷ (pos 11) ∷ (pos 12) ∷ (pos 13) ∷ (pos 14) ∷ (pos 15) ∷ []) false
    ∷ []

-- the least and the largest code: `0,,0/4294967295,,4294967295`
-- Refuses: cells kept in 32 bits; ends kept in 32 bits, on fresh boards or in joined chains; ends held at the least of 32 bits; codes told
-- apart by 31 bits; a code of 32 bits that is no clue in the degree; the largest code taken for a blank pad below a corner
abbrev Sequence11 : Type 0
Sequence11 =
    from_new 2 3 ((pos 0) ∷ blank_cell ∷ (pos 0) ∷ (pos 4294967295) ∷ blank_cell ∷ (pos 4294967295) ∷ [])
    (checkpoint_call ∷ (decide_call 0 1 1) ∷ undo_call ∷ (decide_call 1 2 1) ∷ (decide_call 0 1 2) ∷ undo_call ∷ [])
    ≡ after 0 (0 ∷ 0 ∷ 0 ∷ 0 ∷ 0 ∷ 0 ∷ 0 ∷ 0 ∷ 0 ∷ 0 ∷ 0 ∷ 0 ∷ 0 ∷ 0 ∷ 0 ∷ []) ((negsuc 1) ∷ (pos 1) ∷ (negsuc 1) ∷ (negsuc 4294967296) ∷ (pos 4) ∷ (negsuc 4294967296) ∷ []) false
    ∷ after 0 (0 ∷ 0 ∷ 0 ∷ 0 ∷ 0 ∷ 0 ∷ 0 ∷ 0 ∷ 0 ∷ 0 ∷ 0 ∷ 0 ∷ 0 ∷ 0 ∷ 0 ∷ []) ((negsuc 1) ∷ (pos 1) ∷ (negsuc 1) ∷ (negsuc 4294967296) ∷ (pos 4) ∷ (negsuc 4294967296) ∷ []) false
    ∷ after 0 (0 ∷ 1 ∷ 0 ∷ 1 ∷ 0 ∷ 2 ∷ 0 ∷ 2 ∷ 0 ∷ 2 ∷ 0 ∷ 1 ∷ 0 ∷ 1 ∷ 0 ∷ []) ((negsuc 0) ∷ (negsuc 0) ∷ (negsuc 0) ∷ (negsuc 0) ∷ (negsuc 0) ∷ (negsuc 0) ∷ []) false
    ∷ after 0 (0 ∷ 0 ∷ 0 ∷ 0 ∷ 0 ∷ 0 ∷ 0 ∷ 0 ∷ 0 ∷ 0 ∷ 0 ∷ 0 ∷ 0 ∷ 0 ∷ 0 ∷ []) ((negsuc 1) ∷ (pos 1) ∷ (negsuc 1) ∷ (negsuc 4294967296) ∷ (pos 4) ∷ (negsuc 4294967296) ∷ []) false
    ∷ after 0 (0 ∷ 0 ∷ 0 ∷ 0 ∷ 0 ∷ 0 ∷ 0 ∷ 1 ∷ 0 ∷ 0 ∷ 0 ∷ 0 ∷ 0 ∷ 0 ∷ 0 ∷ []) ((negsuc 1) ∷ (pos 4) ∷ (negsuc 1) ∷ (negsuc 4294967296) ∷ (pos 1) ∷ (negsuc 4294967296) ∷ []) false
    ∷ after 1 (0 ∷ 2 ∷ 0 ∷ 0 ∷ 0 ∷ 2 ∷ 0 ∷ 1 ∷ 0 ∷ 0 ∷ 0 ∷ 0 ∷ 0 ∷ 0 ∷ 0 ∷ []) ((negsuc 1) ∷ (pos 4) ∷ (negsuc 1) ∷ (negsuc 4294967296) ∷ (pos 1) ∷ (negsuc 4294967296) ∷ []) true
    ∷ after 0 (0 ∷ 0 ∷ 0 ∷ 0 ∷ 0 ∷ 0 ∷ 0 ∷ 0 ∷ 0 ∷ 0 ∷ 0 ∷ 0 ∷ 0 ∷ 0 ∷ 0 ∷ []) ((negsuc 1) ∷ (pos 1) ∷ (negsuc 1) ∷ (negsuc 4294967296) ∷ (pos 4) ∷ (negsuc 4294967296) ∷ []) false
    ∷ []

-- all of them, by computation
pub second_sequences :
    Sequence1 × Sequence2 × Sequence3 × Sequence4 × Sequence5 × Sequence6 × Sequence7 × Sequence8 × Sequence9 × Sequence10
    × Sequence11
unfolding do_call seen replay shown new grid_refusal is_size is_cell first_bad_cell fresh_board edge_at decide_edge read_edge add_checkpoint undo grid_of cell_of field tabulate place_at parity fresh prepared shut_at shut bare end_number decide check after_store cannot_join unjoinable join_ends check_items settled decide_first degree undecideds lines keep_aparts around do_item do_items shape_items barred joined_ends put_end put_end_at set_flag set_edge enough
second_sequences = (refl, refl, refl, refl, refl, refl, refl, refl, refl, refl, refl)

-- SEARCHES: layouts, visited, fewest and codes
-- every edge is decided with the holes: the search starts in the last row: `5,#/5,#`
abbrev DecidedWithTheHoles : Type 0
DecidedWithTheHoles = known 2 2 ((pos 5) ∷ hole_cell ∷ (pos 5) ∷ hole_cell ∷ [])
    ≡ record { layouts = 1; visited = 1; fewest_lines = 1; layout_codes = (2 ∷ 0 ∷ 0 ∷ 0 ∷ []) ∷ [] }

-- it starts at the first pad with its right edge undecided, in the second row: `#,#/0,0/,`
abbrev LaterStart : Type 0
LaterStart = known 3 2 (hole_cell ∷ hole_cell ∷ (pos 0) ∷ (pos 0) ∷ blank_cell ∷ blank_cell ∷ [])
    ≡ record { layouts = 1; visited = 2; fewest_lines = 1; layout_codes = (0 ∷ 0 ∷ 1 ∷ 0 ∷ 0 ∷ 0 ∷ []) ∷ [] }

-- a corner over a hole is listed: `,0/0,#`
abbrev CornerOverAHole : Type 0
CornerOverAHole = known 2 2 (blank_cell ∷ (pos 0) ∷ (pos 0) ∷ hole_cell ∷ [])
    ≡ record { layouts = 1; visited = 1; fewest_lines = 2; layout_codes = (3 ∷ 0 ∷ 0 ∷ 0 ∷ []) ∷ [] }

-- two layouts, one of them with a corner over a hole: `,5,5/5,#,/5,5,5`
abbrev TwoLayouts : Type 0
TwoLayouts = known 3 3 (blank_cell ∷ (pos 5) ∷ (pos 5) ∷ (pos 5) ∷ hole_cell ∷ blank_cell ∷ (pos 5) ∷ (pos 5) ∷ (pos 5) ∷ [])
    ≡ record { layouts = 2; visited = 3; fewest_lines = 3; layout_codes = (0 ∷ 1 ∷ 0 ∷ 2 ∷ 0 ∷ 0 ∷ 0 ∷ 1 ∷ 0 ∷ []) ∷ (3 ∷ 0 ∷ 2 ∷ 0 ∷ 0 ∷ 2 ∷ 1 ∷ 0 ∷ 0 ∷ []) ∷ [] }

-- a flagged fresh board, which keeps a line at a hole: nothing is visited: `,#/2,`
abbrev Flagged : Type 0
Flagged = known 2 2 (blank_cell ∷ hole_cell ∷ (pos 2) ∷ blank_cell ∷ [])
    ≡ record { layouts = 0; visited = 0; fewest_lines = 481; layout_codes = [] }

-- with limit 0 it is complete too: `,#/2,`
abbrev FlaggedWithLimit0 : Type 0
FlaggedWithLimit0 = solve 2 2 (blank_cell ∷ hole_cell ∷ (pos 2) ∷ blank_cell ∷ []) 0 (replicate 9 7)
    ≡ record { number = 0; index = 0; outcome = 0; layouts = 0; visited = 0; fewest_lines = 481; buffer = replicate 9 7 }

-- with limit 0 and a clear flag the limit is spent: `5,#/5,#`
abbrev ClearWithLimit0 : Type 0
ClearWithLimit0 = solve 2 2 ((pos 5) ∷ hole_cell ∷ (pos 5) ∷ hole_cell ∷ []) 0 (replicate 9 7)
    ≡ record { number = 0; index = 0; outcome = 1; layouts = 0; visited = 0; fewest_lines = 481; buffer = replicate 9 7 }

pub second_searches :
    DecidedWithTheHoles × LaterStart × CornerOverAHole × TwoLayouts × Flagged × FlaggedWithLimit0 × ClearWithLimit0
unfolding known solve listed_by concat grid_refusal is_size is_cell first_bad_cell has_record record_length record_at grid_of cell_of codes drawing_of field record_lines tabulate place_at parity scan search search_from fewest backtrack try degree_so_far next_pad board_record fresh prepared shut_at shut bare end_number decide check after_store cannot_join unjoinable join_ends check_items settled decide_first degree undecideds lines keep_aparts around do_item do_items shape_items barred joined_ends put_end put_end_at set_flag set_edge enough
second_searches = (refl, refl, refl, refl, refl, refl, refl)
