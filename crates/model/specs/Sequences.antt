-- Sequences of board calls with the answers of the Rust, as facts by computation. They were made by the program in oracle/ from the
-- reference, built unchanged (see oracle/README.md; the calls stand in oracle/dozen.txt): after each call its answer, the edges as a
-- record, the ends and the flag. Each sequence is told apart from some wrong version of a decision, which its comment names; decisions
-- on flagged boards, undo of a flag, and undo below the first checkpoint are among them.
use Rattle.std.specs.Prelude.{ℕ, ◌≡◌, refl, Bool, true, false, List, [], ◌∷◌, ℤ, pos, negsuc}
use Rattle.rules.specs.Grid.{cell_of, blank_cell, grid_of, place_at, parity}
use Rattle.rules.specs.Record.{field, tabulate}
use Rattle.model.specs.JoinedEnds.{end_number, unjoinable, joined_ends, put_end, put_end_at}
use Rattle.model.specs.Board.{fresh, prepared, shut_at, shut, bare, decide, check, after_store, cannot_join, join_ends, check_items, settled, decide_first, degree, undecideds, lines, keep_aparts, around, do_item, do_items, shape_items, barred, set_flag, set_edge, enough}
use Rattle.model.specs.Calls.{Board, Answer, shown, fresh_board, edge_at, decide_edge, read_edge, add_checkpoint, undo}

pub data Call : Type 0 where
  decide_call : (row column state : ℕ) → Call
  read_call : (row column : ℕ) → Call
  checkpoint_call : Call
  undo_call : Call

unfoldable pub do_call : Board → Call → Answer
do_call b (decide_call row column state) = decide_edge b row column state
do_call b (read_call row column) = read_edge b row column
do_call b checkpoint_call = add_checkpoint b
do_call b undo_call = record { number = 0; answer = 0; board = undo b }

-- what is seen after a call
pub record Seen : Type 0 where
  pub answer : ℕ
  pub edges : List ℕ
  pub ends : List ℤ
  pub flag : Bool

unfoldable pub seen : Answer → Seen
seen a = let s = shown a.board in record { answer = a.answer; edges = s.edges; ends = s.ends; flag = s.flag }

-- the calls one after another, each with what is seen after it
unfoldable pub replay : Board → List Call → List Seen
replay b [] = []
replay b (call ∷ calls) = let a = do_call b call in seen a ∷ replay a.board calls

abbrev pub after : ℕ → List ℕ → List ℤ → Bool → Seen
after answer edges ends flag = record { answer = answer; edges = edges; ends = ends; flag = flag }

-- in a square the side before the opposite edge
-- Refuses: (g) in a square, the opposite edge set before the side; (h) no flag test after a decision nested in a square; (h) no flag test
-- after a pad check; the second pad checked before the first
abbrev Sequence1 : Type 0
Sequence1 =
    replay (fresh_board (grid_of 2 2 (blank_cell ∷ blank_cell ∷ (pos 0) ∷ (pos 0) ∷ [])))
    ((decide_call 1 2 1) ∷ (read_call 0 1) ∷ (read_call 1 0) ∷ [])
    ≡ after 1 (0 ∷ 1 ∷ 0 ∷ 2 ∷ 0 ∷ 1 ∷ 0 ∷ 0 ∷ 0 ∷ []) ((negsuc 1) ∷ (negsuc 0) ∷ (negsuc 1) ∷ (negsuc 0) ∷ []) true
    ∷ after 1 (0 ∷ 1 ∷ 0 ∷ 2 ∷ 0 ∷ 1 ∷ 0 ∷ 0 ∷ 0 ∷ []) ((negsuc 1) ∷ (negsuc 0) ∷ (negsuc 1) ∷ (negsuc 0) ∷ []) true
    ∷ after 2 (0 ∷ 1 ∷ 0 ∷ 2 ∷ 0 ∷ 1 ∷ 0 ∷ 0 ∷ 0 ∷ []) ((negsuc 1) ∷ (negsuc 0) ∷ (negsuc 1) ∷ (negsuc 0) ∷ []) true
    ∷ []

-- the down-left corner before the down-right
-- Refuses: (b) a corner tested only when its right or left edge comes last; (e) the two corners of a downward edge in the other order; no
-- bars; (g) in a square, the opposite edge set before the side; (h) no flag test after a decision nested in a square; (h) no flag test
-- after a pad check; (h) no flag test after a decision that keeps ends apart; the second pad checked before the first; different clue ends
-- not kept apart; equal clue ends kept apart too
abbrev Sequence2 : Type 0
Sequence2 =
    replay (fresh_board (grid_of 3 7 ((pos 2) ∷ blank_cell ∷ blank_cell ∷ blank_cell ∷ (pos 2) ∷ (pos 2) ∷ (pos 2) ∷ (pos 0) ∷ (pos 1) ∷ blank_cell ∷ blank_cell ∷ blank_cell ∷ blank_cell ∷ blank_cell ∷ blank_cell ∷ blank_cell ∷ blank_cell ∷ blank_cell ∷ blank_cell ∷ (pos 0) ∷ blank_cell ∷ [])))
    ((decide_call 0 7 1) ∷ (decide_call 1 6 1) ∷ (read_call 3 4) ∷ [])
    ≡ after 0 (0 ∷ 0 ∷ 0 ∷ 0 ∷ 0 ∷ 0 ∷ 0 ∷ 1 ∷ 0 ∷ 2 ∷ 0 ∷ 0 ∷ 0 ∷ 0 ∷ 0 ∷ 0 ∷ 0 ∷ 0 ∷ 0 ∷ 0 ∷ 0 ∷ 2 ∷ 0 ∷ 0 ∷ 0 ∷ 0 ∷ 0 ∷ 0 ∷ 0 ∷ 0 ∷ 0 ∷ 0 ∷ 0 ∷ 0 ∷ 0 ∷ 0 ∷ 0 ∷ 0 ∷ 0 ∷ 0 ∷ 0 ∷ 0 ∷ 0 ∷ 0 ∷ 0 ∷ 0 ∷ 0 ∷ 0 ∷ 0 ∷ 0 ∷ 0 ∷ 0 ∷ 0 ∷ 0 ∷ 0 ∷ 0 ∷ 0 ∷ 0 ∷ 0 ∷ 0 ∷ 0 ∷ 0 ∷ 0 ∷ 0 ∷ 0 ∷ []) ((negsuc 3) ∷ (pos 1) ∷ (pos 2) ∷ (negsuc 3) ∷ (negsuc 0) ∷ (negsuc 3) ∷ (negsuc 3) ∷ (negsuc 1) ∷ (negsuc 2) ∷ (pos 9) ∷ (pos 10) ∷ (pos 11) ∷ (pos 12) ∷ (pos 13) ∷ (pos 14) ∷ (pos 15) ∷ (pos 16) ∷ (pos 17) ∷ (pos 18) ∷ (negsuc 1) ∷ (pos 20) ∷ []) false
    ∷ after 1 (0 ∷ 1 ∷ 0 ∷ 1 ∷ 0 ∷ 1 ∷ 0 ∷ 1 ∷ 0 ∷ 2 ∷ 0 ∷ 0 ∷ 0 ∷ 2 ∷ 0 ∷ 2 ∷ 0 ∷ 2 ∷ 0 ∷ 1 ∷ 0 ∷ 2 ∷ 0 ∷ 0 ∷ 0 ∷ 0 ∷ 0 ∷ 2 ∷ 0 ∷ 2 ∷ 0 ∷ 1 ∷ 0 ∷ 2 ∷ 0 ∷ 1 ∷ 0 ∷ 0 ∷ 0 ∷ 0 ∷ 0 ∷ 0 ∷ 0 ∷ 0 ∷ 0 ∷ 2 ∷ 0 ∷ 1 ∷ 0 ∷ 2 ∷ 0 ∷ 0 ∷ 0 ∷ 0 ∷ 0 ∷ 0 ∷ 0 ∷ 0 ∷ 0 ∷ 1 ∷ 0 ∷ 2 ∷ 0 ∷ 0 ∷ 0 ∷ []) ((negsuc 0) ∷ (negsuc 0) ∷ (negsuc 3) ∷ (negsuc 0) ∷ (negsuc 0) ∷ (negsuc 3) ∷ (negsuc 3) ∷ (negsuc 1) ∷ (negsuc 2) ∷ (negsuc 3) ∷ (negsuc 0) ∷ (negsuc 0) ∷ (pos 17) ∷ (pos 13) ∷ (pos 14) ∷ (pos 15) ∷ (pos 16) ∷ (pos 12) ∷ (negsuc 0) ∷ (negsuc 1) ∷ (pos 20) ∷ []) true
    ∷ after 0 (0 ∷ 1 ∷ 0 ∷ 1 ∷ 0 ∷ 1 ∷ 0 ∷ 1 ∷ 0 ∷ 2 ∷ 0 ∷ 0 ∷ 0 ∷ 2 ∷ 0 ∷ 2 ∷ 0 ∷ 2 ∷ 0 ∷ 1 ∷ 0 ∷ 2 ∷ 0 ∷ 0 ∷ 0 ∷ 0 ∷ 0 ∷ 2 ∷ 0 ∷ 2 ∷ 0 ∷ 1 ∷ 0 ∷ 2 ∷ 0 ∷ 1 ∷ 0 ∷ 0 ∷ 0 ∷ 0 ∷ 0 ∷ 0 ∷ 0 ∷ 0 ∷ 0 ∷ 2 ∷ 0 ∷ 1 ∷ 0 ∷ 2 ∷ 0 ∷ 0 ∷ 0 ∷ 0 ∷ 0 ∷ 0 ∷ 0 ∷ 0 ∷ 0 ∷ 1 ∷ 0 ∷ 2 ∷ 0 ∷ 0 ∷ 0 ∷ []) ((negsuc 0) ∷ (negsuc 0) ∷ (negsuc 3) ∷ (negsuc 0) ∷ (negsuc 0) ∷ (negsuc 3) ∷ (negsuc 3) ∷ (negsuc 1) ∷ (negsuc 2) ∷ (negsuc 3) ∷ (negsuc 0) ∷ (negsuc 0) ∷ (pos 17) ∷ (pos 13) ∷ (pos 14) ∷ (pos 15) ∷ (pos 16) ∷ (pos 12) ∷ (negsuc 0) ∷ (negsuc 1) ∷ (pos 20) ∷ []) true
    ∷ []

-- the down-left bar before the down-right; undo with no checkpoint gives the fresh board
-- Refuses: (d) undo that forgets the flag; undo that forgets the ends; (f) the two bars of a downward edge in the other order; no bars;
-- (g) in a square, the opposite edge set before the side; the second pad checked before the first
abbrev Sequence3 : Type 0
Sequence3 =
    replay (fresh_board (grid_of 2 3 (blank_cell ∷ blank_cell ∷ blank_cell ∷ blank_cell ∷ blank_cell ∷ blank_cell ∷ [])))
    ((decide_call 1 2 1) ∷ (read_call 0 1) ∷ undo_call ∷ [])
    ≡ after 1 (0 ∷ 2 ∷ 0 ∷ 2 ∷ 0 ∷ 2 ∷ 0 ∷ 1 ∷ 0 ∷ 2 ∷ 0 ∷ 2 ∷ 0 ∷ 1 ∷ 0 ∷ []) ((pos 0) ∷ (pos 5) ∷ (pos 2) ∷ (pos 3) ∷ (negsuc 0) ∷ (pos 1) ∷ []) true
    ∷ after 2 (0 ∷ 2 ∷ 0 ∷ 2 ∷ 0 ∷ 2 ∷ 0 ∷ 1 ∷ 0 ∷ 2 ∷ 0 ∷ 2 ∷ 0 ∷ 1 ∷ 0 ∷ []) ((pos 0) ∷ (pos 5) ∷ (pos 2) ∷ (pos 3) ∷ (negsuc 0) ∷ (pos 1) ∷ []) true
    ∷ after 0 (0 ∷ 0 ∷ 0 ∷ 0 ∷ 0 ∷ 0 ∷ 0 ∷ 0 ∷ 0 ∷ 0 ∷ 0 ∷ 0 ∷ 0 ∷ 0 ∷ 0 ∷ []) ((pos 0) ∷ (pos 1) ∷ (pos 2) ∷ (pos 3) ∷ (pos 4) ∷ (pos 5) ∷ []) false
    ∷ []

-- a checkpoint on a flagged board: undo keeps the flag, the next undo gives the fresh board
-- Refuses: (d) undo that forgets the flag; undo that always clears the flag; undo that forgets the ends; (f) the two bars of a right edge
-- in the other order; no bars; (h) no flag test after a decision nested in a bar; (h) no flag test after a pad check; the second pad
-- checked before the first; a decision on a flagged board changes nothing
abbrev Sequence4 : Type 0
Sequence4 =
    replay (fresh_board (grid_of 2 2 (blank_cell ∷ blank_cell ∷ blank_cell ∷ blank_cell ∷ [])))
    ((decide_call 0 1 1) ∷ checkpoint_call ∷ (decide_call 2 1 2) ∷ undo_call ∷ undo_call ∷ undo_call ∷ [])
    ≡ after 1 (0 ∷ 1 ∷ 0 ∷ 2 ∷ 0 ∷ 0 ∷ 0 ∷ 0 ∷ 0 ∷ []) ((pos 1) ∷ (pos 0) ∷ (pos 2) ∷ (pos 3) ∷ []) true
    ∷ after 0 (0 ∷ 1 ∷ 0 ∷ 2 ∷ 0 ∷ 0 ∷ 0 ∷ 0 ∷ 0 ∷ []) ((pos 1) ∷ (pos 0) ∷ (pos 2) ∷ (pos 3) ∷ []) true
    ∷ after 1 (0 ∷ 1 ∷ 0 ∷ 2 ∷ 0 ∷ 0 ∷ 0 ∷ 2 ∷ 0 ∷ []) ((pos 1) ∷ (pos 0) ∷ (pos 2) ∷ (pos 3) ∷ []) true
    ∷ after 0 (0 ∷ 1 ∷ 0 ∷ 2 ∷ 0 ∷ 0 ∷ 0 ∷ 0 ∷ 0 ∷ []) ((pos 1) ∷ (pos 0) ∷ (pos 2) ∷ (pos 3) ∷ []) true
    ∷ after 0 (0 ∷ 0 ∷ 0 ∷ 0 ∷ 0 ∷ 0 ∷ 0 ∷ 0 ∷ 0 ∷ []) ((pos 0) ∷ (pos 1) ∷ (pos 2) ∷ (pos 3) ∷ []) false
    ∷ after 0 (0 ∷ 0 ∷ 0 ∷ 0 ∷ 0 ∷ 0 ∷ 0 ∷ 0 ∷ 0 ∷ []) ((pos 0) ∷ (pos 1) ∷ (pos 2) ∷ (pos 3) ∷ []) false
    ∷ []

-- the diagonal pad is a clue (K8): nothing is forced
-- Refuses: (a) the diagonal rule applied at a clue; undo that forgets the ends; equal clue ends kept apart too
abbrev Sequence5 : Type 0
Sequence5 =
    replay (fresh_board (grid_of 3 3 (blank_cell ∷ (pos 5) ∷ blank_cell ∷ (pos 5) ∷ (pos 6) ∷ blank_cell ∷ blank_cell ∷ blank_cell ∷ (pos 6) ∷ [])))
    (checkpoint_call ∷ (decide_call 0 1 1) ∷ (read_call 2 3) ∷ undo_call ∷ (decide_call 1 0 1) ∷ [])
    ≡ after 0 (0 ∷ 0 ∷ 0 ∷ 0 ∷ 0 ∷ 0 ∷ 0 ∷ 0 ∷ 0 ∷ 0 ∷ 0 ∷ 0 ∷ 0 ∷ 0 ∷ 0 ∷ 0 ∷ 0 ∷ 0 ∷ 0 ∷ 0 ∷ 0 ∷ 0 ∷ 0 ∷ 0 ∷ 0 ∷ []) ((pos 0) ∷ (negsuc 6) ∷ (pos 2) ∷ (negsuc 6) ∷ (negsuc 7) ∷ (pos 5) ∷ (pos 6) ∷ (pos 7) ∷ (negsuc 7) ∷ []) false
    ∷ after 0 (0 ∷ 1 ∷ 0 ∷ 2 ∷ 0 ∷ 1 ∷ 0 ∷ 2 ∷ 0 ∷ 2 ∷ 0 ∷ 2 ∷ 0 ∷ 0 ∷ 0 ∷ 2 ∷ 0 ∷ 0 ∷ 0 ∷ 0 ∷ 0 ∷ 2 ∷ 0 ∷ 0 ∷ 0 ∷ []) ((negsuc 0) ∷ (negsuc 0) ∷ (pos 2) ∷ (negsuc 0) ∷ (negsuc 7) ∷ (pos 5) ∷ (pos 6) ∷ (pos 7) ∷ (negsuc 7) ∷ []) false
    ∷ after 0 (0 ∷ 1 ∷ 0 ∷ 2 ∷ 0 ∷ 1 ∷ 0 ∷ 2 ∷ 0 ∷ 2 ∷ 0 ∷ 2 ∷ 0 ∷ 0 ∷ 0 ∷ 2 ∷ 0 ∷ 0 ∷ 0 ∷ 0 ∷ 0 ∷ 2 ∷ 0 ∷ 0 ∷ 0 ∷ []) ((negsuc 0) ∷ (negsuc 0) ∷ (pos 2) ∷ (negsuc 0) ∷ (negsuc 7) ∷ (pos 5) ∷ (pos 6) ∷ (pos 7) ∷ (negsuc 7) ∷ []) false
    ∷ after 0 (0 ∷ 0 ∷ 0 ∷ 0 ∷ 0 ∷ 0 ∷ 0 ∷ 0 ∷ 0 ∷ 0 ∷ 0 ∷ 0 ∷ 0 ∷ 0 ∷ 0 ∷ 0 ∷ 0 ∷ 0 ∷ 0 ∷ 0 ∷ 0 ∷ 0 ∷ 0 ∷ 0 ∷ 0 ∷ []) ((pos 0) ∷ (negsuc 6) ∷ (pos 2) ∷ (negsuc 6) ∷ (negsuc 7) ∷ (pos 5) ∷ (pos 6) ∷ (pos 7) ∷ (negsuc 7) ∷ []) false
    ∷ after 0 (0 ∷ 1 ∷ 0 ∷ 2 ∷ 0 ∷ 1 ∷ 0 ∷ 2 ∷ 0 ∷ 2 ∷ 0 ∷ 2 ∷ 0 ∷ 0 ∷ 0 ∷ 2 ∷ 0 ∷ 0 ∷ 0 ∷ 0 ∷ 0 ∷ 2 ∷ 0 ∷ 0 ∷ 0 ∷ []) ((negsuc 0) ∷ (negsuc 0) ∷ (pos 2) ∷ (negsuc 0) ∷ (negsuc 7) ∷ (pos 5) ∷ (pos 6) ∷ (pos 7) ∷ (negsuc 7) ∷ []) false
    ∷ []

-- a right and down corner forces both lines, whichever of its edges comes first
-- Refuses: (a) the diagonal rule applied at a clue; (b) a corner tested only when its down edge comes last; (b) a corner tested only when
-- its right or left edge comes last; undo that forgets the ends; equal clue ends kept apart too
abbrev Sequence6 : Type 0
Sequence6 =
    replay (fresh_board (grid_of 4 4 (blank_cell ∷ (pos 2) ∷ blank_cell ∷ blank_cell ∷ (pos 2) ∷ blank_cell ∷ blank_cell ∷ blank_cell ∷ blank_cell ∷ (pos 0) ∷ (pos 0) ∷ blank_cell ∷ blank_cell ∷ blank_cell ∷ blank_cell ∷ blank_cell ∷ [])))
    (checkpoint_call ∷ (decide_call 0 1 1) ∷ (decide_call 1 0 1) ∷ (read_call 2 3) ∷ undo_call ∷ (decide_call 1 0 1) ∷ (read_call 3 2) ∷ [])
    ≡ after 0 (0 ∷ 0 ∷ 0 ∷ 0 ∷ 0 ∷ 0 ∷ 0 ∷ 0 ∷ 0 ∷ 0 ∷ 0 ∷ 0 ∷ 0 ∷ 0 ∷ 0 ∷ 0 ∷ 0 ∷ 0 ∷ 0 ∷ 0 ∷ 0 ∷ 0 ∷ 0 ∷ 0 ∷ 0 ∷ 0 ∷ 0 ∷ 0 ∷ 0 ∷ 0 ∷ 0 ∷ 0 ∷ 0 ∷ 0 ∷ 0 ∷ 0 ∷ 0 ∷ 0 ∷ 0 ∷ 0 ∷ 0 ∷ 0 ∷ 0 ∷ 0 ∷ 0 ∷ 0 ∷ 0 ∷ 0 ∷ 0 ∷ []) ((pos 0) ∷ (negsuc 3) ∷ (pos 2) ∷ (pos 3) ∷ (negsuc 3) ∷ (pos 5) ∷ (pos 6) ∷ (pos 7) ∷ (pos 8) ∷ (negsuc 1) ∷ (negsuc 1) ∷ (pos 11) ∷ (pos 12) ∷ (pos 13) ∷ (pos 14) ∷ (pos 15) ∷ []) false
    ∷ after 0 (0 ∷ 1 ∷ 0 ∷ 2 ∷ 0 ∷ 0 ∷ 0 ∷ 1 ∷ 0 ∷ 2 ∷ 0 ∷ 0 ∷ 0 ∷ 0 ∷ 0 ∷ 2 ∷ 0 ∷ 1 ∷ 0 ∷ 0 ∷ 0 ∷ 2 ∷ 0 ∷ 1 ∷ 0 ∷ 2 ∷ 0 ∷ 0 ∷ 0 ∷ 2 ∷ 0 ∷ 2 ∷ 0 ∷ 0 ∷ 0 ∷ 2 ∷ 0 ∷ 2 ∷ 0 ∷ 0 ∷ 0 ∷ 0 ∷ 0 ∷ 2 ∷ 0 ∷ 2 ∷ 0 ∷ 0 ∷ 0 ∷ []) ((negsuc 0) ∷ (negsuc 0) ∷ (pos 2) ∷ (pos 3) ∷ (negsuc 0) ∷ (negsuc 0) ∷ (negsuc 1) ∷ (pos 7) ∷ (pos 8) ∷ (negsuc 0) ∷ (negsuc 1) ∷ (pos 11) ∷ (pos 12) ∷ (pos 13) ∷ (pos 14) ∷ (pos 15) ∷ []) false
    ∷ after 0 (0 ∷ 1 ∷ 0 ∷ 2 ∷ 0 ∷ 0 ∷ 0 ∷ 1 ∷ 0 ∷ 2 ∷ 0 ∷ 0 ∷ 0 ∷ 0 ∷ 0 ∷ 2 ∷ 0 ∷ 1 ∷ 0 ∷ 0 ∷ 0 ∷ 2 ∷ 0 ∷ 1 ∷ 0 ∷ 2 ∷ 0 ∷ 0 ∷ 0 ∷ 2 ∷ 0 ∷ 2 ∷ 0 ∷ 0 ∷ 0 ∷ 2 ∷ 0 ∷ 2 ∷ 0 ∷ 0 ∷ 0 ∷ 0 ∷ 0 ∷ 2 ∷ 0 ∷ 2 ∷ 0 ∷ 0 ∷ 0 ∷ []) ((negsuc 0) ∷ (negsuc 0) ∷ (pos 2) ∷ (pos 3) ∷ (negsuc 0) ∷ (negsuc 0) ∷ (negsuc 1) ∷ (pos 7) ∷ (pos 8) ∷ (negsuc 0) ∷ (negsuc 1) ∷ (pos 11) ∷ (pos 12) ∷ (pos 13) ∷ (pos 14) ∷ (pos 15) ∷ []) false
    ∷ after 1 (0 ∷ 1 ∷ 0 ∷ 2 ∷ 0 ∷ 0 ∷ 0 ∷ 1 ∷ 0 ∷ 2 ∷ 0 ∷ 0 ∷ 0 ∷ 0 ∷ 0 ∷ 2 ∷ 0 ∷ 1 ∷ 0 ∷ 0 ∷ 0 ∷ 2 ∷ 0 ∷ 1 ∷ 0 ∷ 2 ∷ 0 ∷ 0 ∷ 0 ∷ 2 ∷ 0 ∷ 2 ∷ 0 ∷ 0 ∷ 0 ∷ 2 ∷ 0 ∷ 2 ∷ 0 ∷ 0 ∷ 0 ∷ 0 ∷ 0 ∷ 2 ∷ 0 ∷ 2 ∷ 0 ∷ 0 ∷ 0 ∷ []) ((negsuc 0) ∷ (negsuc 0) ∷ (pos 2) ∷ (pos 3) ∷ (negsuc 0) ∷ (negsuc 0) ∷ (negsuc 1) ∷ (pos 7) ∷ (pos 8) ∷ (negsuc 0) ∷ (negsuc 1) ∷ (pos 11) ∷ (pos 12) ∷ (pos 13) ∷ (pos 14) ∷ (pos 15) ∷ []) false
    ∷ after 0 (0 ∷ 0 ∷ 0 ∷ 0 ∷ 0 ∷ 0 ∷ 0 ∷ 0 ∷ 0 ∷ 0 ∷ 0 ∷ 0 ∷ 0 ∷ 0 ∷ 0 ∷ 0 ∷ 0 ∷ 0 ∷ 0 ∷ 0 ∷ 0 ∷ 0 ∷ 0 ∷ 0 ∷ 0 ∷ 0 ∷ 0 ∷ 0 ∷ 0 ∷ 0 ∷ 0 ∷ 0 ∷ 0 ∷ 0 ∷ 0 ∷ 0 ∷ 0 ∷ 0 ∷ 0 ∷ 0 ∷ 0 ∷ 0 ∷ 0 ∷ 0 ∷ 0 ∷ 0 ∷ 0 ∷ 0 ∷ 0 ∷ []) ((pos 0) ∷ (negsuc 3) ∷ (pos 2) ∷ (pos 3) ∷ (negsuc 3) ∷ (pos 5) ∷ (pos 6) ∷ (pos 7) ∷ (pos 8) ∷ (negsuc 1) ∷ (negsuc 1) ∷ (pos 11) ∷ (pos 12) ∷ (pos 13) ∷ (pos 14) ∷ (pos 15) ∷ []) false
    ∷ after 0 (0 ∷ 1 ∷ 0 ∷ 2 ∷ 0 ∷ 0 ∷ 0 ∷ 1 ∷ 0 ∷ 2 ∷ 0 ∷ 0 ∷ 0 ∷ 0 ∷ 0 ∷ 2 ∷ 0 ∷ 1 ∷ 0 ∷ 0 ∷ 0 ∷ 2 ∷ 0 ∷ 1 ∷ 0 ∷ 2 ∷ 0 ∷ 0 ∷ 0 ∷ 2 ∷ 0 ∷ 2 ∷ 0 ∷ 0 ∷ 0 ∷ 2 ∷ 0 ∷ 2 ∷ 0 ∷ 0 ∷ 0 ∷ 0 ∷ 0 ∷ 2 ∷ 0 ∷ 2 ∷ 0 ∷ 0 ∷ 0 ∷ []) ((negsuc 0) ∷ (negsuc 0) ∷ (pos 2) ∷ (pos 3) ∷ (negsuc 0) ∷ (negsuc 0) ∷ (negsuc 1) ∷ (pos 7) ∷ (pos 8) ∷ (negsuc 0) ∷ (negsuc 1) ∷ (pos 11) ∷ (pos 12) ∷ (pos 13) ∷ (pos 14) ∷ (pos 15) ∷ []) false
    ∷ after 1 (0 ∷ 1 ∷ 0 ∷ 2 ∷ 0 ∷ 0 ∷ 0 ∷ 1 ∷ 0 ∷ 2 ∷ 0 ∷ 0 ∷ 0 ∷ 0 ∷ 0 ∷ 2 ∷ 0 ∷ 1 ∷ 0 ∷ 0 ∷ 0 ∷ 2 ∷ 0 ∷ 1 ∷ 0 ∷ 2 ∷ 0 ∷ 0 ∷ 0 ∷ 2 ∷ 0 ∷ 2 ∷ 0 ∷ 0 ∷ 0 ∷ 2 ∷ 0 ∷ 2 ∷ 0 ∷ 0 ∷ 0 ∷ 0 ∷ 0 ∷ 2 ∷ 0 ∷ 2 ∷ 0 ∷ 0 ∷ 0 ∷ []) ((negsuc 0) ∷ (negsuc 0) ∷ (pos 2) ∷ (pos 3) ∷ (negsuc 0) ∷ (negsuc 0) ∷ (negsuc 1) ∷ (pos 7) ∷ (pos 8) ∷ (negsuc 0) ∷ (negsuc 1) ∷ (pos 11) ∷ (pos 12) ∷ (pos 13) ∷ (pos 14) ∷ (pos 15) ∷ []) false
    ∷ []

-- a left and down corner forces both lines, whichever of its edges comes first
-- Refuses: (a) the diagonal rule applied at a clue; (b) a corner tested only when its down edge comes last; (b) a corner tested only when
-- its right or left edge comes last; undo that forgets the ends; equal clue ends kept apart too
abbrev Sequence7 : Type 0
Sequence7 =
    replay (fresh_board (grid_of 4 3 ((pos 2) ∷ (pos 2) ∷ blank_cell ∷ blank_cell ∷ blank_cell ∷ blank_cell ∷ (pos 2) ∷ (pos 2) ∷ blank_cell ∷ (pos 2) ∷ blank_cell ∷ (pos 2) ∷ [])))
    (checkpoint_call ∷ (decide_call 0 3 1) ∷ (read_call 2 1) ∷ undo_call ∷ (decide_call 1 4 1) ∷ (decide_call 0 3 1) ∷ (read_call 3 2) ∷ [])
    ≡ after 0 (0 ∷ 0 ∷ 0 ∷ 0 ∷ 0 ∷ 0 ∷ 0 ∷ 0 ∷ 0 ∷ 0 ∷ 0 ∷ 0 ∷ 0 ∷ 0 ∷ 0 ∷ 0 ∷ 0 ∷ 0 ∷ 0 ∷ 0 ∷ 0 ∷ 0 ∷ 0 ∷ 0 ∷ 0 ∷ 0 ∷ 0 ∷ 0 ∷ 0 ∷ 0 ∷ 0 ∷ 0 ∷ 0 ∷ 0 ∷ 0 ∷ []) ((negsuc 3) ∷ (negsuc 3) ∷ (pos 2) ∷ (pos 3) ∷ (pos 4) ∷ (pos 5) ∷ (negsuc 3) ∷ (negsuc 3) ∷ (pos 8) ∷ (negsuc 3) ∷ (pos 10) ∷ (negsuc 3) ∷ []) false
    ∷ after 0 (0 ∷ 2 ∷ 0 ∷ 1 ∷ 0 ∷ 1 ∷ 0 ∷ 2 ∷ 0 ∷ 1 ∷ 0 ∷ 1 ∷ 0 ∷ 2 ∷ 0 ∷ 2 ∷ 0 ∷ 1 ∷ 0 ∷ 1 ∷ 0 ∷ 2 ∷ 0 ∷ 2 ∷ 0 ∷ 1 ∷ 0 ∷ 2 ∷ 0 ∷ 1 ∷ 0 ∷ 2 ∷ 0 ∷ 2 ∷ 0 ∷ []) ((negsuc 0) ∷ (negsuc 0) ∷ (negsuc 0) ∷ (negsuc 0) ∷ (negsuc 0) ∷ (negsuc 0) ∷ (negsuc 0) ∷ (negsuc 0) ∷ (negsuc 0) ∷ (negsuc 0) ∷ (pos 10) ∷ (negsuc 0) ∷ []) false
    ∷ after 1 (0 ∷ 2 ∷ 0 ∷ 1 ∷ 0 ∷ 1 ∷ 0 ∷ 2 ∷ 0 ∷ 1 ∷ 0 ∷ 1 ∷ 0 ∷ 2 ∷ 0 ∷ 2 ∷ 0 ∷ 1 ∷ 0 ∷ 1 ∷ 0 ∷ 2 ∷ 0 ∷ 2 ∷ 0 ∷ 1 ∷ 0 ∷ 2 ∷ 0 ∷ 1 ∷ 0 ∷ 2 ∷ 0 ∷ 2 ∷ 0 ∷ []) ((negsuc 0) ∷ (negsuc 0) ∷ (negsuc 0) ∷ (negsuc 0) ∷ (negsuc 0) ∷ (negsuc 0) ∷ (negsuc 0) ∷ (negsuc 0) ∷ (negsuc 0) ∷ (negsuc 0) ∷ (pos 10) ∷ (negsuc 0) ∷ []) false
    ∷ after 0 (0 ∷ 0 ∷ 0 ∷ 0 ∷ 0 ∷ 0 ∷ 0 ∷ 0 ∷ 0 ∷ 0 ∷ 0 ∷ 0 ∷ 0 ∷ 0 ∷ 0 ∷ 0 ∷ 0 ∷ 0 ∷ 0 ∷ 0 ∷ 0 ∷ 0 ∷ 0 ∷ 0 ∷ 0 ∷ 0 ∷ 0 ∷ 0 ∷ 0 ∷ 0 ∷ 0 ∷ 0 ∷ 0 ∷ 0 ∷ 0 ∷ []) ((negsuc 3) ∷ (negsuc 3) ∷ (pos 2) ∷ (pos 3) ∷ (pos 4) ∷ (pos 5) ∷ (negsuc 3) ∷ (negsuc 3) ∷ (pos 8) ∷ (negsuc 3) ∷ (pos 10) ∷ (negsuc 3) ∷ []) false
    ∷ after 0 (0 ∷ 2 ∷ 0 ∷ 1 ∷ 0 ∷ 1 ∷ 0 ∷ 2 ∷ 0 ∷ 1 ∷ 0 ∷ 1 ∷ 0 ∷ 2 ∷ 0 ∷ 2 ∷ 0 ∷ 1 ∷ 0 ∷ 1 ∷ 0 ∷ 2 ∷ 0 ∷ 2 ∷ 0 ∷ 1 ∷ 0 ∷ 2 ∷ 0 ∷ 1 ∷ 0 ∷ 2 ∷ 0 ∷ 2 ∷ 0 ∷ []) ((negsuc 0) ∷ (negsuc 0) ∷ (negsuc 0) ∷ (negsuc 0) ∷ (negsuc 0) ∷ (negsuc 0) ∷ (negsuc 0) ∷ (negsuc 0) ∷ (negsuc 0) ∷ (negsuc 0) ∷ (pos 10) ∷ (negsuc 0) ∷ []) false
    ∷ after 0 (0 ∷ 2 ∷ 0 ∷ 1 ∷ 0 ∷ 1 ∷ 0 ∷ 2 ∷ 0 ∷ 1 ∷ 0 ∷ 1 ∷ 0 ∷ 2 ∷ 0 ∷ 2 ∷ 0 ∷ 1 ∷ 0 ∷ 1 ∷ 0 ∷ 2 ∷ 0 ∷ 2 ∷ 0 ∷ 1 ∷ 0 ∷ 2 ∷ 0 ∷ 1 ∷ 0 ∷ 2 ∷ 0 ∷ 2 ∷ 0 ∷ []) ((negsuc 0) ∷ (negsuc 0) ∷ (negsuc 0) ∷ (negsuc 0) ∷ (negsuc 0) ∷ (negsuc 0) ∷ (negsuc 0) ∷ (negsuc 0) ∷ (negsuc 0) ∷ (negsuc 0) ∷ (pos 10) ∷ (negsuc 0) ∷ []) false
    ∷ after 1 (0 ∷ 2 ∷ 0 ∷ 1 ∷ 0 ∷ 1 ∷ 0 ∷ 2 ∷ 0 ∷ 1 ∷ 0 ∷ 1 ∷ 0 ∷ 2 ∷ 0 ∷ 2 ∷ 0 ∷ 1 ∷ 0 ∷ 1 ∷ 0 ∷ 2 ∷ 0 ∷ 2 ∷ 0 ∷ 1 ∷ 0 ∷ 2 ∷ 0 ∷ 1 ∷ 0 ∷ 2 ∷ 0 ∷ 2 ∷ 0 ∷ []) ((negsuc 0) ∷ (negsuc 0) ∷ (negsuc 0) ∷ (negsuc 0) ∷ (negsuc 0) ∷ (negsuc 0) ∷ (negsuc 0) ∷ (negsuc 0) ∷ (negsuc 0) ∷ (negsuc 0) ∷ (pos 10) ∷ (negsuc 0) ∷ []) false
    ∷ []

-- a corner whose forced line lies off the board
-- Refuses: (d) undo that forgets the flag; undo that forgets the ends; (f) the two bars of a downward edge in the other order; equal clue
-- ends kept apart too
abbrev Sequence8 : Type 0
Sequence8 =
    replay (fresh_board (grid_of 2 3 (blank_cell ∷ blank_cell ∷ (pos 1) ∷ blank_cell ∷ (pos 1) ∷ blank_cell ∷ [])))
    (checkpoint_call ∷ (decide_call 1 2 1) ∷ (read_call 2 3) ∷ undo_call ∷ [])
    ≡ after 0 (0 ∷ 0 ∷ 0 ∷ 0 ∷ 0 ∷ 0 ∷ 0 ∷ 0 ∷ 0 ∷ 0 ∷ 0 ∷ 0 ∷ 0 ∷ 0 ∷ 0 ∷ []) ((pos 0) ∷ (pos 1) ∷ (negsuc 2) ∷ (pos 3) ∷ (negsuc 2) ∷ (pos 5) ∷ []) false
    ∷ after 1 (0 ∷ 2 ∷ 0 ∷ 1 ∷ 0 ∷ 2 ∷ 0 ∷ 1 ∷ 0 ∷ 2 ∷ 0 ∷ 2 ∷ 0 ∷ 2 ∷ 0 ∷ []) ((pos 0) ∷ (negsuc 0) ∷ (negsuc 0) ∷ (pos 3) ∷ (negsuc 0) ∷ (pos 5) ∷ []) true
    ∷ after 2 (0 ∷ 2 ∷ 0 ∷ 1 ∷ 0 ∷ 2 ∷ 0 ∷ 1 ∷ 0 ∷ 2 ∷ 0 ∷ 2 ∷ 0 ∷ 2 ∷ 0 ∷ []) ((pos 0) ∷ (negsuc 0) ∷ (negsuc 0) ∷ (pos 3) ∷ (negsuc 0) ∷ (pos 5) ∷ []) true
    ∷ after 0 (0 ∷ 0 ∷ 0 ∷ 0 ∷ 0 ∷ 0 ∷ 0 ∷ 0 ∷ 0 ∷ 0 ∷ 0 ∷ 0 ∷ 0 ∷ 0 ∷ 0 ∷ []) ((pos 0) ∷ (pos 1) ∷ (negsuc 2) ∷ (pos 3) ∷ (negsuc 2) ∷ (pos 5) ∷ []) false
    ∷ []

-- a pad that a line passes through
-- Refuses: (d) undo that forgets the flag; undo that forgets the ends; (g) in a square, the opposite edge set before the side; (h) no flag
-- test after a decision nested in a square; (h) no flag test after a pad check; the second pad checked before the first; a decision on a
-- flagged board changes nothing; a line at a pad that a line passes through does not set the flag
abbrev Sequence9 : Type 0
Sequence9 =
    replay (fresh_board (grid_of 2 2 (blank_cell ∷ blank_cell ∷ blank_cell ∷ (pos 1) ∷ [])))
    ((decide_call 2 1 1) ∷ (decide_call 1 2 1) ∷ (decide_call 0 1 2) ∷ undo_call ∷ [])
    ≡ after 1 (0 ∷ 2 ∷ 0 ∷ 1 ∷ 0 ∷ 0 ∷ 0 ∷ 1 ∷ 0 ∷ []) ((negsuc 2) ∷ (pos 1) ∷ (negsuc 0) ∷ (negsuc 0) ∷ []) true
    ∷ after 1 (0 ∷ 2 ∷ 0 ∷ 1 ∷ 0 ∷ 1 ∷ 0 ∷ 1 ∷ 0 ∷ []) ((negsuc 2) ∷ (pos 1) ∷ (negsuc 0) ∷ (negsuc 0) ∷ []) true
    ∷ after 1 (0 ∷ 2 ∷ 0 ∷ 1 ∷ 0 ∷ 1 ∷ 0 ∷ 1 ∷ 0 ∷ []) ((negsuc 2) ∷ (pos 1) ∷ (negsuc 0) ∷ (negsuc 0) ∷ []) true
    ∷ after 0 (0 ∷ 0 ∷ 0 ∷ 0 ∷ 0 ∷ 0 ∷ 0 ∷ 0 ∷ 0 ∷ []) ((pos 0) ∷ (pos 1) ∷ (pos 2) ∷ (negsuc 2) ∷ []) false
    ∷ []

-- the edge's own pads are checked before the far ends
-- Refuses: (d) undo that forgets the flag; undo that forgets the ends; the second pad checked before the first; pads A and B checked
-- before the edge's own pads; different clue ends not kept apart
abbrev Sequence10 : Type 0
Sequence10 =
    replay (fresh_board (grid_of 2 2 ((pos 0) ∷ blank_cell ∷ blank_cell ∷ (pos 1) ∷ [])))
    (checkpoint_call ∷ (decide_call 1 0 1) ∷ undo_call ∷ (decide_call 1 2 1) ∷ [])
    ≡ after 0 (0 ∷ 0 ∷ 0 ∷ 0 ∷ 0 ∷ 0 ∷ 0 ∷ 0 ∷ 0 ∷ []) ((negsuc 1) ∷ (pos 1) ∷ (pos 2) ∷ (negsuc 2) ∷ []) false
    ∷ after 1 (0 ∷ 2 ∷ 0 ∷ 1 ∷ 0 ∷ 2 ∷ 0 ∷ 2 ∷ 0 ∷ []) ((negsuc 0) ∷ (pos 1) ∷ (negsuc 1) ∷ (negsuc 2) ∷ []) true
    ∷ after 0 (0 ∷ 0 ∷ 0 ∷ 0 ∷ 0 ∷ 0 ∷ 0 ∷ 0 ∷ 0 ∷ []) ((negsuc 1) ∷ (pos 1) ∷ (pos 2) ∷ (negsuc 2) ∷ []) false
    ∷ after 1 (0 ∷ 2 ∷ 0 ∷ 1 ∷ 0 ∷ 1 ∷ 0 ∷ 2 ∷ 0 ∷ []) ((negsuc 0) ∷ (negsuc 2) ∷ (negsuc 1) ∷ (negsuc 0) ∷ []) true
    ∷ []

-- decisions that go on after the flag is set
-- Refuses: no bars; (g) the lower square before the upper; (g) in a square, the opposite edge set before the side; (g) in a square, the
-- opposite edge tested before the sides; (h) no flag test after a decision nested in a square; (h) no flag test after a pad check; (h) no
-- flag test after a decision that keeps ends apart; the second pad checked before the first; different clue ends not kept apart; a
-- decision on a flagged board changes nothing
abbrev Sequence11 : Type 0
Sequence11 =
    replay (fresh_board (grid_of 3 2 ((pos 2) ∷ blank_cell ∷ blank_cell ∷ blank_cell ∷ (pos 1) ∷ (pos 1) ∷ [])))
    ((decide_call 3 0 1) ∷ (decide_call 2 1 1) ∷ (decide_call 3 2 1) ∷ (decide_call 0 1 1) ∷ [])
    ≡ after 1 (0 ∷ 1 ∷ 0 ∷ 2 ∷ 0 ∷ 2 ∷ 0 ∷ 0 ∷ 0 ∷ 1 ∷ 0 ∷ 0 ∷ 0 ∷ 0 ∷ 0 ∷ []) ((negsuc 0) ∷ (negsuc 3) ∷ (negsuc 2) ∷ (pos 3) ∷ (negsuc 0) ∷ (negsuc 2) ∷ []) true
    ∷ after 1 (0 ∷ 1 ∷ 0 ∷ 2 ∷ 0 ∷ 2 ∷ 0 ∷ 1 ∷ 0 ∷ 1 ∷ 0 ∷ 0 ∷ 0 ∷ 0 ∷ 0 ∷ []) ((negsuc 0) ∷ (negsuc 3) ∷ (negsuc 0) ∷ (negsuc 2) ∷ (negsuc 0) ∷ (negsuc 2) ∷ []) true
    ∷ after 1 (0 ∷ 1 ∷ 0 ∷ 2 ∷ 0 ∷ 2 ∷ 0 ∷ 1 ∷ 0 ∷ 1 ∷ 0 ∷ 1 ∷ 0 ∷ 2 ∷ 0 ∷ []) ((negsuc 0) ∷ (negsuc 3) ∷ (negsuc 0) ∷ (negsuc 0) ∷ (negsuc 0) ∷ (negsuc 0) ∷ []) true
    ∷ after 1 (0 ∷ 1 ∷ 0 ∷ 2 ∷ 0 ∷ 2 ∷ 0 ∷ 1 ∷ 0 ∷ 1 ∷ 0 ∷ 1 ∷ 0 ∷ 2 ∷ 0 ∷ []) ((negsuc 0) ∷ (negsuc 3) ∷ (negsuc 0) ∷ (negsuc 0) ∷ (negsuc 0) ∷ (negsuc 0) ∷ []) true
    ∷ []

-- the left square before the right; the second forced line tried after the first set the flag
-- Refuses: (b) a corner tested only when its down edge comes last; (d) undo that forgets the flag; undo that forgets the ends; (e) the
-- forced down line before the forced right or left one; a set flag after the first forced line leaves out the second; no bars; (g) the
-- right square before the left; (g) in a square, the opposite edge set before the side; (h) no flag test after a pad check; the second pad
-- checked before the first; equal clue ends kept apart too; a decision on a flagged board changes nothing
abbrev Sequence12 : Type 0
Sequence12 =
    replay (fresh_board (grid_of 3 3 ((pos 1) ∷ blank_cell ∷ blank_cell ∷ blank_cell ∷ blank_cell ∷ blank_cell ∷ (pos 1) ∷ blank_cell ∷ blank_cell ∷ [])))
    (checkpoint_call ∷ (decide_call 4 3 1) ∷ undo_call ∷ [])
    ≡ after 0 (0 ∷ 0 ∷ 0 ∷ 0 ∷ 0 ∷ 0 ∷ 0 ∷ 0 ∷ 0 ∷ 0 ∷ 0 ∷ 0 ∷ 0 ∷ 0 ∷ 0 ∷ 0 ∷ 0 ∷ 0 ∷ 0 ∷ 0 ∷ 0 ∷ 0 ∷ 0 ∷ 0 ∷ 0 ∷ []) ((negsuc 2) ∷ (pos 1) ∷ (pos 2) ∷ (pos 3) ∷ (pos 4) ∷ (pos 5) ∷ (negsuc 2) ∷ (pos 7) ∷ (pos 8) ∷ []) false
    ∷ after 1 (0 ∷ 1 ∷ 0 ∷ 1 ∷ 0 ∷ 2 ∷ 0 ∷ 2 ∷ 0 ∷ 1 ∷ 0 ∷ 1 ∷ 0 ∷ 2 ∷ 0 ∷ 2 ∷ 0 ∷ 1 ∷ 0 ∷ 1 ∷ 0 ∷ 2 ∷ 0 ∷ 1 ∷ 0 ∷ []) ((negsuc 0) ∷ (negsuc 0) ∷ (negsuc 0) ∷ (negsuc 2) ∷ (negsuc 0) ∷ (negsuc 0) ∷ (negsuc 2) ∷ (negsuc 0) ∷ (negsuc 0) ∷ []) true
    ∷ after 0 (0 ∷ 0 ∷ 0 ∷ 0 ∷ 0 ∷ 0 ∷ 0 ∷ 0 ∷ 0 ∷ 0 ∷ 0 ∷ 0 ∷ 0 ∷ 0 ∷ 0 ∷ 0 ∷ 0 ∷ 0 ∷ 0 ∷ 0 ∷ 0 ∷ 0 ∷ 0 ∷ 0 ∷ 0 ∷ []) ((negsuc 2) ∷ (pos 1) ∷ (pos 2) ∷ (pos 3) ∷ (pos 4) ∷ (pos 5) ∷ (negsuc 2) ∷ (pos 7) ∷ (pos 8) ∷ []) false
    ∷ []

-- the decision goes on after two forced lines that set the flag
-- Refuses: (b) a corner tested only when its right or left edge comes last; (d) undo that forgets the flag; undo that forgets the ends; a
-- set flag after the first forced line leaves out the second; a set flag after the two forced lines ends the decision; (h) no flag test
-- after a pad check; the second pad checked before the first; different clue ends not kept apart; equal clue ends kept apart too; the
-- opposite state of a decided edge does not set the flag; a decision on a flagged board changes nothing
abbrev Sequence13 : Type 0
Sequence13 =
    replay (fresh_board (grid_of 3 4 (blank_cell ∷ (pos 1) ∷ blank_cell ∷ blank_cell ∷ (pos 1) ∷ blank_cell ∷ blank_cell ∷ blank_cell ∷ (pos 1) ∷ (pos 1) ∷ blank_cell ∷ (pos 2) ∷ [])))
    (checkpoint_call ∷ (decide_call 4 3 1) ∷ undo_call ∷ [])
    ≡ after 0 (0 ∷ 0 ∷ 0 ∷ 0 ∷ 0 ∷ 0 ∷ 0 ∷ 0 ∷ 0 ∷ 0 ∷ 0 ∷ 0 ∷ 0 ∷ 0 ∷ 0 ∷ 0 ∷ 0 ∷ 0 ∷ 0 ∷ 0 ∷ 0 ∷ 0 ∷ 0 ∷ 0 ∷ 0 ∷ 0 ∷ 0 ∷ 0 ∷ 0 ∷ 0 ∷ 0 ∷ 0 ∷ 0 ∷ 0 ∷ 0 ∷ []) ((pos 0) ∷ (negsuc 2) ∷ (pos 2) ∷ (pos 3) ∷ (negsuc 2) ∷ (pos 5) ∷ (pos 6) ∷ (pos 7) ∷ (negsuc 2) ∷ (negsuc 2) ∷ (pos 10) ∷ (negsuc 3) ∷ []) false
    ∷ after 1 (0 ∷ 2 ∷ 0 ∷ 1 ∷ 0 ∷ 2 ∷ 0 ∷ 2 ∷ 0 ∷ 2 ∷ 0 ∷ 1 ∷ 0 ∷ 0 ∷ 0 ∷ 2 ∷ 0 ∷ 2 ∷ 0 ∷ 2 ∷ 0 ∷ 1 ∷ 0 ∷ 2 ∷ 0 ∷ 1 ∷ 0 ∷ 1 ∷ 0 ∷ 2 ∷ 0 ∷ 1 ∷ 0 ∷ 2 ∷ 0 ∷ []) ((pos 0) ∷ (negsuc 0) ∷ (negsuc 0) ∷ (pos 3) ∷ (negsuc 0) ∷ (pos 5) ∷ (negsuc 0) ∷ (negsuc 3) ∷ (negsuc 0) ∷ (negsuc 0) ∷ (negsuc 0) ∷ (negsuc 0) ∷ []) true
    ∷ after 0 (0 ∷ 0 ∷ 0 ∷ 0 ∷ 0 ∷ 0 ∷ 0 ∷ 0 ∷ 0 ∷ 0 ∷ 0 ∷ 0 ∷ 0 ∷ 0 ∷ 0 ∷ 0 ∷ 0 ∷ 0 ∷ 0 ∷ 0 ∷ 0 ∷ 0 ∷ 0 ∷ 0 ∷ 0 ∷ 0 ∷ 0 ∷ 0 ∷ 0 ∷ 0 ∷ 0 ∷ 0 ∷ 0 ∷ 0 ∷ 0 ∷ []) ((pos 0) ∷ (negsuc 2) ∷ (pos 2) ∷ (pos 3) ∷ (negsuc 2) ∷ (pos 5) ∷ (pos 6) ∷ (pos 7) ∷ (negsuc 2) ∷ (negsuc 2) ∷ (pos 10) ∷ (negsuc 3) ∷ []) false
    ∷ []

-- checks, squares and bars stop at a flag that was set before
-- Refuses: (d) undo that forgets the flag; undo that forgets the ends; no bars; (g) in a square, the right (lower) side tested before the
-- left (upper); (h) no flag test after a decision nested in a square; (h) no flag test after a decision nested in a bar; (h) no flag test
-- after a pad check; (h) no flag test after a decision that keeps ends apart; the second pad checked before the first; different clue ends
-- not kept apart; a decision on a flagged board changes nothing
abbrev Sequence14 : Type 0
Sequence14 =
    replay (fresh_board (grid_of 3 2 ((pos 0) ∷ (pos 2) ∷ (pos 1) ∷ blank_cell ∷ blank_cell ∷ blank_cell ∷ [])))
    ((decide_call 3 2 1) ∷ (decide_call 3 0 1) ∷ (decide_call 3 0 1) ∷ undo_call ∷ [])
    ≡ after 1 (0 ∷ 2 ∷ 0 ∷ 2 ∷ 0 ∷ 0 ∷ 0 ∷ 2 ∷ 0 ∷ 0 ∷ 0 ∷ 1 ∷ 0 ∷ 0 ∷ 0 ∷ []) ((negsuc 1) ∷ (negsuc 3) ∷ (negsuc 2) ∷ (pos 5) ∷ (pos 4) ∷ (pos 3) ∷ []) true
    ∷ after 1 (0 ∷ 2 ∷ 0 ∷ 2 ∷ 0 ∷ 0 ∷ 0 ∷ 2 ∷ 0 ∷ 1 ∷ 0 ∷ 1 ∷ 0 ∷ 0 ∷ 0 ∷ []) ((negsuc 1) ∷ (negsuc 3) ∷ (negsuc 0) ∷ (pos 5) ∷ (negsuc 2) ∷ (pos 3) ∷ []) true
    ∷ after 1 (0 ∷ 2 ∷ 0 ∷ 2 ∷ 0 ∷ 0 ∷ 0 ∷ 2 ∷ 0 ∷ 1 ∷ 0 ∷ 1 ∷ 0 ∷ 0 ∷ 0 ∷ []) ((negsuc 1) ∷ (negsuc 3) ∷ (negsuc 0) ∷ (pos 5) ∷ (negsuc 2) ∷ (pos 3) ∷ []) true
    ∷ after 0 (0 ∷ 0 ∷ 0 ∷ 0 ∷ 0 ∷ 0 ∷ 0 ∷ 0 ∷ 0 ∷ 0 ∷ 0 ∷ 0 ∷ 0 ∷ 0 ∷ 0 ∷ []) ((negsuc 1) ∷ (negsuc 3) ∷ (negsuc 2) ∷ (pos 3) ∷ (pos 4) ∷ (pos 5) ∷ []) false
    ∷ []

-- one pad check sets one edge only
-- Refuses: (c) a pad check that sets every undecided edge; (d) undo that forgets the flag; undo that forgets the ends; (h) no flag test
-- after a pad check; the second pad checked before the first
abbrev Sequence15 : Type 0
Sequence15 =
    replay (fresh_board (grid_of 3 2 (blank_cell ∷ (pos 1) ∷ blank_cell ∷ (pos 0) ∷ blank_cell ∷ (pos 2) ∷ [])))
    (checkpoint_call ∷ (decide_call 2 1 1) ∷ undo_call ∷ [])
    ≡ after 0 (0 ∷ 0 ∷ 0 ∷ 0 ∷ 0 ∷ 0 ∷ 0 ∷ 0 ∷ 0 ∷ 0 ∷ 0 ∷ 0 ∷ 0 ∷ 0 ∷ 0 ∷ []) ((pos 0) ∷ (negsuc 2) ∷ (pos 2) ∷ (negsuc 1) ∷ (pos 4) ∷ (negsuc 3) ∷ []) false
    ∷ after 1 (0 ∷ 1 ∷ 0 ∷ 2 ∷ 0 ∷ 2 ∷ 0 ∷ 1 ∷ 0 ∷ 0 ∷ 0 ∷ 0 ∷ 0 ∷ 0 ∷ 0 ∷ []) ((negsuc 2) ∷ (negsuc 0) ∷ (negsuc 1) ∷ (negsuc 0) ∷ (pos 4) ∷ (negsuc 3) ∷ []) true
    ∷ after 0 (0 ∷ 0 ∷ 0 ∷ 0 ∷ 0 ∷ 0 ∷ 0 ∷ 0 ∷ 0 ∷ 0 ∷ 0 ∷ 0 ∷ 0 ∷ 0 ∷ 0 ∷ []) ((pos 0) ∷ (negsuc 2) ∷ (pos 2) ∷ (negsuc 1) ∷ (pos 4) ∷ (negsuc 3) ∷ []) false
    ∷ []

-- pad A before pad B
-- Refuses: (b) a corner tested only when its down edge comes last; no bars; the second pad checked before the first; pad B checked before
-- pad A
abbrev Sequence16 : Type 0
Sequence16 =
    replay (fresh_board (grid_of 4 5 (blank_cell ∷ blank_cell ∷ blank_cell ∷ blank_cell ∷ blank_cell ∷ blank_cell ∷ blank_cell ∷ blank_cell ∷ blank_cell ∷ blank_cell ∷ blank_cell ∷ blank_cell ∷ (pos 2) ∷ blank_cell ∷ blank_cell ∷ blank_cell ∷ blank_cell ∷ blank_cell ∷ blank_cell ∷ blank_cell ∷ [])))
    ((decide_call 1 6 2) ∷ (decide_call 5 8 1) ∷ [])
    ≡ after 0 (0 ∷ 0 ∷ 0 ∷ 0 ∷ 0 ∷ 0 ∷ 0 ∷ 0 ∷ 0 ∷ 0 ∷ 0 ∷ 0 ∷ 0 ∷ 0 ∷ 0 ∷ 2 ∷ 0 ∷ 0 ∷ 0 ∷ 0 ∷ 0 ∷ 0 ∷ 0 ∷ 0 ∷ 0 ∷ 0 ∷ 0 ∷ 0 ∷ 0 ∷ 0 ∷ 0 ∷ 0 ∷ 0 ∷ 0 ∷ 0 ∷ 0 ∷ 0 ∷ 0 ∷ 0 ∷ 0 ∷ 0 ∷ 0 ∷ 0 ∷ 0 ∷ 0 ∷ 0 ∷ 0 ∷ 0 ∷ 0 ∷ 0 ∷ 0 ∷ 0 ∷ 0 ∷ 0 ∷ 0 ∷ 0 ∷ 0 ∷ 0 ∷ 0 ∷ 0 ∷ 0 ∷ 0 ∷ 0 ∷ []) ((pos 0) ∷ (pos 1) ∷ (pos 2) ∷ (pos 3) ∷ (pos 4) ∷ (pos 5) ∷ (pos 6) ∷ (pos 7) ∷ (pos 8) ∷ (pos 9) ∷ (pos 10) ∷ (pos 11) ∷ (negsuc 3) ∷ (pos 13) ∷ (pos 14) ∷ (pos 15) ∷ (pos 16) ∷ (pos 17) ∷ (pos 18) ∷ (pos 19) ∷ []) false
    ∷ after 1 (0 ∷ 1 ∷ 0 ∷ 1 ∷ 0 ∷ 1 ∷ 0 ∷ 1 ∷ 0 ∷ 1 ∷ 0 ∷ 2 ∷ 0 ∷ 2 ∷ 0 ∷ 2 ∷ 0 ∷ 1 ∷ 0 ∷ 2 ∷ 0 ∷ 1 ∷ 0 ∷ 1 ∷ 0 ∷ 2 ∷ 0 ∷ 1 ∷ 0 ∷ 2 ∷ 0 ∷ 2 ∷ 0 ∷ 1 ∷ 0 ∷ 1 ∷ 0 ∷ 2 ∷ 0 ∷ 1 ∷ 0 ∷ 2 ∷ 0 ∷ 2 ∷ 0 ∷ 1 ∷ 0 ∷ 2 ∷ 0 ∷ 2 ∷ 0 ∷ 1 ∷ 0 ∷ 1 ∷ 0 ∷ 1 ∷ 0 ∷ 1 ∷ 0 ∷ 1 ∷ 0 ∷ 2 ∷ 0 ∷ []) ((negsuc 0) ∷ (negsuc 0) ∷ (negsuc 0) ∷ (negsuc 0) ∷ (negsuc 0) ∷ (negsuc 0) ∷ (pos 19) ∷ (negsuc 0) ∷ (negsuc 0) ∷ (negsuc 0) ∷ (negsuc 0) ∷ (negsuc 3) ∷ (negsuc 0) ∷ (negsuc 0) ∷ (negsuc 0) ∷ (negsuc 0) ∷ (negsuc 0) ∷ (negsuc 0) ∷ (negsuc 0) ∷ (pos 6) ∷ []) true
    ∷ []

-- the least code and the largest that the Rust can be asked about
-- Refuses: (d) undo that forgets the flag; undo that forgets the ends; (h) no flag test after a pad check; the second pad checked before
-- the first; different clue ends not kept apart; equal clue ends kept apart too
abbrev Sequence17 : Type 0
Sequence17 =
    replay (fresh_board (grid_of 2 3 ((pos 0) ∷ blank_cell ∷ (pos 0) ∷ (pos 2147483646) ∷ blank_cell ∷ (pos 2147483646) ∷ [])))
    (checkpoint_call ∷ (decide_call 0 1 1) ∷ undo_call ∷ (decide_call 1 2 1) ∷ (decide_call 0 1 2) ∷ undo_call ∷ [])
    ≡ after 0 (0 ∷ 0 ∷ 0 ∷ 0 ∷ 0 ∷ 0 ∷ 0 ∷ 0 ∷ 0 ∷ 0 ∷ 0 ∷ 0 ∷ 0 ∷ 0 ∷ 0 ∷ []) ((negsuc 1) ∷ (pos 1) ∷ (negsuc 1) ∷ (negsuc 2147483647) ∷ (pos 4) ∷ (negsuc 2147483647) ∷ []) false
    ∷ after 0 (0 ∷ 1 ∷ 0 ∷ 1 ∷ 0 ∷ 2 ∷ 0 ∷ 2 ∷ 0 ∷ 2 ∷ 0 ∷ 1 ∷ 0 ∷ 1 ∷ 0 ∷ []) ((negsuc 0) ∷ (negsuc 0) ∷ (negsuc 0) ∷ (negsuc 0) ∷ (negsuc 0) ∷ (negsuc 0) ∷ []) false
    ∷ after 0 (0 ∷ 0 ∷ 0 ∷ 0 ∷ 0 ∷ 0 ∷ 0 ∷ 0 ∷ 0 ∷ 0 ∷ 0 ∷ 0 ∷ 0 ∷ 0 ∷ 0 ∷ []) ((negsuc 1) ∷ (pos 1) ∷ (negsuc 1) ∷ (negsuc 2147483647) ∷ (pos 4) ∷ (negsuc 2147483647) ∷ []) false
    ∷ after 0 (0 ∷ 0 ∷ 0 ∷ 0 ∷ 0 ∷ 0 ∷ 0 ∷ 1 ∷ 0 ∷ 0 ∷ 0 ∷ 0 ∷ 0 ∷ 0 ∷ 0 ∷ []) ((negsuc 1) ∷ (pos 4) ∷ (negsuc 1) ∷ (negsuc 2147483647) ∷ (pos 1) ∷ (negsuc 2147483647) ∷ []) false
    ∷ after 1 (0 ∷ 2 ∷ 0 ∷ 0 ∷ 0 ∷ 2 ∷ 0 ∷ 1 ∷ 0 ∷ 0 ∷ 0 ∷ 0 ∷ 0 ∷ 0 ∷ 0 ∷ []) ((negsuc 1) ∷ (pos 4) ∷ (negsuc 1) ∷ (negsuc 2147483647) ∷ (pos 1) ∷ (negsuc 2147483647) ∷ []) true
    ∷ after 0 (0 ∷ 0 ∷ 0 ∷ 0 ∷ 0 ∷ 0 ∷ 0 ∷ 0 ∷ 0 ∷ 0 ∷ 0 ∷ 0 ∷ 0 ∷ 0 ∷ 0 ∷ []) ((negsuc 1) ∷ (pos 1) ∷ (negsuc 1) ∷ (negsuc 2147483647) ∷ (pos 4) ∷ (negsuc 2147483647) ∷ []) false
    ∷ []

-- ends kept apart and far ends checked, with the flag clear
-- Refuses: (a) the diagonal rule applied at a clue; pads A and B not checked; different clue ends not kept apart; equal clue ends kept
-- apart too
abbrev Sequence18 : Type 0
Sequence18 =
    replay (fresh_board (grid_of 4 4 ((pos 1) ∷ blank_cell ∷ blank_cell ∷ blank_cell ∷ blank_cell ∷ (pos 2) ∷ (pos 1) ∷ blank_cell ∷ blank_cell ∷ blank_cell ∷ blank_cell ∷ blank_cell ∷ blank_cell ∷ blank_cell ∷ (pos 1) ∷ (pos 2) ∷ [])))
    ((decide_call 0 5 1) ∷ (read_call 4 3) ∷ [])
    ≡ after 0 (0 ∷ 2 ∷ 0 ∷ 1 ∷ 0 ∷ 1 ∷ 0 ∷ 1 ∷ 0 ∷ 1 ∷ 0 ∷ 2 ∷ 0 ∷ 1 ∷ 0 ∷ 2 ∷ 0 ∷ 2 ∷ 0 ∷ 2 ∷ 0 ∷ 1 ∷ 0 ∷ 2 ∷ 0 ∷ 1 ∷ 0 ∷ 1 ∷ 0 ∷ 0 ∷ 0 ∷ 0 ∷ 0 ∷ 2 ∷ 0 ∷ 0 ∷ 0 ∷ 0 ∷ 0 ∷ 0 ∷ 0 ∷ 1 ∷ 0 ∷ 0 ∷ 0 ∷ 0 ∷ 0 ∷ 2 ∷ 0 ∷ []) ((negsuc 0) ∷ (negsuc 0) ∷ (negsuc 0) ∷ (negsuc 0) ∷ (negsuc 0) ∷ (negsuc 0) ∷ (negsuc 0) ∷ (negsuc 0) ∷ (negsuc 2) ∷ (pos 9) ∷ (negsuc 2) ∷ (negsuc 0) ∷ (pos 12) ∷ (pos 13) ∷ (negsuc 2) ∷ (negsuc 0) ∷ []) false
    ∷ after 0 (0 ∷ 2 ∷ 0 ∷ 1 ∷ 0 ∷ 1 ∷ 0 ∷ 1 ∷ 0 ∷ 1 ∷ 0 ∷ 2 ∷ 0 ∷ 1 ∷ 0 ∷ 2 ∷ 0 ∷ 2 ∷ 0 ∷ 2 ∷ 0 ∷ 1 ∷ 0 ∷ 2 ∷ 0 ∷ 1 ∷ 0 ∷ 1 ∷ 0 ∷ 0 ∷ 0 ∷ 0 ∷ 0 ∷ 2 ∷ 0 ∷ 0 ∷ 0 ∷ 0 ∷ 0 ∷ 0 ∷ 0 ∷ 1 ∷ 0 ∷ 0 ∷ 0 ∷ 0 ∷ 0 ∷ 2 ∷ 0 ∷ []) ((negsuc 0) ∷ (negsuc 0) ∷ (negsuc 0) ∷ (negsuc 0) ∷ (negsuc 0) ∷ (negsuc 0) ∷ (negsuc 0) ∷ (negsuc 0) ∷ (negsuc 2) ∷ (pos 9) ∷ (negsuc 2) ∷ (negsuc 0) ∷ (pos 12) ∷ (pos 13) ∷ (negsuc 2) ∷ (negsuc 0) ∷ []) false
    ∷ []

-- the opposite state, a pad passed through, nested checkpoints
-- Refuses: (d) undo that forgets the flag; undo that always clears the flag; undo that forgets the ends; no bars; (h) no flag test after a
-- pad check; the second pad checked before the first; the opposite state of a decided edge does not set the flag; a decision on a flagged
-- board changes nothing
abbrev Sequence19 : Type 0
Sequence19 =
    replay (fresh_board (grid_of 3 3 ((pos 1) ∷ blank_cell ∷ blank_cell ∷ blank_cell ∷ blank_cell ∷ blank_cell ∷ blank_cell ∷ blank_cell ∷ (pos 1) ∷ [])))
    ((decide_call 0 1 2) ∷ checkpoint_call ∷ (decide_call 1 0 2) ∷ checkpoint_call ∷ (decide_call 2 3 1) ∷ undo_call ∷ undo_call ∷ (decide_call 0 1 1) ∷ [])
    ≡ after 0 (0 ∷ 2 ∷ 0 ∷ 0 ∷ 0 ∷ 1 ∷ 0 ∷ 0 ∷ 0 ∷ 0 ∷ 0 ∷ 0 ∷ 0 ∷ 0 ∷ 0 ∷ 0 ∷ 0 ∷ 0 ∷ 0 ∷ 0 ∷ 0 ∷ 0 ∷ 0 ∷ 0 ∷ 0 ∷ []) ((negsuc 0) ∷ (pos 1) ∷ (pos 2) ∷ (negsuc 2) ∷ (pos 4) ∷ (pos 5) ∷ (pos 6) ∷ (pos 7) ∷ (negsuc 2) ∷ []) false
    ∷ after 0 (0 ∷ 2 ∷ 0 ∷ 0 ∷ 0 ∷ 1 ∷ 0 ∷ 0 ∷ 0 ∷ 0 ∷ 0 ∷ 0 ∷ 0 ∷ 0 ∷ 0 ∷ 0 ∷ 0 ∷ 0 ∷ 0 ∷ 0 ∷ 0 ∷ 0 ∷ 0 ∷ 0 ∷ 0 ∷ []) ((negsuc 0) ∷ (pos 1) ∷ (pos 2) ∷ (negsuc 2) ∷ (pos 4) ∷ (pos 5) ∷ (pos 6) ∷ (pos 7) ∷ (negsuc 2) ∷ []) false
    ∷ after 1 (0 ∷ 2 ∷ 0 ∷ 0 ∷ 0 ∷ 1 ∷ 0 ∷ 0 ∷ 0 ∷ 0 ∷ 0 ∷ 0 ∷ 0 ∷ 0 ∷ 0 ∷ 0 ∷ 0 ∷ 0 ∷ 0 ∷ 0 ∷ 0 ∷ 0 ∷ 0 ∷ 0 ∷ 0 ∷ []) ((negsuc 0) ∷ (pos 1) ∷ (pos 2) ∷ (negsuc 2) ∷ (pos 4) ∷ (pos 5) ∷ (pos 6) ∷ (pos 7) ∷ (negsuc 2) ∷ []) true
    ∷ after 0 (0 ∷ 2 ∷ 0 ∷ 0 ∷ 0 ∷ 1 ∷ 0 ∷ 0 ∷ 0 ∷ 0 ∷ 0 ∷ 0 ∷ 0 ∷ 0 ∷ 0 ∷ 0 ∷ 0 ∷ 0 ∷ 0 ∷ 0 ∷ 0 ∷ 0 ∷ 0 ∷ 0 ∷ 0 ∷ []) ((negsuc 0) ∷ (pos 1) ∷ (pos 2) ∷ (negsuc 2) ∷ (pos 4) ∷ (pos 5) ∷ (pos 6) ∷ (pos 7) ∷ (negsuc 2) ∷ []) true
    ∷ after 1 (0 ∷ 2 ∷ 0 ∷ 2 ∷ 0 ∷ 1 ∷ 0 ∷ 2 ∷ 0 ∷ 1 ∷ 0 ∷ 0 ∷ 0 ∷ 1 ∷ 0 ∷ 0 ∷ 0 ∷ 0 ∷ 0 ∷ 2 ∷ 0 ∷ 0 ∷ 0 ∷ 0 ∷ 0 ∷ []) ((negsuc 0) ∷ (pos 1) ∷ (pos 4) ∷ (negsuc 2) ∷ (pos 2) ∷ (negsuc 0) ∷ (pos 6) ∷ (pos 7) ∷ (negsuc 2) ∷ []) true
    ∷ after 0 (0 ∷ 2 ∷ 0 ∷ 0 ∷ 0 ∷ 1 ∷ 0 ∷ 0 ∷ 0 ∷ 0 ∷ 0 ∷ 0 ∷ 0 ∷ 0 ∷ 0 ∷ 0 ∷ 0 ∷ 0 ∷ 0 ∷ 0 ∷ 0 ∷ 0 ∷ 0 ∷ 0 ∷ 0 ∷ []) ((negsuc 0) ∷ (pos 1) ∷ (pos 2) ∷ (negsuc 2) ∷ (pos 4) ∷ (pos 5) ∷ (pos 6) ∷ (pos 7) ∷ (negsuc 2) ∷ []) true
    ∷ after 0 (0 ∷ 2 ∷ 0 ∷ 0 ∷ 0 ∷ 1 ∷ 0 ∷ 0 ∷ 0 ∷ 0 ∷ 0 ∷ 0 ∷ 0 ∷ 0 ∷ 0 ∷ 0 ∷ 0 ∷ 0 ∷ 0 ∷ 0 ∷ 0 ∷ 0 ∷ 0 ∷ 0 ∷ 0 ∷ []) ((negsuc 0) ∷ (pos 1) ∷ (pos 2) ∷ (negsuc 2) ∷ (pos 4) ∷ (pos 5) ∷ (pos 6) ∷ (pos 7) ∷ (negsuc 2) ∷ []) false
    ∷ after 1 (0 ∷ 2 ∷ 0 ∷ 0 ∷ 0 ∷ 1 ∷ 0 ∷ 0 ∷ 0 ∷ 0 ∷ 0 ∷ 0 ∷ 0 ∷ 0 ∷ 0 ∷ 0 ∷ 0 ∷ 0 ∷ 0 ∷ 0 ∷ 0 ∷ 0 ∷ 0 ∷ 0 ∷ 0 ∷ []) ((negsuc 0) ∷ (pos 1) ∷ (pos 2) ∷ (negsuc 2) ∷ (pos 4) ∷ (pos 5) ∷ (pos 6) ∷ (pos 7) ∷ (negsuc 2) ∷ []) true
    ∷ []

-- a line that would close a loop
-- Refuses: (d) undo that forgets the flag; undo that forgets the ends; (g) in a square, the opposite edge set before the side; (h) no flag
-- test after a decision nested in a square; (h) no flag test after a pad check; the second pad checked before the first; a line that
-- closes a loop does not set the flag
abbrev Sequence20 : Type 0
Sequence20 =
    replay (fresh_board (grid_of 3 3 (blank_cell ∷ blank_cell ∷ blank_cell ∷ blank_cell ∷ (pos 2) ∷ blank_cell ∷ blank_cell ∷ blank_cell ∷ blank_cell ∷ [])))
    (checkpoint_call ∷ (decide_call 4 3 1) ∷ undo_call ∷ [])
    ≡ after 0 (0 ∷ 0 ∷ 0 ∷ 0 ∷ 0 ∷ 0 ∷ 0 ∷ 0 ∷ 0 ∷ 0 ∷ 0 ∷ 0 ∷ 0 ∷ 0 ∷ 0 ∷ 0 ∷ 0 ∷ 0 ∷ 0 ∷ 0 ∷ 0 ∷ 0 ∷ 0 ∷ 0 ∷ 0 ∷ []) ((pos 0) ∷ (pos 1) ∷ (pos 2) ∷ (pos 3) ∷ (negsuc 3) ∷ (pos 5) ∷ (pos 6) ∷ (pos 7) ∷ (pos 8) ∷ []) false
    ∷ after 1 (0 ∷ 1 ∷ 0 ∷ 1 ∷ 0 ∷ 1 ∷ 0 ∷ 2 ∷ 0 ∷ 1 ∷ 0 ∷ 2 ∷ 0 ∷ 2 ∷ 0 ∷ 1 ∷ 0 ∷ 0 ∷ 0 ∷ 1 ∷ 0 ∷ 1 ∷ 0 ∷ 1 ∷ 0 ∷ []) ((negsuc 0) ∷ (negsuc 0) ∷ (negsuc 0) ∷ (negsuc 0) ∷ (negsuc 3) ∷ (negsuc 0) ∷ (pos 7) ∷ (pos 6) ∷ (negsuc 0) ∷ []) true
    ∷ after 0 (0 ∷ 0 ∷ 0 ∷ 0 ∷ 0 ∷ 0 ∷ 0 ∷ 0 ∷ 0 ∷ 0 ∷ 0 ∷ 0 ∷ 0 ∷ 0 ∷ 0 ∷ 0 ∷ 0 ∷ 0 ∷ 0 ∷ 0 ∷ 0 ∷ 0 ∷ 0 ∷ 0 ∷ 0 ∷ []) ((pos 0) ∷ (pos 1) ∷ (pos 2) ∷ (pos 3) ∷ (negsuc 3) ∷ (pos 5) ∷ (pos 6) ∷ (pos 7) ∷ (pos 8) ∷ []) false
    ∷ []

-- all of them, by computation
pub sequences :
    Sequence1 × Sequence2 × Sequence3 × Sequence4 × Sequence5 × Sequence6 × Sequence7 × Sequence8 × Sequence9 × Sequence10 × Sequence11 × Sequence12 × Sequence13 × Sequence14 × Sequence15 × Sequence16 × Sequence17 × Sequence18 × Sequence19 × Sequence20
unfolding do_call seen replay shown fresh_board edge_at decide_edge read_edge add_checkpoint undo grid_of cell_of field tabulate place_at parity fresh prepared shut_at shut bare end_number decide check after_store cannot_join unjoinable join_ends check_items settled decide_first degree undecideds lines keep_aparts around do_item do_items shape_items barred joined_ends put_end put_end_at set_flag set_edge enough
sequences = (refl, refl, refl, refl, refl, refl, refl, refl, refl, refl, refl, refl, refl, refl, refl, refl, refl, refl, refl, refl)
