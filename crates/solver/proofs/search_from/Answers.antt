-- The search over the fresh arrays, from the first pad with its right edge undecided, is the search of the grid; where the flag is set there
-- is nothing to search. Assumes nothing.
use Rattle.boardview.specs.Bytes.{is_flagged, is_clear}
use Rattle.solver.specs.SolveLaws.{counted_none, begins_there, counted_all}
use Rattle.solver.proofs.search_from.Goals as goal

pub returns-then-is_flagged : goal.returns-then-is_flagged
returns-then-is_flagged c = counted_none _ _ _ _ _ c.requires _ _ _ _ c.lay_board-kinds.ensures.0 _ c.lay_board-kinds.ensures.1 (is_flagged _ _ c.is_flagged.ensures c.if-is_flagged.true) _

pub backtrack-requires : goal.backtrack-requires
backtrack-requires c = begins_there _ _ c.args.grid.now.cells.now _ _ c.requires _ _ _ _ c.lay_board-kinds.ensures.0 _ c.lay_board-kinds.ensures.1
    (is_clear _ _ c.is_flagged.ensures c.if-is_flagged.false) _ c.first_of_last_row-last.ensures _ c.next_pad-first.ensures

pub returns : goal.returns
returns c = counted_all _ _ _ _ _ c.requires _ _ _ _ c.lay_board-kinds.ensures.0 _ c.lay_board-kinds.ensures.1
    (is_clear _ _ c.is_flagged.ensures c.if-is_flagged.false) _ c.first_of_last_row-last.ensures _ c.next_pad-first.ensures _ _ _ _ _ c.backtrack.ensures.0
