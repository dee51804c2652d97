-- `boardfresh::shut_edge` meets its contract: an edge that is none stays so, any other is decided. Assumes nothing.
use Rattle.boardfresh.specs.Shutting.{none_there, none_put}
use Rattle.boardfresh.proofs.shut_edge.Goals as goal

pub returns-then-board-slot-eq-NONE : goal.returns-then-board-slot-eq-NONE
returns-then-board-slot-eq-NONE c = none_there _ _ c.requires.1 _ c.requires.0 c.if-board-slot-eq-NONE.true

pub returns : goal.returns
returns c = none_put _ _ c.requires.1 _ c.requires.0 c.if-board-slot-eq-NONE.false _ c.decide_none.ensures
