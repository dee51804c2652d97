-- A line, or none at the slot of the edge, as the choice says. Assumes nothing.
use Rattle.boardview.specs.OneEdge.{decided_line, decided_none}
use Rattle.decision.proofs.decide.Goals as goal

pub returns-then-line : goal.returns-then-line
returns-then-line c = decided_line _ _ _ _ _ c.if-line.true c.decide_line.ensures

pub returns : goal.returns
returns c = decided_none _ _ _ _ _ c.if-line.false c.requires.2 (rw c.slot_from.ensures at c.decide_none.ensures)
