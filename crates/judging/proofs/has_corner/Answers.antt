-- `judging::has_corner` meets its contract: the line beside and the one downward. Assumes nothing.
use Rattle.boardparts.specs.Sides.{side_of}
use Rattle.judging.proofs.Drawn.{corner_if, no_corner}
use Rattle.judging.proofs.has_corner.Goals as goal

pub returns-then-line_beside : goal.returns-then-line_beside
returns-then-line_beside c = corner_if _ _ _ c.requires _ (side_of c.args.side) c.line_beside.ensures c.leads.ensures c.if-line_beside.true

pub returns-else-line_beside : goal.returns-else-line_beside
returns-else-line_beside c = no_corner _ _ _ c.requires _ (side_of c.args.side) c.line_beside.ensures c.if-line_beside.false
