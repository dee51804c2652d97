-- `grid::pads_at` meets its contract: each return is one of the two cases of the rules, or a place without an edge. Assumes nothing.
use Rattle.grid.proofs.TwoCases.{beside, pad_there, above, middle_there}
use Rattle.grid.proofs.pads_at.Goals as goal

pub returns-then-column-x : goal.returns-then-column-x
returns-then-column-x c = beside _ _ _ c.if-row-y.true c.if-column-x.true c.pads_from.ensures

pub returns-then-row-y : goal.returns-then-row-y
returns-then-row-y c = pad_there _ _ _ c.if-row-y.true c.if-column-x.false

pub returns-then-column-x-2 : goal.returns-then-column-x-2
returns-then-column-x-2 c = above _ _ _ c.if-row-y.false c.if-column-x-2.true c.pads_from-then-column-x-2.ensures

pub returns : goal.returns
returns c = middle_there _ _ _ c.if-row-y.false c.if-column-x-2.false
