-- `grid::pads_from` meets its contract: the pads of the edge from pad (y, x). Assumes nothing.
use Rattle.grid.proofs.DirectionLaws.{pads_named}
use Rattle.grid.proofs.pads_from.Goals as goal

pub returns : goal.returns
returns c = pads_named _ _ c.pad-first.ensures.0 c.second.ensures
