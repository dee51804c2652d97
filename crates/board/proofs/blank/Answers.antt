-- `board::blank` meets its contract: the 2 by 2 blank grid is accepted. Assumes nothing.
use Rattle.board.specs.DecisionLaws.{blank_held}
use Rattle.board.proofs.blank.Goals as goal

pub returns : goal.returns
returns c = blank_held c.fresh.result c.fresh.ensures
