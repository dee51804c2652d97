-- `Marks::pop` meets its contract: the last mark that stands, if one does. Assumes nothing.
use Rattle.board.specs.Standing.{none_stand, one_less_mark}
use Rattle.board.proofs.marks.Marks.pop.Goals as goal

pub returns-then-self-eq0 : goal.returns-then-self-eq0
returns-then-self-eq0 c = (none_stand _ _ c.if-self-eq0.true, none_stand _ _ c.if-self-eq0.true)

pub returns : goal.returns
returns c = one_less_mark _ _ c.if-self-eq0.false
