-- `copper::overlay` meets its contract: the bytes of the record before `i` are laid over the table. Assumes nothing.
use Rattle.copper.proofs.TableLaws.{none_covered, one_covered}
use Rattle.copper.proofs.overlay.Goals as goal

pub loop-i-init : goal.loop-i-init
loop-i-init c = none_covered _ _

pub loop-i-preserved : goal.loop-i-preserved
loop-i-preserved c = one_covered _ _ c.requires c.loop-i-test.true c.loop-i.invariant
