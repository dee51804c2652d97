-- `boardfresh::shut_holes` meets its contract: the holes before a pad are shut, and the pads left fall. Assumes nothing.
use native.Mathlib.Omega.{arith}
use Rattle.boardfresh.specs.Shutting.{none_shut, one_more_shut, all_shut}
use Rattle.boardfresh.proofs.shut_holes.Goals as goal

pub loop-v-init : goal.loop-v-init
loop-v-init c = (omega arith, none_shut _ _ c.requires)

pub loop-v-preserved : goal.loop-v-preserved
loop-v-preserved c = (omega (arith, c.loop-v-test.true), one_more_shut _ _ _ _ _ c.loop-v-test.true c.loop-v.invariant.1 c.shut_pad.ensures)

pub returns : goal.returns
returns c = all_shut _ _ _ _ (omega (arith, c.loop-v-test.false, c.loop-v.invariant.0)) c.loop-v.invariant.1
