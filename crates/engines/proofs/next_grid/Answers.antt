-- `engines::next_grid`: the pad that can grow gives the next grid, one that cannot is passed, and behind the first pad none comes later.
use Rattle.std.proofs.Common.{arith}
use Rattle.engines.specs.KindLaws.{carried_on, next_found, none_later}
use Rattle.engines.proofs.next_grid.Goals as goal

pub returns-then-kinds-pad : goal.returns-then-kinds-pad
returns-then-kinds-pad c = search (arith, next_found)

pub loop-pad-preserved : goal.loop-pad-preserved
loop-pad-preserved c = search (arith, carried_on)

pub returns : goal.returns
returns c = search (arith, none_later)
