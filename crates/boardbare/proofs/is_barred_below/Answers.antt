-- `boardbare::is_barred_below` meets its contract, on each side.
use Rattle.boardbare.specs.BareArrays.{barred_below}
use Rattle.boardbare.proofs.is_barred_below.Goals as goal

pub returns-in-Left : goal.returns-in-Left
unfolding barred_below
returns-in-Left c = rw c.in-Left.is c.is_barred.ensures

pub returns-in-Right : goal.returns-in-Right
unfolding barred_below
returns-in-Right c = rw c.in-Right.is c.is_barred-in-Right.ensures
