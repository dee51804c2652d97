-- `Marks::none` meets its contract: none of the marks stands. Assumes nothing.
use Rattle.std.specs.Prelude.{refl}
use Rattle.board.specs.Standing.{none_stand}
use Rattle.board.proofs.marks.Marks.none.Goals as goal

pub returns : goal.returns
returns c = none_stand _ 0 refl
