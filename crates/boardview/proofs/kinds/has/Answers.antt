-- `boardview::has` meets its contract.
use Rattle.boardview.specs.Told.{has_bit}
use mathlib.Core.Path.{refl}
use Rattle.boardview.proofs.kinds.has.Goals as goal

pub returns : goal.returns
unfolding has_bit
returns c = refl
