-- `boardparts::log_line` meets its contract.
use Rattle.boardview.specs.Signed.{back, slot_number}
use mathlib.Core.Path.{refl}
use Rattle.boardparts.proofs.log_line.Goals as goal

pub returns : goal.returns
returns c = rw (c.logged-k.ensures, slot_number c.args.slot c.requires.0, back c.args.first_end c.ranges.first_end, back c.args.second_end c.ranges.second_end) refl
