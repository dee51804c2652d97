-- `Marks::is_full` meets its contract: as many marks stand as are counted. Assumes nothing.
use Rattle.std.specs.Prelude.{leb}
use Rattle.std.proofs.Common.{ap, sym}
use Rattle.board.specs.Standing.{as_many}
use Rattle.board.proofs.marks.Marks.is_full.Goals as goal

pub returns : goal.returns
returns c = ap (leb 256) (sym (as_many c.args.self.now.marks c.args.self.now.standing))
