-- `board::shown_ends` meets its contract: the first 256 ends are copied. Assumes nothing.
use lib.IntN.{pos}
use native.Mathlib.Omega.{arith}
use Rattle.board.specs.ShowLaws.{laid_copied}
use Rattle.board.proofs.shown_ends.Goals as goal

pub returns : goal.returns
returns c = laid_copied c.args.ends.now (pos 0) 256 (omega (arith, c.told-ends)) c.copy_from_slice.ensures.after c.copy_from_slice.ensures.len
