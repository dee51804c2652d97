-- `boardparts::put_number` meets its contract.
use Rattle.std.proofs.Common.{sym}
use Rattle.std.proofs.Math.Seq.{set_out}
use native.Mathlib.Omega.{arith}
use mathlib.Core.Path.{refl}
use Rattle.boardview.specs.Signed.{back}
use Rattle.boardview.specs.View.{put_number}
use Rattle.boardparts.proofs.Ends.{none_named}
use Rattle.boardparts.proofs.put_number.Goals as goal

pub returns-then-a-lt512 : goal.returns-then-a-lt512
unfolding put_number
returns-then-a-lt512 c = rw (c.in-Pad.is, back c.args.number c.ranges.number) refl

pub returns-else-a-lt512 : goal.returns-else-a-lt512
unfolding put_number
returns-else-a-lt512 c = rw c.in-Pad.is (sym (set_out c.args.ends.now c.in-Pad.a c.args.number (omega (arith, c.told-ends, c.if-a-lt512.false))))

pub returns-in_default : goal.returns-in_default
returns-in_default c = none_named c.args.end c.in_default.not-Pad c.args.number c.args.ends.now
