-- `growing::limit_of` meets its contract. The loop keeps `Passed`: the bytes before this one are digits, and their value is a limit.
-- Assumes nothing.
use native.Mathlib.Omega.{arith}
use Rattle.growing.proofs.ReadLaws.{one_passed}
use Rattle.growing.proofs.limit_of.Goals as goal

pub loop-byte-preserved : goal.loop-byte-preserved
loop-byte-preserved c = one_passed _ _ _ c.loop-byte.invariant c.loop-byte-test.true (grind arith) _ (omega (arith, c.in_ok-value.ensures, c.in_ok-checked_mul.ensures, c.from-digit.ensures))
