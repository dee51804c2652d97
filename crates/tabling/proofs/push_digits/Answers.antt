-- `tabling::push_digits` meets its contract. The loop's invariant: a digit is put for each byte that was passed. Assumes nothing.
use Rattle.std.proofs.Common.{sym, arith, append-nil}
use Rattle.tabling.proofs.RowLaws.{digit_pushed, so_far_long}
use Rattle.tabling.proofs.push_digits.Goals as goal

pub loop-byte-init : goal.loop-byte-init
loop-byte-init c = sym (append-nil _)

pub push_byte-requires : goal.push_byte-requires
push_byte-requires c = (omega arith, omega (arith, so_far_long _ _ _ _ (omega arith) c.loop-byte.invariant, c.requires))

pub loop-byte-preserved : goal.loop-byte-preserved
loop-byte-preserved c = digit_pushed _ _ _ _ c.loop-byte-test.true c.loop-byte.invariant c.push_byte.ensures
