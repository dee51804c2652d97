-- `text::put_decimal` meets its contract, with the number as the measure: the digits of the tenth part, and then the last
-- digit. Assumes nothing.
use Rattle.text.specs.PutLaws.{put_both, put_length, put_same}
use Rattle.model.proofs.DecimalLaws.{decimal_short, decimal_long}
use Rattle.model.specs.Decimal.{digit_byte}
use lib.ListN.{length-append}
use mathlib.Core.Path.{sym}
use native.Mathlib.Omega.{arith}
use Rattle.text.proofs.+put_decimal.Goals as goal

pub put_byte-requires : goal.put_byte-requires
put_byte-requires t c = omega (arith, rw (decimal_short _ c.if-number-lt10.true) at c.requires)

pub returns-then-number-lt10 : goal.returns-then-number-lt10
unfolding digit_byte
returns-then-number-lt10 t c = put_same (sym (decimal_short _ c.if-number-lt10.true)) c.put_byte.ensures

pub put_decimal-last-requires : goal.put_decimal-last-requires
put_decimal-last-requires t c = (omega (arith, c.decreases), omega (arith, rw (decimal_long _ c.if-number-lt10.false, length-append) at c.requires))

pub put_byte-requires-2 : goal.put_byte-requires-2
put_byte-requires-2 t c = omega (arith, c.put_decimal-last.ensures.place, put_length c.put_decimal-last.ensures, rw (decimal_long _ c.if-number-lt10.false, length-append) at c.requires)

pub returns : goal.returns
unfolding digit_byte
returns t c = put_same (sym (decimal_long _ c.if-number-lt10.false)) (put_both c.put_decimal-last.ensures c.put_byte-2.ensures)
