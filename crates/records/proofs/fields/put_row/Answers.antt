-- `records::put_row` meets its contract. The loop has put the row's first bytes, and counted their lines. Assumes nothing.
use native.Mathlib.Omega.{arith}
use lib.Dec.{eqb}
use Rattle.rules.specs.Tests.{num_small}
use Rattle.grid.specs.Numbers.{test_number}
use Rattle.records.proofs.LaidLaws.{no_byte_laid, one_byte_laid, row_laid}
use Rattle.records.proofs.fields.put_row.Goals as goal

pub loop-column-init : goal.loop-column-init
loop-column-init g c = (omega arith, no_byte_laid _ _ _ _ _)

pub overflow_add-lines : goal.overflow_add-lines
overflow_add-lines g c = omega (arith, c.loop-column.invariant.1.few, c.from-lines.ensures, test_number (eqb c.byte_at-byte.result 1), num_small (eqb c.byte_at-byte.result 1), c.requires.0)

pub loop-column-preserved : goal.loop-column-preserved
loop-column-preserved g c = (
  omega (arith, c.loop-column-test.true),
  one_byte_laid _ _ _ _ _ _ c.loop-column.invariant.1 (omega (arith, c.loop-column-test.true, c.requires.2)) _
      (λ bytes told. c.byte_at-byte.ensures bytes (told _ c.loop-column-test.true)) c.from-lines.ensures,
)

pub returns : goal.returns
returns g c = row_laid _ _ _ _ _ _ c.loop-column.invariant.1 (omega (arith, c.loop-column.invariant.0, c.loop-column-test.false))
