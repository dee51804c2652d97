-- `records::put_field` meets its contract. The loop has put the field's first rows, and counted their lines. Assumes nothing.
use native.Mathlib.Omega.{arith}
use Rattle.records.proofs.LaidLaws.{row_fits, no_row_laid, one_row_laid, field_laid}
use Rattle.records.proofs.fields.put_field.Goals as goal

pub loop-row-init : goal.loop-row-init
loop-row-init g c = (omega arith, no_row_laid _ _ _ _)

pub loop-row-preserved : goal.loop-row-preserved
loop-row-preserved g c = (
  omega (arith, c.loop-row-test.true),
  one_row_laid _ _ _ _ _ (λ bytes told. told _ c.loop-row-test.true) _ c.loop-row.invariant.1
      (omega (arith, row_fits c.args.height c.args.width _ c.loop-row-test.true, c.requires.2)) c.put_row-lines.ensures,
)

pub returns : goal.returns
returns g c = field_laid _ _ _ _ _ c.loop-row.invariant.1 _ (omega (arith, c.loop-row.invariant.0, c.loop-row-test.false))
