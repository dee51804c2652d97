-- `judging::follow_record` meets its contract. The loop has followed the first rows of the field and counted their lines. Assumes nothing.
use mathlib.Core.Path.{◌≡◌}
use native.Mathlib.Omega.{arith}
use Rattle.rules.specs.Grid.{field_side}
use Rattle.judging.proofs.Stretches.{row_fits, no_row, row_wrong, row_right}
use Rattle.judging.proofs.follow_record.Goals as goal

pub loop-row-init : goal.loop-row-init
loop-row-init c = (omega arith, no_row _ _ c.requires.1)

pub follow_row-requires : goal.follow_row-requires
follow_row-requires c =
    let start = c in
    let ok = start.args.grid.now.accepted in (
      ok.width_in_range.0,
      ok.width_in_range.1,
      omega (arith, c.loop-row-test.true, ok.height_in_range),
      omega (arith, row_fits start.args.grid.now.width c.loop-row.row _ c.loop-row-test.true, start.requires.0),
      c.loop-row.invariant.1.in_use,
      c.loop-row.invariant.1.tells,
    )

pub returns-in_err-lines : goal.returns-in_err-lines
returns-in_err-lines c = rw c.from_residual.ensures (row_wrong _ _ _ _ c.loop-row-test.true c.loop-row.invariant.1 c.follow_row.ensures c.in_err-lines.was)

pub loop-row-preserved : goal.loop-row-preserved
loop-row-preserved c = (
  omega (arith, c.loop-row-test.true),
  row_right _ _ _ _ c.loop-row-test.true c.loop-row.invariant.1 c.follow_row.ensures c.in_ok-lines.was,
)

pub returns : goal.returns
returns c =
    let loop = c.loop-row in
    let all : loop.row ≡ field_side c.args.grid.now.height = omega (arith, loop.invariant.0, c.loop-row-test.false) in
    rw all at loop.invariant.1
