-- `gridfile::read_rows` meets its contract. The loop keeps `Reached`: reading on from the next row is what reading from the first row on
-- comes to. Assumes nothing.
use Rattle.gridfile.proofs.RowLaws.{file_ends, grid_read}
use Rattle.model.specs.RefusalLaws.{size_of_test}
use mathlib.Core.Path.{◌≡◌}
use native.Mathlib.Omega.{arith}
use Rattle.gridfile.proofs.read_rows.Goals as goal

pub loop-row-preserved : goal.loop-row-preserved
loop-row-preserved c = c.in_ok-at.ensures _ _ c.loop-row-test.true c.loop-row.invariant

pub invariant_of-result : goal.invariant_of-result
invariant_of-result c =
    let end : c.loop-row.row ≡ c.args.height = omega arith in
    record { accepted = grid_read (size_of_test _ c.requires.0) (size_of_test _ c.requires.1) _ (file_ends _ _ _ _ _ (rw end at c.loop-row.invariant) c.if-at-bytes.false) }
