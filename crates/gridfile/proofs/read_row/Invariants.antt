-- `gridfile::read_row` meets its contract. The loop keeps `RowRead`: reading on from the column is what reading from the row's first
-- column on comes to. Assumes nothing.
use Rattle.std.proofs.Common.{ℕ, ◌<◌}
use Rattle.model.specs.GridFile.{Reading}
use Rattle.gridfile.specs.Rows.{Reached}
use Rattle.gridfile.proofs.RowLaws.{RowRead}
use Rattle.gridfile.proofs.read_row.Given as goal

abbrev pub invariant-loop-column : goal.invariant-loop-column
invariant-loop-column l = (height : ℕ) (answer : Reading) → l.row < height → Reached l.bytes height l.width l.row 0 l.initial.cells l.from answer → RowRead l.bytes height l.width l.row l.column l.cells l.at answer
