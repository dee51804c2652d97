-- `gridfile::read_rows` meets its contract. The loop keeps `Reached`: reading on from the next row is what reading from the first row on comes
-- to. Assumes nothing.
use Rattle.std.proofs.Common.{drop}
use Rattle.model.specs.GridFile.{read_from, no_cells}
use Rattle.reading.specs.FieldSteps.{field_start}
use Rattle.gridfile.specs.Rows.{Reached}
use Rattle.gridfile.proofs.read_rows.Given as goal

abbrev pub invariant-loop-row : goal.invariant-loop-row
invariant-loop-row l = Reached l.bytes l.height l.width l.row 0 l.cells l.at (read_from (field_start 2 1 l.height l.width no_cells) (drop l.from l.bytes))
