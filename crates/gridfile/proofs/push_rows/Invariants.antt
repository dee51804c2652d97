-- `gridfile::push_rows` meets its contract. The loop keeps `RowsPut`: what was put and the text of the pads that are left make the text of
-- all. Assumes nothing.
use Rattle.gridfile.proofs.WriteLaws.{RowsPut}
use Rattle.gridfile.proofs.push_rows.Given as goal

abbrev pub invariant-loop-cell : goal.invariant-loop-cell
invariant-loop-cell l = RowsPut l.initial.text l.text l.grid.width l.grid.cells.now l.field l.cell-index
