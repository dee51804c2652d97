-- `gridfile::push_rows` meets its contract. The loop keeps `RowsPut`: what was put and the text of the pads that are left make the text of
-- all. Assumes nothing.
use Rattle.gridfile.proofs.WriteLaws.{back, rows_done, pad_room, cell_longer}
use native.Mathlib.Omega.{arith}
use Rattle.gridfile.proofs.push_rows.Goals as goal

pub push_cell-requires : goal.push_cell-requires
push_cell-requires c = omega (arith, pad_room c.loop-cell.invariant c.loop-cell-test.true (back _ (record { sfits = omega arith })) c.requires)

pub push_byte-requires : goal.push_byte-requires
push_byte-requires c = (omega arith, omega (arith, cell_longer _ _ c.push_cell.ensures, pad_room c.loop-cell.invariant c.loop-cell-test.true (back _ (record { sfits = omega arith })) c.requires))

pub push_byte-requires-else-field-grid : goal.push_byte-requires-else-field-grid
push_byte-requires-else-field-grid c = (omega arith, omega (arith, cell_longer _ _ c.push_cell.ensures, pad_room c.loop-cell.invariant c.loop-cell-test.true (back _ (record { sfits = omega arith })) c.requires))

pub returns : goal.returns
returns c = rows_done c.loop-cell.invariant c.loop-cell-test.false
