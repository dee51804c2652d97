-- `grid::is_cell` meets its contract. Assumes nothing.
use Rattle.grid.proofs.Cells.{above_hole, below_hole}
use Rattle.grid.proofs.is_cell.Goals as goal

pub returns-then-cell-ge-HOLE : goal.returns-then-cell-ge-HOLE
returns-then-cell-ge-HOLE c = above_hole _ (record { sfits = c.ranges.cell.sfits }) c.if-cell-ge-HOLE.true

pub returns-else-cell-ge-HOLE : goal.returns-else-cell-ge-HOLE
returns-else-cell-ge-HOLE c = below_hole _ (record { sfits = c.ranges.cell.sfits }) c.if-cell-ge-HOLE.false
