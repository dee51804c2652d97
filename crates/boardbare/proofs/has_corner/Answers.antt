-- `boardbare::has_corner` meets its contract, on each side.
use mathlib.Core.Path.{sym}
use Rattle.rules.specs.Grid.{grid_of}
use Rattle.boardbare.specs.BareArrays.{corner_test}
use Rattle.boardbare.proofs.has_corner.Goals as goal
use Rattle.boardbare.proofs.has_corner.Goals.{in-Left, in-Right}

pub returns-then-has_edge : goal.returns-then-has_edge
unfolding corner_test grid_of
returns-then-has_edge c = rw (sym (c.if-has_edge.ensures c.args.grid.now.cells.now)) (elim c.match-side.branch [ in-Left w ↦ rw w.in-Left.is w.beside-is | in-Right w ↦ rw w.in-Right.is w.beside-is ])

pub returns-else-has_edge : goal.returns-else-has_edge
unfolding corner_test grid_of
returns-else-has_edge c = rw (sym (c.if-has_edge.ensures c.args.grid.now.cells.now)) c.if-has_edge.false
