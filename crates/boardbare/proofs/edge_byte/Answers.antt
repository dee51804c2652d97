-- `boardbare::edge_byte` meets its contract: undecided where the edge of the slot is on the board.
use borrow.Author.Tests.{lt-ltb}
use mathlib.Core.Bool.{true, false}
use mathlib.Core.Path.{sym}
use Rattle.rules.specs.Grid.{grid_of}
use Rattle.grid.specs.AsGrid.{as_grid}
use Rattle.boardbare.specs.BareArrays.{edge_byte}
use Rattle.boardbare.specs.EdgeBytes.{byte_by_test}
use Rattle.boardbare.proofs.edge_byte.Goals as goal

pub returns-then-slot-lt32 : goal.returns-then-slot-lt32
unfolding edge_byte
returns-then-slot-lt32 c = rw (lt-ltb _ _ c.if-slot-lt32.true)

pub returns-then-has_edge : goal.returns-then-has_edge
unfolding grid_of
returns-then-has_edge c =
    let place = c.first_pad.ensures in
    byte_by_test (as_grid c.args.grid.now) _ c.if-slot-lt32.false _ c.direction_at-direction.ensures true (sym (rw place at c.if-has_edge.ensures c.args.grid.now.cells.now))

pub returns-else-has_edge : goal.returns-else-has_edge
unfolding grid_of
returns-else-has_edge c =
    let place = c.first_pad.ensures in
    byte_by_test (as_grid c.args.grid.now) _ c.if-slot-lt32.false _ c.direction_at-direction.ensures false (sym (rw place at c.if-has_edge.ensures c.args.grid.now.cells.now))
