-- `boardbare::bare_board` meets its contract: what the three arrays hold is what BareView.antt asks for.
use Rattle.boardbare.specs.BareView.{accepted_cells}
use Rattle.boardbare.proofs.BareView.{bare_board}
use Rattle.boardbare.proofs.bare_board.Goals as goal

pub bare_ends-requires : goal.bare_ends-requires
bare_ends-requires c = accepted_cells _ _ c.args.grid.now.cells.now c.args.grid.now.accepted

pub returns : goal.returns
returns c = bare_board _ _ c.args.grid.now.cells.now c.args.grid.now.accepted _ c.bare_edges.ensures _ c.bare_ends.ensures _ c.all_kinds.ensures
