-- `boardbare::all_kinds` meets its contract.
use mathlib.Core.Path.{refl}
use Rattle.boardbare.proofs.BareView.{shows_grid, told}
use Rattle.boardbare.proofs.all_kinds.Goals as goal

pub invariant_of-result : goal.invariant_of-result
invariant_of-result c = record { told = told _ _ c.args.grid.now.cells.now c.args.grid.now.accepted _ c.all_bits-bits.ensures _ c.action_table-actions.ensures }

pub returns : goal.returns
returns c = shows_grid _ _ c.args.grid.now.cells.now c.args.grid.now.accepted _ c.all_bits-bits.ensures _ refl refl refl
