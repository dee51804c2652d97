-- WHAT IT IS THAT THE BARE ARRAYS SHOW THE MODEL'S BARE BOARD, for an accepted grid: arrays that are ready, whose kinds tell of the grid's
-- sizes and of its blank pads, clues and holes, and whose view is the model's bare board. What is proved of it stands in proofs/BareView.antt.
use Rattle.std.specs.Prelude.{ℕ, ◌≡◌, List, length, ℤ}
use Rattle.rules.specs.Grid.{Grid, Accepted}
use Rattle.model.specs.Board.{bare}
use Rattle.boardview.specs.declared.kinds.Kinds.{Kinds}
use Rattle.boardview.specs.View.{view, grid_in, Ready}
use Rattle.boardview.specs.SameKinds.{Shows}
use Rattle.boardbare.specs.BareArrays.{CellsInRange}

-- WHAT THE CALLERS OF THE BARE ARRAYS GET
pub record BareBoard (g : Grid) (edges : List ℕ) (ends : List ℤ) (kinds : Kinds) : Type 0 where
  pub told : Shows g kinds
  pub ready : (log : List ℤ) → length log ≡ 1440 → Ready (grid_in kinds) (record { edges = edges; ends = ends; log = log; count = 0 })
  pub shows : (log : List ℤ) → view (record { edges = edges; ends = ends; log = log; count = 0 }) ≡ bare g

-- the cells of an accepted grid are in range
pub accepted_cells : (height width : ℕ) (cells : List ℤ) → Accepted height width cells → CellsInRange cells
accepted_cells height width cells ok v h = ok.cells_in_range v (rw (← ok.one_cell_a_pad) h)
