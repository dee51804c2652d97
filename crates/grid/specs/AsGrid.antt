-- The rules' grid that an accepted grid of the code is, and the test of an edge to the right at a pad of it. Assumes nothing.
use Rattle.std.specs.Prelude.{ℕ, ◌*◌, ◌<◌, ◌≡◌, refl, Bool, true, false, ◌&&◌, ltb}
use Rattle.std.proofs.Common.{lt-ltb}
use Rattle.rules.specs.Grid as rules
use Rattle.rules.specs.Grid.{right, grid_of}
use Rattle.model.specs.PadTests.{has_right, on_board}
use Rattle.grid.specs.declared.accepted.Grid.{Grid}

abbrev pub as_grid : Grid → rules.Grid
as_grid grid = grid_of grid.height grid.width grid.cells.now

-- the edge to the right of a pad is on the board where the pad is not in the last column
pub right_on_board : (grid : Grid) (v : ℕ) → v < grid.height * grid.width → on_board (as_grid grid) (right v) ≡ has_right (as_grid grid) v
unfolding grid_of
right_on_board grid v inside = go (has_right (as_grid grid) v)
  where
    go : (b : Bool) → b && ltb v (grid.height * grid.width) ≡ b
    go true = lt-ltb v (grid.height * grid.width) inside
    go false = refl
