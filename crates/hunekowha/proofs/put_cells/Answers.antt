-- `hunekowha::put_cells` meets its contract: the cells are those of the grid, or blank ones. Assumes nothing.
use mathlib.Core.Path.{refl}
use Rattle.hunekowha.proofs.Short.{put_front}
use Rattle.hunekowha.proofs.put_cells.Goals as goal

pub returns-in-Ok : goal.returns-in-Ok
returns-in-Ok c = rw c.in-Ok.is (put_front c.args.cells.now {new = c.in-Ok.grid.cells} refl c.put.ensures)

pub returns-in-Err : goal.returns-in-Err
returns-in-Err c = rw c.in-Err.is (put_front c.args.cells.now c.no_cells.ensures c.put-in-Err.ensures)
