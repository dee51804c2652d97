-- `Board::new` meets its contract: a refused grid gives the blank board, an accepted one its fresh board. Assumes nothing.
use Rattle.board.specs.DecisionLaws.{refused, accepted}
use Rattle.board.proofs.parts.Board.new.Goals as goal

pub returns-in-Ok : goal.returns-in-Ok
returns-in-Ok c = accepted _ _ _ c.in-Ok.grid c.in-Ok.ensures.says c.in-Ok.ensures.same c.fresh.ensures

pub returns-in-Err : goal.returns-in-Err
returns-in-Err c = rw c.decline.ensures (refused _ _ _ _ c.in-Err.ensures.says c.blank.ensures)
