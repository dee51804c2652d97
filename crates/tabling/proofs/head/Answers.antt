-- `tabling::head` meets its contract: a refused file is told by why and where, and an accepted one with what `common` answers for its first HW
-- cells. Assumes nothing.
use Rattle.std.proofs.lemmas.Result.{err_from_is_err_and}
use Rattle.tabling.specs.HeadLaws.{refused_head, tall, accepted_head}
use Rattle.tabling.proofs.head.Goals as goal

pub returns-in_err-grid : goal.returns-in_err-grid
returns-in_err-grid c = let p = err_from_is_err_and c.from_residual.result c.from_residual.ensures.1 in rw (p.1, p.2) (refused_head _ _ _ _ c.in_err-grid.ensures)

pub rows_in-requires : goal.rows_in-requires
rows_in-requires c = tall _ c.in_ok-grid.grid c.in_ok-grid.ensures

pub returns : goal.returns
returns c = rw (c.found_in.ensures, c.rows_in.ensures) (accepted_head _ c.in_ok-grid.grid c.in_ok-grid.ensures _ _ _ _ _ (rw c.accepted.ensures.cells at c.common-common.ensures))
