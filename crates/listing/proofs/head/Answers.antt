-- `listing::head` meets its contract: a refused file is told by why and where, and an accepted one with what the search of its grid finds.
-- Assumes nothing.
use Rattle.std.proofs.lemmas.Result.{err_from_is_err_and}
use Rattle.listing.specs.HeadLaws.{refused_head, accepted_head}
use Rattle.listing.proofs.head.Goals as goal

pub returns-in_err-grid : goal.returns-in_err-grid
returns-in_err-grid c = let p = err_from_is_err_and c.from_residual.result c.from_residual.ensures.1 in rw (p.1, p.2) (refused_head _ _ _ _ c.in_err-grid.ensures)

pub returns : goal.returns
returns c = accepted_head _ _ _ c.in_ok-grid.grid c.in_ok-grid.ensures _ _ (rw (c.accepted.ensures.height, c.accepted.ensures.width, c.accepted.ensures.cells) at c.search-found.ensures)
