-- A refused grid leaves everything as it was; for an accepted one the counts from an empty tally are the model's result. Assumes nothing.
use Rattle.std.proofs.lemmas.Result.{err_from_is_err_and}
use Rattle.walking.proofs.Answered.{walk_refused, walk_accepted}
use Rattle.walking.proofs.walk.Goals as goal

pub returns-in_err-grid : goal.returns-in_err-grid
returns-in_err-grid c =
    let p = err_from_is_err_and c.from_residual.result c.from_residual.ensures.1 in
    rw (p.1, p.2) (walk_refused _ _ _ _ _ _ c.in_err-grid.ensures.says)

pub returns : goal.returns
returns c = walk_accepted _ _ _ _ _ c.in_ok-grid.ensures.says c.in_ok-grid.grid c.in_ok-grid.ensures.same _ _ c.walk_grid.ensures
