-- A refused grid leaves everything as it was; an accepted one is searched. Assumes nothing.
use Rattle.std.proofs.lemmas.Result.{err_from_is_err_and}
use Rattle.solver.specs.SolveLaws.{solve_refused}
use Rattle.solver.proofs.solve.Goals as goal

pub returns-in_err-grid : goal.returns-in_err-grid
returns-in_err-grid c = let p = err_from_is_err_and c.from_residual.result c.from_residual.ensures.1 in rw (p.1, p.2) (solve_refused _ _ _ _ _ _ c.in_err-grid.ensures.says)

pub returns : goal.returns
returns c = let same = c.in_ok-grid.ensures.same in rw (← same.0, ← same.1, ← same.2) c.search.ensures
