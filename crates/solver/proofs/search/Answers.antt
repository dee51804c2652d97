-- The engine is the search, so what is handed back is what it says: the counts from an empty tally are the model's result. Assumes nothing.
use Rattle.std.proofs.Common.{rules}
use Rattle.solver.specs.SolveLaws.{solve_accepted}
use Rattle.solver.proofs.search.Goals as goal

pub returns : goal.returns
returns c = let e = c.lent.ensures in
    solve_accepted _ _ c.args.grid.now.cells.now _ _ c.args.grid.now.accepted _ _ (rw (← e.lends.0, ← e.lends.1, ← e.leaves.1) (search rules))
