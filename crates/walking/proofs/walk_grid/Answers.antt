-- The engine is the walk, so what is handed back is what it says from an empty tally. Assumes nothing.
use Rattle.std.proofs.Common.{rules}
use Rattle.walking.proofs.walk_grid.Goals as goal

pub returns : goal.returns
returns c = let e = c.lent.ensures in rw (← e.lends.0, ← e.lends.1, ← e.leaves.1) (search rules)
