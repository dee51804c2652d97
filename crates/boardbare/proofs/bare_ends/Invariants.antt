-- `boardbare::bare_ends` meets its contract: the loop has filled the ends from the pad on.
use Prim.Native.Nat.{◌≤◌}
use Rattle.boardbare.specs.BareArrays.{EndsFrom}
use Rattle.boardbare.proofs.bare_ends.Given as goal

abbrev pub invariant-loop-v : goal.invariant-loop-v
invariant-loop-v l = (l.v ≤ 512) × EndsFrom l.cells l.v l.ends
