-- The walk: a code goes on at the next pad, so twice the pads left, plus one in `walk_on`, falls. Each path of the code is one law of Steps.antt.
-- Assumes nothing.
use Prim.Native.Nat.{◌+◌, ◌*◌, ◌-◌, ◌≤◌}
use Rattle.rules.specs.Grid.{places}
use Rattle.grid.specs.AsGrid.{as_grid}
use Rattle.std.specs.Prelude.{Ok}
use Rattle.tally.specs.Counts.{progress_of}
use Rattle.walking.specs.Walked.{Going}
use Rattle.walking.proofs.+give_walk_on.Given as goal

abbrev pub decreases-give : goal.decreases-give
decreases-give l = 2 * (l.grid.now.height * l.grid.now.width - l.v)

abbrev pub decreases-walk_on : goal.decreases-walk_on
decreases-walk_on l = 2 * (l.grid.now.height * l.grid.now.width - l.v) + 1

abbrev pub invariant-walk_on-loop-m : goal.invariant-walk_on-loop-m
invariant-walk_on-loop-m l =
    (l.m ≤ 4) × Going (as_grid l.grid) l.limit l.v (4 - l.m) l.m l.initial.bytes (progress_of (places l.grid.height l.grid.width) (Ok tt) l.initial.tally l.initial.buffer) l.bytes (progress_of (places l.grid.height l.grid.width) (Ok tt) l.tally l.buffer)
