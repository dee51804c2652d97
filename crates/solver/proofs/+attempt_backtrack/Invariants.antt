-- The search: an attempt goes on at a later pad, so twice the pads left, plus one in backtrack, falls. Each path of the code is one law of
-- SearchLaws.antt. Assumes nothing.
use Prim.Native.Nat.{◌+◌, ◌*◌, ◌-◌}
use mathlib.Core.Path.{◌≡◌}
use Rattle.rules.specs.Grid.{pads}
use Rattle.boardview.specs.View.{grid_in, view}
use Rattle.searchview.specs.Searched.{Going, events_left}
use Rattle.std.specs.Prelude.{Ok}
use Rattle.solver.specs.Answers.{so_far}
use Rattle.solver.proofs.+attempt_backtrack.Given as goal

abbrev pub decreases-attempt : goal.decreases-attempt
decreases-attempt l = 2 * (pads (grid_in l.kinds.now) - l.v)

abbrev pub decreases-backtrack : goal.decreases-backtrack
decreases-backtrack l = 2 * (pads (grid_in l.kinds.now) - l.v) + 1

abbrev pub invariant-backtrack-loop-m : goal.invariant-backtrack-loop-m
invariant-backtrack-loop-m l = Going (grid_in l.kinds) l.limit l.v l.initial.board (so_far (grid_in l.kinds) (Ok tt) l.initial.tally l.initial.buffer) (events_left (grid_in l.kinds) l.v (view l.initial.board) (4 - l.m) l.m) l.board (so_far (grid_in l.kinds) (Ok tt) l.tally l.buffer) × (l.board.count ≡ l.initial.board.count)
