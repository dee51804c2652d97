-- `boardfresh::shut_holes` meets its contract: the holes before a pad are shut, and the pads left fall. Assumes nothing.
use Prim.Native.Nat.{◌≤◌}
use Rattle.rules.specs.Grid.{pads}
use Rattle.boardview.specs.View.{grid_in}
use Rattle.boardfresh.specs.Shutting.{ShutBefore}
use Rattle.boardfresh.proofs.shut_holes.Given as goal

abbrev pub invariant-loop-v : goal.invariant-loop-v
invariant-loop-v l = (l.v ≤ pads (grid_in l.kinds)) × ShutBefore (grid_in l.kinds) l.initial.board l.v l.board
