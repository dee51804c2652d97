-- `boardbare::bare_edges` meets its contract: the loop has filled the bytes from the slot on.
use Prim.Native.Nat.{◌≤◌, ◌*◌}
use Rattle.boardbare.specs.BareArrays.{EdgesFrom}
use Rattle.boardbare.proofs.bare_edges.Given as goal

abbrev pub invariant-loop-slot : goal.invariant-loop-slot
invariant-loop-slot l = (l.slot ≤ 1024) × EdgesFrom l.grid.width (l.grid.height * l.grid.width) l.slot l.edges
