-- `boardbare::all_bits` meets its contract. The loop has filled the bytes from the pad on.
use Prim.Native.Nat.{◌≤◌, ◌*◌}
use Rattle.grid.specs.AsGrid.{as_grid}
use Rattle.boardbare.specs.BareArrays.{BitsFrom}
use Rattle.boardbare.proofs.all_bits.Given as goal

abbrev pub invariant-loop-v : goal.invariant-loop-v
invariant-loop-v l = (l.v ≤ l.grid.height * l.grid.width) × BitsFrom (as_grid l.grid) l.v l.bits
