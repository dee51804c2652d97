-- The loop's invariant: the pads passed have their cells.
use Rattle.engines.specs.Kinds.{cell_of_kind}
use Prim.Native.Nat.{ℕ, ◌<◌}
use mathlib.Core.Path.{◌≡◌}
use lib.ListN.{get_or, length}
use lib.IntN.{negsuc}
use Rattle.engines.proofs.compare_kinds.Given as goal

abbrev pub invariant-loop-pad : goal.invariant-loop-pad
invariant-loop-pad l = (length l.cells ≡ 9) × ((k : ℕ) → k < l.pad → get_or l.cells k (negsuc 0) ≡ cell_of_kind (get_or l.kinds k 0))
