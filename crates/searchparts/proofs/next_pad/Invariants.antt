-- The loop passes only pads whose right edge is decided. Assumes nothing.
use Prim.Native.Nat.{ℕ, ◌+◌, ◌*◌, ◌≤◌, ◌<◌}
use mathlib.Core.Path.{◌≡◌}
use lib.ListN.{get_or}
use Rattle.searchparts.proofs.next_pad.Given as goal

abbrev pub invariant-loop-v : goal.invariant-loop-v
invariant-loop-v l = (k : ℕ) → l.from ≤ k → k < l.v → get_or l.edges (32 + 2 * k) 0 ≡ 0 → ⊥
