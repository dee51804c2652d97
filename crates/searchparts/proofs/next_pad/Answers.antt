-- The loop passes only pads whose right edge is decided. Assumes nothing.
use Prim.Native.Nat.{ℕ, ◌+◌, ◌*◌, ◌≤◌, ◌<◌}
use mathlib.Core.Path.{◌≡◌}
use native.Mathlib.Decide.{dec_lt}
use native.Mathlib.Omega.{arith}
use mathlib.Core.List.{List}
use lib.ListN.{get_or}
use Rattle.searchparts.proofs.next_pad.Goals as goal

-- one pad more is passed
more : (edges : List ℕ) (from v : ℕ) → ((k : ℕ) → from ≤ k → k < v → get_or edges (32 + 2 * k) 0 ≡ 0 → ⊥) → (get_or edges (32 + 2 * v) 0 ≡ 0 → ⊥)
    → (k : ℕ) → from ≤ k → k < v + 1 → get_or edges (32 + 2 * k) 0 ≡ 0 → ⊥
more edges from v before here k low high e = elim (dec_lt k v) [
  | yes less ↦ before k low less e
  | no not_less ↦ here (rw (same k v high not_less) at e)
]
  where
    same : (k v : ℕ) → k < v + 1 → (k < v → ⊥) → k ≡ v
    same k v high not_less = omega arith

pub returns-then-edges-v-eq-UNDECIDED : goal.returns-then-edges-v-eq-UNDECIDED
returns-then-edges-v-eq-UNDECIDED c = record { above = omega arith; later = omega arith; passed = c.loop-v.invariant; found = λ _. c.if-edges-v-eq-UNDECIDED.true }

pub loop-v-preserved : goal.loop-v-preserved
loop-v-preserved c = more c.args.edges.now c.args.from c.loop-v.v c.loop-v.invariant c.if-edges-v-eq-UNDECIDED.false

pub returns : goal.returns
returns c = record { above = omega arith; later = omega arith; passed = λ k low high. c.loop-v.invariant k low (omega arith); found = λ less. absurd (omega arith) }
