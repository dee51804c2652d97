-- The second pad of the edge at a slot, from its direction and its first pad.
use Prim.Native.Nat.{ℕ, ◌+◌, ◌-◌, ◌/◌, ◌%◌, ◌≤◌}
use mathlib.Core.Path.{◌≡◌, sym, ap, ◌∙◌}
use mathlib.Core.Bool.{Bool, true, false}
use native.Mathlib.Omega.{arith}
use Rattle.std.proofs.Math.Dec.{eqb}
use Rattle.rules.specs.Grid.{Edge, right, down, second}
use Rattle.grid.specs.declared.Direction.{Direction}
use Rattle.grid.specs.Directions.{edge_to}
use Rattle.boardview.specs.Told.{pick}
use Rattle.boardview.specs.View.{edge_of, second_pad}

pub second_of_slot : (width s : ℕ) → 32 ≤ s → (d : Direction) → edge_to d (s / 2 - 16) ≡ edge_of s → (v : ℕ) → v ≡ s / 2 - 16 → {q : ℕ} → q ≡ second width (edge_to d v)
    → q ≡ second_pad width s
unfolding edge_of
second_of_slot width s far d at v first is = is ∙ (ap (λ n. second width (edge_to d n)) first ∙ (ap (second width) at ∙ by_parity (eqb (s % 2) 0)))
  where
    by_parity : (b : Bool) → second width (pick b (right (s / 2 - 16)) (down (s / 2 - 16))) ≡ pick b (s / 2 - 15) (s / 2 - 16 + width)
    by_parity true = omega arith
    by_parity false = omega arith
