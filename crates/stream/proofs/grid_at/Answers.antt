-- `stream::grid_at` is safe: two bytes have a product that fits. Assumes nothing.
use native.Mathlib.Nat.{mul-le-mul}
use Prim.Native.Nat.{◌≤◌}
use native.Mathlib.Omega.{arith}
use Rattle.stream.proofs.grid_at.Goals as goal

pub overflow_mul-count : goal.overflow_mul-count
overflow_mul-count c = let h : c.from-height.result ≤ 255 = omega (arith, c.byte_at.type_inv, c.from-height.ensures) in let w : c.from-width.result ≤ 255 = omega (arith, c.byte_at-2.type_inv, c.from-width.ensures) in omega (arith, mul-le-mul h w)
