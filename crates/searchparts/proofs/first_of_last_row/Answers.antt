-- Sizes are at most 16, so the product fits. Assumes nothing.
use native.Mathlib.Omega.{arith}
use native.Mathlib.Nat.{mul-le-mul}
use Prim.Native.Nat.{◌-◌, ◌≤◌}
use Rattle.searchparts.proofs.first_of_last_row.Goals as goal

pub overflow_mul-result : goal.overflow_mul-result
overflow_mul-result c =
    let told = c.args.kinds.now.told in
    let a : c.args.kinds.now.height - 1 ≤ 15 = omega (arith, told.largest_height) in
    omega (arith, mul-le-mul a told.largest_width)
