-- `boardbare::bytes_equal` meets its contract: four tests are added up.
use Rattle.std.proofs.Common.{arith}
use Rattle.std.specs.Prelude.{eqb}
use Rattle.grid.specs.Numbers.{test_number}
use Rattle.rules.specs.Tests.{num_small}
use Rattle.boardbare.proofs.bytes_equal.Goals as goal

pub returns : goal.returns
returns c =
    let a = c.args in
    let l = test_number (eqb a.left a.byte) in
    let r = test_number (eqb a.right a.byte) in
    let u = test_number (eqb a.up a.byte) in
    let d = test_number (eqb a.down a.byte) in
    (cc (l, r, u, d), omega (arith, l, r, u, d, num_small (eqb a.left a.byte), num_small (eqb a.right a.byte), num_small (eqb a.up a.byte), num_small (eqb a.down a.byte)))
