-- A test as a number, as the code has it and as the rules have it. Assumes nothing.
use Rattle.std.specs.Prelude.{◌≡◌, refl, Bool, true, false}
use Rattle.std.specs.Int.{from_bool}
use Rattle.rules.specs.Drawing.{num}

pub test_number : (b : Bool) → from_bool b ≡ num b
test_number true = refl
test_number false = refl
