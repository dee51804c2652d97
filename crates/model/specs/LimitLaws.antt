-- Every limit can be given, and a limit is read as its own digits: `own_digits`. A text that is longer than the digits of the largest is none.
-- It rests on RoutesTo.antt and the laws of decimal numbers.
-- What is proved of them stands in proofs/LimitLaws.antt.
use Rattle.std.specs.Prelude.{ℕ, ◌≡◌, true, List}
use Rattle.model.specs.RoutesTo.{all_digits, value_after}

-- ## The digits of a number

pub record Says (number : ℕ) (text : List ℕ) : Type 0 where
  pub digits : all_digits text ≡ true
  pub value : value_after 0 text ≡ number
