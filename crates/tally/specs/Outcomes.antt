-- Document 01's number of an outcome, which is 0 for a complete one alone. Assumes nothing.
use Rattle.std.specs.Prelude.{ℕ, ◌≡◌, refl, Bool, true, false, Result, Ok, Err, is_err}
use Rattle.std.proofs.Common.{arith}
use Rattle.tally.specs.declared.Stop.{Stop}
use Rattle.tally.specs.declared.Stop.TheVariants.{Spent, Full}

abbrev pub outcome_number : Result Unit Stop → ℕ
outcome_number (Ok all) = 0
outcome_number (Err Spent) = 1
outcome_number (Err Full) = 2

pub stopped_some : (stop : Stop) → outcome_number (Err stop) ≡ 0 → ⊥
stopped_some Spent is = omega arith
stopped_some Full is = omega arith

-- by the two tests of a Result
pub stopped_is : (outcome : Result Unit Stop) → true ≡ is_err outcome → outcome_number outcome ≡ 0 → ⊥
stopped_is (Ok all) is e = cc
stopped_is (Err stop) is e = stopped_some stop e

pub complete_is : (outcome : Result Unit Stop) → false ≡ is_err outcome → outcome ≡ Ok tt
complete_is (Ok all) is = refl
complete_is (Err stop) is = cc
