-- What a refusal says: document 01's number and the index beside it, 0 for an accepted grid. Assumes nothing.
use Rattle.std.specs.Prelude.{ℕ, ◌≡◌, Result, Ok, Err}
use Rattle.std.proofs.Common.{arith}
use Rattle.grid.specs.declared.Refusal.{Refusal}
use Rattle.grid.specs.declared.Refusal.TheVariants.{Size, CellCount, Cell}

abbrev pub number_of : Refusal → ℕ
number_of Size = 7
number_of CellCount = 8
number_of (Cell index) = 9

abbrev pub index_of : Refusal → ℕ
index_of Size = 0
index_of CellCount = 0
index_of (Cell index) = index

abbrev pub refusal_says : {A : Type 0} → Result A Refusal → ℕ × ℕ
refusal_says (Ok accepted) = (0, 0)
refusal_says (Err refusal) = (number_of refusal, index_of refusal)

-- no refusal is numbered 0
pub some_number : (refusal : Refusal) → number_of refusal ≡ 0 → ⊥
some_number Size is = omega arith
some_number CellCount is = omega arith
some_number (Cell index) is = omega arith
