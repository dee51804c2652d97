-- What is counted over many grids: sums that stop at the largest number of 64 bits. Nothing is proved here.
use Rattle.std.specs.Prelude.{ℕ, ◌+◌, min, Bool, true, false}
use Rattle.engines.specs.declared.Compared.{Compared}
use Rattle.engines.specs.declared.Sums.{Sums}

abbrev pub largest : ℕ
largest = 18446744073709551615

abbrev pub sum : ℕ → ℕ → ℕ
sum a b = min (a + b) largest

-- 1 where the test holds
abbrev pub one_if : Bool → ℕ
one_if true = 1
one_if false = 0

-- WITH ONE GRID MORE: it is counted, and counted as equal where it is
abbrev pub with_grid : Sums → Compared → Sums
with_grid sums compared = record {
  grids = sum sums.grids 1;
  equal = sum sums.equal (one_if compared.equal);
  layouts = sum sums.layouts compared.layouts;
  visited = sum sums.visited compared.visited;
  tried = sum sums.tried compared.tried;
}
