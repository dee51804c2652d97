-- SMALL GRIDS ONE AFTER THE OTHER. A grid is told by a kind for each pad: 0 is a blank pad, 1 a hole, 2 + c the code c. Codes are numbered by their
-- first pad, so that of all grids that differ only in the names of their codes one is told (`Kinds`). They come in the order of a dictionary, pad
-- 0 first (`Before`), and `Next` says what comes after one. Nothing is proved here; the laws stand in KindLaws.antt.
use Rattle.std.specs.Prelude.{ℕ, zero, suc, ◌+◌, ◌-◌, ◌≤◌, ◌<◌, ◌≡◌, max, Bool, true, false, List, map, ℤ, pos, negsuc, length, get_or, replicate}

-- how many codes there are with a pad of this kind after so many
abbrev pub more_codes : ℕ → ℕ → ℕ
more_codes codes kind = max codes (kind - 1)

-- how many codes stand at the pads before this one
unfoldable pub codes_before : List ℕ → ℕ → ℕ
codes_before kinds zero = 0
codes_before kinds (suc pad) = more_codes (codes_before kinds pad) (get_or kinds pad 0)

-- KINDS OF A GRID: a code at a pad is at most the number of codes before it
pub record Kinds (kinds : List ℕ) : Type 0 where
  pub numbered : (pad : ℕ) → pad < length kinds → get_or kinds pad 0 ≤ codes_before kinds pad + 2

-- THE ORDER: at the first pad where two grids differ, the one before has the smaller kind
pub record Before (kinds other : List ℕ) : Type 0 where
  pub pad : ℕ
  pub inside : pad < length kinds
  pub same : (k : ℕ) → k < pad → get_or kinds k 0 ≡ get_or other k 0
  pub less : get_or kinds pad 0 < get_or other pad 0

-- THE NEXT GRID of so many pads: it comes later, with none between; after the last one comes the first again, which is blank
pub record Next (kinds : List ℕ) (more : Bool) (next : List ℕ) : Type 0 where
  pub same_pads : length next ≡ length kinds
  pub its_kinds : Kinds next
  pub later : more ≡ true → Before kinds next
  pub none_between : more ≡ true → (other : List ℕ) → Kinds other → length other ≡ length kinds → Before kinds other → Before other next → ⊥
  pub last : more ≡ false → (other : List ℕ) → Kinds other → length other ≡ length kinds → Before kinds other → ⊥
  pub blank_again : more ≡ false → next ≡ replicate (length kinds) 0

-- the cell of a kind, as the engines read it
abbrev pub cell_of_kind : ℕ → ℤ
cell_of_kind zero = negsuc 0
cell_of_kind (suc zero) = negsuc 1
cell_of_kind (suc (suc code)) = pos code

-- the cells of the kinds
abbrev pub cells_of : List ℕ → List ℤ
cells_of kinds = map cell_of_kind kinds
