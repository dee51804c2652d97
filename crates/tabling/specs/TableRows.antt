-- The rows of a table: what it means that there is a row k, what its line is where there is none, and all rows one after the other. It rests
-- on Tabling.antt. What is proved of the lines stands in proofs/TableRows.antt.
use Prim.Native.Nat.{ℕ, zero, suc, ◌+◌, ◌*◌, ◌/◌, ◌≤◌, ◌<◌}
use Rattle.std.specs.Prelude.{◌≡◌, true, false, ◌&&◌, List, [], ◌∷◌, ◌++◌, map, length, get_or}
use Rattle.std.proofs.Math.Path.{refl}
use Rattle.std.proofs.Common.{mod-eq_of_lt, le-div_iff_mul-le}
use native.Mathlib.Omega.{arith}
use borrow.Author.Tests.{ltb-true, lt-ltb}
use Rattle.std.proofs.Math.Dec.{ltb}
use Rattle.rules.specs.Grid.{field_side}
use Rattle.rules.specs.Tests.{both}
use Rattle.model.specs.Bounds.{is_size}
use Rattle.model.specs.RefusalLaws.{size_of_test}
use Rattle.model.specs.Decimal.{digit_byte}
use Rattle.tabling.specs.Tabling.{has_row, table_digit, row_text}

-- ## Row k

module _ (width rows k room : ℕ) where
  -- W is a size, k is below the rows, and the row ends in time
  pub record HasRow : Type 0 where
    pub wide : is_size width ≡ true
    pub counted : k < rows
    pub inside : k * field_side width + field_side width ≤ room

  some_places : is_size width ≡ true → 0 < field_side width
  some_places wide = omega (arith, (size_of_test width wide).0)

  pub what_a_row_has : has_row width rows k room ≡ true → HasRow
  unfolding has_row
  what_a_row_has e =
      let (ab, c) = both (is_size width && ltb k rows) (ltb k (room / field_side width)) e in
      let (a, b) = both (is_size width) (ltb k rows) ab in
      record { wide = a; counted = ltb-true _ _ b; inside = omega (arith, (le-div_iff_mul-le {x = suc k} {y = room} (some_places a)).0 (ltb-true _ _ c)) }

  pub row_is_there : HasRow → has_row width rows k room ≡ true
  unfolding has_row
  row_is_there t = rw (t.wide, lt-ltb _ _ t.counted, lt-ltb k (room / field_side width) ((le-div_iff_mul-le {x = suc k} {y = room} (some_places t.wide)).1 (omega (arith, t.inside)))) refl

module _ (width rows k : ℕ) (table : List ℕ) where
  pub no_row : has_row width rows k (length table) ≡ false → row_text width rows k table ≡ []
  unfolding row_text
  no_row e = rw e refl

-- ## All rows

-- so many rows from row k on
unfoldable pub rows_from : (width rows : ℕ) → List ℕ → (more k : ℕ) → List ℕ
rows_from width rows table zero k = []
rows_from width rows table (suc more) k = row_text width rows k table ++ rows_from width rows table more (k + 1)

-- the last digit of a byte that is at most 3 is the byte
pub small_digits : (bytes : List ℕ) → ((i : ℕ) → get_or bytes i 0 ≤ 3) → map table_digit bytes ≡ map digit_byte bytes
unfolding table_digit
small_digits [] small = refl
small_digits (byte ∷ bytes) small = rw (mod-eq_of_lt {n = byte} {m = 10} (omega (arith, small 0)), small_digits bytes (λ i. small (suc i))) refl
