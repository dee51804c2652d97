-- Records, drawings and pad codes determine each other: the byte of each edge stands at its place, the drawing that a record shows is the
-- drawing it was made of, drawings that agree on the board have one record, and equal codes at every pad mean the same drawing. The file
-- rests on Places.antt.
-- What is proved of them stands in proofs/RecordLaws.antt.
use Rattle.std.specs.Prelude.{ℕ, zero, suc, ◌+◌, ◌*◌, ◌%◌, ◌/◌, ◌≤◌, ◌<◌, ◌≡◌, get_or, length}
use Rattle.std.proofs.Math.Path.{refl, sym, ap}
use Rattle.std.proofs.Common.{◌∙◌, arith, mod-eq_of_lt, mul-le-mul_right, zero-mul, suc-add, add-zero, zero-add, add_assoc, add-one}
use mathlib.Core.List.{List, [], ◌∷◌, ◌++◌}
use Rattle.std.proofs.Math.Nat.{div-eq_of_lt, mul-add-div_right, mul-add-mod_self_right, suc-mul}
use Rattle.rules.specs.Grid.{Edge, place_at, places, field_side}
use Rattle.rules.specs.Record.{undecided_byte, tabulate, byte_at_place, field}

-- LISTS MADE BY A FUNCTION
pub length_tabulate : {A : Type 0} (f : ℕ → A) (start n : ℕ) → length (tabulate f start n) ≡ n
unfolding tabulate
length_tabulate f start zero = refl
length_tabulate f start (suc n) = ap suc (length_tabulate f (start + 1) n)

-- from one number later on, or one number more
pub plus_suc : (k j : ℕ) → k + 1 + j ≡ k + suc j
plus_suc k j = omega arith

pub get_d_tabulate : {A : Type 0} (f : ℕ → A) (start n i : ℕ) (default : A) → i < n → get_or (tabulate f start n) i default ≡ f (start + i)
unfolding tabulate
get_d_tabulate f start zero i default below = absurd (omega arith)
get_d_tabulate f start (suc n) zero default below = ap f (sym (add-zero start))
get_d_tabulate f start (suc n) (suc i) default below = get_d_tabulate f (start + 1) n i default (omega arith) ∙ ap f (plus_suc start i)

pub get_or_from_zero : {A : Type 0} (f : ℕ → A) (n i : ℕ) (default : A) → i < n → get_or (tabulate f 0 n) i default ≡ f i
get_or_from_zero f n i default below = get_d_tabulate f 0 n i default below ∙ ap f (zero-add i)

-- in two parts, and counted on from a number
pub tabulate_parts : {A : Type 0} (f : ℕ → A) (start n m : ℕ) → tabulate f start (n + m) ≡ tabulate f start n ++ tabulate f (start + n) m
unfolding tabulate
tabulate_parts f start zero m = ap (tabulate f start) (zero-add m) ∙ ap (λ (k : ℕ). tabulate f k m) (sym (add-zero start))
tabulate_parts f start (suc n) m =
    ap (tabulate f start) (suc-add n m)
    ∙ ap (λ l. f start ∷ l) (tabulate_parts f (start + 1) n m ∙ ap (λ (k : ℕ). tabulate f (start + 1) n ++ tabulate f k m) (plus_suc start n))

pub tabulate_from : {A : Type 0} (f : ℕ → A) (by start n : ℕ) → tabulate f (by + start) n ≡ tabulate (λ i. f (by + i)) start n
unfolding tabulate
tabulate_from f by start zero = refl
tabulate_from f by start (suc n) = ap (λ l. f (by + start) ∷ l) (ap (λ (k : ℕ). tabulate f k n) (add_assoc by start 1) ∙ tabulate_from f by (start + 1) n)

pub tabulate_same : {A : Type 0} (f h : ℕ → A) (start n : ℕ) → ((i : ℕ) → start ≤ i → i < start + n → f i ≡ h i) → tabulate f start n ≡ tabulate h start n
unfolding tabulate
tabulate_same f h start zero same = refl
tabulate_same f h start (suc n) same = rw (same start (omega arith) (omega arith), tabulate_same f h (start + 1) n (λ i l k. same i (omega arith) (omega arith)))

-- PLACE NUMBERS count the field row by row: the row and the column of a number
module _ (width row column : ℕ) (column_in : column < field_side width) where
  pub row_of_number : (row * field_side width + column) / field_side width ≡ row
  row_of_number = mul-add-div_right (omega arith) row column ∙ (let none : column / field_side width ≡ 0 = div-eq_of_lt column_in in omega arith)

  pub column_of_number : (row * field_side width + column) % field_side width ≡ column
  column_of_number = mul-add-mod_self_right row (field_side width) column ∙ mod-eq_of_lt column_in

  pub number_in_field : (height : ℕ) → row < field_side height → row * field_side width + column < places height width
  number_in_field height row_in =
      let rows : suc row * field_side width ≤ places height width = mul-le-mul_right (field_side width) row_in in
      let next_row = suc-mul row (field_side width) in
      omega arith

-- THE FIELD row by row: the byte at a row and a column
pub field_at : (height width : ℕ) (bytes : Edge → ℕ) (row column : ℕ) → row < field_side height → column < field_side width
    → get_or (field height width bytes) (row * field_side width + column) undecided_byte ≡ byte_at_place bytes (place_at width row column)
unfolding field
field_at height width bytes row column row_in column_in =
    get_or_from_zero (λ i. byte_at_place bytes (place_at width (i / field_side width) (i % field_side width))) (places height width)
    (row * field_side width + column) undecided_byte (number_in_field width row column column_in height row_in)
    ∙ (rw (row_of_number width row column column_in, column_of_number width row column column_in) refl)

-- one row of it, and so many rows from the first on
unfoldable pub field_row : ℕ → (Edge → ℕ) → ℕ → List ℕ
field_row width bytes row = tabulate (λ column. byte_at_place bytes (place_at width row column)) 0 (field_side width)

unfoldable pub field_rows : ℕ → (Edge → ℕ) → ℕ → List ℕ
field_rows width bytes rows = tabulate (λ i. byte_at_place bytes (place_at width (i / field_side width) (i % field_side width))) 0 (rows * field_side width)

module _ (width : ℕ) (bytes : Edge → ℕ) where
  abbrev side : ℕ
  side = field_side width

  abbrev byte_in_field : ℕ → ℕ
  byte_in_field i = byte_at_place bytes (place_at width (i / side) (i % side))

  pub no_rows : field_rows width bytes 0 ≡ []
  unfolding field_rows tabulate
  no_rows = ap (tabulate byte_in_field 0) (zero-mul side)

  pub length_rows : (rows : ℕ) → length (field_rows width bytes rows) ≡ rows * side
  unfolding field_rows
  length_rows rows = length_tabulate byte_in_field 0 (rows * side)

  pub next_rows : (rows : ℕ) → field_rows width bytes (rows + 1) ≡ field_rows width bytes rows ++ field_row width bytes rows
  unfolding field_rows field_row
  next_rows rows =
      ap (tabulate byte_in_field 0) (ap (λ (n : ℕ). n * side) (add-one rows) ∙ suc-mul rows side)
      ∙ tabulate_parts byte_in_field 0 (rows * side) side
      ∙ ap (λ (l : List ℕ). tabulate byte_in_field 0 (rows * side) ++ l)
      (ap (λ (n : ℕ). tabulate byte_in_field n side) (zero-add (rows * side) ∙ sym (add-zero (rows * side)))
      ∙ tabulate_from byte_in_field (rows * side) 0 side
      ∙ tabulate_same _ _ 0 side (λ column low high. rw (row_of_number width rows column (omega arith), column_of_number width rows column (omega arith)) refl))

  pub all_rows : (height : ℕ) → field_rows width bytes (field_side height) ≡ field height width bytes
  unfolding field_rows field
  all_rows height = refl

pub length_field : (height width : ℕ) (bytes : Edge → ℕ) → length (field height width bytes) ≡ places height width
unfolding field
length_field height width bytes = length_tabulate (λ i. byte_at_place bytes (place_at width (i / field_side width) (i % field_side width))) 0 (places height width)
