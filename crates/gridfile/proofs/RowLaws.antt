-- What the loop over a row keeps, and how each of its fields moves it on or ends it; what is left after the last row. Assumes nothing.
use mathlib.Core.Path.{◌≡◌, refl, sym, ap, ◌∙◌}
use mathlib.Core.Bool.{Bool, true, false, not, beq, true≢false}
use mathlib.Core.List.{List, ◌∷◌}
use Prim.Native.Nat.{ℕ, suc, ◌+◌, ◌-◌, ◌*◌, ◌≤◌, ◌<◌}
use native.Mathlib.Nat.{mul-le-mul}
use native.Mathlib.Omega.{arith}
use lib.ListN.{length, get_or, take, drop, set, drop_of_length-le}
use lib.Seq.{drop-cons}
use lib.IntN.{ℤ}
use lib.Dec.{eqb}
use borrow.Author.Tests.{eq-eqb, ne_eqb, eqb-true, eqb-false}
use Rattle.gridfile.specs.Rows.{Reached}
use Rattle.rules.specs.Grid.{Size, Accepted, largest_code}
use Rattle.model.specs.Bounds.{is_size}
use Rattle.model.specs.RefusalLaws.{size_of_test}
use Rattle.model.specs.GridFile as model
use Rattle.model.specs.GridFile.{start, fields_due, is_hole_sign, is_complete, in_header, refusal, accepted, declined_reading, declined, read_from, no_cells}
use Rattle.reading.specs.FieldSteps.{Part, field_start, field_ending, cell_of, byte_refused, end_complete, row_too_short, row_ends, row_too_long, row_goes_on}
use Rattle.reading.specs.ReadingLaws.{Sound, start_sound, read_from_sound}
use Rattle.gridfile.specs.Fields.{fault_number, row_field_at, located, part_of}
use Rattle.gridfile.specs.Answers.{reading_says}
use Rattle.gridfile.specs.declared.Declined.{Declined}
use Rattle.gridfile.specs.declared.Field.{Field}
use Rattle.gridfile.specs.declared.Fault.{Fault}
use Rattle.std.specs.Prelude.{Ok, Err}
use Rattle.gridfile.proofs.ReadLaws.{Ended, comma_there, FieldRead, row_read, by_refusal, by_ending, declined_there, row_value_ended, found_there}

-- two tests that differ, or agree
pub tests_differ : (a b : Bool) → not (beq a b) ≡ true → a ≡ b → ⊥
tests_differ true true h e = true≢false (sym h)
tests_differ true false h e = true≢false e
tests_differ false true h e = true≢false (sym e)
tests_differ false false h e = true≢false (sym h)

pub tests_agree : (a b : Bool) → not (beq a b) ≡ false → a ≡ b
tests_agree true true h = refl
tests_agree true false h = absurd (true≢false h)
tests_agree false true h = absurd (true≢false h)
tests_agree false false h = refl

-- the fields of a row below a column have been read: the column's field begins, or the next row
pub record RowRead (bytes : List ℕ) (height width row column : ℕ) (cells : List ℤ) (at : ℕ) (answer : model.Reading) : Type 0 where
  pub going : column < width → Reached bytes height width row column cells at answer
  pub done : column ≡ width → Reached bytes height width (row + 1) 0 cells at answer

pub row_begins : {bytes : List ℕ} {height width row : ℕ} {cells : List ℤ} {at : ℕ} {answer : model.Reading} → is_size width ≡ true → Reached bytes height width row 0 cells at answer → RowRead bytes height width row 0 cells at answer
row_begins {width = width} w r = record { going = λ _. r; done = λ (e : 0 ≡ width). absurd (omega (arith, (size_of_test width w).0)) }

module _ (bytes : List ℕ) (height width row column : ℕ) (cells : List ℤ) (at : ℕ) {answer : model.Reading} (r : Reached bytes height width row column cells at answer) (left : row < height) where
  here : FieldRead (row + 2) (column + 1) height width cells bytes at (is_hole_sign (get_or bytes at 0)) (row_field_at bytes at)
  here = row_read (row + 2) (column + 1) height width cells (omega arith) (omega arith) bytes at

  -- a field that is refused
  row_refused : (fault : Fault) → row_field_at bytes at ≡ Err fault → declined_reading (fault_number fault) (row + 2) (column + 1) ≡ answer
  row_refused fault e = by_refusal here fault e ∙ r.same

  pub row_declined : (declined : Declined) → Err declined ≡ located (row_field_at bytes at) (row + 2) (column + 1) → reading_says (Err declined) ≡ answer
  row_declined declined e = let t = declined_there (row_field_at bytes at) (row + 2) (column + 1) declined e in ap (λ (d : Declined). reading_says (Err d)) t.2 ∙ row_refused t.0 t.1

  module _ (found : Field) (e : row_field_at bytes at ≡ Ok found) where
    ended : Ended bytes at found
    ended = here.ended found e

    -- the field, as its cell is stored
    abbrev part : Part
    part = part_of (is_hole_sign (get_or bytes at 0)) (found.end - at) found.value

    small : part.value ≤ largest_code
    small = go (is_hole_sign (get_or bytes at 0))
      where
        go : (sign : Bool) → (part_of sign (found.end - at) found.value).value ≤ largest_code
        go true = omega arith
        go false = ended.sound

    by_byte : (byte : ℕ) → get_or bytes found.end 0 ≡ byte → {given : model.Reading} → read_from (field_ending (row + 2) (column + 1) height width cells part) (byte ∷ drop (found.end + 1) bytes) ≡ given → given ≡ answer
    by_byte byte b a = by_ending here found e byte b a ∙ r.same

    too_short : get_or bytes found.end 0 ≡ 10 → column + 1 < width → declined_reading 4 (row + 2) (column + 1) ≡ answer
    too_short b h = by_byte 10 b (row_too_short (row + 2) (column + 1) height width cells (omega arith) (omega arith) part (drop (found.end + 1) bytes) small h)

    too_long : (get_or bytes found.end 0 ≡ 10 → ⊥) → column + 1 ≡ width → declined_reading 4 (row + 2) (column + 1) ≡ answer
    too_long b h = by_byte 44 (comma_there bytes at found ended b) (row_too_long (row + 2) (column + 1) height width cells (omega arith) (omega arith) part (drop (found.end + 1) bytes) small h)

    -- a line ends before its last field, or goes on after it
    pub miscounted : column < width → (eqb (get_or bytes found.end 0) 10 ≡ eqb (column + 1) width → ⊥) → declined_reading 4 (row + 2) (column + 1) ≡ answer
    miscounted inside n = go (eqb (get_or bytes found.end 0) 10) (eqb (column + 1) width) refl refl
      where
        go : (ends last : Bool) → eqb (get_or bytes found.end 0) 10 ≡ ends → eqb (column + 1) width ≡ last → declined_reading 4 (row + 2) (column + 1) ≡ answer
        go true true p q = absurd (n (p ∙ sym q))
        go true false p q = too_short (eqb-true _ _ p) (omega (arith, eqb-false (column + 1) width q))
        go false true p q = too_long (eqb-false _ _ p) (eqb-true _ _ q)
        go false false p q = absurd (n (p ∙ sym q))

    module _ (stored : List ℤ) (s : stored ≡ set cells (row * width + column) (cell_of part)) where
      where_stored : stored ≡ set cells ((row + 2 - 2) * width + (column + 1 - 1)) (cell_of part)
      where_stored = s ∙ ap (λ (n : ℕ). set cells n (cell_of part)) same_index
        where
          row_back : row ≡ row + 2 - 2
          row_back = omega arith

          column_back : column ≡ column + 1 - 1
          column_back = omega arith

          same_index : row * width + column ≡ (row + 2 - 2) * width + (column + 1 - 1)
          same_index = ap (λ (n : ℕ). n * width + column) row_back ∙ ap (λ (n : ℕ). (row + 2 - 2) * width + n) column_back

      row_over : get_or bytes found.end 0 ≡ 10 → width ≤ column + 1 → Reached bytes height width (row + 1) 0 stored (found.end + 1) answer
      row_over b h =
          record {
            inside = omega (arith, ended.inside);
            same = rw (where_stored, next_line) (by_byte 10 b (row_ends (row + 2) (column + 1) height width cells (omega arith) (omega arith) part (drop (found.end + 1) bytes) small h));
          }
        where
          next_line : row + 1 + 2 ≡ row + 2 + 1
          next_line = omega arith

      next_column : (get_or bytes found.end 0 ≡ 10 → ⊥) → (column + 1 ≡ width → ⊥) → Reached bytes height width row (column + 1) stored (found.end + 1) answer
      next_column b h = record {
        inside = omega (arith, ended.inside);
        same = rw where_stored (by_byte 44 (comma_there bytes at found ended b) (row_goes_on (row + 2) (column + 1) height width cells (omega arith) (omega arith) part (drop (found.end + 1) bytes) small h));
      }

      pub column_read : column < width → eqb (get_or bytes found.end 0) 10 ≡ eqb (column + 1) width → RowRead bytes height width row (column + 1) stored (found.end + 1) answer
      column_read inside both = go (eqb (get_or bytes found.end 0) 10) (eqb (column + 1) width) refl refl
        where
          go : (ends last : Bool) → eqb (get_or bytes found.end 0) 10 ≡ ends → eqb (column + 1) width ≡ last → RowRead bytes height width row (column + 1) stored (found.end + 1) answer
          go true true p q = let e : column + 1 ≡ width = eqb-true _ _ q in record { going = λ (h : column + 1 < width). absurd (omega arith); done = λ _. row_over (eqb-true _ _ p) (omega arith) }
          go true false p q = let z : true ≡ false = sym p ∙ both ∙ q in absurd (true≢false z)
          go false true p q = let z : true ≡ false = sym q ∙ sym both ∙ p in absurd (true≢false z)
          go false false p q = record { going = λ _. next_column (eqb-false _ _ p) (eqb-false _ _ q); done = λ (h : column + 1 ≡ width). absurd (eqb-false _ _ q h) }

-- the cell of a pad
pub index_inside : (width row column : ℕ) → is_size width ≡ true → row < 16 → column < width → row * width + column < 256
index_inside width row column w few inside = omega (arith, up_to_here)
  where
    up_to_here : suc row * width ≤ 16 * 16
    up_to_here = mul-le-mul {n₁ = suc row} {n₂ = 16} (omega arith) (size_of_test width w).1

-- after the last row
module _ (bytes : List ℕ) (height width : ℕ) (cells : List ℤ) (at : ℕ) {answer : model.Reading} (r : Reached bytes height width height 0 cells at answer) where
  all_read : is_complete (field_start (height + 2) 1 height width cells) ≡ true
  unfolding is_complete in_header field_start
  all_read = simp (ne_eqb (height + 2) 1 (λ (e : height + 2 ≡ 1). omega arith), eq-eqb (height + 2) (height + 2) refl)

  pub byte_after : at < length bytes → declined_reading 6 (height + 2) 1 ≡ answer
  unfolding refusal declined field_start
  byte_after h = sym (rw (drop-cons bytes at 0 h) (byte_refused (field_start (height + 2) 1 height width cells) (get_or bytes at 0) (drop (suc at) bytes) {number = 5} (simp all_read))) ∙ r.same

  pub file_ends : length bytes ≤ at → record { number = 0; line = 0; field = 0; height = height; width = width; cells = cells } ≡ answer
  unfolding accepted field_start
  file_ends h = sym (rw (drop_of_length-le bytes h) (end_complete (field_start (height + 2) 1 height width cells) all_read)) ∙ r.same

-- the standing where the rows begin is sound
rows_sound : {height width : ℕ} → Size height → Size width → Sound (field_start 2 1 height width no_cells)
unfolding start fields_due in_header field_start
rows_sound high wide =
    record {
      cells_in_range = start_sound.cells_in_range;
      cell_count = start_sound.cell_count;
      line_from_1 = omega arith;
      field_from_1 = omega arith;
      field_due = omega (arith, wide.0);
      digits_due = omega arith;
      no_value = λ z. refl;
      no_leading_zero = λ z. omega arith;
      sizes_in_range = λ e. (high, wide, omega (arith, high.0));
    }

-- what was read from there on is a grid
pub grid_read : {height width : ℕ} {cells : List ℤ} → Size height → Size width → (rows : List ℕ) → record { number = 0; line = 0; field = 0; height = height; width = width; cells = cells } ≡ read_from (field_start 2 1 height width no_cells) rows → Accepted height width (take (height * width) cells)
grid_read high wide rows is = (rw (← is) at (read_from_sound _ rows (rows_sound high wide))).in_range refl

-- what the proofs of the functions of the rows are found by
pub ruleset row_laws = (row_begins, row_declined, index_inside, miscounted, column_read, byte_after, file_ends, grid_read, size_of_test, tests_differ, tests_agree, row_value_ended, found_there)
