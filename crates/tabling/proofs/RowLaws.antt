-- Laws of printing a row: whether it is there by the tests that the code makes, its digits one after the other, and what stands in the array
-- of the line in the end. Assumes nothing.
use Prim.Native.Nat.{ℕ, ◌+◌, ◌*◌, ◌-◌, ◌/◌, ◌%◌, ◌≤◌, ◌<◌}
use mathlib.Core.Path.{◌≡◌, refl, sym, ap, ◌∙◌}
use mathlib.Core.Bool.{Bool, true, false, not}
use mathlib.Core.List.{List, [], ◌∷◌, ◌++◌, map, map-append, append_assoc}
use native.Mathlib.Nat.{add-sub_cancel_left}
use native.Mathlib.Numerals.{add-one}
use borrow.Author.Tests.{not-true, not-false, le-ltb, lt-ltb}
use lib.Dec.{ltb}
use lib.ListN.{length, get_or, take, drop, length-append, length-map}
use lib.Seq.{take-suc, length-take-le}
use Rattle.model.specs.Bounds.{is_size}
use Rattle.model.specs.Text.{bytes, line_end}
use Rattle.model.specs.Decimal.{digit_byte}
use Rattle.rules.specs.Grid.{field_side}
use Rattle.tabling.specs.Tabling.{has_row, table_digit, row_text}
use Rattle.tabling.specs.TableRows.{HasRow, what_a_row_has, no_row}
use Rattle.tabling.proofs.TableRows.{that_row}

-- ## Whether there is a row k

module _ (width rows k room : ℕ) where
  pub no_size : is_size width ≡ false → false ≡ has_row width rows k room
  unfolding has_row
  no_size w = simp w

  module _ (w : is_size width ≡ true) where
    pub not_counted : rows ≤ k → false ≡ has_row width rows k room
    unfolding has_row
    not_counted c = simp (w, le-ltb _ _ c)

    pub by_room : k < rows → ltb k (room / field_side width) ≡ has_row width rows k room
    unfolding has_row
    by_room c = simp (w, lt-ltb _ _ c)

  pub its_row : {answer : Bool} → answer ≡ has_row width rows k room → not answer ≡ false → HasRow width rows k room
  its_row {answer} says there = what_a_row_has width rows k room (sym says ∙ not-false answer there)

-- ## The digits of a row

module _ (first line row : List ℕ) (at : ℕ) where
  pub digit_pushed : at < length row → line ≡ first ++ map table_digit (take at row) → {line' : List ℕ}
      → line' ≡ line ++ ((48 + get_or row at 0 % 10) ∷ []) → line' ≡ first ++ map table_digit (take (at + 1) row)
  unfolding table_digit digit_byte
  digit_pushed h so_far pushed = pushed ∙ rw (so_far, add-one, take-suc row at 0 h, map-append) (append_assoc first (map table_digit (take at row)) ((48 + get_or row at 0 % 10) ∷ []))

  pub so_far_long : at ≤ length row → line ≡ first ++ map table_digit (take at row) → length line ≡ length first + at
  so_far_long h so_far = ap length so_far ∙ rw (length-append, length-map, length-take-le at row h) refl

-- ## The line

module _ (width rows k : ℕ) (table : List ℕ) where
  abbrev start : ℕ
  start = k * field_side width

  pub nothing : {answer : Bool} → answer ≡ has_row width rows k (length table) → not answer ≡ true → row_text width rows k table ≡ []
  nothing {answer} says none = no_row width rows k table (sym says ∙ not-true answer none)

  -- the digits of the part from the start of row k to its end, and the line's end
  pub row_written : HasRow width rows k (length table) → {digits : List ℕ}
      → digits ≡ [] ++ map table_digit (take (start + field_side width - start) (drop start table))
      → {line : List ℕ} → line ≡ digits ++ (10 ∷ []) → line ≡ row_text width rows k table
  unfolding line_end bytes
  row_written row p q = q ∙ rw (that_row width rows k table row, p, add-sub_cancel_left) refl
