-- The byte by byte reading, taken field by field: where it stands at the first byte of a field and inside it, what a digit and the sign of
-- a hole do, and what the byte does that ends the field, in a row and in the header. Reader and writer both stand on it.
use Rattle.std.specs.Prelude.{if◌then◌else◌}
use Rattle.std.specs.Prelude.{◌≡◌, refl, Bool, true, false, ◌||◌, List, [], ◌∷◌, ℕ, suc, ◌+◌, ◌-◌, ◌*◌, ◌≤◌, ◌<◌, length, get_or, drop, set, ℤ, pos, eqb, ltb, leb}
use Rattle.std.proofs.Common.{sym, ap, ◌∙◌, ⊎_elim, add-zero, arith, length-drop, drop-drop, get_or-drop}
use borrow.Author.Tests.{leb-true, lt-ltb, le-ltb, ne_eqb, eq-eqb, eqb-true}
use Rattle.rules.specs.Grid.{largest_code}
use Rattle.rules.specs.Tests.{both, either}
use Rattle.model.specs.Bounds.{is_size, most_digits}
use Rattle.model.specs.GridFile.{Standing, is_digit, is_comma, is_line_end, is_hole_sign, begins_hole, is_allowed, disallowed_number, is_zero_alone, blank, hole, no_cells, is_complete, in_header, fields_due, field_cell, bad_size, refusal, with_digit, with_hole, begun, after, accepted, declined_reading, declined, read_from}

-- ## Where the reading stands

-- before the first byte of a field
unfoldable pub field_start : ℕ → ℕ → ℕ → ℕ → List ℤ → Standing
field_start line field height width cells =
    record {
      line = line;
      field = field;
      digits = 0;
      value = 0;
      drilled = false;
      height = height;
      width = width;
      cells = cells;
    }

-- a field as far as it has been read: how many digits, their value, and whether its `#` has been read
pub record Part : Type 0 where
  pub digits : ℕ
  pub value : ℕ
  pub drilled : Bool

-- some digits with their value, and the sign of a hole
abbrev pub some_digits : ℕ → ℕ → Part
some_digits digits value = record { digits = digits; value = value; drilled = false }

abbrev pub hole_alone : Part
hole_alone = record { digits = 0; value = 0; drilled = true }

-- inside a field, after a part of it
unfoldable pub in_field : Standing → Part → Standing
in_field s part =
    record {
      line = s.line;
      field = s.field;
      digits = part.digits;
      value = part.value;
      drilled = part.drilled;
      height = s.height;
      width = s.width;
      cells = s.cells;
    }

-- at the end of a field
abbrev pub field_ending : ℕ → ℕ → ℕ → ℕ → List ℤ → Part → Standing
field_ending line field height width cells part = in_field (field_start line field height width cells) part

-- the cell that a field stands for: `#` for a hole, empty for blank
unfoldable pub cell_of : Part → ℤ
cell_of part = if part.drilled then hole else if eqb part.digits 0 then blank else pos part.value

-- ## One byte

-- its place in the file
module _ (file : List ℕ) (byte : ℕ) (rest : List ℕ) (at : ℕ) (e : drop at file ≡ byte ∷ rest) where
  pub drop_next : drop (at + 1) file ≡ rest
  drop_next = sym (drop-drop 1 at file) ∙ ap (λ (l : List ℕ). drop 1 l) e

  pub place_inside : at < length file
  place_inside = omega (arith, sym (length-drop at file) ∙ ap (λ (l : List ℕ). length l) e)

  pub byte_there : get_or file at 0 ≡ byte
  byte_there = ap (λ (n : ℕ). get_or file n 0) (sym (add-zero at)) ∙ sym (get_or-drop at file 0 0) ∙ ap (λ (l : List ℕ). get_or l 0 0) e

-- what it does
module _ (s : Standing) (byte : ℕ) (bytes : List ℕ) where
  pub byte_accepted : refusal s byte ≡ 0 → read_from s (byte ∷ bytes) ≡ read_from (after s byte) bytes
  unfolding read_from
  byte_accepted h = rw (h, read_from)

  pub byte_refused : {number : ℕ} → refusal s byte ≡ suc number → read_from s (byte ∷ bytes) ≡ declined (suc number) s
  unfolding read_from
  byte_refused h = rw (h, read_from)

pub end_complete : (s : Standing) → is_complete s ≡ true → read_from s [] ≡ accepted s
unfolding read_from
end_complete s h = rw (h, read_from)

pub end_early : (s : Standing) → is_complete s ≡ false → read_from s [] ≡ declined 6 s
unfolding read_from
end_early s h = rw (h, read_from)

-- ## A digit, and the sign of a hole

pub digit_bounds : (byte : ℕ) → is_digit byte ≡ true → (48 ≤ byte) × (byte ≤ 57)
unfolding is_digit
digit_bounds byte h = let (low, high) = both (leb 48 byte) (leb byte 57) h in (leb-true _ _ low, leb-true _ _ high)

-- a digit is none of the other bytes
module _ (byte : ℕ) (d : is_digit byte ≡ true) where
  pub no_comma : is_comma byte ≡ false
  unfolding is_comma
  no_comma = ne_eqb byte 44 (λ (e : byte ≡ 44). omega (arith, (digit_bounds byte d).0))

  pub no_line_end : is_line_end byte ≡ false
  unfolding is_line_end
  no_line_end = ne_eqb byte 10 (λ (e : byte ≡ 10). omega (arith, (digit_bounds byte d).0))

  pub no_hole_sign : is_hole_sign byte ≡ false
  unfolding is_hole_sign
  no_hole_sign = ne_eqb byte 35 (λ (e : byte ≡ 35). omega (arith, (digit_bounds byte d).0))

-- and what ends a field is no digit
no_digit : (byte : ℕ) → is_comma byte || is_line_end byte ≡ true → is_digit byte ≡ false
unfolding is_comma is_line_end is_digit
no_digit byte c = ⊎_elim (λ h. rw (eqb-true byte 44 h) refl) (λ h. rw (eqb-true byte 10 h) refl) (either (is_comma byte) (is_line_end byte) c)

module _ (s : Standing) (open_yet : is_complete s ≡ false) where
  pub still_open : (part : Part) → is_complete (in_field s part) ≡ false
  unfolding is_complete in_header in_field
  still_open part = open_yet

  module _ (byte digits value : ℕ) (d : is_digit byte ≡ true) where
    pub refusal_15 : is_zero_alone digits value ≡ true → refusal (in_field s (some_digits digits value)) byte ≡ 15
    unfolding refusal is_allowed in_field
    refusal_15 z = simp (still_open (some_digits digits value), d, z, no_comma byte d, no_line_end byte d)

    module _ (more : is_zero_alone digits value ≡ false) where
      pub refusal_2 : eqb digits most_digits ≡ true → refusal (in_field s (some_digits digits value)) byte ≡ 2
      unfolding refusal is_allowed in_field
      refusal_2 e = simp (still_open (some_digits digits value), d, more, e, no_comma byte d, no_line_end byte d)

      pub digit_accepted : eqb digits most_digits ≡ false → refusal (in_field s (some_digits digits value)) byte ≡ 0
      unfolding refusal is_allowed in_field
      digit_accepted e = simp (still_open (some_digits digits value), d, more, e, no_comma byte d, no_line_end byte d)

  -- a digit more
  pub digit_read : (byte : ℕ) (bytes : List ℕ) (digits value : ℕ) → is_digit byte ≡ true → is_zero_alone digits value ≡ false → eqb digits most_digits ≡ false → read_from (in_field s (some_digits digits value)) (byte ∷ bytes) ≡ read_from (in_field s (some_digits (digits + 1) (value * 10 + (byte - 48)))) bytes
  unfolding after with_digit in_field
  digit_read byte bytes digits value d more e = byte_accepted (in_field s (some_digits digits value)) byte bytes (digit_accepted byte digits value d more e) ∙ simp d

  -- the sign of a hole, at the start of a field of a row
  pub hole_read : (bytes : List ℕ) → in_header s ≡ false → read_from (in_field s (some_digits 0 0)) (35 ∷ bytes) ≡ read_from (in_field s hole_alone) bytes
  unfolding after with_hole refusal is_allowed begins_hole is_digit is_comma is_line_end is_hole_sign in_header in_field
  hole_read bytes h = byte_accepted (in_field s (some_digits 0 0)) 35 bytes (simp (still_open (some_digits 0 0), h))

  module _ (byte : ℕ) (part : Part) where
    pub refusal_disallowed : is_allowed (in_field s part) byte ≡ false → refusal (in_field s part) byte ≡ disallowed_number part.digits
    unfolding refusal in_field
    refusal_disallowed a = simp (still_open part, a)

    pub refusal_3 : is_comma byte || is_line_end byte ≡ true → ltb largest_code part.value ≡ true → refusal (in_field s part) byte ≡ 3
    unfolding refusal is_allowed in_field
    refusal_3 c v = simp (still_open part, c, no_digit byte c, v)

-- ## The byte that ends a field

-- in a row
module _ (line field height width : ℕ) (cells : List ℤ) (in_rows : 2 ≤ line) (row_left : line < height + 2) where
  no_header : eqb line 1 ≡ false
  no_header = ne_eqb line 1 (λ (e : line ≡ 1). omega arith)

  pub row_open : is_complete (field_start line field height width cells) ≡ false
  unfolding is_complete in_header field_start
  row_open = simp (no_header, ne_eqb line (height + 2) (λ (e : line ≡ height + 2). omega arith))

  module _ (part : Part) (rest : List ℕ) (sound : part.value ≤ largest_code) where
    here_open : is_complete (field_ending line field height width cells part) ≡ false
    here_open = still_open (field_start line field height width cells) row_open part

    pub row_too_short : field < width → read_from (field_ending line field height width cells part) (10 ∷ rest) ≡ declined_reading 4 line field
    unfolding refusal declined field_start in_field in_header fields_due is_digit is_comma is_line_end is_allowed
    row_too_short h = byte_refused _ 10 rest (simp (here_open, le-ltb _ _ sound, no_header, lt-ltb _ _ h))

    pub row_ends : width ≤ field → read_from (field_ending line field height width cells part) (10 ∷ rest) ≡ read_from (field_start (line + 1) 1 height width (set cells ((line - 2) * width + (field - 1)) (cell_of part))) rest
    unfolding refusal after begun field_cell cell_of field_start in_field in_header fields_due is_digit is_comma is_line_end is_hole_sign is_allowed
    row_ends h = byte_accepted _ 10 rest (simp (here_open, le-ltb _ _ sound, no_header, le-ltb _ _ h)) ∙ simp no_header

    pub row_too_long : field ≡ width → read_from (field_ending line field height width cells part) (44 ∷ rest) ≡ declined_reading 4 line field
    unfolding refusal declined field_start in_field in_header fields_due is_digit is_comma is_line_end is_allowed
    row_too_long h = byte_refused _ 44 rest (simp (here_open, le-ltb _ _ sound, no_header, eq-eqb _ _ h))

    pub row_goes_on : (field ≡ width → ⊥) → read_from (field_ending line field height width cells part) (44 ∷ rest) ≡ read_from (field_start line (field + 1) height width (set cells ((line - 2) * width + (field - 1)) (cell_of part))) rest
    unfolding refusal after begun field_cell cell_of field_start in_field in_header fields_due is_digit is_comma is_line_end is_hole_sign is_allowed
    row_goes_on h = byte_accepted _ 44 rest (simp (here_open, le-ltb _ _ sound, no_header, ne_eqb _ _ h)) ∙ simp no_header

-- in the header: H, then W
pub header_open : (field height : ℕ) → is_complete (field_start 1 field height 0 no_cells) ≡ false
unfolding is_complete in_header field_start
header_open field height = refl

module _ (digits value : ℕ) (rest : List ℕ) (sound : value ≤ largest_code) where
  pub header_too_short : read_from (field_ending 1 1 0 0 no_cells (some_digits digits value)) (10 ∷ rest) ≡ declined_reading 4 1 1
  unfolding refusal declined field_start in_field is_complete in_header fields_due is_digit is_comma is_line_end is_allowed
  header_too_short = byte_refused _ 10 rest (simp (le-ltb _ _ sound))

  pub header_goes_on : read_from (field_ending 1 1 0 0 no_cells (some_digits digits value)) (44 ∷ rest) ≡ read_from (field_start 1 2 value 0 no_cells) rest
  unfolding refusal after begun field_start in_field is_complete in_header fields_due is_digit is_comma is_line_end is_hole_sign is_allowed
  header_goes_on = byte_accepted _ 44 rest (simp (le-ltb _ _ sound))

  module _ (height : ℕ) where
    pub header_too_long : read_from (field_ending 1 2 height 0 no_cells (some_digits digits value)) (44 ∷ rest) ≡ declined_reading 4 1 2
    unfolding refusal declined field_start in_field is_complete in_header fields_due is_digit is_comma is_line_end is_allowed
    header_too_long = byte_refused _ 44 rest (simp (le-ltb _ _ sound))

    pub bad_height : is_size height ≡ false → read_from (field_ending 1 2 height 0 no_cells (some_digits digits value)) (10 ∷ rest) ≡ declined_reading 5 1 1
    unfolding refusal declined field_start in_field bad_size is_complete in_header fields_due is_digit is_comma is_line_end is_allowed
    bad_height h = byte_refused _ 10 rest {number = 4} (simp (le-ltb _ _ sound, h)) ∙ simp h

    pub bad_width : is_size height ≡ true → is_size value ≡ false → read_from (field_ending 1 2 height 0 no_cells (some_digits digits value)) (10 ∷ rest) ≡ declined_reading 5 1 2
    unfolding refusal declined field_start in_field bad_size is_complete in_header fields_due is_digit is_comma is_line_end is_allowed
    bad_width h w = byte_refused _ 10 rest {number = 4} (simp (le-ltb _ _ sound, h, w)) ∙ simp (h, w)

    pub header_ends : is_size height ≡ true → is_size value ≡ true → read_from (field_ending 1 2 height 0 no_cells (some_digits digits value)) (10 ∷ rest) ≡ read_from (field_start 2 1 height value no_cells) rest
    unfolding refusal after begun field_start in_field bad_size is_complete in_header fields_due is_digit is_comma is_line_end is_hole_sign is_allowed
    header_ends h w = byte_accepted _ 10 rest (simp (le-ltb _ _ sound, h, w))
