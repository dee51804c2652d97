-- Writing what was read gives the file: for every accepted file the text of its grid is the file, byte for byte. What is left of the
-- file is followed byte by byte, behind what the field being read comes to so far.
use Rattle.std.specs.Prelude.{if◌then◌else◌}
use Rattle.std.specs.Prelude.{◌≡◌, Bool, not, ◌&&◌, ℕ, zero, suc, ◌+◌, ◌*◌, ◌-◌, ◌/◌, ◌%◌, ◌≤◌, length, take, ℤ}
use Rattle.std.proofs.Math.Path.{refl, sym, ap}
use Rattle.std.proofs.Common.{◌∙◌, true≢false, zero-add, arith, take_at}
use Rattle.std.proofs.Math.Bool.{true, false}
use mathlib.Core.List.{List, [], ◌∷◌, ◌++◌, append_assoc}
use Rattle.std.proofs.Math.ListN.{set}
use Rattle.std.proofs.lemmas.List.Edits.{sets, sets-eq}
use Rattle.std.proofs.Math.Seq.{append_snoc}
use Rattle.std.proofs.Math.IntN.{pos}
use Rattle.std.proofs.Math.Dec.{eqb}
use Rattle.rules.specs.Tests.{both, conflict}
use borrow.Author.Tests.{not-true, ne_eqb, eq-eqb, eqb-true, eqb-false}
use Rattle.rules.specs.Grid.{Size}
use Rattle.model.specs.Text.{bytes, comma, line_end, hole_sign}
use Rattle.model.specs.Decimal.{digit_byte, decimal}
use Rattle.model.proofs.DecimalLaws.{decimal_short, decimal_long}
use Rattle.model.specs.GridFile.{Standing, Reading, is_digit, is_comma, is_hole_sign, blank, hole, no_cells, start, in_header, fields_due, is_complete, field_cell, refusal, with_digit, with_hole, begun, after, accepted, declined, read_from, read}
use Rattle.model.specs.Writing.{cell_text, rows_text, grid_text}
use Rattle.reading.specs.FieldSteps.{digit_bounds}
use Rattle.reading.specs.ReadingLaws.{Passed, byte_passed, Kind, a_digit, a_hole_sign, a_comma, a_line_end, kind_of, Sound, start_sound, after_sound, begun_row, begun_header, due_row, due_header, two_fields, second_line, read_from_sound}
use Rattle.reading.specs.ReadBack.{text_parts}

-- ## The field being read

-- a digit more: the field, as its cell is written, is one byte longer
module _ (s : Standing) (sound : Sound s) where
  digit_kept : (byte : ℕ) (bytes : List ℕ) → is_digit byte ≡ true → s.drilled ≡ false → (s.digits ≡ 1 → s.value ≡ 0 → ⊥) → cell_text (field_cell s) ++ byte ∷ bytes ≡ cell_text (field_cell (with_digit s byte)) ++ bytes
  unfolding cell_text field_cell with_digit blank digit_byte
  digit_kept byte bytes d undrilled z = rw (undrilled, ne_eqb (s.digits + 1) 0 (λ (e : s.digits + 1 ≡ 0). omega arith)) (go (eqb s.digits 0) refl)
    where
      go : (t : Bool) → eqb s.digits 0 ≡ t → cell_text (if t then blank else pos s.value) ++ byte ∷ bytes ≡ decimal (s.value * 10 + (byte - 48)) ++ bytes
      go true t = sym (ap (λ (l : List ℕ). l ++ bytes) single)
        where
          first : s.value * 10 + (byte - 48) ≡ byte - 48
          first = omega (arith, sound.no_value (eqb-true s.digits 0 t))

          same : 48 + (byte - 48) ≡ byte
          same = omega (arith, (digit_bounds byte d).0)

          single : decimal (s.value * 10 + (byte - 48)) ≡ byte ∷ []
          single = rw first (decimal_short (byte - 48) (omega (arith, (digit_bounds byte d).1)) ∙ rw same refl)
      go false t = sym (ap (λ (l : List ℕ). l ++ bytes) longer ∙ append_snoc (decimal s.value) byte bytes)
        where
          some : s.value ≡ 0 → ⊥
          some e =
              let other : (s.digits ≡ 1 → ⊥) = (λ one. z one e) in
              omega (arith, sound.no_leading_zero e, other, eqb-false s.digits 0 t)

          tenth : (s.value * 10 + (byte - 48)) / 10 ≡ s.value
          tenth = omega (arith, (digit_bounds byte d).1)

          last : 48 + (s.value * 10 + (byte - 48)) % 10 ≡ byte
          last = omega (arith, (digit_bounds byte d).0, (digit_bounds byte d).1)

          longer : decimal (s.value * 10 + (byte - 48)) ≡ decimal s.value ++ byte ∷ []
          longer = decimal_long (s.value * 10 + (byte - 48)) (omega (arith, some)) ∙ rw (tenth, last) refl

-- the sign of a hole, which stands alone
sign_kept : (s : Standing) (bytes : List ℕ) → s.digits ≡ 0 → s.drilled ≡ false → cell_text (field_cell s) ++ 35 ∷ bytes ≡ cell_text (field_cell (with_hole s)) ++ bytes
unfolding cell_text field_cell with_hole blank hole hole_sign bytes
sign_kept s bytes first undrilled = rw (undrilled, first) refl

-- ## What is left of the file

-- a standing that reading comes to: the header has no `#`, and after the last row no field is begun
record Tidy (s : Standing) : Type 0 where
  no_sign : in_header s ≡ true → s.drilled ≡ false
  no_field : is_complete s ≡ true → (s.field ≡ 1) × (s.digits ≡ 0) × (s.drilled ≡ false)

-- the header's fields from the one being read on, by the sizes that were read in the end
unfoldable header_left : Standing → Reading → List ℕ
header_left s r =
    if not (in_header s) then []
    else if eqb s.field 1 then decimal r.height ++ 44 ∷ (decimal r.width ++ 10 ∷ [])
    else decimal r.width ++ 10 ∷ []

-- the first field of a row that is left, and the index of its pad
unfoldable field_left : Standing → ℕ
field_left s = if in_header s then 1 else s.field

unfoldable index_left : Standing → ℕ
index_left s = if in_header s then 0 else (s.line - 2) * s.width + (s.field - 1)

-- the cells that are still to be read, and what is left of the file behind the field being read
record Left (s : Standing) (bytes : List ℕ) (r : Reading) : Type 0 where
  cells_left : List ℤ
  stored : r.cells ≡ sets s.cells (index_left s) cells_left
  counted : index_left s + length cells_left ≡ r.height * r.width
  height_read : in_header s && eqb s.field 1 ≡ false → r.height ≡ s.height
  width_read : in_header s ≡ false → r.width ≡ s.width
  text : cell_text (field_cell s) ++ bytes ≡ header_left s r ++ rows_text r.width (field_left s) cells_left

module _ (s : Standing) (sound : Sound s) (tidy : Tidy s) where
  -- the file ends after the last row
  none_left : is_complete s ≡ true → Left s [] (accepted s)
  unfolding is_complete accepted header_left field_left index_left field_cell blank cell_text rows_text
  none_left c =
      record {
        cells_left = [];
        stored = refl;
        counted = rw rows (omega (arith, ap (λ (n : ℕ). n * s.width) all_rows, (tidy.no_field c).0));
        height_read = λ e. refl;
        width_read = λ e. refl;
        text = rw (rows, (tidy.no_field c).1, (tidy.no_field c).2) refl;
      }
    where
      rows : in_header s ≡ false
      rows = not-true (in_header s) (both (not (in_header s)) _ c).0

      ended : s.line ≡ s.height + 2
      ended = eqb-true _ _ (both (not (in_header s)) (eqb s.line (s.height + 2)) c).1

      all_rows : s.line - 2 ≡ s.height
      all_rows = omega (arith, ended)

  -- a digit, and the sign of a hole
  digit_left : (byte : ℕ) (bytes : List ℕ) (r : Reading) → is_digit byte ≡ true → s.drilled ≡ false → (s.digits ≡ 1 → s.value ≡ 0 → ⊥) → Left (with_digit s byte) bytes r → Left s (byte ∷ bytes) r
  unfolding with_digit in_header header_left field_left index_left
  digit_left byte bytes r d undrilled z left =
      record {
        cells_left = left.cells_left;
        stored = left.stored;
        counted = left.counted;
        height_read = left.height_read;
        width_read = left.width_read;
        text = digit_kept s sound byte bytes d undrilled z ∙ left.text;
      }

  hole_left : (bytes : List ℕ) (r : Reading) → s.digits ≡ 0 → s.drilled ≡ false → Left (with_hole s) bytes r → Left s (35 ∷ bytes) r
  unfolding with_hole in_header header_left field_left index_left
  hole_left bytes r first undrilled left =
      record {
        cells_left = left.cells_left;
        stored = left.stored;
        counted = left.counted;
        height_read = left.height_read;
        width_read = left.width_read;
        text = sign_kept s bytes first undrilled ∙ left.text;
      }

  -- a field of the header that ends here, as a size is written
  size_written : in_header s ≡ true → 2 ≤ s.value → cell_text (field_cell s) ≡ decimal s.value
  unfolding cell_text field_cell
  size_written h big = rw (tidy.no_sign h, ne_eqb s.digits 0 (λ e. omega (arith, sound.no_value e))) refl

  module _ (bytes : List ℕ) (r : Reading) where
    -- a field of a row has ended, and the next begins at another line or field; what is written there is the cell and the byte
    row_left : (byte line field : ℕ) → in_header s ≡ false → eqb line 1 ≡ false
        → (line - 2) * s.width + (field - 1) ≡ suc ((s.line - 2) * s.width + (s.field - 1))
        → ((cells : List ℤ) → rows_text s.width s.field (field_cell s ∷ cells) ≡ cell_text (field_cell s) ++ byte ∷ rows_text s.width field cells)
        → Left (begun s line field) bytes r → Left s (byte ∷ bytes) r
    unfolding in_header header_left field_left index_left field_cell blank cell_text
    row_left byte line field rows rows_after next separated left =
        record {
          cells_left = field_cell s ∷ l.cells_left;
          stored = l.stored ∙ rw (rows_after, rows, next) refl;
          counted = rw rows (omega (arith, rw (rows_after, next) at l.counted));
          height_read = λ e. l.height_read (rw rows_after refl);
          width_read = λ e. same_width;
          text = rw (rows, same_width, separated l.cells_left) (ap (λ (t : List ℕ). cell_text (field_cell s) ++ byte ∷ t) (rw (rows_after, same_width) at l.text));
        }
      where
        l : Left (record { line = line; field = field; digits = 0; value = 0; drilled = false; height = s.height; width = s.width; cells = set s.cells ((s.line - 2) * s.width + (s.field - 1)) (field_cell s) }) bytes r
        l = rw (begun_row s sound line field rows) at left

        same_width : r.width ≡ s.width
        same_width = l.width_read (rw rows_after refl)

    -- the height has ended, and the width
    height_left : in_header s ≡ true → s.field ≡ 1 → Size r.height → Left (begun s s.line (s.field + 1)) bytes r → Left s (44 ∷ bytes) r
    unfolding in_header header_left field_left index_left field_cell blank cell_text
    height_left h one size left =
        record {
          cells_left = l.cells_left;
          stored = l.stored ∙ rw h refl;
          counted = rw h (rw h at l.counted);
          height_read = λ n. absurd (true≢false (rw (h, one) at n));
          width_read = λ n. conflict h n;
          text = rw (size_written h (omega (arith, size.0, same_height)), h, one, same_height) (ap (λ (t : List ℕ). decimal s.value ++ 44 ∷ t) (rw h at l.text) ∙ sym (append_assoc (decimal s.value) (44 ∷ (decimal r.width ++ 10 ∷ [])) _));
        }
      where
        l : Left (record { line = s.line; field = 2; digits = 0; value = 0; drilled = false; height = s.value; width = s.width; cells = s.cells }) bytes r
        l = rw (begun_header s sound s.line (s.field + 1) h, one) at left

        same_height : r.height ≡ s.value
        same_height = l.height_read (rw h refl)

    width_left : in_header s ≡ true → s.field ≡ 2 → Size r.width → Left (begun s (s.line + 1) 1) bytes r → Left s (10 ∷ bytes) r
    unfolding in_header header_left field_left index_left field_cell blank cell_text
    width_left h two size left =
        record {
          cells_left = l.cells_left;
          stored = l.stored ∙ rw (h, first_pad) refl;
          counted = rw h (rw first_pad at l.counted);
          height_read = λ n. l.height_read refl;
          width_read = λ n. conflict h n;
          text = rw (size_written h (omega (arith, size.0, same_width)), h, two, same_width) (ap (λ (t : List ℕ). decimal s.value ++ 10 ∷ t) (rw same_width at l.text) ∙ sym (append_assoc (decimal s.value) (10 ∷ []) _));
        }
      where
        l : Left (record { line = 2; field = 1; digits = 0; value = 0; drilled = false; height = s.height; width = s.value; cells = s.cells }) bytes r
        l = rw (begun_header s sound (s.line + 1) 1 h, second_line s sound h, two) at left

        first_pad : (2 - 2) * s.value + (1 - 1) ≡ 0
        first_pad = omega arith

        same_width : r.width ≡ s.value
        same_width = l.width_read refl

  -- an accepted byte of any kind
  byte_left : (byte : ℕ) (bytes : List ℕ) (r : Reading) → refusal s byte ≡ 0 → Size r.height → Size r.width → Left (after s byte) bytes r → Left s (byte ∷ bytes) r
  unfolding after in_header fields_due rows_text comma line_end bytes is_digit is_comma is_hole_sign
  byte_left byte bytes r accepted tall wide left = go (kind_of s byte p)
    where
      p : Passed s byte
      p = byte_passed s byte accepted

      from_2 : in_header s ≡ false → 2 ≤ s.line
      from_2 h = omega (arith, sound.line_from_1, eqb-false s.line 1 h)

      row_more : in_header s ≡ false → s.line + 1 - 2 ≡ suc (s.line - 2)
      row_more h = omega (arith, from_2 h)

      commas : (h : Bool) → in_header s ≡ h → (s.field ≡ fields_due s → ⊥) → Left (begun s s.line (s.field + 1)) bytes r → Left s (44 ∷ bytes) r
      commas true h n l = height_left bytes r h (let other : (s.field ≡ 2 → ⊥) = rw h at n in omega (arith, due_header s sound h, sound.field_from_1, other)) tall l
      commas false h n l = row_left bytes r 44 s.line (s.field + 1) h h (omega (arith, sound.field_from_1)) (λ cells. rw (ne_eqb s.field s.width (rw h at n), rows_text) refl) l

      ends : (h : Bool) → in_header s ≡ h → fields_due s ≤ s.field → Left (begun s (s.line + 1) 1) bytes r → Left s (10 ∷ bytes) r
      ends true h due l = width_left bytes r h (two_fields s sound h due) wide l
      ends false h due l =
          let last : s.field ≡ s.width = (let k : s.width ≤ s.field = rw h at due in omega (arith, due_row s sound h, k)) in
          row_left bytes r 10 (s.line + 1) 1 h (ne_eqb (s.line + 1) 1 (λ (z : s.line + 1 ≡ 1). omega (arith, sound.line_from_1))) (omega (arith, last, sound.field_from_1, ap (λ (n : ℕ). n * s.width) (row_more h))) (λ cells. rw (eq-eqb s.field s.width last, rows_text) refl) l

      go : Kind s byte → Left s (byte ∷ bytes) r
      go (a_digit d undrilled z n) = digit_left byte bytes r d undrilled z (rw (d, after) at left)
      go (a_hole_sign e in_row first undrilled) = rw e (hole_left bytes r first undrilled (rw e at left))
      go (a_comma e v n) = rw e (commas (in_header s) refl n (rw e at left))
      go (a_line_end e v due b) = rw e (ends (in_header s) refl due (rw e at left))

  after_tidy : (byte : ℕ) → refusal s byte ≡ 0 → Tidy (after s byte)
  unfolding after with_digit with_hole begun is_complete in_header is_digit is_comma is_hole_sign
  after_tidy byte accepted = go (kind_of s byte p)
    where
      p : Passed s byte
      p = byte_passed s byte accepted

      go : Kind s byte → Tidy (after s byte)
      go (a_digit d undrilled z n) = rw (d, after) (record { no_sign = λ h. undrilled; no_field = λ c. conflict c p.unfinished })
      go (a_hole_sign e in_row first undrilled) = rw e (record { no_sign = λ h. conflict h in_row; no_field = λ c. conflict c p.unfinished })
      go (a_comma e v n) = rw e (record { no_sign = λ h. refl; no_field = λ k. conflict k (unfinished (in_header s) refl) })
        where
          unfinished : (h : Bool) → in_header s ≡ h → is_complete (begun s s.line (s.field + 1)) ≡ false
          unfinished true h = rw h refl
          unfinished false h = rw h (rw h at p.unfinished)
      go (a_line_end e v due b) = rw e (record { no_sign = λ h. refl; no_field = λ k. (refl, refl, refl) })

-- what is left at any byte of an accepted file
left_from : (s : Standing) (bytes : List ℕ) → Sound s → Tidy s → (read_from s bytes).number ≡ 0 → Left s bytes (read_from s bytes)
unfolding read_from declined
left_from s [] sound tidy n = go (is_complete s) refl
  where
    go : (c : Bool) → is_complete s ≡ c → Left s [] (read_from s [])
    go true c = rw (c, read_from) (none_left s sound tidy c)
    go false c = let k : ◌≡◌ {A = ℕ} 6 0 = rw (c, read_from) at n in absurd (omega arith)
left_from s (byte ∷ bytes) sound tidy n = go (refusal s byte) refl (λ t u k. left_from (after s byte) bytes t u k)
  where
    go : (m : ℕ) → refusal s byte ≡ m → (Sound (after s byte) → Tidy (after s byte) → (read_from (after s byte) bytes).number ≡ 0 → Left (after s byte) bytes (read_from (after s byte) bytes)) → Left s (byte ∷ bytes) (read_from s (byte ∷ bytes))
    go zero m again =
        let k : (read_from (after s byte) bytes).number ≡ 0 = rw (m, read_from) at n in
        let grid = (read_from_sound (after s byte) bytes (after_sound s sound byte m)).in_range k in
        rw (m, read_from) (byte_left s sound tidy byte bytes (read_from (after s byte) bytes) m grid.height_in_range grid.width_in_range (again (after_sound s sound byte m) (after_tidy s sound tidy byte m) k))
    go (suc j) m again = let k : suc j ≡ 0 = rw (m, read_from) at n in absurd (omega arith)

-- ## The whole file

-- the cells of a reading's pads, HW of them
abbrev pub pads_read : Reading → List ℤ
pads_read r = take (r.height * r.width) r.cells

-- for every accepted file: the text of the grid that was read is the file
pub text_is_file : (file : List ℕ) → (read file).number ≡ 0 → grid_text (read file).height (read file).width (pads_read (read file)) ≡ file
unfolding read start in_header is_complete header_left field_left index_left field_cell blank cell_text
text_is_file file n = text_parts r.height r.width (pads_read r) ∙ ap (λ (cells : List ℤ). decimal r.height ++ 44 ∷ (decimal r.width ++ 10 ∷ rows_text r.width 1 cells)) all_cells ∙ sym (left.text ∙ simp append_assoc)
  where
    r : Reading
    r = read_from start file

    left : Left start file r
    left = left_from start file start_sound (record { no_sign = λ h. refl; no_field = λ (c : false ≡ true). absurd (true≢false (sym c)) }) n

    few : 0 + length left.cells_left ≤ length no_cells
    few = rw (zero-add, start_sound.cell_count) (omega (arith, left.counted, (read_from_sound start file start_sound).pads_in_cells))

    all_cells : pads_read r ≡ left.cells_left
    all_cells = rw (left.stored, sets-eq left.cells_left no_cells 0 few) (take_at left.cells_left _ (r.height * r.width) (omega (arith, left.counted)))
