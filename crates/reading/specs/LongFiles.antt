-- The first 4,096 bytes of any input decide what is read: a number of bytes that can still be accepted falls with every accepted byte.
-- It is 2,838 at the start, which is a rough count: it leaves room for ten digits in both fields of the header. That no accepted file is
-- longer than 2,822 bytes is said in WriteRead.antt.
use Rattle.std.specs.Prelude.{if◌then◌else◌}
use Rattle.std.specs.Prelude.{◌≡◌, Bool, ◌&&◌, List, [], ◌∷◌, ℕ, zero, suc, ◌+◌, ◌*◌, ◌-◌, ◌≤◌, ◌<◌, take, ltb}
use Rattle.std.proofs.Math.Path.{refl}
use Rattle.std.proofs.Common.{ap, mul-le-mul, not-suc-le-zero}
use Rattle.std.proofs.Math.Bool.{true, false}
use native.Mathlib.Omega.{arith}
use Rattle.std.proofs.Math.Seq.{take-nil}
use Rattle.std.proofs.Math.Dec.{eqb}
use borrow.Author.Tests.{eqb-false, ne_eqb}
use Rattle.rules.specs.Grid.{Size}
use Rattle.model.specs.GridFile.{Standing, is_digit, is_comma, is_hole_sign, start, in_header, fields_due, is_complete, bad_size, refusal, with_digit, with_hole, begun, after, read_from, read}
use Rattle.reading.specs.FieldSteps.{Part, in_field}
use Rattle.reading.specs.ReadingLaws.{Passed, byte_passed, Kind, a_digit, a_hole_sign, a_comma, a_line_end, kind_of, Sound, start_sound, after_sound, begun_row, begun_header, due_row, due_header, sizes_found, two_fields, second_line}

-- a field is at most ten digits and the byte that ends it, or `#` and that byte: so many bytes of it can still come
unfoldable pub field_bytes_left : Standing → ℕ
field_bytes_left s = if s.drilled then 1 else 11 - s.digits

-- so many bytes of the file, in the header and in the rows
unfoldable pub bytes_left : Standing → ℕ
bytes_left s =
    if in_header s then 2816 + ((2 - s.field) * 11 + field_bytes_left s)
    else if is_complete s then 0
    else ((s.height + 1 - s.line) * s.width + (s.width - s.field)) * 11 + field_bytes_left s

module _ (s : Standing) (sound : Sound s) where
  -- the byte that ends the field is always left
  ending_left : 1 ≤ field_bytes_left s
  unfolding field_bytes_left
  ending_left = go s.drilled
    where
      go : (drilled : Bool) → 1 ≤ (if drilled then 1 else 11 - s.digits)
      go true = omega arith
      go false = omega (arith, sound.digits_due)

  -- a byte more of the field, which goes on
  part_less : (part : Part) → is_complete s ≡ false → field_bytes_left (in_field s part) < field_bytes_left s → bytes_left (in_field s part) < bytes_left s
  unfolding bytes_left in_field in_header is_complete
  part_less part c less = go (eqb s.line 1) refl
    where
      go : (h : Bool) → eqb s.line 1 ≡ h → bytes_left (in_field s part) < bytes_left s
      go true h = rw (h, bytes_left) (omega arith)
      go false h = rw (h, bytes_left) (rw (eqb_no h) (omega arith))
        where
          eqb_no : eqb s.line 1 ≡ false → eqb s.line (s.height + 2) ≡ false
          eqb_no h = rw h at c

  digit_less : (byte : ℕ) → is_complete s ≡ false → s.drilled ≡ false → (s.digits ≡ 10 → ⊥) → bytes_left (with_digit s byte) < bytes_left s
  unfolding field_bytes_left with_digit in_field
  digit_less byte c undrilled n = part_less _ c (rw undrilled (omega (arith, sound.digits_due, n)))

  hole_less : is_complete s ≡ false → s.drilled ≡ false → s.digits ≡ 0 → bytes_left (with_hole s) < bytes_left s
  unfolding field_bytes_left with_hole in_field
  hole_less c undrilled first = part_less _ c (rw (undrilled, first) (omega arith))

  in_rows : in_header s ≡ false → is_complete s ≡ false → bytes_left s ≡ ((s.height + 1 - s.line) * s.width + (s.width - s.field)) * 11 + field_bytes_left s
  unfolding bytes_left
  in_rows h c = rw (h, c) refl

  in_first_line : in_header s ≡ true → bytes_left s ≡ 2816 + ((2 - s.field) * 11 + field_bytes_left s)
  unfolding bytes_left
  in_first_line h = rw h refl

  row_comma_less : in_header s ≡ false → is_complete s ≡ false → (s.field ≡ fields_due s → ⊥) → bytes_left (begun s s.line (s.field + 1)) < bytes_left s
  unfolding bytes_left field_bytes_left fields_due in_header is_complete
  row_comma_less h c n = rw (begun_row s sound s.line (s.field + 1) h, in_rows h c, h, unended) (omega (arith, due_row s sound h, ending_left, sound.field_from_1, rw h at n))
    where
      unended : eqb s.line (s.height + 2) ≡ false
      unended = rw h at c

  header_comma_less : in_header s ≡ true → (s.field ≡ fields_due s → ⊥) → bytes_left (begun s s.line (s.field + 1)) < bytes_left s
  unfolding bytes_left field_bytes_left fields_due in_header
  header_comma_less h n = rw (begun_header s sound s.line (s.field + 1) h, in_first_line h, h) (omega (arith, due_header s sound h, ending_left, sound.field_from_1, rw h at n))

  header_end_less : in_header s ≡ true → fields_due s ≤ s.field → in_header s && ltb 0 (bad_size s) ≡ false → bytes_left (begun s (s.line + 1) 1) < bytes_left s
  unfolding bytes_left field_bytes_left fields_due in_header is_complete
  header_end_less h d b = rw (begun_header s sound (s.line + 1) 1 h, in_first_line h, two_fields s sound h d, second_line s sound h, rows_come) (omega (arith, all, ending_left, found.1.0))
    where
      found : Size s.height × Size s.value
      found = sizes_found s sound h b

      rows_come : eqb 2 (s.height + 2) ≡ false
      rows_come = ne_eqb 2 (s.height + 2) (λ (e : 2 ≡ s.height + 2). omega (arith, found.0.0))

      all : suc (s.height + 1 - 2) * s.value ≤ 16 * 16
      all =
          let tall : suc (s.height + 1 - 2) ≤ 16 = omega (arith, found.0.0, found.0.1) in
          let wide : s.value ≤ 16 = found.1.1 in
          mul-le-mul tall wide

  row_end_less : in_header s ≡ false → is_complete s ≡ false → fields_due s ≤ s.field → bytes_left (begun s (s.line + 1) 1) < bytes_left s
  unfolding bytes_left field_bytes_left fields_due in_header is_complete
  row_end_less h c d = rw (begun_row s sound (s.line + 1) 1 h, in_rows h c, no_header) (go (eqb (s.line + 1) (s.height + 2)) refl)
    where
      no_header : eqb (s.line + 1) 1 ≡ false
      no_header = ne_eqb (s.line + 1) 1 (λ (e : s.line + 1 ≡ 1). omega (arith, sound.line_from_1))

      unended : s.line ≡ s.height + 2 → ⊥
      unended = eqb-false s.line (s.height + 2) (rw h at c)

      whole : s.field ≡ s.width
      whole = let k : s.width ≤ s.field = rw h at d in omega (arith, due_row s sound h, k)

      go : (t : Bool) → eqb (s.line + 1) (s.height + 2) ≡ t → (if t then 0 else ((s.height + 1 - (s.line + 1)) * s.width + (s.width - 1)) * 11 + 11) < ((s.height + 1 - s.line) * s.width + (s.width - s.field)) * 11 + field_bytes_left s
      go true t = omega (arith, ending_left)
      go false t =
          let other : (s.line + 1 ≡ s.height + 2 → ⊥) = eqb-false _ _ t in
          let row_less : s.height + 1 - s.line ≡ suc (s.height + 1 - (s.line + 1)) = omega (arith, (sound.sizes_in_range h).2, unended, other) in
          omega (arith, whole, ending_left, (sound.sizes_in_range h).1.0, ap (λ (n : ℕ). n * s.width) row_less)

  pub one_less : (byte : ℕ) → refusal s byte ≡ 0 → bytes_left (after s byte) < bytes_left s
  unfolding after is_digit is_comma is_hole_sign
  one_less byte r = go (kind_of s byte p)
    where
      p : Passed s byte
      p = byte_passed s byte r

      by_line : (h : Bool) → in_header s ≡ h → (t : Standing) → (in_header s ≡ true → bytes_left t < bytes_left s) → (in_header s ≡ false → bytes_left t < bytes_left s) → bytes_left t < bytes_left s
      by_line true h t yes_part no_part = yes_part h
      by_line false h t yes_part no_part = no_part h

      go : Kind s byte → bytes_left (after s byte) < bytes_left s
      go (a_digit d undrilled z n) = rw d (digit_less byte p.unfinished undrilled n)
      go (a_hole_sign e in_row first undrilled) = rw e (hole_less p.unfinished undrilled first)
      go (a_comma e v n) = rw e (by_line (in_header s) refl _ (λ h. header_comma_less h n) (λ h. row_comma_less h p.unfinished n))
      go (a_line_end e v due b) = rw e (by_line (in_header s) refl _ (λ h. header_end_less h due b) (λ h. row_end_less h p.unfinished due))

-- ## What follows

-- bytes that come after the last that can be accepted decide nothing
cut_from : (s : Standing) (bytes : List ℕ) (n : ℕ) → Sound s → bytes_left s < n → read_from s (take n bytes) ≡ read_from s bytes
unfolding read_from
cut_from s [] n sound h = ap (read_from s) (take-nil n)
cut_from s (byte ∷ bytes) zero sound h = absurd (not-suc-le-zero h)
cut_from s (byte ∷ bytes) (suc n) sound h = go (refusal s byte) refl (λ t k. cut_from (after s byte) bytes n t k)
  where
    go : (m : ℕ) → refusal s byte ≡ m → (Sound (after s byte) → bytes_left (after s byte) < n → read_from (after s byte) (take n bytes) ≡ read_from (after s byte) bytes) → read_from s (byte ∷ take n bytes) ≡ read_from s (byte ∷ bytes)
    go zero r again = rw (r, read_from) (again (after_sound s sound byte r) (omega (arith, one_less s sound byte r)))
    go (suc m) r again = rw (r, read_from) refl

-- the first 4,096 bytes suffice
pub first_bytes_suffice : (bytes : List ℕ) → read (take 4096 bytes) ≡ read bytes
unfolding read bytes_left field_bytes_left start in_header
first_bytes_suffice bytes = cut_from start bytes 4096 start_sound (omega arith)
