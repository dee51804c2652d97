-- What a field's answer makes of the reading of the rest of the file, and what is known of a field that gave a value. It rests on the
-- reading taken field by field (reading/specs/FieldSteps.antt).
use mathlib.Core.Path.{◌≡◌, refl, sym, ap, ◌∙◌}
use mathlib.Core.Bool.{Bool, true, false, not, ◌&&◌, ◌||◌, and-false}
use mathlib.Core.List.{List, [], ◌∷◌}
use mathlib.Core.Logic.{◌⊎◌, inl, inr, ⊎_elim}
use Prim.Native.Nat.{ℕ, ◌+◌, ◌-◌, ◌*◌, ◌≤◌, ◌<◌}
use native.Mathlib.Nat.{sub_self}
use native.Mathlib.Numerals.{add-one}
use native.Mathlib.Omega.{arith}
use lib.ListN.{length, get_or, drop}
use lib.Seq.{drop-cons}
use lib.IntN.{ℤ}
use lib.Dec.{eqb, ltb}
use borrow.Author.Tests.{ltb-false, ne_eqb, eqb-true}
use Rattle.rules.specs.Grid.{largest_code}
use Rattle.model.specs.Bounds.{most_digits}
use Rattle.model.specs.GridFile as model
use Rattle.model.specs.GridFile.{Standing, is_digit, is_comma, is_line_end, is_hole_sign, begins_hole, is_allowed, disallowed_number, is_zero_alone, in_header, is_complete, declined_reading, declined, read_from, no_cells}
use Rattle.reading.specs.FieldSteps.{Part, some_digits, hole_alone, field_start, in_field, field_ending, drop_next, place_inside, byte_there, byte_refused, end_early, still_open, refusal_15, refusal_2, refusal_disallowed, refusal_3, digit_read, hole_read, row_open, header_open}
use Rattle.gridfile.specs.Fields.{fault_number, disallowed, ended_field, field_from, field_at, hole_from, row_field_at, located, part_of}
use Rattle.gridfile.specs.declared.Field.{Field}
use Rattle.gridfile.specs.declared.Fault.{Fault}
use Rattle.gridfile.specs.declared.Declined.{Declined}
use Rattle.std.specs.Prelude.{Result, Ok, Err}
use Rattle.gridfile.proofs.FieldLaws.{sign_inside}

-- ## Inside a field

-- what a field's answer makes of the reading: a refusal, or the reading from the byte that ended the field; `hole` says whether the
-- sign of a hole begins it
unfoldable pub field_read : Standing → List ℕ → ℕ → Bool → Result Field Fault → model.Reading
field_read s bytes from hole (Ok found) = read_from (in_field s (part_of hole (found.end - from) found.value)) (drop found.end bytes)
field_read s bytes from hole (Err fault) = declined_reading (fault_number fault) s.line s.field

module _ (s : Standing) (open_yet : is_complete s ≡ false) (bytes : List ℕ) (from : ℕ) where
  -- at a byte that does not go on with the field: it ends the field, or is disallowed
  module _ (hole : Bool) (part : Part) (byte : ℕ) (rest : List ℕ) (at : ℕ) (e : drop at bytes ≡ byte ∷ rest) where
    abbrev here : Standing
    here = in_field s part

    three : is_comma byte || is_line_end byte ≡ true → ltb largest_code part.value ≡ true → read_from here (byte ∷ rest) ≡ declined_reading 3 s.line s.field
    unfolding declined in_field
    three c v = byte_refused here byte rest (refusal_3 s open_yet byte part c v)

    one_or_thirteen : is_allowed here byte ≡ false → read_from here (byte ∷ rest) ≡ declined_reading (fault_number (disallowed part.digits)) s.line s.field
    unfolding disallowed disallowed_number declined in_field
    one_or_thirteen a = go (eqb part.digits 0) refl
      where
        go : (first : Bool) → eqb part.digits 0 ≡ first → read_from here (byte ∷ rest) ≡ declined_reading (fault_number (disallowed part.digits)) s.line s.field
        go true f = byte_refused here byte rest {number = 0} (refusal_disallowed s open_yet byte part a ∙ simp f) ∙ simp f
        go false f = byte_refused here byte rest {number = 12} (refusal_disallowed s open_yet byte part a ∙ simp f) ∙ simp f

    ended_read : part_of hole (at - from) part.value ≡ part → (is_comma byte ≡ false → is_line_end byte ≡ false → is_allowed here byte ≡ false)
        → read_from here (byte ∷ rest) ≡ field_read s bytes from hole (ended_field byte part.digits part.value at)
    unfolding field_read ended_field
    ended_read p a = go (is_comma byte) (is_line_end byte) (ltb largest_code part.value) refl refl refl
      where
        go : (c l v : Bool) → is_comma byte ≡ c → is_line_end byte ≡ l → ltb largest_code part.value ≡ v → read_from here (byte ∷ rest) ≡ field_read s bytes from hole (ended_field byte part.digits part.value at)
        go false false v ec el ev = one_or_thirteen (a ec el) ∙ simp (ec, el)
        go true l true ec el ev = three (rw ec refl) ev ∙ simp (ec, ev)
        go false true true ec el ev = three (rw (ec, el) refl) ev ∙ simp (ec, el, ev)
        go true l false ec el ev = simp (ec, ev, e, p)
        go false true false ec el ev = simp (ec, el, ev, e, p)

  -- a field of digits, which no sign of a hole begins
  module _ (no_sign : is_hole_sign (get_or bytes from 0) && not (in_header s) ≡ false) where
    not_drilled : (byte : ℕ) (rest : List ℕ) (at value : ℕ) → drop at bytes ≡ byte ∷ rest → from ≤ at → begins_hole (in_field s (some_digits (at - from) value)) byte ≡ false
    unfolding begins_hole in_header in_field
    not_drilled byte rest at value e h = go (eqb (at - from) 0) refl
      where
        go : (first : Bool) → eqb (at - from) 0 ≡ first → is_hole_sign byte && not (in_header s) && eqb (at - from) 0 && true ≡ false
        go true t = let same : at ≡ from = omega (arith, eqb-true (at - from) 0 t) in rw (← byte_there bytes byte rest at e, same, no_sign) refl
        go false t = rw (t, and-false) refl

    -- from any byte of the field on
    rest_read : (rest : List ℕ) (at value : ℕ) → drop at bytes ≡ rest → from ≤ at → read_from (in_field s (some_digits (at - from) value)) rest ≡ field_read s bytes from false (field_from rest at (at - from) value)
    unfolding declined field_read field_from in_field is_allowed
    rest_read [] at value e h = end_early (in_field s (some_digits (at - from) value)) (still_open s open_yet (some_digits (at - from) value))
    rest_read (byte ∷ rest) at value e h = go (is_digit byte) (is_zero_alone (at - from) value) (eqb (at - from) most_digits) refl refl refl (rest_read rest (at + 1) (value * 10 + (byte - 48)) (drop_next bytes byte rest at e) (omega arith))
      where
        here : Standing
        here = in_field s (some_digits (at - from) value)

        longer : at + 1 - from ≡ at - from + 1
        longer = omega arith

        go : (d z m : Bool) → is_digit byte ≡ d → is_zero_alone (at - from) value ≡ z → eqb (at - from) most_digits ≡ m → read_from (in_field s (some_digits (at + 1 - from) (value * 10 + (byte - 48)))) rest ≡ field_read s bytes from false (field_from rest (at + 1) (at + 1 - from) (value * 10 + (byte - 48))) → read_from here (byte ∷ rest) ≡ field_read s bytes from false (field_from (byte ∷ rest) at (at - from) value)
        go false z m d alone n again = ended_read false (some_digits (at - from) value) byte rest at e refl (λ c l. simp (c, l, d, not_drilled byte rest at value e h)) ∙ simp d
        go true true m d alone n again = byte_refused here byte rest (refusal_15 s open_yet byte (at - from) value d alone) ∙ simp (d, alone)
        go true false true d alone n again = byte_refused here byte rest (refusal_2 s open_yet byte (at - from) value d alone n) ∙ simp (d, alone, n)
        go true false false d alone n again = digit_read s open_yet byte rest (at - from) value d alone n ∙ (rw longer at again) ∙ simp (d, alone, n)

  -- a field after the sign of a hole
  hole_ended : (rest : List ℕ) (at : ℕ) → drop at bytes ≡ rest → read_from (in_field s hole_alone) rest ≡ field_read s bytes from true (hole_from rest at)
  unfolding declined field_read hole_from in_field is_allowed begins_hole
  hole_ended [] at e = end_early (in_field s hole_alone) (still_open s open_yet hole_alone)
  hole_ended (byte ∷ rest) at e = ended_read true hole_alone byte rest at e refl (λ c l. simp (c, l, and-false))

-- ## A field that gave a value

pub record Ended (bytes : List ℕ) (at : ℕ) (found : Field) : Type 0 where
  pub reached : at ≤ found.end
  pub inside : found.end < length bytes
  pub sound : found.value ≤ largest_code
  pub parted : (is_comma (get_or bytes found.end 0) ≡ true) ⊎ (is_line_end (get_or bytes found.end 0) ≡ true)

different : {fault : Fault} {found : Field} {A : Type 0} → Err fault ≡ Ok found → A
different h = let z : ◌≡◌ {A = ℕ} 0 1 = cc in absurd (omega arith)

ended_inside : (bytes : List ℕ) (byte : ℕ) (rest : List ℕ) (at digits value : ℕ) (found : Field) → drop at bytes ≡ byte ∷ rest → ended_field byte digits value at ≡ Ok found → Ended bytes at found
unfolding ended_field
ended_inside bytes byte rest at digits value found e h = go (is_comma byte) (is_line_end byte) (ltb largest_code value) refl refl refl
  where
    made : Result Field Fault
    made = Ok (record { value = value; end = at })

    same : made ≡ Ok found → ltb largest_code value ≡ false → (is_comma byte ≡ true) ⊎ (is_line_end byte ≡ true) → Ended bytes at found
    same k big t =
        let is : record { value = value; end = at } ≡ found = cc in
        let sv : value ≡ found.value = ap (λ (f : Field). f.value) is in
        let se : at ≡ found.end = ap (λ (f : Field). f.end) is in
        record {
          reached = omega arith;
          inside = omega (arith, place_inside bytes byte rest at e);
          sound = omega (arith, ltb-false largest_code value big);
          parted = rw (← se, byte_there bytes byte rest at e) t;
        }

    go : (c l big : Bool) → is_comma byte ≡ c → is_line_end byte ≡ l → ltb largest_code value ≡ big → Ended bytes at found
    go false false big p q r = different (simp (p, q) at h)
    go true l true p q r = different (simp (p, r) at h)
    go true l false p q r = same (simp (p, r) at h) r (inl p)
    go false true true p q r = different (simp (p, q, r) at h)
    go false true false p q r = same (simp (p, q, r) at h) r (inr q)

value_inside : (bytes rest : List ℕ) (at digits value : ℕ) (found : Field) → drop at bytes ≡ rest → field_from rest at digits value ≡ Ok found → Ended bytes at found
unfolding field_from
value_inside bytes [] at digits value found e h = different h
value_inside bytes (byte ∷ rest) at digits value found e h = go (is_digit byte) (is_zero_alone digits value) (eqb digits most_digits) refl refl refl (value_inside bytes rest (at + 1) (digits + 1) (value * 10 + (byte - 48)) found (drop_next bytes byte rest at e))
  where
    go : (d z m : Bool) → is_digit byte ≡ d → is_zero_alone digits value ≡ z → eqb digits most_digits ≡ m → (field_from rest (at + 1) (digits + 1) (value * 10 + (byte - 48)) ≡ Ok found → Ended bytes (at + 1) found) → Ended bytes at found
    go false z m p k q again = ended_inside bytes byte rest at digits value found e (simp p at h)
    go true true m p k q again = different (simp (p, k) at h)
    go true false true p k q again = different (simp (p, k, q) at h)
    go true false false p k q again = let r : Ended bytes (at + 1) found = again (simp (p, k, q) at h) in record { reached = omega (arith, r.reached); inside = r.inside; sound = r.sound; parted = r.parted }

pub value_ended : (bytes : List ℕ) (from : ℕ) (found : Field) → field_at bytes from ≡ Ok found → Ended bytes from found
unfolding field_at
value_ended bytes from found h = value_inside bytes (drop from bytes) from 0 0 found refl h

hole_inside : (bytes rest : List ℕ) (at : ℕ) (found : Field) → drop at bytes ≡ rest → hole_from rest at ≡ Ok found → Ended bytes at found
unfolding hole_from
hole_inside bytes [] at found e h = different h
hole_inside bytes (byte ∷ rest) at found e h = ended_inside bytes byte rest at 0 0 found e h

pub row_value_ended : (bytes : List ℕ) (from : ℕ) (found : Field) → row_field_at bytes from ≡ Ok found → Ended bytes from found
unfolding row_field_at
row_value_ended bytes from found h = go (is_hole_sign (get_or bytes from 0)) refl
  where
    go : (sign : Bool) → is_hole_sign (get_or bytes from 0) ≡ sign → Ended bytes from found
    go false t = value_ended bytes from found (simp t at h)
    go true t = let r : Ended bytes (from + 1) found = hole_inside bytes (drop (from + 1) bytes) (from + 1) found refl (simp t at h) in record { reached = omega (arith, r.reached); inside = r.inside; sound = r.sound; parted = r.parted }

-- the byte that ended a field, in front of the rest of the file
module _ (bytes : List ℕ) (at : ℕ) (found : Field) (ended : Ended bytes at found) where
  pub ending_byte : (byte : ℕ) → get_or bytes found.end 0 ≡ byte → drop found.end bytes ≡ byte ∷ drop (found.end + 1) bytes
  ending_byte byte e = drop-cons bytes found.end 0 ended.inside ∙ rw (e, add-one) refl

  -- which is a comma where it is no line end
  pub comma_there : (get_or bytes found.end 0 ≡ 10 → ⊥) → get_or bytes found.end 0 ≡ 44
  unfolding is_comma is_line_end
  comma_there n = ⊎_elim (λ c. eqb-true _ _ c) (λ l. absurd (n (eqb-true _ _ l))) ended.parted

-- ## A field with the place of its refusal

pub found_there : (r : Result Field Fault) (line field : ℕ) (found : Field) → Ok found ≡ located r line field → r ≡ Ok found
found_there (Ok other) line field found e = let same : found ≡ other = cc in rw same refl
found_there (Err fault) line field found e = let z : ◌≡◌ {A = ℕ} 0 1 = cc in absurd (omega arith)

pub declined_there : (r : Result Field Fault) (line field : ℕ) (declined : Declined) → Err declined ≡ located r line field → (fault : Fault) × (r ≡ Err fault) × (declined ≡ record { fault = fault; line = line; field = field })
declined_there (Ok other) line field declined e = let z : ◌≡◌ {A = ℕ} 0 1 = cc in absurd (omega arith)
declined_there (Err fault) line field declined e = let same : declined ≡ record { fault = fault; line = line; field = field } = cc in (fault, refl, same)

-- ## A field from its first byte on

-- what its answer makes of the reading, and what is known where it gave a value
pub record FieldRead (line field height width : ℕ) (cells : List ℤ) (bytes : List ℕ) (from : ℕ) (hole : Bool) (read : Result Field Fault) : Type 0 where
  pub same : read_from (field_start line field height width cells) (drop from bytes) ≡ field_read (field_start line field height width cells) bytes from hole read
  pub ended : (found : Field) → read ≡ Ok found → Ended bytes from found

-- a field of digits: in the header, and in a row where no sign of a hole begins it
digits_read : (line field height width : ℕ) (cells : List ℤ) (bytes : List ℕ) (from : ℕ) → is_complete (field_start line field height width cells) ≡ false → is_hole_sign (get_or bytes from 0) && not (eqb line 1) ≡ false → FieldRead line field height width cells bytes from false (field_at bytes from)
unfolding field_at in_field field_start in_header
digits_read line field height width cells bytes from h n = record { same = rw sub_self at (rest_read (field_start line field height width cells) h bytes from n (drop from bytes) from 0 refl (omega arith)); ended = value_ended bytes from }

pub header_read : (field height : ℕ) (bytes : List ℕ) (from : ℕ) → FieldRead 1 field height 0 no_cells bytes from false (field_at bytes from)
header_read field height bytes from = digits_read 1 field height 0 no_cells bytes from (header_open field height) (and-false (is_hole_sign (get_or bytes from 0)))

module _ (line field height width : ℕ) (cells : List ℤ) (in_rows : 2 ≤ line) (row_left : line < height + 2) (bytes : List ℕ) (from : ℕ) where
  abbrev first : Standing
  first = field_start line field height width cells

  first_open : is_complete first ≡ false
  first_open = row_open line field height width cells in_rows row_left

  -- the sign of a hole, and what comes after it
  sign_read : is_hole_sign (get_or bytes from 0) ≡ true → read_from first (drop from bytes) ≡ field_read first bytes from true (hole_from (drop (from + 1) bytes) (from + 1))
  unfolding is_hole_sign in_header field_start in_field
  sign_read t =
      ap (read_from first) (drop-cons bytes from 0 (sign_inside bytes from t) ∙ rw (eqb-true (get_or bytes from 0) 35 t, add-one from) refl)
      ∙ hole_read first first_open (drop (from + 1) bytes) (ne_eqb line 1 (λ (z : line ≡ 1). omega arith))
      ∙ hole_ended first first_open bytes from (drop (from + 1) bytes) (from + 1) refl

  -- a field of a row
  pub row_read : FieldRead line field height width cells bytes from (is_hole_sign (get_or bytes from 0)) (row_field_at bytes from)
  unfolding row_field_at
  row_read = record { same = go (is_hole_sign (get_or bytes from 0)) refl; ended = row_value_ended bytes from }
    where
      go : (sign : Bool) → is_hole_sign (get_or bytes from 0) ≡ sign → read_from first (drop from bytes) ≡ field_read first bytes from (is_hole_sign (get_or bytes from 0)) (row_field_at bytes from)
      go false t = rw (t, row_field_at) (digits_read line field height width cells bytes from first_open (rw t refl)).same
      go true t = rw (t, row_field_at) (sign_read t)

-- what follows for the reading from the field's first byte on
module _ {line field height width : ℕ} {cells : List ℤ} {bytes : List ℕ} {from : ℕ} {hole : Bool} {read : Result Field Fault} (r : FieldRead line field height width cells bytes from hole read) where
  pub by_refusal : (fault : Fault) → read ≡ Err fault → declined_reading (fault_number fault) line field ≡ read_from (field_start line field height width cells) (drop from bytes)
  unfolding field_read field_start
  by_refusal fault e = sym (r.same ∙ ap (field_read (field_start line field height width cells) bytes from hole) e)

  pub by_ending : (found : Field) → read ≡ Ok found → (byte : ℕ) → get_or bytes found.end 0 ≡ byte → {answer : model.Reading} → read_from (field_ending line field height width cells (part_of hole (found.end - from) found.value)) (byte ∷ drop (found.end + 1) bytes) ≡ answer → answer ≡ read_from (field_start line field height width cells) (drop from bytes)
  unfolding field_read
  by_ending found e byte b a =
      sym (r.same ∙ ap (field_read (field_start line field height width cells) bytes from hole) e
      ∙ ap (read_from (field_ending line field height width cells (part_of hole (found.end - from) found.value))) (ending_byte bytes from found (r.ended found e) byte b) ∙ a)
