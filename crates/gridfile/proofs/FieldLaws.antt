-- Laws of one field: what each byte does to it, and what is known of a field that gave a value. Assumes nothing.
use mathlib.Core.Path.{◌≡◌, refl, sym, ◌∙◌}
use mathlib.Core.Bool.{Bool, true, false, not, ◌&&◌}
use mathlib.Core.List.{List}
use mathlib.Core.Logic.{◌⊎◌, inl, inr}
use Prim.Native.Nat.{ℕ, ◌+◌, ◌-◌, ◌*◌, ◌^◌, ◌≤◌, ◌<◌}
use native.Mathlib.Nat.{sub_self}
use native.Mathlib.Numerals.{add-one}
use native.Mathlib.Omega.{arith}
use lib.ListN.{length, get_or, drop, drop_of_length-le, get_or-eq_default}
use lib.Seq.{drop-cons}
use lib.Dec.{ltb}
use borrow.Author.Tests.{ltb-true, ltb-false, lt-ltb, le-ltb, ne_eqb, eq-eqb, not-false}
use Rattle.rules.specs.Grid.{largest_code}
use Rattle.rules.specs.Tests.{conflict}
use Rattle.model.specs.Bounds.{most_digits}
use Rattle.model.specs.GridFile.{is_digit, is_comma, is_line_end, is_hole_sign, is_zero_alone}
use Rattle.std.specs.Prelude.{Ok, Err}
use Rattle.reading.specs.FieldSteps.{digit_bounds}
use Rattle.gridfile.specs.Fields.{disallowed, ended_field, field_from, field_at, hole_from, row_field_at}
use Rattle.gridfile.specs.declared.Fault.TheVariants.{EleventhDigit, LargeCode, FileEnd, LeadingZero}

-- ## The end of a field

module _ (byte digits value at : ℕ) where
  pub neither : (byte ≡ 44 → ⊥) → (byte ≡ 10 → ⊥) → Err (disallowed digits) ≡ ended_field byte digits value at
  unfolding ended_field is_comma is_line_end
  neither c l = simp (ne_eqb _ _ c, ne_eqb _ _ l)

  separates : (byte ≡ 44) ⊎ (byte ≡ 10) → not (is_comma byte) && not (is_line_end byte) ≡ false
  unfolding is_comma is_line_end
  separates (inl e) = simp (eq-eqb _ _ e)
  separates (inr e) = rw e

  pub too_large : (byte ≡ 44) ⊎ (byte ≡ 10) → largest_code < value → Err LargeCode ≡ ended_field byte digits value at
  unfolding ended_field
  too_large s h = simp (separates s, lt-ltb _ _ h)

  pub sound_value : (byte ≡ 44) ⊎ (byte ≡ 10) → value ≤ largest_code → Ok (record { value = value; end = at }) ≡ ended_field byte digits value at
  unfolding ended_field
  sound_value s h = simp (separates s, le-ltb _ _ h)

-- ## One byte more of a field

module _ (bytes : List ℕ) (at digits value : ℕ) where
  pub field_stops : at < length bytes → is_digit (get_or bytes at 0) ≡ false → field_from (drop at bytes) at digits value ≡ ended_field (get_or bytes at 0) digits value at
  unfolding field_from
  field_stops h d = simp (drop-cons bytes at 0 h, d)

  pub field_led_by_0 : at < length bytes → is_digit (get_or bytes at 0) ≡ true → is_zero_alone digits value ≡ true → field_from (drop at bytes) at digits value ≡ Err LeadingZero
  unfolding field_from
  field_led_by_0 h d z = simp (drop-cons bytes at 0 h, d, z)

  pub field_too_long : at < length bytes → is_digit (get_or bytes at 0) ≡ true → is_zero_alone digits value ≡ false → digits ≡ 10 → field_from (drop at bytes) at digits value ≡ Err EleventhDigit
  unfolding field_from most_digits
  field_too_long h d z e = simp (drop-cons bytes at 0 h, d, z, eq-eqb _ _ e)

  pub field_goes_on : at < length bytes → is_digit (get_or bytes at 0) ≡ true → is_zero_alone digits value ≡ false → (digits ≡ 10 → ⊥) → field_from (drop at bytes) at digits value ≡ field_from (drop (at + 1) bytes) (at + 1) (digits + 1) (value * 10 + (get_or bytes at 0 - 48))
  unfolding field_from most_digits
  field_goes_on h d z e = rw (drop-cons bytes at 0 h, d, z, ne_eqb _ _ e, add-one at) refl

  pub field_unended : length bytes ≤ at → field_from (drop at bytes) at digits value ≡ Err FileEnd
  unfolding field_from
  field_unended h = simp (drop_of_length-le bytes h)

-- ## The sign of a hole

module _ (bytes : List ℕ) (from : ℕ) where
  -- past the end stands none
  pub no_sign_past : length bytes ≤ from → is_hole_sign (get_or bytes from 0) ≡ false
  unfolding is_hole_sign
  no_sign_past h = rw (get_or-eq_default bytes 0 h) refl

  module _ (sign : is_hole_sign (get_or bytes from 0) ≡ true) where
    pub sign_inside : from < length bytes
    sign_inside = go (ltb from (length bytes)) refl
      where
        go : (t : Bool) → ltb from (length bytes) ≡ t → from < length bytes
        go true t = ltb-true _ _ t
        go false t = conflict sign (no_sign_past (ltb-false _ _ t))

    pub hole_unended : from + 1 ≡ length bytes → row_field_at bytes from ≡ Err FileEnd
    unfolding row_field_at hole_from
    hole_unended e = let all : length bytes ≤ from + 1 = omega arith in simp (sign, drop_of_length-le bytes all)

    pub hole_ends : from + 1 < length bytes → row_field_at bytes from ≡ ended_field (get_or bytes (from + 1) 0) 0 0 (from + 1)
    unfolding row_field_at hole_from
    hole_ends h = simp (sign, drop-cons bytes (from + 1) 0 h)

  pub digits_there : is_hole_sign (get_or bytes from 0) ≡ false → row_field_at bytes from ≡ field_at bytes from
  unfolding row_field_at
  digits_there none = rw none

-- ## A value fits

pub digit_more : (value digits digit : ℕ) → value < 10 ^ digits → digit ≤ 9 → value * 10 + digit < 10 ^ (digits + 1)
digit_more value digits digit h d = rw add-one (omega arith)

-- ## The loop of `field_at`

pub a_digit : {r : Bool} (byte : ℕ) → r ≡ is_digit byte → not r ≡ false → is_digit byte ≡ true
a_digit byte e h = sym e ∙ not-false _ h

-- what the loop keeps: the digits passed are at most ten, their value has as many, and the field is what is left of it
pub record Passed (bytes : List ℕ) (from at value : ℕ) : Type 0 where
  pub begun : from ≤ at
  pub short : at - from ≤ 10
  pub small : value < 10 ^ (at - from)
  pub left : field_from (drop at bytes) at (at - from) value ≡ field_at bytes from

pub none_passed : (bytes : List ℕ) (from : ℕ) → Passed bytes from from 0
unfolding field_at
none_passed bytes from = record { begun = omega arith; short = omega arith; small = rw sub_self (omega arith); left = rw sub_self refl }

module _ (bytes : List ℕ) (from at value : ℕ) (p : Passed bytes from at value) (h : at < length bytes) (d : is_digit (get_or bytes at 0) ≡ true) (n : at - from ≡ 10 → ⊥) where
  pub one_passed : is_zero_alone (at - from) value ≡ false → Passed bytes from (at + 1) (value * 10 + (get_or bytes at 0 - 48))
  one_passed z = record { begun = omega arith; short = omega arith; small = rw longer (digit_more value (at - from) _ p.small (omega (arith, (digit_bounds _ d).1))); left = rw longer (sym (field_goes_on bytes at (at - from) value h d z n) ∙ p.left) }
    where
      longer : at + 1 - from ≡ at - from + 1
      longer = omega arith

-- what the proofs of the functions of one field are found by
pub ruleset field_laws = (neither, too_large, sound_value, no_sign_past, none_passed, one_passed, field_stops, field_led_by_0, field_too_long, field_unended, digits_there, sign_inside, hole_unended, hole_ends, digit_bounds)
