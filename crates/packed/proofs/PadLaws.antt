-- Laws of one pad: what each of its bytes does, and what its digits give once all have been passed. Assumes nothing.
use Rattle.std.specs.Prelude.{if◌then◌else◌}
use mathlib.Core.Path.{◌≡◌, refl, sym, ap, ◌∙◌}
use mathlib.Core.Bool.{Bool, true, false, ◌&&◌}
use Rattle.std.specs.List.{list_all}
use mathlib.Core.List.{List, [], ◌∷◌}
use Prim.Native.Nat.{ℕ, ◌+◌, ◌*◌, ◌/◌, ◌%◌, ◌^◌, ◌≤◌, ◌<◌}
use native.Mathlib.Nat.{pow-le-pow_right}
use native.Mathlib.Numerals.{add-one}
use native.Mathlib.Omega.{arith}
use lib.ListN.{length, get_or, drop, drop_of_length-le}
use lib.Seq.{drop-cons}
use lib.IntN.{pos, negsuc}
use lib.Dec.{eqb, ltb}
use borrow.Author.Tests.{lt-ltb, le-ltb}
use Rattle.rules.specs.Grid.{largest_code}
use Rattle.model.specs.GridFile.{blank}
use Rattle.model.specs.Packed.{PackedPad, cell, refused, half_bytes, all_FF, some_above_9, digits_value, packed_pad}

-- ## A blank pad

pub all_are_FF : (five : List ℕ) → list_all (λ (byte : ℕ). eqb byte 255) five ≡ all_FF five
unfolding all_FF
all_are_FF [] = refl
all_are_FF (byte ∷ five) = ap (λ (rest : Bool). eqb byte 255 && rest) (all_are_FF five)

pub blank_pad : (five : List ℕ) → all_FF five ≡ true → cell (negsuc 0) ≡ packed_pad five
unfolding packed_pad blank
blank_pad five e = rw e refl

-- ## Digits

-- what the bytes that are left of a pad give behind digits that have a value
unfoldable pub pad_from : ℕ → List ℕ → PackedPad
pad_from value bytes =
    if some_above_9 (half_bytes bytes) then refused 17
    else if ltb largest_code (digits_value value (half_bytes bytes)) then refused 3
    else cell (pos (digits_value value (half_bytes bytes)))

module _ (value byte : ℕ) (bytes : List ℕ) where
  pub high_refused : 9 < byte / 16 → pad_from value (byte ∷ bytes) ≡ refused 17
  unfolding pad_from half_bytes some_above_9
  high_refused h = rw (lt-ltb 9 (byte / 16) h) refl

  module _ (high : byte / 16 ≤ 9) where
    pub low_refused : 9 < byte % 16 → pad_from value (byte ∷ bytes) ≡ refused 17
    unfolding pad_from half_bytes some_above_9
    low_refused h = rw (le-ltb 9 (byte / 16) high, lt-ltb 9 (byte % 16) h) refl

    pub two_digits : byte % 16 ≤ 9 → pad_from value (byte ∷ bytes) ≡ pad_from ((value * 10 + byte / 16) * 10 + byte % 16) bytes
    unfolding pad_from half_bytes some_above_9 digits_value
    two_digits low = rw (le-ltb 9 (byte / 16) high, le-ltb 9 (byte % 16) low) refl

pub value_too_large : (value : ℕ) → largest_code < value → pad_from value [] ≡ refused 3
unfolding pad_from half_bytes some_above_9 digits_value
value_too_large value h = rw (lt-ltb _ _ h) refl

pub value_in_range : (value : ℕ) → value ≤ largest_code → pad_from value [] ≡ cell (pos value)
unfolding pad_from half_bytes some_above_9 digits_value
value_in_range value h = rw (le-ltb _ _ h) refl

-- ## The loop of `pad_of`

-- what the loop keeps: the digits passed have a value of as many digits, and the pad is what is left of it
pub record Passed (five : List ℕ) (value i : ℕ) : Type 0 where
  pub within : i ≤ length five
  pub small : value < 100 ^ i
  pub left : pad_from value (drop i five) ≡ packed_pad five

pub none_passed : (five : List ℕ) → all_FF five ≡ false → Passed five 0 0
unfolding packed_pad pad_from
none_passed five n = record { within = omega arith; small = omega arith; left = rw n refl }

module _ {five : List ℕ} {value i : ℕ} (p : Passed five value i) (few : length five ≤ 5) where
  -- a value fits
  pub fits : value < 10000000000
  fits = let early : i ≤ 5 = omega (arith, p.within) in omega (arith, pow-le-pow_right {n = 100} (omega arith) early, p.small)

  module _ (inside : i < length five) {byte : ℕ} (there : byte ≡ get_or five i 0) where
    from_here : {answer : PackedPad} → pad_from value (byte ∷ drop (i + 1) five) ≡ answer → answer ≡ packed_pad five
    from_here e = sym e ∙ ap (pad_from value) (sym here) ∙ p.left
      where
        here : drop i five ≡ byte ∷ drop (i + 1) five
        here = rw (there, add-one i) (drop-cons five i 0 inside)

    pub refused_high : 9 < byte / 16 → refused 17 ≡ packed_pad five
    refused_high h = from_here (high_refused value byte _ h)

    module _ (high : byte / 16 ≤ 9) where
      pub refused_low : 9 < byte % 16 → refused 17 ≡ packed_pad five
      refused_low h = from_here (low_refused value byte _ high h)

      pub one_passed : byte % 16 ≤ 9 → Passed five ((value * 10 + byte / 16) * 10 + byte % 16) (i + 1)
      one_passed low = record { within = omega arith; small = rw (add-one i) (omega (arith, p.small)); left = from_here (two_digits value byte _ high low) }

  -- all have been passed
  module _ (all : length five ≤ i) where
    from_end : {answer : PackedPad} → pad_from value [] ≡ answer → answer ≡ packed_pad five
    from_end e = sym e ∙ ap (pad_from value) (sym (drop_of_length-le five all)) ∙ p.left

    pub too_large : largest_code < value → refused 3 ≡ packed_pad five
    too_large h = from_end (value_too_large value h)

    pub a_code : value ≤ largest_code → cell (pos value) ≡ packed_pad five
    a_code h = from_end (value_in_range value h)

-- what the proof of `pad_of` is found by
pub ruleset pad_laws = (all_are_FF, blank_pad, none_passed, refused_high, refused_low, one_passed, too_large, a_code)
