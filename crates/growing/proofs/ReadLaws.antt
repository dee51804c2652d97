-- Reading a limit digit by digit: what holds once some digits are passed, and what the text says where the reading ends. It rests on the laws of the model's
-- limits.
use Prim.Native.Nat.{ℕ, suc, ◌+◌, ◌*◌, ◌-◌, ◌≤◌, ◌<◌}
use mathlib.Core.Path.{◌≡◌, refl, sym, ap, ◌∙◌}
use mathlib.Core.Bool.{true, false, and-false}
use mathlib.Core.List.{List, [], ◌∷◌, ◌++◌}
use native.Mathlib.Numerals.{add-one}
use native.Mathlib.Omega.{arith}
use lib.Dec.{leb}
use lib.ListN.{length, take, drop, get_or}
use lib.Seq.{take-suc, take_all, split_at}
use borrow.Author.Tests.{le-leb, lt-leb}
use Rattle.model.specs.GridFile.{is_digit}
use Rattle.model.specs.RoutesTo.{largest_limit, most_limit_digits, all_digits, value_after, is_limit, boards, no_limit, limit_of}
use Rattle.model.proofs.LimitLaws.{digits_append, value_append, too_long}
use Rattle.reading.specs.FieldSteps.{digit_bounds}

-- more digits make no less
value_grows : (text : List ℕ) (value : ℕ) → value ≤ value_after value text
unfolding value_after
value_grows [] value = omega arith
value_grows (byte ∷ text) value = let rest = value_grows text (value * 10 + (byte - 48)) in omega (arith, rest)

module _ (text : List ℕ) where
  -- some digits are passed, and this is their value
  pub record Passed (at value : ℕ) : Type 0 where
    pub inside : at ≤ length text
    pub digits : all_digits (take at text) ≡ true
    pub its_value : value_after 0 (take at text) ≡ value
    pub small : value ≤ largest_limit

  pub none_passed : Passed 0 0
  unfolding all_digits value_after
  none_passed = record { inside = omega arith; digits = refl; its_value = refl; small = omega arith }

  module _ (at value : ℕ) (passed : Passed at value) where
    -- the text is all of it
    pub all_passed : (length text ≡ 0 → ⊥) → length text ≤ most_limit_digits → length text ≤ at → limit_of text ≡ boards value
    unfolding limit_of is_limit
    all_passed some few end = let whole = take_all at text end in
        rw (le-leb 1 (length text) (omega (arith, some)), le-leb (length text) most_limit_digits few, ap all_digits (sym whole) ∙ passed.digits, ap (value_after 0) (sym whole) ∙ passed.its_value, le-leb value largest_limit passed.small) refl

    module _ (below : at < length text) where
      abbrev byte : ℕ
      byte = get_or text at 0

      parted : text ≡ take at text ++ (byte ∷ drop (suc at) text)
      parted = split_at text at 0 below

      pub one_passed : is_digit byte ≡ true → (next : ℕ) → (next ≡ value * 10 + (byte - 48)) × (next ≤ largest_limit) → Passed (at + 1) next
      unfolding all_digits value_after
      one_passed digit next (is, fits) = rw (add-one at) (record {
        inside = below;
        digits = rw (take-suc text at 0 below) (digits_append (take at text) (byte ∷ []) passed.digits ∙ rw (digit, all_digits) refl);
        its_value = rw (take-suc text at 0 below) (value_append 0 (take at text) (byte ∷ []) ∙ rw passed.its_value (sym is));
        small = fits;
      })

      -- a byte that is no digit
      pub no_digit : is_digit byte ≡ false → limit_of text ≡ no_limit
      unfolding limit_of is_limit all_digits
      no_digit other = rw (not_all, and-false (leb (length text) most_limit_digits), and-false (leb 1 (length text))) refl
        where
          not_all : all_digits text ≡ false
          not_all = ap all_digits parted ∙ digits_append (take at text) (byte ∷ drop (suc at) text) passed.digits ∙ rw (other, all_digits) refl

      -- a value that is too large
      pub too_large : largest_limit < value * 10 + (byte - 48) → limit_of text ≡ no_limit
      unfolding limit_of is_limit value_after
      too_large large = rw (lt-leb (value_after 0 text) largest_limit over, and-false (all_digits text), and-false (leb (length text) most_limit_digits), and-false (leb 1 (length text))) refl
        where
          its_value : value_after 0 text ≡ value_after (value * 10 + (byte - 48)) (drop (suc at) text)
          its_value = ap (value_after 0) parted ∙ value_append 0 (take at text) (byte ∷ drop (suc at) text) ∙ rw passed.its_value refl

          over : largest_limit < value_after 0 text
          over = let more = value_grows (drop (suc at) text) (value * 10 + (byte - 48)) in omega (arith, its_value, more)

-- no text at all
pub no_text : (text : List ℕ) → length text ≡ 0 → limit_of text ≡ no_limit
unfolding limit_of is_limit
no_text text none = rw none refl

-- what the proof of the reader is found by
pub ruleset read_laws = (none_passed, all_passed, no_digit, too_large, no_text, too_long, digit_bounds)
