-- What is proved of the definitions in specs/LimitLaws.antt.
use Rattle.std.specs.Prelude.{ℕ, zero, suc, ◌+◌, ◌*◌, ◌-◌, ◌/◌, ◌%◌, ◌^◌, ◌≤◌, ◌<◌, ◌≡◌, Bool, true, false, List, [], ◌∷◌, ◌++◌, ltb, length}
use Rattle.std.proofs.Math.Path.{refl}
use Rattle.std.proofs.Common.{subst, ◌∙◌, zero-add, arith, ltb-true, ltb-false, le-leb}
use Rattle.std.proofs.lemmas.Bool.{lt-leb}
use Rattle.rules.specs.Tests.{both}
use Rattle.model.specs.Decimal.{digit_byte, decimal}
use Rattle.model.proofs.DecimalLaws.{decimal_short, decimal_long, decimal_length, decimal_some, digit_is_digit}
use Rattle.model.specs.GridFile.{is_digit}
use Rattle.model.specs.RoutesTo.{largest_limit, most_limit_digits, all_digits, value_after, is_limit, limit_of, boards, no_limit}
use Rattle.model.specs.LimitLaws.{Says}

-- ## Digits one after the other

pub digits_append : (text more : List ℕ) → all_digits text ≡ true → all_digits (text ++ more) ≡ all_digits more
unfolding all_digits
digits_append [] more all = refl
digits_append (byte ∷ text) more all = let (d, rest) = both (is_digit byte) (all_digits text) all in rw (d, all_digits) (digits_append text more rest)

pub value_append : (value : ℕ) (text more : List ℕ) → value_after value (text ++ more) ≡ value_after (value_after value text) more
unfolding value_after
value_append value [] more = refl
value_append value (byte ∷ text) more = value_append (value * 10 + (byte - 48)) text more

-- one digit after the digits of a number
digit_more : (number digit : ℕ) (text : List ℕ) → digit < 10 → Says number text → Says (number * 10 + digit) (text ++ (digit_byte digit ∷ []))
unfolding all_digits value_after digit_byte
digit_more number digit text small said = record {
  digits = digits_append text (digit_byte digit ∷ []) said.digits ∙ rw (digit_is_digit digit small, all_digits) refl;
  value = value_append 0 text (digit_byte digit ∷ []) ∙ rw said.value (omega arith);
}

short_says : (number : ℕ) → number < 10 → Says number (decimal number)
short_says number small = rw (decimal_short number small) (subst (λ n. Says n (digit_byte number ∷ [])) (zero-add number)
    (digit_more 0 number [] small (record { digits = unfold all_digits in refl; value = unfold value_after in refl })))

decimal_says : (more number : ℕ) → number < 10 ^ suc more → Says number (decimal number)
decimal_says zero number h = short_says number (omega arith)
decimal_says (suc more) number h = go (ltb number 10) refl (λ below. decimal_says more (number / 10) below)
  where
    go : (b : Bool) → ltb number 10 ≡ b → (number / 10 < 10 ^ suc more → Says (number / 10) (decimal (number / 10))) → Says number (decimal number)
    go true e tenth = short_says number (ltb-true number 10 e)
    go false e tenth = let big : 10 ≤ number = ltb-false number 10 e in
        rw (decimal_long number big) (subst (λ n. Says n (decimal (number / 10) ++ (digit_byte (number % 10) ∷ []))) whole
        (digit_more (number / 10) (number % 10) (decimal (number / 10)) (omega arith) (tenth (omega arith))))
      where
        whole : number / 10 * 10 + number % 10 ≡ number
        whole = omega arith

-- EVERY LIMIT CAN BE GIVEN: a number of 64 bits, in its digits
pub own_digits : (number : ℕ) → number ≤ largest_limit → limit_of (decimal number) ≡ boards number
unfolding limit_of is_limit
own_digits number h =
    let said = decimal_says 19 number (omega arith) in
    rw (le-leb 1 _ (decimal_some number), le-leb _ most_limit_digits (decimal_length 19 number (omega arith)), said.digits, said.value, le-leb number largest_limit h) refl

-- a text that is too long is none
pub too_long : (text : List ℕ) → most_limit_digits < length text → limit_of text ≡ no_limit
unfolding limit_of is_limit
too_long text long = rw (le-leb 1 (length text) (omega arith), lt-leb (length text) most_limit_digits long) refl
