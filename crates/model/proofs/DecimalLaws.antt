-- Laws of shortest decimal digits: the last digit comes after the digits of the tenth part, how many there are, and that each is a digit.
-- Assumes nothing.
use Rattle.std.specs.Prelude.{◌≡◌, refl, Bool, true, false, List, [], ◌∷◌, ◌++◌, ℕ, zero, suc, ◌+◌, ◌/◌, ◌%◌, ◌^◌, ◌≤◌, ◌<◌, length, ltb}
use Rattle.std.proofs.Common.{sym, ap, ◌∙◌, append_assoc, not-suc-le-zero, arith, length-append, ltb-true, ltb-false, lt-ltb, le-ltb, le-leb}
use Rattle.model.specs.Decimal.{digit_byte, digits_before, decimal}
use Rattle.model.specs.GridFile.{is_digit}

module _ (more number : ℕ) (text : List ℕ) where
  last_digits : number < 10 → digits_before (suc more) number text ≡ digit_byte number ∷ text
  unfolding digits_before
  last_digits h = rw (lt-ltb number 10 h, digits_before)

  further_digits : 10 ≤ number → digits_before (suc more) number text ≡ digits_before more (number / 10) (digit_byte (number % 10) ∷ text)
  unfolding digits_before
  further_digits h = rw (le-ltb number 10 h, digits_before)

smaller : (number : ℕ) → 10 ≤ number → number / 10 < number
smaller number h = omega arith

-- any bound above the number will do
enough : (more other number : ℕ) (text : List ℕ) → number < more → number < other → digits_before more number text ≡ digits_before other number text
enough zero other number text h k = absurd (not-suc-le-zero h)
enough (suc more) zero number text h k = absurd (not-suc-le-zero k)
enough (suc more) (suc other) number text h k = go (ltb number 10) refl (λ b c. enough more other (number / 10) (digit_byte (number % 10) ∷ text) b c)
  where
    go : (t : Bool) → ltb number 10 ≡ t → (number / 10 < more → number / 10 < other → digits_before more (number / 10) (digit_byte (number % 10) ∷ text) ≡ digits_before other (number / 10) (digit_byte (number % 10) ∷ text)) → digits_before (suc more) number text ≡ digits_before (suc other) number text
    go true e again = last_digits more number text (ltb-true _ _ e) ∙ sym (last_digits other number text (ltb-true _ _ e))
    go false e again =
        let big : 10 ≤ number = ltb-false _ _ e in
        further_digits more number text big ∙ again (omega arith) (omega arith) ∙ sym (further_digits other number text big)

-- digits in front of a text are digits in front of nothing, and then the text
split : (more number : ℕ) (text : List ℕ) → digits_before more number text ≡ digits_before more number [] ++ text
unfolding digits_before
split zero number text = refl
split (suc more) number text = go (ltb number 10) refl (split more (number / 10) (digit_byte (number % 10) ∷ text)) (split more (number / 10) (digit_byte (number % 10) ∷ []))
  where
    go : (t : Bool) → ltb number 10 ≡ t → digits_before more (number / 10) (digit_byte (number % 10) ∷ text) ≡ digits_before more (number / 10) [] ++ (digit_byte (number % 10) ∷ text) → digits_before more (number / 10) (digit_byte (number % 10) ∷ []) ≡ digits_before more (number / 10) [] ++ (digit_byte (number % 10) ∷ []) → digits_before (suc more) number text ≡ digits_before (suc more) number [] ++ text
    go true e again none = last_digits more number text (ltb-true _ _ e) ∙ ap (λ (l : List ℕ). l ++ text) (sym (last_digits more number [] (ltb-true _ _ e)))
    go false e again none =
        let big : 10 ≤ number = ltb-false _ _ e in
        further_digits more number text big ∙ again
        ∙ sym (append_assoc (digits_before more (number / 10) []) (digit_byte (number % 10) ∷ []) text)
        ∙ ap (λ (l : List ℕ). l ++ text) (sym (further_digits more number [] big ∙ none))

pub decimal_short : (number : ℕ) → number < 10 → decimal number ≡ digit_byte number ∷ []
unfolding decimal
decimal_short number h = last_digits number number [] h

pub decimal_long : (number : ℕ) → 10 ≤ number → decimal number ≡ decimal (number / 10) ++ (digit_byte (number % 10) ∷ [])
unfolding decimal
decimal_long number h =
    further_digits number number [] h
    ∙ enough number (suc (number / 10)) (number / 10) (digit_byte (number % 10) ∷ []) (smaller number h) (omega arith)
    ∙ split (suc (number / 10)) (number / 10) (digit_byte (number % 10) ∷ [])

-- a number below the power has no more digits than the exponent
pub decimal_length : (digits number : ℕ) → number < 10 ^ suc digits → length (decimal number) ≤ suc digits
decimal_length zero number h = rw (decimal_short number (omega arith)) (omega arith)
decimal_length (suc digits) number h = go (ltb number 10) refl (λ (k : number / 10 < 10 ^ suc digits). decimal_length digits (number / 10) k)
  where
    go : (t : Bool) → ltb number 10 ≡ t → (number / 10 < 10 ^ suc digits → length (decimal (number / 10)) ≤ suc digits) → length (decimal number) ≤ suc (suc digits)
    go true e again = rw (decimal_short number (ltb-true _ _ e)) (omega arith)
    go false e again = rw (decimal_long number (ltb-false _ _ e), length-append) (omega (arith, again (omega arith)))

-- and at least one
pub decimal_some : (number : ℕ) → 1 ≤ length (decimal number)
decimal_some number = go (ltb number 10) refl
  where
    go : (t : Bool) → ltb number 10 ≡ t → 1 ≤ length (decimal number)
    go true e = rw (decimal_short number (ltb-true _ _ e)) (omega arith)
    go false e = rw (decimal_long number (ltb-false _ _ e), length-append) (omega arith)

-- the byte of a digit is one
pub digit_is_digit : (digit : ℕ) → digit < 10 → is_digit (digit_byte digit) ≡ true
unfolding is_digit digit_byte
digit_is_digit digit h = rw (le-leb 48 (48 + digit) (omega arith), le-leb (48 + digit) 57 (omega arith))
