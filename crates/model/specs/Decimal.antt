-- Numbers as texts: decimal numbers in shortest digits. Assumes nothing.
use Rattle.std.specs.Prelude.{ℕ, zero, suc, ◌+◌, ◌/◌, ◌%◌, true, false, List, [], ◌∷◌, ltb}

-- the byte of a digit
unfoldable pub digit_byte : ℕ → ℕ
digit_byte digit = 48 + digit

-- the digits of a number in front of a text; the first argument bounds how many there are
unfoldable pub digits_before : ℕ → ℕ → List ℕ → List ℕ
digits_before zero number text = text
digits_before (suc more) number text =
    elim (ltb number 10) [
      | true ↦ digit_byte number ∷ text
      | false ↦ digits_before more (number / 10) (digit_byte (number % 10) ∷ text)
    ]

-- a number in its shortest decimal digits: it has no more digits than itself and one more
unfoldable pub decimal : ℕ → List ℕ
decimal number = digits_before (suc number) number []
