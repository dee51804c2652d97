-- One pad of packed decimal: which test gave its answer, and that reading its five bytes and packing its cell undo each other.
-- Assumes nothing.
use Rattle.std.specs.Prelude.{if◌then◌else◌}
use Rattle.std.specs.Prelude.{◌≡◌, Bool, ◌||◌, ◌⊎◌, ℕ, zero, suc, ◌+◌, ◌*◌, ◌/◌, ◌%◌, ◌^◌, ◌≤◌, ◌<◌, length, replicate, ℤ, pos, negsuc, eqb, ltb}
use Rattle.std.proofs.Math.Path.{refl, ap}
use Rattle.std.proofs.Common.{sym, ◌∙◌, inl, inr, add-zero, arith, length-append, ltb-true, ltb-false, le-ltb, eqb-true, ne_eqb}
use Rattle.std.proofs.Math.Bool.{true, false}
use mathlib.Core.List.{List, [], ◌∷◌, ◌++◌, append-nil}
use Rattle.std.proofs.Math.Seq.{append_snoc}
use Rattle.rules.specs.Grid.{largest_code, blank_cell}
use Rattle.rules.specs.Tests.{both, neither}
use Rattle.model.specs.GridFile.{blank}
use Rattle.model.specs.Packed.{half_bytes, all_FF, some_above_9, digits_value, PackedPad, cell, refused, packed_pad, packed_number, packed_cell}

-- ## Which test gave the answer

abbrev pub packed_value : List ℕ → ℕ
packed_value five = digits_value 0 (half_bytes five)

pub data PadTold (five : List ℕ) (answer : PackedPad) : Type 0 where
  told_blank : all_FF five ≡ true → answer ≡ cell blank → PadTold five answer
  told_17 : all_FF five ≡ false → some_above_9 (half_bytes five) ≡ true → answer ≡ refused 17 → PadTold five answer
  told_3 : all_FF five ≡ false → some_above_9 (half_bytes five) ≡ false → largest_code < packed_value five → answer ≡ refused 3 → PadTold five answer
  told_code : all_FF five ≡ false → some_above_9 (half_bytes five) ≡ false → packed_value five ≤ largest_code → answer ≡ cell (pos (packed_value five)) → PadTold five answer

pub pad_told : (five : List ℕ) → PadTold five (packed_pad five)
unfolding packed_pad
pad_told five = go (all_FF five) (some_above_9 (half_bytes five)) (ltb largest_code (packed_value five)) refl refl refl
  where
    go : (f a l : Bool) → all_FF five ≡ f → some_above_9 (half_bytes five) ≡ a → ltb largest_code (packed_value five) ≡ l
        → PadTold five (if f then cell blank else if a then refused 17 else if l then refused 3 else cell (pos (packed_value five)))
    go true a l f' a' l' = told_blank f' refl
    go false true l f' a' l' = told_17 f' a' refl
    go false false true f' a' l' = told_3 f' a' (ltb-true _ _ l') refl
    go false false false f' a' l' = told_code f' a' (ltb-false _ _ l') refl

-- a cell that a slice can hold: blank, or a code in range, and no hole
abbrev pub Packable : ℤ → Type 0
Packable z = (z ≡ blank_cell) ⊎ ((code : ℕ) × (z ≡ pos code) × (code ≤ largest_code))

pub packable : (five : List ℕ) (z : ℤ) → packed_pad five ≡ cell z → Packable z
unfolding blank
packable five z e = go (pad_told five)
  where
    go : PadTold five (packed_pad five) → Packable z
    go (told_blank f is) = inl (cc)
    go (told_17 f a is) = let no : ◌≡◌ {A = ℕ} 0 1 = cc in absurd (omega arith)
    go (told_3 f a l is) = let no : ◌≡◌ {A = ℕ} 0 1 = cc in absurd (omega arith)
    go (told_code f a l is) = inr (packed_value five, cc, l)

-- a refusal is 17 or 3
pub refused_with : (five : List ℕ) (number : ℕ) → packed_pad five ≡ refused number → (number ≡ 17) ⊎ (number ≡ 3)
refused_with five number e = go (pad_told five)
  where
    go : PadTold five (packed_pad five) → (number ≡ 17) ⊎ (number ≡ 3)
    go (told_blank f is) = let no : ◌≡◌ {A = ℕ} 0 1 = cc in absurd (omega arith)
    go (told_17 f a is) = inl (cc)
    go (told_3 f a l is) = inr (cc)
    go (told_code f a l is) = let no : ◌≡◌ {A = ℕ} 0 1 = cc in absurd (omega arith)

-- ## From a cell to its bytes and back

-- half bytes, digits and their value, of bytes one behind the other
module _ (second : List ℕ) where
  halves_append : (first : List ℕ) → half_bytes (first ++ second) ≡ half_bytes first ++ half_bytes second
  unfolding half_bytes
  halves_append [] = refl
  halves_append (byte ∷ first) = ap (λ (l : List ℕ). byte / 16 ∷ byte % 16 ∷ l) (halves_append first)

  above_append : (first : List ℕ) → some_above_9 (first ++ second) ≡ some_above_9 first || some_above_9 second
  unfolding some_above_9
  above_append [] = refl
  above_append (half ∷ first) = rw (above_append first) (go (ltb 9 half))
    where
      go : (b : Bool) → b || (some_above_9 first || some_above_9 second) ≡ (b || some_above_9 first) || some_above_9 second
      go true = refl
      go false = refl

  value_append : (first : List ℕ) (value : ℕ) → digits_value value (first ++ second) ≡ digits_value (digits_value value first) second
  unfolding digits_value
  value_append [] value = refl
  value_append (digit ∷ first) value = value_append first (value * 10 + digit)

-- the byte of the last two digits of a number, its halves, and what they add to the digits before them
abbrev two_digits : ℕ → ℕ
two_digits number = number / 10 % 10 * 16 + number % 10

module _ (number : ℕ) where
  high_half : two_digits number / 16 ≡ number / 10 % 10
  high_half = omega arith

  low_half : two_digits number % 16 ≡ number % 10
  low_half = omega arith

  both_halves : (number / 100 * 10 + number / 10 % 10) * 10 + number % 10 ≡ number
  both_halves = omega (arith, tens)
    where
      tens : number / 100 ≡ number / 10 / 10
      tens = omega arith

number_length : (more number : ℕ) → length (packed_number more number) ≡ more
unfolding packed_number
number_length zero number = refl
number_length (suc more) number = length-append (packed_number more (number / 100)) (two_digits number ∷ []) ∙ rw (number_length more (number / 100)) (omega arith)

number_digits : (more number : ℕ) → some_above_9 (half_bytes (packed_number more number)) ≡ false
unfolding packed_number half_bytes some_above_9
number_digits zero number = refl
number_digits (suc more) number = rw (halves_append (two_digits number ∷ []) (packed_number more (number / 100)), above_append _ (half_bytes (packed_number more (number / 100))), number_digits more (number / 100), high_half number, low_half number, le-ltb 9 (number / 10 % 10) (omega arith), le-ltb 9 (number % 10) (omega arith)) refl

number_back : (more number : ℕ) → number < 100 ^ more → packed_value (packed_number more number) ≡ number
unfolding packed_number half_bytes digits_value
number_back zero number h = omega arith
number_back (suc more) number h =
    rw (halves_append (two_digits number ∷ []) (packed_number more (number / 100)), value_append _ (half_bytes (packed_number more (number / 100))) 0, number_back more (number / 100) (omega arith), high_half number, low_half number) (both_halves number)

-- digits are not FF
not_FF : (five : List ℕ) → some_above_9 (half_bytes five) ≡ false → 1 ≤ length five → all_FF five ≡ false
unfolding all_FF half_bytes some_above_9
not_FF [] a some = absurd (omega arith)
not_FF (byte ∷ bytes) a some = rw (ne_eqb byte 255 no) refl
  where
    high : byte / 16 ≤ 9
    high = ltb-false 9 (byte / 16) (neither (ltb 9 (byte / 16)) _ a).0

    no : byte ≡ 255 → ⊥
    no e = omega (arith, high)

all_FF_five : (bytes : List ℕ) → all_FF bytes ≡ true → replicate (length bytes) 255 ≡ bytes
unfolding all_FF
all_FF_five [] f = refl
all_FF_five (byte ∷ bytes) f = let (first, rest) = both (eqb byte 255) (all_FF bytes) f in rw (eqb-true byte 255 first) (ap (λ (l : List ℕ). 255 ∷ l) (all_FF_five bytes rest))

-- five bytes to a pad
pub cell_length : (z : ℤ) → length (packed_cell z) ≡ 5
unfolding packed_cell
cell_length (pos code) = number_length 5 code
cell_length (negsuc below) = refl

-- packing a cell and reading it gives the cell
pub pad_packed : (z : ℤ) → Packable z → packed_pad (packed_cell z) ≡ cell z
unfolding packed_pad packed_cell blank all_FF
pad_packed z (inl e) = rw e refl
pad_packed z (inr (code, e, below)) = rw (e, not_FF (packed_number 5 code) (number_digits 5 code) (rw (number_length 5 code) (omega arith)), number_digits 5 code, number_back 5 code (omega arith), le-ltb largest_code code below) refl

-- the bytes of digits are those of their value
digits_packed : (bytes : List ℕ) (more value : ℕ) → some_above_9 (half_bytes bytes) ≡ false → packed_number (more + length bytes) (digits_value value (half_bytes bytes)) ≡ packed_number more value ++ bytes
unfolding half_bytes some_above_9 digits_value packed_number
digits_packed [] more value a = rw (add-zero more, append-nil) refl
digits_packed (byte ∷ bytes) more value a =
    ap (λ (n : ℕ). packed_number n (digits_value next (half_bytes bytes))) one_more
    ∙ digits_packed bytes (suc more) next second.1
    ∙ rw (before, last) (append_snoc (packed_number more value) byte bytes)
  where
    next : ℕ
    next = (value * 10 + byte / 16) * 10 + byte % 16

    first : (ltb 9 (byte / 16) ≡ false) × (ltb 9 (byte % 16) || some_above_9 (half_bytes bytes) ≡ false)
    first = neither _ _ a

    second : (ltb 9 (byte % 16) ≡ false) × (some_above_9 (half_bytes bytes) ≡ false)
    second = neither _ _ first.1

    one_more : more + suc (length bytes) ≡ suc more + length bytes
    one_more = omega arith

    before : next / 100 ≡ value
    before = omega (arith, ltb-false 9 (byte / 16) first.0, ltb-false 9 (byte % 16) second.0)

    tens : next / 10 ≡ value * 10 + byte / 16
    tens = omega (arith, ltb-false 9 (byte / 16) first.0, ltb-false 9 (byte % 16) second.0)

    high : (value * 10 + byte / 16) % 10 ≡ byte / 16
    high = omega (arith, ltb-false 9 (byte / 16) first.0)

    low : next % 10 ≡ byte % 16
    low = omega (arith, ltb-false 9 (byte % 16) second.0)

    last : two_digits next ≡ byte
    last = rw (tens, high, low) (omega arith)

-- reading five bytes and packing the cell gives the bytes
pub pad_there : (five : List ℕ) (z : ℤ) → length five ≡ 5 → packed_pad five ≡ cell z → packed_cell z ≡ five
unfolding packed_cell packed_number blank
pad_there five z long e = go (pad_told five)
  where
    all : 5 ≡ 0 + length five
    all = omega arith

    go : PadTold five (packed_pad five) → packed_cell z ≡ five
    go (told_blank f is) = let blank_there : z ≡ blank_cell = cc in rw blank_there (ap (λ (n : ℕ). replicate n 255) (sym long) ∙ all_FF_five five f)
    go (told_17 f a is) = let no : ◌≡◌ {A = ℕ} 0 1 = cc in absurd (omega arith)
    go (told_3 f a l is) = let no : ◌≡◌ {A = ℕ} 0 1 = cc in absurd (omega arith)
    go (told_code f a l is) = let code_there : z ≡ pos (packed_value five) = cc in rw code_there (ap (λ (n : ℕ). packed_number n (packed_value five)) all ∙ digits_packed five 0 0 a)
