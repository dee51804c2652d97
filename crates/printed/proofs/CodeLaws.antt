-- Laws of a layout's codes: the lines at a pad, and the codes one after the other. Assumes nothing.
use Rattle.std.specs.Prelude.{if◌then◌else◌}
use mathlib.Core.Path.{◌≡◌, refl, ap, ◌∙◌}
use mathlib.Core.Bool.{Bool, true, false}
use mathlib.Core.List.{List, [], ◌∷◌, ◌++◌, append_assoc, append-nil}
use Prim.Native.Nat.{ℕ, zero, suc, ◌+◌, ◌*◌, ◌-◌, ◌/◌, ◌%◌, ◌≤◌, ◌<◌}
use native.Mathlib.Nat.{mul-le-mul, add-zero, zero-add}
use native.Mathlib.Numerals.{add-one}
use native.Mathlib.Omega.{arith}
use lib.ListN.{length, get_or, take, length-append}
use lib.Seq.{length-take-le, get_or-take}
use lib.Dec.{eqb, ltb}
use borrow.Author.Tests.{lt-ltb, le-ltb}
use Rattle.rules.specs.Grid.{Size}
use Rattle.model.specs.Decimal.{digit_byte}
use Rattle.model.specs.Printed.{line_at, right_line, down_line, code_of_pad, code_digits_from, code_digits}

-- ## A place of a record

pub at_most_1 : (width : ℕ) (layout : List ℕ) (row column : ℕ) → line_at width layout row column ≤ 1
unfolding line_at
at_most_1 width layout row column = go (eqb (get_or layout (row * (2 * width - 1) + column) 0) 1)
  where
    go : (t : Bool) → (if t then 1 else 0) ≤ 1
    go true = omega arith
    go false = omega arith

-- ## The lines of a pad

module _ (height width : ℕ) (layout : List ℕ) (y x : ℕ) where
  pub right_there : x + 1 < width → line_at width layout (2 * y) (2 * x + 1) ≡ right_line width layout y x
  unfolding right_line
  right_there h = rw (lt-ltb _ _ h)

  pub no_right : width ≤ x + 1 → 0 ≡ right_line width layout y x
  unfolding right_line
  no_right h = rw (le-ltb _ _ h)

  pub down_there : y + 1 < height → line_at width layout (2 * y + 1) (2 * x) ≡ down_line height width layout y x
  unfolding down_line
  down_there h = rw (lt-ltb _ _ h)

  pub no_down : height ≤ y + 1 → 0 ≡ down_line height width layout y x
  unfolding down_line
  no_down h = rw (le-ltb _ _ h)

  either : (t : Bool) (n : ℕ) → n ≤ 1 → (if t then n else 0) ≤ 1
  either true n h = h
  either false n h = omega arith

  pub right_at_most_1 : right_line width layout y x ≤ 1
  unfolding right_line
  right_at_most_1 = either (ltb (x + 1) width) _ (at_most_1 width layout (2 * y) (2 * x + 1))

  pub down_at_most_1 : down_line height width layout y x ≤ 1
  unfolding down_line
  down_at_most_1 = either (ltb (y + 1) height) _ (at_most_1 width layout (2 * y + 1) (2 * x))

  pub code_at_most_3 : code_of_pad height width layout y x ≤ 3
  unfolding code_of_pad
  code_at_most_3 = omega (arith, right_at_most_1, down_at_most_1)

-- ## The codes in index order

module _ (height width : ℕ) (layout : List ℕ) where
  pub code_after : (more index : ℕ) → code_digits_from height width layout (suc more) index ≡ code_digits_from height width layout more index ++ (digit_byte (code_of_pad height width layout ((index + more) / width) ((index + more) % width)) ∷ [])
  unfolding code_digits_from
  code_after zero index = rw add-zero refl
  code_after (suc more) index = ap (λ (l : List ℕ). digit_byte (code_of_pad height width layout (index / width) (index % width)) ∷ l) (code_after more (index + 1) ∙ ap (λ (n : ℕ). code_digits_from height width layout more (index + 1) ++ (digit_byte (code_of_pad height width layout (n / width) (n % width)) ∷ [])) next)
    where
      next : index + 1 + more ≡ index + suc more
      next = omega arith

  pub codes_length : (more index : ℕ) → length (code_digits_from height width layout more index) ≡ more
  unfolding code_digits_from
  codes_length zero index = refl
  codes_length (suc more) index = ap suc (codes_length more (index + 1))

module _ (height width : ℕ) (h : Size height) (w : Size width) where
  pub all_pads : height * width ≤ 256
  all_pads = mul-le-mul h.1 w.1

-- ## The loop of `push_codes`

-- the codes that are put
pub codes_taken : (height width : ℕ) (codes : List ℕ) → Size height → Size width → length codes ≡ 256 → length (take (height * width) codes) ≡ height * width
codes_taken height width codes h w long = length-take-le _ _ (omega (arith, all_pads height width h w))

module _ (height width : ℕ) (layout first line : List ℕ) (index : ℕ) (p : line ≡ first ++ code_digits_from height width layout index 0) where
  pub pushed_so_far : length line ≡ length first + index
  pushed_so_far = rw (p, length-append, codes_length height width layout index 0) refl

  pub code_pushed : (code : ℕ) {after : List ℕ} → code ≡ code_of_pad height width layout (index / width) (index % width) → after ≡ line ++ ((48 + code) ∷ []) → after ≡ first ++ code_digits_from height width layout (index + 1) 0
  unfolding digit_byte
  code_pushed code e q = rw (q, p, add-one index, code_after height width layout index 0, zero-add, ← e) (append_assoc first _ _)

  pub all_pushed : index ≡ height * width → line ≡ first ++ code_digits height width layout
  unfolding code_digits
  all_pushed there = rw there at p

-- what the proof of `push_codes` is found by
pub ruleset code_laws = (append-nil, all_pads, codes_taken, pushed_so_far, code_pushed, all_pushed, get_or-take)
