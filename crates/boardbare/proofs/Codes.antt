-- Laws of a cell as the code reads it, an i64: the sign tells a clue from a blank pad and a hole, -1 is blank, and -v - 2 of a clue's value v is
-- exact, from 0, where it is -2, to 4294967295, where it is -4294967297. Assumes nothing.
use Prim.Native.Nat.{ℕ, zero, suc, ◌≤◌, ◌<◌}
use mathlib.Core.Path.{◌≡◌, refl, ap, sym, ◌∙◌}
use mathlib.Core.Logic.{inl, inr}
use mathlib.Core.Bool.{Bool, true, false, not}
use mathlib.Core.List.{List}
use native.Mathlib.Omega.{arith}
use lib.IntN.{ℤ, pos, negsuc, neg_ℤ, ◌-ℤ◌}
use lib.ListN.{get_or, length, get_or-eq_default}
use lib.Signed.{le_z}
use mir.Syntax.{w64}
use mir.Val.{SFits, to_z, of_z}
use mir.ValLaws.{to_z-of_z, to_z_pos}
use borrow.Author.Tests.{lt-ltb, le-leb, eqb-true}
use Rattle.std.specs.Prelude.{eqb}
use Rattle.std.proofs.lemmas.Bool.{eqb-false}
use Rattle.rules.specs.Grid.{CellInRange, blank_cell, cell_of, largest_code}
use Rattle.rules.specs.Tests.{conflict}
use Rattle.model.specs.PadTests.{is_blank, is_clue}
use Rattle.boardview.specs.Signed.{from_bits}
use Rattle.boardbare.specs.BareArrays.{bare_end_number, end_number_at, is_clue_at, is_taken}

-- 0 - n, and then less 2
minus : (n : ℕ) → pos 0 -ℤ pos n ≡ neg_ℤ (pos n)
minus zero = refl
minus (suc k) = rw (lt-ltb 0 (suc k) (omega arith)) (ap negsuc (omega arith))

less_two : (n : ℕ) → neg_ℤ (pos n) -ℤ pos 2 ≡ negsuc (suc n)
less_two zero = refl
less_two (suc k) = ap negsuc (omega arith)

negative_fits : (n : ℕ) → n ≤ largest_code → SFits w64 (neg_ℤ (pos n))
negative_fits zero h = record { sfits = omega arith }
negative_fits (suc k) h = record { sfits = omega arith }

-- a pad's own index as an i64
pub own_index : (v : ℕ) → v < 512 → to_z w64 v ≡ pos v
own_index v h = to_z_pos w64 v (omega arith)

-- a pad past the list of cells is blank
pub past_the_cells : (cells : List ℤ) (v : ℕ) → length cells ≤ v → v < 512 → to_z w64 v ≡ end_number_at cells v
unfolding end_number_at bare_end_number
past_the_cells cells v past h = own_index v h ∙ rw (get_or-eq_default cells blank_cell past) refl

-- A CELL z of the list
module _ (cells : List ℤ) (v : ℕ) (z : ℤ) (here : z ≡ get_or cells v blank_cell) (fits : SFits w64 z) where
  back : to_z w64 (of_z w64 z) ≡ z
  back = to_z-of_z w64 z fits

  pub taken_is : not (eqb (of_z w64 z) (of_z w64 (negsuc 0))) ≡ is_taken cells v
  unfolding is_taken cell_of
  taken_is = rw (← here) (go (eqb (of_z w64 z) (of_z w64 (negsuc 0))) refl)
    where
      other : (z : ℤ) → (of_z w64 z ≡ of_z w64 (negsuc 0) → ⊥) → true ≡ not (is_blank (cell_of z))
      other (pos n) h = refl
      other (negsuc zero) h = absurd (h refl)
      other (negsuc (suc n)) h = refl

      go : (b : Bool) → eqb (of_z w64 z) (of_z w64 (negsuc 0)) ≡ b → not b ≡ not (is_blank (cell_of z))
      go true e = rw (from_bits z _ fits (eqb-true _ _ e)) refl
      go false e = other z (eqb-false _ _ e)

  pub clue_is : le_z (pos 0) (to_z w64 (of_z w64 z)) ≡ is_clue_at cells v
  unfolding is_clue_at cell_of
  clue_is = rw (← here, back) (go z)
    where
      go : (z : ℤ) → le_z (pos 0) z ≡ is_clue (cell_of z)
      go (pos n) = le-leb 0 n (omega arith)
      go (negsuc zero) = refl
      go (negsuc (suc n)) = refl

  pub own_end : v < 512 → le_z (pos 0) (to_z w64 (of_z w64 z)) ≡ false → to_z w64 v ≡ end_number_at cells v
  unfolding end_number_at bare_end_number
  own_end low h = own_index v low ∙ rw (← here) (go z (rw back at h))
    where
      go : (z : ℤ) → le_z (pos 0) z ≡ false → pos v ≡ bare_end_number z v
      go (pos n) h = conflict (le-leb 0 n (omega arith)) h
      go (negsuc n) h = refl

  module _ (range : CellInRange (get_or cells v blank_cell)) (h : le_z (pos 0) (to_z w64 (of_z w64 z)) ≡ true) where
    code : (n : ℕ) × (z ≡ pos n) × (n ≤ largest_code)
    code = go (rw (← here) at range) (rw back at h)
      where
        go : {z : ℤ} → CellInRange z → le_z (pos 0) z ≡ true → (n : ℕ) × (z ≡ pos n) × (n ≤ largest_code)
        go (inl e) k = conflict k (ap (λ z. le_z (pos 0) z) e)
        go (inr (inl e)) k = conflict k (ap (λ z. le_z (pos 0) z) e)
        go (inr (inr c)) k = c

    first_value : pos 0 -ℤ to_z w64 (of_z w64 z) ≡ neg_ℤ (pos code.0)
    first_value = ap (λ x. pos 0 -ℤ x) (back ∙ code.1) ∙ minus code.0

    pub first_fits : SFits w64 (pos 0 -ℤ to_z w64 (of_z w64 z))
    first_fits = rw first_value (negative_fits code.0 code.2)

    second_value : to_z w64 (of_z w64 (pos 0 -ℤ to_z w64 (of_z w64 z))) -ℤ pos 2 ≡ negsuc (suc code.0)
    second_value = ap (λ z. z -ℤ pos 2) (to_z-of_z w64 _ first_fits ∙ first_value) ∙ less_two code.0

    pub second_fits : SFits w64 (to_z w64 (of_z w64 (pos 0 -ℤ to_z w64 (of_z w64 z))) -ℤ pos 2)
    second_fits = rw second_value (record { sfits = omega (arith, code.2) })

    pub clue_end : to_z w64 (of_z w64 (to_z w64 (of_z w64 (pos 0 -ℤ to_z w64 (of_z w64 z))) -ℤ pos 2)) ≡ end_number_at cells v
    unfolding end_number_at bare_end_number
    clue_end = to_z-of_z w64 _ second_fits ∙ (second_value ∙ ap (λ x. bare_end_number x v) (sym code.1 ∙ here))
