-- Laws of the refusals: what the test of the code says of a cell, and what each answer says. Assumes nothing.
use Rattle.std.proofs.Common.{◌≡◌, refl, sym, ◌∙◌, Bool, true, false, not, List, length, ℕ, ◌+◌, ◌*◌, ◌≤◌, ◌<◌, ◌∷◌, Some, None, position, cond}
use Rattle.std.specs.List.{position_or_len}
use Rattle.std.proofs.lemmas.List.Recursion.{is_position_or_len}
use mathlib.Core.Bool.{false≢true}
use native.Mathlib.Nat.{mul-le-mul}
use native.Mathlib.Omega.{arith}
use Rattle.std.proofs.lemmas.Grind.{common_steps}
use lib.IntN.{ℤ, pos, negsuc}
use lib.Signed.{le_z}
use mir.Syntax.{w64}
use mir.Val.{SFits, to_z, of_z}
use mir.ValLaws.{to_z-of_z}
use borrow.Author.Tests.{lt-ltb, le-ltb, ne_eqb, eq-eqb, leb-true, leb-false}
use Rattle.rules.specs.Grid.{largest_code}
use Rattle.model.specs.Bounds.{is_size}
use Rattle.model.specs.RefusalLaws.{size_of_test}
use Rattle.model.specs.Refusals.{is_cell, first_bad_cell, grid_refusal}
use Rattle.grid.specs.Answers.{number_of, index_of}
use Rattle.grid.specs.declared.Refusal.TheVariants.{Size, CellCount, Cell}

-- ## The code's test of a cell

module _ (z : ℤ) (f : SFits w64 z) where
  back : to_z w64 (of_z w64 z) ≡ z
  back = to_z-of_z w64 z f

  pub above_hole : le_z (negsuc 1) (to_z w64 (of_z w64 z)) ≡ true → le_z (to_z w64 (of_z w64 z)) (pos largest_code) ≡ is_cell z
  unfolding is_cell
  above_hole h = rw back (go z (rw back at h))
    where
      at_most : (n : ℕ) (b : Bool) → le_z (pos n) (pos largest_code) ≡ b → le_z (pos n) (pos largest_code) ≡ is_cell (pos n)
      at_most n true h = rw (h, le-ltb _ _ (leb-true _ _ h)) refl
      at_most n false h = rw (h, lt-ltb _ _ (leb-false _ _ h)) refl

      go : (z : ℤ) → le_z (negsuc 1) z ≡ true → le_z z (pos largest_code) ≡ is_cell z
      go (pos n) h = at_most n _ refl
      go (negsuc n) h = sym h

  pub below_hole : le_z (negsuc 1) (to_z w64 (of_z w64 z)) ≡ false → le_z (negsuc 1) (to_z w64 (of_z w64 z)) ≡ is_cell z
  unfolding is_cell
  below_hole h = rw back (go z (rw back at h))
    where
      go : (z : ℤ) → le_z (negsuc 1) z ≡ false → le_z (negsuc 1) z ≡ is_cell z
      go (pos n) h = absurd (false≢true (sym h))
      go (negsuc n) h = refl

-- ## The answers

pub product_fits : (height width : ℕ) → is_size height ≡ true → is_size width ≡ true → height * width ≤ 256
product_fits height width h w = mul-le-mul (size_of_test height h).1 (size_of_test width w).1

-- the first bad cell is the first that fails the test
first_bad_is : (cells : List ℤ) → first_bad_cell cells ≡ position_or_len (λ cell. not (is_cell cell)) cells
unfolding first_bad_cell
first_bad_is = is_position_or_len first_bad_cell _ refl step
  where
    step : (cell : ℤ) (cells : List ℤ) → first_bad_cell (cell ∷ cells) ≡ cond (not (is_cell cell)) 0 (1 + first_bad_cell cells)
    step cell cells = go (is_cell cell) refl
      where
        go : (b : Bool) → is_cell cell ≡ b → first_bad_cell (cell ∷ cells) ≡ cond (not (is_cell cell)) 0 (1 + first_bad_cell cells)
        go true h = simp h (omega arith)
        go false h = simp h

module _ (height width : ℕ) (cells : List ℤ) where
  pub not_high : is_size height ≡ false → (number_of Size, index_of Size) ≡ grid_refusal height width cells
  unfolding grid_refusal
  not_high h = simp h

  module _ (h : is_size height ≡ true) where
    pub not_wide : is_size width ≡ false → (number_of Size, index_of Size) ≡ grid_refusal height width cells
    unfolding grid_refusal
    not_wide w = simp (h, w)

    module _ (w : is_size width ≡ true) where
      pub wrong_count : (length cells ≡ height * width → ⊥) → (number_of CellCount, index_of CellCount) ≡ grid_refusal height width cells
      unfolding grid_refusal
      wrong_count l = simp (h, w, ne_eqb _ _ l)

      module _ (l : length cells ≡ height * width) where
        pub bad_cell : (index : ℕ) → position (λ cell. not (is_cell cell)) cells ≡ Some index → (number_of (Cell index), index_of (Cell index)) ≡ grid_refusal height width cells
        unfolding grid_refusal
        bad_cell index at =
            let first : first_bad_cell cells ≡ index = first_bad_is cells ∙ grind (arith, common_steps) in
            let inside : index < length cells = grind (arith, common_steps) in
            simp (h, w, eq-eqb _ _ l, first, lt-ltb _ _ inside)

        pub accepted : position (λ cell. not (is_cell cell)) cells ≡ None → (0, 0) ≡ grid_refusal height width cells
        unfolding grid_refusal
        accepted none =
            let past : length cells ≤ first_bad_cell cells = rw (first_bad_is cells) (grind (arith, common_steps)) in
            simp (h, w, eq-eqb _ _ l, le-ltb _ _ past)
