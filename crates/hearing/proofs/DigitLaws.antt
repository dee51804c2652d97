-- Laws of the digits: a digit that is read, whether it fits by the tests that the code makes, and whether all fit. Assumes nothing.
use Prim.Native.Nat.{ℕ, ◌*◌, ◌≤◌, ◌<◌}
use mathlib.Core.Path.{◌≡◌, refl, sym, ap, ◌∙◌}
use mathlib.Core.Bool.{Bool, true, false, ◌&&◌, ◌||◌, not}
use mathlib.Core.List.{List}
use native.Mathlib.Omega.{arith}
use lib.Dec.{eqb}
use lib.ListN.{length}
use borrow.Author.Tests.{le-leb, eq-eqb, ne_eqb}
use Rattle.rules.specs.Grid.{Edge, right, down, grid_of}
use Rattle.rules.specs.Tests.{all_below}
use Rattle.model.specs.PadTests.{on_board}
use Rattle.grid.specs.declared.accepted.Grid.{Grid}
use Rattle.grid.specs.AsGrid.{as_grid, right_on_board}
use Rattle.model.specs.JudgeText.{digit_at, coded, digit_fits, codes_fit}

-- ## A digit

module _ (grid : Grid) (v : ℕ) (inside : v < grid.height * grid.width) (digits : List ℕ) {digit : ℕ} (same : digit ≡ digit_at digits v) (low : 48 ≤ digit) (high : digit ≤ 51) where
  abbrev its_line_fits : Edge → Bool
  its_line_fits e = not (coded digits e) || on_board (as_grid grid) e

  in_range : its_line_fits (right v) && its_line_fits (down v) ≡ digit_fits grid.height grid.width digits v
  unfolding digit_fits grid_of
  in_range = rw (le-leb 48 (digit_at digits v) (omega arith), le-leb (digit_at digits v) 51 (omega arith), right_on_board grid v inside) refl

  pub off_to_the_right : {answer : Bool} → answer ≡ its_line_fits (right v) → answer ≡ false → answer ≡ digit_fits grid.height grid.width digits v
  off_to_the_right says off = off ∙ ap (λ (t : Bool). t && its_line_fits (down v)) (sym off ∙ says) ∙ in_range

  pub by_downward : {answer last : Bool} → answer ≡ its_line_fits (right v) → answer ≡ true → last ≡ its_line_fits (down v) → last ≡ digit_fits grid.height grid.width digits v
  by_downward says on then = then ∙ ap (λ (t : Bool). t && its_line_fits (down v)) (sym on ∙ says) ∙ in_range

-- ## All digits

module _ (height width : ℕ) (digits : List ℕ) where
  pub other_length : {pads : ℕ} → (length digits ≡ pads → ⊥) → pads ≡ height * width → eqb (length digits) pads ≡ codes_fit height width digits
  unfolding codes_fit
  other_length other are = ne_eqb (length digits) _ other ∙ rw (ne_eqb (length digits) (height * width) (λ is. other (is ∙ sym are))) refl

  pub by_all : {answer : Bool} {pads n : ℕ} → length digits ≡ pads → pads ≡ height * width → n ≡ height * width → answer ≡ all_below (digit_fits height width digits) n → answer ≡ codes_fit height width digits
  unfolding codes_fit
  by_all long are same says = says ∙ rw (eq-eqb (length digits) (height * width) (long ∙ are), same) refl
