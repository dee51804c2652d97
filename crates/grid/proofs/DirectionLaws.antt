-- Laws of the two directions: the tests of the code are the model's, the place of an edge is the rules', and so are its two pads. Assumes nothing.
use Rattle.std.specs.Prelude.{ℕ, ◌+◌, ◌*◌, ◌-◌, ◌/◌, ◌%◌, ◌≤◌, ◌<◌, List, Some, ltb, ℤ}
use mathlib.Core.Path.{◌≡◌, refl, ◌∙◌}
use native.Mathlib.Omega.{arith}
use Rattle.std.proofs.Math.Nat.{mul-add-div_right, div-eq_of_lt, mul-add-mod_self_right, mod-eq_of_lt}
use borrow.Author.Tests.{lt-ltb, le-ltb}
use Rattle.rules.specs.Grid.{second, down, edge, pad_index, grid_of}
use Rattle.rules.specs.Record.{place_number}
use Rattle.model.specs.PadTests.{on_board}
use Rattle.grid.specs.declared.Direction.{Direction}
use Rattle.grid.specs.declared.Direction.TheVariants.{Right, Down}
use Rattle.grid.specs.Directions.{edge_to}
use Rattle.grid.specs.PadsAt.{pads_of}

-- the pads of an edge, from its direction and its first pad
pub pads_named : (width : ℕ) (d : Direction) {a b p : ℕ} → a ≡ p → b ≡ second width (edge_to d a)
    → Some (record { direction = d; first = a; second = b }) ≡ pads_of width (edge (edge_to d p))
unfolding pads_of
pads_named width Right {a} {b} p q = λ i. Some (record { direction = Right; first = p i; second = (q ∙ (λ j. p j + 1)) i })
pads_named width Down {a} {b} p q = λ i. Some (record { direction = Down; first = p i; second = (q ∙ (λ j. p j + width)) i })

-- the place of the edge downward from pad (y, x)
module _ (width y x : ℕ) (inside : x < width) where
  row : pad_index width y x / width ≡ y
  row = mul-add-div_right (omega arith) y x ∙ (let none : x / width ≡ 0 = div-eq_of_lt inside in omega arith)

  column : pad_index width y x % width ≡ x
  column = mul-add-mod_self_right y width x ∙ mod-eq_of_lt inside

  pub down_place : (2 * y + 1) * (2 * width - 1) + 2 * x ≡ place_number width (down (pad_index width y x))
  down_place = rw (row, column) refl

-- the tests of an edge
module _ (height width v : ℕ) (cells : List ℤ) (d : Direction) where
  pub right_on : d ≡ Right → v % width + 1 < width → ltb v (height * width) ≡ on_board (grid_of height width cells) (edge_to d v)
  unfolding grid_of
  right_on is inside = rw (is, lt-ltb _ _ inside) refl

  pub right_off : d ≡ Right → width ≤ v % width + 1 → ltb (v % width + 1) width ≡ on_board (grid_of height width cells) (edge_to d v)
  unfolding grid_of
  right_off is outside = rw (is, le-ltb _ _ outside) refl

  pub down_on : d ≡ Down → ltb (v + width) (height * width) ≡ on_board (grid_of height width cells) (edge_to d v)
  unfolding grid_of
  down_on is = rw is refl
