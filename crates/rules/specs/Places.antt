-- Places and edges fit together: each edge of the board has exactly one place of the field, and each edge place of the field is the place
-- of exactly one edge of the board. These are document 01's sentences about places, proved of the definitions in Grid.antt; what they say of
-- pads stands in PadsOfEdges.antt. Among them stand small laws that other files cite: how many places there are, and the columns of the pads.
-- What is proved of them stands in proofs/Places.antt.
use Rattle.std.specs.Prelude.{ℕ, zero, suc, ◌+◌, ◌*◌, ◌-◌, ◌%◌, ◌≤◌, ◌<◌, ◌≡◌}
use Rattle.std.proofs.Math.Path.{refl}
use Rattle.std.proofs.Common.{sym, ◌∙◌, ap, add-one, mod-eq_of_lt, mul-pos, mul-le-mul}
use native.Mathlib.Omega.{arith}
use Rattle.std.proofs.Math.Decide.{ℕ_discrete}
use Rattle.std.proofs.Math.Nat.{mod-lt, mod-add-mod, mod_self, mul-mod_left}
use Rattle.rules.specs.Grid.{Edge, right, down, first, second, pad_index, Parity, even, odd, next_parity, parity, row_of, column_of, Grid, pads, OnBoard, places}

-- no two different numbers are equal
pub zero≢one : {A : Type 0} → ◌≡◌ {A = ℕ} 0 1 → A
zero≢one e = absurd (omega arith)

-- EVEN AND ODD: 2n is even, 2n+1 is odd, and every number is the one that its parity stands for
pub parity_even : (n : ℕ) → parity (2 * n) ≡ even n
unfolding parity
parity_even zero = refl
parity_even (suc n) =
    let next : 2 * suc n ≡ suc (suc (2 * n)) = omega arith in
    ap parity next ∙ ap (λ p. next_parity (next_parity p)) (parity_even n)

pub parity_odd : (n : ℕ) → parity (2 * n + 1) ≡ odd n
unfolding parity
parity_odd n = ap parity (add-one (2 * n)) ∙ ap next_parity (parity_even n)

abbrev pub number_of : Parity → ℕ
number_of (even n) = 2 * n
number_of (odd n) = 2 * n + 1

pub its_number : (n : ℕ) → number_of (parity n) ≡ n
unfolding parity
its_number zero = refl
its_number (suc n) = one_more (parity n) ∙ ap suc (its_number n)
  where
    one_more : (p : Parity) → number_of (next_parity p) ≡ suc (number_of p)
    one_more (even m) = omega arith
    one_more (odd m) = omega arith

-- and an edge is found at these places only
pub data FoundAt (width row column : ℕ) (e : Edge) : Type 0 where
  in_an_even_row : (y x : ℕ) → row ≡ 2 * y → column ≡ 2 * x + 1 → e ≡ right (pad_index width y x) → FoundAt width row column e
  in_an_odd_row : (y x : ℕ) → row ≡ 2 * y + 1 → column ≡ 2 * x → e ≡ down (pad_index width y x) → FoundAt width row column e

-- THE NUMBER OF PLACES: some, and at most 961, where the sizes are in range
pub some_places : (height width : ℕ) → 2 ≤ height → 2 ≤ width → 0 < places height width
some_places height width h w = let a : 0 < 2 * height - 1 = omega arith in let b : 0 < 2 * width - 1 = omega arith in mul-pos a b

pub few_places : (height width : ℕ) → height ≤ 16 → width ≤ 16 → places height width ≤ 961
few_places height width h w = mul-le-mul {n₂ = 31} {m₂ = 31} (omega arith) (omega arith)

-- COLUMNS: the next pad of a row stands one column further, and it is a pad; a pad that is not first in its row follows one that is not last
module _ (width v : ℕ) where
  pub next_column : v % width + 1 < width → (v + 1) % width ≡ v % width + 1
  next_column h = sym (mod-add-mod v width 1) ∙ mod-eq_of_lt h

  pub next_in_row : (height : ℕ) → v % width + 1 < width → v < height * width → v + 1 < height * width
  next_in_row height h k = elim (ℕ_discrete (v + 1) (height * width)) [
    | yes e ↦ absurd (omega (arith, sym (next_column h) ∙ ap (λ x. x % width) e ∙ mul-mod_left height width))
    | no n ↦ omega arith
  ]

  pub previous_column : 0 < width → 0 < (v + 1) % width → v % width + 1 < width
  previous_column some h = elim (ℕ_discrete (v % width + 1) width) [
    | yes e ↦ absurd (omega (arith, sym (mod_self width) ∙ ap (λ x. x % width) (sym e) ∙ mod-add-mod v width 1))
    | no n ↦ let k : v % width < width = mod-lt v some in omega arith
  ]

-- the first and the second pad of an edge of the board are pads
pub first_inside : (g : Grid) (e : Edge) → OnBoard g e → first e < pads g
unfolding OnBoard
first_inside g (right v) h = h.0
first_inside g (down v) h = omega arith

pub second_inside : (g : Grid) (e : Edge) → OnBoard g e → second g.width e < pads g
unfolding OnBoard
second_inside g (right v) (below, inside) = next_in_row g.width v g.height inside below
second_inside g (down v) h = h

module _ (g : Grid) (wide : 2 ≤ g.width) where
  -- EACH EDGE PLACE OF THE FIELD IS THE PLACE OF ONE EDGE OF THE BOARD
  pub record PlaceOf (row column : ℕ) (e : Edge) : Type 0 where
    pub on_board : OnBoard g e
    pub its_row : row_of g.width e ≡ row
    pub its_column : column_of g.width e ≡ column
