-- The two cases of the code, even row and odd row, are those of the rules. Assumes nothing.
use Prim.Native.Nat.{ℕ, ◌+◌, ◌*◌, ◌/◌, ◌≤◌}
use mathlib.Core.Path.{◌≡◌, refl, sym, ap, ◌∙◌}
use native.Mathlib.Omega.{arith}
use native.Mathlib.Nat.{mul-le-mul}
use Rattle.rules.specs.Grid.{right, down, edge, pad_index, place_at}
use Rattle.rules.proofs.Places.{place_right, place_down, place_of_pad, place_in_the_middle}
use Rattle.grid.specs.PadsAt.{pads_of}
use Rattle.std.specs.Prelude.{Option, None}
use Rattle.grid.specs.declared.Pads.{Pads}

-- the rows above a pad have few pads
pub few_above : (width y : ℕ) → width ≤ 16 → y ≤ 16 → y * width ≤ 256
few_above width y narrow low = mul-le-mul low narrow

module _ (width row column : ℕ) where
  abbrev y : ℕ
  y = row / 2

  abbrev x : ℕ
  x = column / 2

  -- the place in other words
  same_place : {r c : ℕ} → row ≡ r → column ≡ c → place_at width row column ≡ place_at width r c
  same_place p q = λ i. place_at width (p i) (q i)

  module _ (even_row : row ≡ 2 * y) where
    pub beside : column ≡ 2 * x + 1 → {found : Option Pads} → found ≡ pads_of width (edge (right (pad_index width y x))) → found ≡ pads_of width (place_at width row column)
    beside odd_column is = is ∙ ap (pads_of width) (sym (same_place even_row odd_column ∙ place_right width y x))

    pub pad_there : (column ≡ 2 * x + 1 → ⊥) → None ≡ pads_of width (place_at width row column)
    unfolding pads_of
    pad_there not_odd =
        let even_column : column ≡ 2 * x = omega arith in
        rw (same_place even_row even_column ∙ place_of_pad width y x) refl

  module _ (not_even : row ≡ 2 * y → ⊥) where
    odd_row : row ≡ 2 * y + 1
    odd_row = omega arith

    pub above : column ≡ 2 * x → {found : Option Pads} → found ≡ pads_of width (edge (down (pad_index width y x))) → found ≡ pads_of width (place_at width row column)
    above even_column is = is ∙ ap (pads_of width) (sym (same_place odd_row even_column ∙ place_down width y x))

    pub middle_there : (column ≡ 2 * x → ⊥) → None ≡ pads_of width (place_at width row column)
    unfolding pads_of
    middle_there not_even_column =
        let odd_column : column ≡ 2 * x + 1 = omega arith in
        rw (same_place odd_row odd_column ∙ place_in_the_middle width y x) refl
