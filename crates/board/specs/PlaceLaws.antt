-- The pads at a place, any numbers, as the code finds them, and the edge that they tell of, which is on the board. It rests on the model's
-- EdgeAtLaws.antt and grid's PadsAt.antt.
use Rattle.std.specs.Prelude.{ℕ, ◌≤◌, ◌<◌, ◌≡◌, true, Option, Some, None}
use Rattle.std.proofs.Math.Path.{refl, ap}
use Rattle.std.proofs.Common.{sym, ◌∙◌, arith}
use Rattle.rules.specs.Grid.{Edge, edge, no_edge, place_at, field_side, Grid, pads, OnBoard}
use Rattle.rules.specs.Places.{first_inside, zero≢one}
use Rattle.model.specs.PadTests.{on_board}
use Rattle.model.specs.BoardLaws.{on_board_test}
use Rattle.model.specs.Calls.{edge_at}
use Rattle.model.specs.EdgeAtLaws.{row_outside, column_outside, in_field, edge_at_on}
use Rattle.grid.specs.Directions.{edge_to, first_to}
use Rattle.grid.specs.PadsAt.{pads_of, edge_of, place_of, IfEdge, edge_nowhere, told_place}
use Rattle.grid.specs.declared.Pads.{Pads}

-- THE PADS AT A PLACE, by the tests that the code makes
module _ (g : Grid) (y x : ℕ) where
  pub row_off : field_side g.height ≤ y → None ≡ pads_of g.width (edge_at g y x)
  unfolding pads_of
  row_off off = rw (row_outside g y x off) refl

  module _ (row_in : y < field_side g.height) where
    pub column_off : field_side g.width ≤ x → None ≡ pads_of g.width (edge_at g y x)
    unfolding pads_of
    column_off off = rw (column_outside g y x row_in off) refl

    pub pads_in_field : x < field_side g.width → (width : ℕ) → width ≡ g.width → {there : Option Pads} → there ≡ pads_of width (place_at width y x)
        → there ≡ pads_of g.width (edge_at g y x)
    pads_in_field column_in width is are = are ∙ ap (λ (w : ℕ). pads_of w (place_at w y x)) is ∙ ap (pads_of g.width) (sym (in_field g y x row_in column_in))

-- WHAT THE PADS TELL OF
pub told_edge : (g : Grid) (y x : ℕ) (there : Option Pads) → there ≡ pads_of g.width (edge_at g y x) → place_of there ≡ edge_at g y x
told_edge g y x there are = told_place g.width (edge_at g y x) are

pub nothing_decided : (there : Option Pads) → there ≡ None → (So : Edge → Type 0) → IfEdge (place_of there) So
nothing_decided there none So e is = let k : no_edge ≡ edge e = sym (edge_nowhere there none) ∙ is in zero≢one (cc)

module _ (g : Grid) (y x : ℕ) where
  pub none_there : None ≡ pads_of g.width (edge_at g y x) → edge_at g y x ≡ no_edge
  unfolding place_of
  none_there none = sym (told_place g.width (edge_at g y x) none)

  module _ (pads : Pads) (are : Some pads ≡ pads_of g.width (edge_at g y x)) where
    pub one_there : edge_at g y x ≡ edge (edge_of pads)
    unfolding place_of
    one_there = sym (told_place g.width (edge_at g y x) are)

    pub told_on_board : 2 ≤ g.width → OnBoard g (edge_of pads)
    told_on_board wide = edge_at_on g y x wide (edge_of pads) one_there

-- THE EDGE OF TWO PADS, by its direction and its first pad
module _ (g : Grid) (few : pads g ≤ 256) (there : Pads) (on : OnBoard g (edge_of there)) where
  pub decidable : (there.first < 256) × (on_board g (edge_to there.direction there.first) ≡ true)
  unfolding edge_of
  decidable = (omega (arith, first_inside g (edge_of there) on, few, first_to there.direction there.first), on_board_test g (edge_of there) on)

pub edge_is : (there : Pads) → edge_to there.direction there.first ≡ edge_of there
unfolding edge_of
edge_is there = refl
