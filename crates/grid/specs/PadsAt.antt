-- The two pads of a place as the code's answer, and the place that such an answer tells of. Assumes nothing.
use Rattle.std.specs.Prelude.{ℕ, ◌≡◌, refl, Option, Some, None}
use Rattle.std.proofs.Math.Path.{ap}
use Rattle.std.proofs.Common.{◌∙◌}
use Rattle.rules.specs.Grid.{Edge, right, down, first, second, Place, edge, no_edge}
use Rattle.grid.specs.declared.Direction.TheVariants.{Right, Down}
use Rattle.grid.specs.declared.Pads.{Pads}
use Rattle.grid.specs.Directions.{edge_to}

-- the first and the second pad of the edge at a place
unfoldable pub pads_of : ℕ → Place → Option Pads
pads_of width (edge (right v)) = Some (record { direction = Right; first = first (right v); second = second width (right v) })
pads_of width (edge (down v)) = Some (record { direction = Down; first = first (down v); second = second width (down v) })
pads_of width no_edge = None

-- the edge between two pads
unfoldable pub edge_of : Pads → Edge
edge_of pads = edge_to pads.direction pads.first

-- what stands at the place: the edge of these pads
unfoldable pub place_of : Option Pads → Place
place_of (Some pads) = edge (edge_of pads)
place_of None = no_edge

-- if an edge stands at the place, this is so of it
abbrev pub IfEdge : Place → (Edge → Type 0) → Type 0
IfEdge p So = (e : Edge) → p ≡ edge e → So e

pub place_back : (width : ℕ) (p : Place) → place_of (pads_of width p) ≡ p
unfolding pads_of place_of edge_of
place_back width (edge (right v)) = refl
place_back width (edge (down v)) = refl
place_back width no_edge = refl

-- by whether there are pads
module _ (pads : Option Pads) where
  pub edge_there : {p : Pads} → pads ≡ Some p → place_of pads ≡ edge (edge_of p)
  unfolding place_of
  edge_there are = ap place_of are

  pub edge_nowhere : pads ≡ None → place_of pads ≡ no_edge
  unfolding place_of
  edge_nowhere none = ap place_of none

-- the pads of a place tell of it
pub told_place : (width : ℕ) (p : Place) {pads : Option Pads} → pads ≡ pads_of width p → place_of pads ≡ p
told_place width p are = ap place_of are ∙ place_back width p
