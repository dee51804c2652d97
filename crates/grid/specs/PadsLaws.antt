-- The laws of the two pads of an edge, both ways, said of what `grid::pads_at` answers: each edge place gives exactly the first and the second
-- pad that it joins, a place that is no edge place gives none, and each two neighbouring pads have exactly one place. They are the rules'
-- PadsOfEdges.antt, by way of the function's contract.
use Rattle.std.specs.Prelude.{ℕ, ◌≤◌, ◌<◌, ◌≡◌, ◌⊎◌, ◌↔◌, Option, Some, None}
use Rattle.std.proofs.Math.Path.{refl, ap}
use Rattle.std.proofs.Common.{◌∙◌, inl, inr}
use Rattle.rules.specs.Grid.{Edge, right, down, first, second, field_side, Place, edge, no_edge, place_at, Grid}
use Rattle.rules.specs.Places.{zero≢one}
use Rattle.rules.specs.PadsOfEdges.{Neighbours, Joins, Gives, OnePlace}
use Rattle.rules.proofs.PadsOfEdges.{edge_place_gives_its_pads, other_place_gives_none, neighbours_have_one_place}
use Rattle.grid.specs.PadsAt.{pads_of}
use Rattle.grid.specs.declared.Pads.{Pads}
use Rattle.grid.specs.declared.Direction.{Direction}
use Rattle.grid.specs.declared.Direction.TheVariants.{Right, Down}

-- what the contract of `pads_at` says is answered
abbrev pub answer : Grid → ℕ → ℕ → Option Pads
answer g row column = pads_of g.width (place_at g.width row column)

-- the answer is these two pads, in this order
abbrev pub AreThePads : Option Pads → ℕ → ℕ → Type 0
AreThePads pads a b = (d : Direction) × (pads ≡ Some (record { direction = d; first = a; second = b }))

-- a place of the field
abbrev pub InField : Grid → ℕ → ℕ → Type 0
InField g row column = (row < field_side g.height) × (column < field_side g.width)

-- the pads of the edge that is found
told : (g : Grid) (row column a b : ℕ) → Gives g row column a b → AreThePads (answer g row column) a b
unfolding pads_of
told g row column a b gives = go gives.found gives.there gives.first_pad gives.second_pad
  where
    go : (e : Edge) → place_at g.width row column ≡ edge e → first e ≡ a → second g.width e ≡ b → AreThePads (answer g row column) a b
    go (right v) at p q = (Right, ap (pads_of g.width) at ∙ (λ i. Some (record { direction = Right; first = p i; second = q i })))
    go (down v) at p q = (Down, ap (pads_of g.width) at ∙ (λ i. Some (record { direction = Down; first = p i; second = q i })))

given : (g : Grid) (row column a b : ℕ) → InField g row column → AreThePads (answer g row column) a b → Gives g row column a b
unfolding pads_of
given g row column a b inside are = go (place_at g.width row column) refl are
  where
    first_in : Option Pads → ℕ
    first_in (Some pads) = pads.first
    first_in None = 0

    second_in : Option Pads → ℕ
    second_in (Some pads) = pads.second
    second_in None = 0

    with_edge : (e : Edge) → place_at g.width row column ≡ edge e → first e ≡ a → second g.width e ≡ b → Gives g row column a b
    with_edge e at p q = record { row_in_field = inside.0; column_in_field = inside.1; found = e; there = at; first_pad = p; second_pad = q }

    go : (p : Place) → place_at g.width row column ≡ p → AreThePads (pads_of g.width p) a b → Gives g row column a b
    go (edge (right v)) at (d, is) = with_edge (right v) at (ap first_in is) (ap second_in is)
    go (edge (down v)) at (d, is) = with_edge (down v) at (ap first_in is) (ap second_in is)
    go no_edge at (d, is) = zero≢one (cc)

module _ (g : Grid) (wide : 2 ≤ g.width) where
  -- EACH EDGE PLACE GIVES EXACTLY THE FIRST AND THE SECOND PAD THAT IT JOINS
  pub pads_at_gives_its_pads : (row column : ℕ) → InField g row column → (a b : ℕ) → Joins g row column a b ↔ AreThePads (answer g row column) a b
  pads_at_gives_its_pads row column inside a b = (
    λ joins. told g row column a b ((edge_place_gives_its_pads g wide row column a b).0 joins),
    λ are. (edge_place_gives_its_pads g wide row column a b).1 (given g row column a b inside are),
  )

  -- A PLACE THAT IS NO EDGE PLACE GIVES NONE
  pub pads_at_gives_none : (row column : ℕ) → InField g row column → (answer g row column ≡ None) ↔ ((a b : ℕ) → Joins g row column a b → ⊥)
  unfolding pads_of
  pads_at_gives_none row column inside = (
    λ none. (other_place_gives_none g wide row column inside.0 inside.1).0 (empty (place_at g.width row column) none),
    λ no_pads. ap (pads_of g.width) ((other_place_gives_none g wide row column inside.0 inside.1).1 no_pads),
  )
    where
      empty : (p : Place) → pads_of g.width p ≡ None → p ≡ no_edge
      empty no_edge is = refl
      empty (edge (right v)) is = zero≢one (cc)
      empty (edge (down v)) is = zero≢one (cc)

  -- EACH TWO NEIGHBOURING PADS HAVE EXACTLY ONE PLACE: it gives them, and no other place does, in this order or the other
  pub one_place_gives_neighbours : (a b : ℕ) → Neighbours g a b
      → (row : ℕ) × (column : ℕ) × InField g row column × AreThePads (answer g row column) a b
      × ((r c : ℕ) → InField g r c → AreThePads (answer g r c) a b ⊎ AreThePads (answer g r c) b a → (r ≡ row) × (c ≡ column))
  one_place_gives_neighbours a b near =
      let one = neighbours_have_one_place g wide a b near in
      (one.row, one.column, (one.gives.row_in_field, one.gives.column_in_field), told g one.row one.column a b one.gives, only one)
    where
      only : (one : OnePlace g a b) (r c : ℕ) → InField g r c → AreThePads (answer g r c) a b ⊎ AreThePads (answer g r c) b a → (r ≡ one.row) × (c ≡ one.column)
      only one r c inside (inl are) = one.only r c (inl (given g r c a b inside are))
      only one r c inside (inr are) = one.only r c (inr (given g r c b a inside are))
