-- What is proved of the definitions in specs/PadsOfEdges.antt.
use Rattle.std.specs.Prelude.{ℕ, ◌+◌, ◌*◌, ◌%◌, ◌/◌, ◌≤◌, ◌<◌, ◌≡◌, refl, ◌⊎◌, ◌↔◌, List, [], ◌∷◌}
use Rattle.std.proofs.Common.{sym, ◌∙◌, ap, inl, inr, arith, suc-mul}
use Rattle.rules.specs.Grid.{Edge, right, down, first, second, pad_index, field_side, Place, edge, no_edge, parity, place_at, row_of, column_of, Grid}
use Rattle.rules.specs.Record.{tabulate}
use Rattle.rules.specs.Places.{zero≢one, FoundAt, in_an_even_row, in_an_odd_row}
use Rattle.rules.proofs.Places.{place_right, place_down, found_at, edge_of_place, edge_of_pads, no_edge_back}
use Rattle.rules.specs.PadsOfEdges.{Neighbours, Joins, Gives, OnePlace, beside, above, to_the_right, downward}

-- FOR EXAMPLE: the field of 2 rows and 3 columns of pads, place by place, with the first and the second pad of each edge. Pads 0, 1 and 2
-- stand in its upper row, 3, 4 and 5 in its lower one.
abbrev pads_given : ℕ → Place → List ℕ
pads_given width (edge e) = first e ∷ second width e ∷ []
pads_given width no_edge = []

pub field_of_2_by_3 : tabulate (λ i. pads_given 3 (place_at 3 (i / 5) (i % 5))) 0 15
    ≡ [] ∷ (0 ∷ 1 ∷ []) ∷ [] ∷ (1 ∷ 2 ∷ []) ∷ []
    ∷ (0 ∷ 3 ∷ []) ∷ [] ∷ (1 ∷ 4 ∷ []) ∷ [] ∷ (2 ∷ 5 ∷ [])
    ∷ [] ∷ (3 ∷ 4 ∷ []) ∷ [] ∷ (4 ∷ 5 ∷ []) ∷ [] ∷ []
unfolding tabulate place_at parity
field_of_2_by_3 = refl

module _ (g : Grid) (wide : 2 ≤ g.width) where
  abbrev w : ℕ
  w = g.width

  -- what is joined is given
  given : (row column a b : ℕ) → Joins g row column a b → Gives g row column a b
  given row column a b (to_the_right y x r c below inside p q) = record {
    row_in_field = omega arith;
    column_in_field = omega arith;
    found = right (pad_index w y x);
    there = rw (r, c) (place_right w y x);
    first_pad = sym p;
    second_pad = omega arith;
  }
  given row column a b (downward y x r c below inside p q) = record {
    row_in_field = omega arith;
    column_in_field = omega arith;
    found = down (pad_index w y x);
    there = rw (r, c) (place_down w y x);
    first_pad = sym p;
    second_pad = let next_row = suc-mul y w in omega arith;
  }

  -- what is given is joined
  joined : (row column a b : ℕ) → Gives g row column a b → Joins g row column a b
  joined row column a b gives = go gives.found (found_at w row column gives.found gives.there) gives.first_pad gives.second_pad
    where
      go : (e : Edge) → FoundAt w row column e → first e ≡ a → second w e ≡ b → Joins g row column a b
      go e (in_an_even_row y x r c is) p q =
          let pad : pad_index w y x ≡ a = sym (ap first is) ∙ p in
          let next : pad_index w y x + 1 ≡ b = sym (ap (second w) is) ∙ q in
          to_the_right y x r c (omega (arith, gives.row_in_field)) (omega (arith, gives.column_in_field)) (sym pad) (omega arith)
      go e (in_an_odd_row y x r c is) p q =
          let pad : pad_index w y x ≡ a = sym (ap first is) ∙ p in
          let below : pad_index w y x + w ≡ b = sym (ap (second w) is) ∙ q in
          let next_row = suc-mul y w in
          downward y x r c (omega (arith, gives.row_in_field)) (omega (arith, gives.column_in_field)) (sym pad) (omega arith)

  -- EACH EDGE PLACE GIVES EXACTLY THE FIRST AND THE SECOND PAD THAT IT JOINS
  pub edge_place_gives_its_pads : (row column a b : ℕ) → Joins g row column a b ↔ Gives g row column a b
  edge_place_gives_its_pads row column a b = (given row column a b, joined row column a b)

  -- and no others
  pub edge_place_gives_no_others : (row column a b c d : ℕ) → Gives g row column a b → Gives g row column c d → (a ≡ c) × (b ≡ d)
  edge_place_gives_no_others row column a b c d one other =
      let same : one.found ≡ other.found = cc in
      (sym one.first_pad ∙ ap first same ∙ other.first_pad, sym one.second_pad ∙ ap (second w) same ∙ other.second_pad)

  -- A PLACE OF THE FIELD THAT IS NO EDGE PLACE GIVES NONE: it is found to have no edge exactly where it joins no pads
  pub other_place_gives_none : (row column : ℕ) → row < field_side g.height → column < field_side g.width
      → (place_at w row column ≡ no_edge) ↔ ((a b : ℕ) → Joins g row column a b → ⊥)
  other_place_gives_none row column row_in column_in = (none, go (place_at w row column) refl)
    where
      none : place_at w row column ≡ no_edge → (a b : ℕ) → Joins g row column a b → ⊥
      none at a b joins = let gives = given row column a b joins in let there = gives.there in zero≢one (cc)

      go : (p : Place) → place_at w row column ≡ p → ((a b : ℕ) → Joins g row column a b → ⊥) → place_at w row column ≡ no_edge
      go no_edge at no_pads = at
      go (edge e) at no_pads = absurd (no_pads (first e) (second w e) (joined row column (first e) (second w e)
          (record { row_in_field = row_in; column_in_field = column_in; found = e; there = at; first_pad = refl; second_pad = refl })))

  -- EACH TWO NEIGHBOURING PADS HAVE EXACTLY ONE PLACE
  one_place : (row column a b : ℕ) → Joins g row column a b → OnePlace g a b
  one_place row column a b joins = record { row = row; column = column; gives = here; only = only }
    where
      here : Gives g row column a b
      here = given row column a b joins

      its_place : (r c : ℕ) (x y : ℕ) (gives : Gives g r c x y) → (row_of w gives.found ≡ r) × (column_of w gives.found ≡ c)
      its_place r c x y gives =
          let its = edge_of_place g wide r c gives.row_in_field gives.column_in_field gives.found gives.there in
          (its.its_row, its.its_column)

      only : (r c : ℕ) → Gives g r c a b ⊎ Gives g r c b a → (r ≡ row) × (c ≡ column)
      only r c (inl other) =
          let same : other.found ≡ here.found =
          edge_of_pads g wide other.found here.found (other.first_pad ∙ sym here.first_pad) (other.second_pad ∙ sym here.second_pad) in (
            sym (its_place r c a b other).0 ∙ ap (row_of w) same ∙ (its_place row column a b here).0,
            sym (its_place r c a b other).1 ∙ ap (column_of w) same ∙ (its_place row column a b here).1,
          )
      only r c (inr other) = absurd (no_edge_back g wide other.found here.found (other.first_pad ∙ sym here.second_pad) (other.second_pad ∙ sym here.first_pad))

  pub neighbours_have_one_place : (a b : ℕ) → Neighbours g a b → OnePlace g a b
  neighbours_have_one_place a b (beside y x below inside p q) = one_place (2 * y) (2 * x + 1) a b (to_the_right y x refl refl below inside p q)
  neighbours_have_one_place a b (above y x below inside p q) = one_place (2 * y + 1) (2 * x) a b (downward y x refl refl below inside p q)
