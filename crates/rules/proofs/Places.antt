-- What is proved of the definitions in specs/Places.antt.
use Rattle.std.specs.Prelude.{ℕ, suc, ◌+◌, ◌*◌, ◌%◌, ◌/◌, ◌≤◌, ◌<◌, ◌≡◌, ◌≢◌, ◌⊎◌}
use Rattle.std.proofs.Math.Path.{refl}
use Rattle.std.proofs.Common.{sym, ◌∙◌, ap, inl, inr, mod-eq_of_lt, div-add-mod', div-lt_iff_lt-mul, mul-le-mul_right, mul-le-mul}
use native.Mathlib.Omega.{arith}
use Rattle.std.proofs.Math.Nat.{mod-lt, div-eq_of_lt, add-div_right, mul-add-div_right, mul-add-mod_self_right, suc-mul}
use Rattle.rules.specs.Grid.{Edge, right, down, first, second, pad_index, field_side, edge, no_edge, Parity, even, odd, parity, in_row, place_at, row_of, column_of, Grid, pads, OnBoard}
use Rattle.rules.specs.Places.{zero≢one, parity_even, parity_odd, number_of, its_number, FoundAt, PlaceOf, in_an_even_row, in_an_odd_row}

-- THE PLACES, as document 01 has them: (2y, 2x+1) joins pad (y, x) to the right, (2y+1, 2x) downward; the others have no edge.
module _ (width y x : ℕ) where
  pub place_right : place_at width (2 * y) (2 * x + 1) ≡ edge (right (pad_index width y x))
  unfolding place_at
  place_right = rw (parity_even y, parity_odd x) refl

  pub place_down : place_at width (2 * y + 1) (2 * x) ≡ edge (down (pad_index width y x))
  unfolding place_at
  place_down = rw (parity_odd y, parity_even x) refl

  pub place_of_pad : place_at width (2 * y) (2 * x) ≡ no_edge
  unfolding place_at
  place_of_pad = rw (parity_even y, parity_even x) refl

  pub place_in_the_middle : place_at width (2 * y + 1) (2 * x + 1) ≡ no_edge
  unfolding place_at
  place_in_the_middle = rw (parity_odd y, parity_odd x) refl

pub found_at : (width row column : ℕ) (e : Edge) → place_at width row column ≡ edge e → FoundAt width row column e
unfolding place_at
found_at width row column e held = by_row (parity row) (its_number row) (parity column) (its_number column) held
  where
    by_row : (r : Parity) → number_of r ≡ row → (c : Parity) → number_of c ≡ column → in_row width r c ≡ edge e → FoundAt width row column e
    by_row (even y) er (even x) ec h = zero≢one (cc)
    by_row (even y) er (odd x) ec h = in_an_even_row y x (sym er) (sym ec) (cc)
    by_row (odd y) er (even x) ec h = in_an_odd_row y x (sym er) (sym ec) (cc)
    by_row (odd y) er (odd x) ec h = zero≢one (cc)

-- EACH EDGE OF THE BOARD HAS A PLACE of the field, and this place holds it
pub place_of_edge : (width : ℕ) (e : Edge) → place_at width (row_of width e) (column_of width e) ≡ edge e
place_of_edge width (right v) = place_right width (v / width) (v % width) ∙ ap (λ n. edge (right n)) (div-add-mod' v width)
place_of_edge width (down v) = place_down width (v / width) (v % width) ∙ ap (λ n. edge (down n)) (div-add-mod' v width)

-- in a field of at most 31 by 31 places the first pad of an edge is below 256
pub first_small : (width row column : ℕ) → width ≤ 16 → row < 31 → column < 31 → (e : Edge) → place_at width row column ≡ edge e → first e < 256
first_small width row column narrow r c e held = go (found_at width row column e held)
  where
    small : (y x : ℕ) → 2 * y ≤ row → 2 * x ≤ column → pad_index width y x < 256
    small y x below inside = let half : y ≤ 15 = omega arith in let rows : y * width ≤ 15 * 16 = mul-le-mul half narrow in omega arith

    go : FoundAt width row column e → first e < 256
    go (in_an_even_row y x er ec is) = rw is (small y x (omega arith) (omega arith))
    go (in_an_odd_row y x er ec is) = rw is (small y x (omega arith) (omega arith))

module _ (g : Grid) (wide : 2 ≤ g.width) where
  abbrev some : 0 < g.width
  some = omega arith

  pub row_in_field : (e : Edge) → OnBoard g e → row_of g.width e < field_side g.height
  unfolding OnBoard
  row_in_field (right v) (below, inside) = let row : v / g.width < g.height = (div-lt_iff_lt-mul some).1 below in omega arith
  row_in_field (down v) below =
      let row : (v + g.width) / g.width < g.height = (div-lt_iff_lt-mul some).1 below in
      let next : (v + g.width) / g.width ≡ v / g.width + 1 = add-div_right v some in
      omega arith

  pub column_in_field : (e : Edge) → OnBoard g e → column_of g.width e < field_side g.width
  unfolding OnBoard
  column_in_field (right v) (below, inside) = omega arith
  column_in_field (down v) below = let column : v % g.width < g.width = mod-lt v some in omega arith

  -- pad (y, x) has row y and column x
  pub row_of_pad : (y x : ℕ) → x < g.width → pad_index g.width y x / g.width ≡ y
  row_of_pad y x inside = mul-add-div_right some y x ∙ (let none : x / g.width ≡ 0 = div-eq_of_lt inside in omega arith)

  pub column_of_pad : (y x : ℕ) → x < g.width → pad_index g.width y x % g.width ≡ x
  column_of_pad y x inside = mul-add-mod_self_right y g.width x ∙ mod-eq_of_lt inside

  pub pad_in_grid : (y x : ℕ) → y < g.height → x < g.width → pad_index g.width y x < pads g
  pad_in_grid y x below inside =
      let rows : suc y * g.width ≤ pads g = mul-le-mul_right g.width below in
      let next_row = suc-mul y g.width in
      omega arith

  pub edge_of_place : (row column : ℕ) → row < field_side g.height → column < field_side g.width
      → (e : Edge) → place_at g.width row column ≡ edge e → PlaceOf g wide row column e
  unfolding OnBoard
  edge_of_place row column row_in column_in e held = go (found_at g.width row column e held)
    where
      go : FoundAt g.width row column e → PlaceOf g wide row column e
      go (in_an_even_row y x er ec is) =
          let inside : x + 1 < g.width = omega arith in
          let its_row = row_of_pad y x (omega arith) in
          let its_column = column_of_pad y x (omega arith) in
          rw is (record {
            on_board = (pad_in_grid y x (omega arith) (omega arith), rw its_column inside);
            its_row = rw its_row (sym er);
            its_column = rw its_column (sym ec);
          })
      go (in_an_odd_row y x er ec is) =
          let inside : x < g.width = omega arith in
          let its_row = row_of_pad y x inside in
          let its_column = column_of_pad y x inside in
          let below = pad_in_grid (y + 1) x (omega arith) inside in
          let next_row = suc-mul y g.width in
          rw is (record {
            on_board = omega arith;
            its_row = rw its_row (sym er);
            its_column = rw its_column (sym ec);
          })

  -- TWO NEIGHBOURING PADS HAVE ONE EDGE between them: the first and the second pad of an edge tell which edge it is
  pub edge_of_pads : (a b : Edge) → first a ≡ first b → second g.width a ≡ second g.width b → a ≡ b
  edge_of_pads (right u) (right v) p q = ap right p
  edge_of_pads (right u) (down v) p q = absurd (omega arith)
  edge_of_pads (down u) (right v) p q = absurd (omega arith)
  edge_of_pads (down u) (down v) p q = ap down p

  -- and no edge joins the same two pads in the other order
  pub no_edge_back : (a b : Edge) → first a ≡ second g.width b → second g.width a ≡ first b → ⊥
  no_edge_back (right u) (right v) p q = omega arith
  no_edge_back (right u) (down v) p q = omega arith
  no_edge_back (down u) (right v) p q = omega arith
  no_edge_back (down u) (down v) p q = omega arith

  -- so the two pads of an edge are two, and edges with the same two pads, in either order, are one
  pub pads_apart : (e : Edge) → first e ≢ second g.width e
  pads_apart (right v) h = omega arith
  pads_apart (down v) h = omega arith

  pub one_edge : (a e : Edge) → ((first e ≡ first a) × (second g.width e ≡ second g.width a)) ⊎ ((first e ≡ second g.width a) × (second g.width e ≡ first a)) → a ≡ e
  one_edge a e (inl (p, q)) = edge_of_pads a e (sym p) (sym q)
  one_edge a e (inr (p, q)) = absurd (no_edge_back e a p q)
