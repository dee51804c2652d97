-- Laws of the drawing that a record shows, pad by pad, as the code looks it up: the places of the two edges of pad (y, x), its neighbours,
-- its corners and its unit square. They rest on the rules' Places.antt.
use Prim.Native.Nat.{ℕ, zero, suc, ◌+◌, ◌*◌, ◌-◌, ◌/◌, ◌%◌, ◌≤◌, ◌<◌}
use mathlib.Core.Path.{◌≡◌, refl, sym, ap, ◌∙◌}
use mathlib.Core.Bool.{Bool, true, false, not, ◌&&◌}
use mathlib.Core.List.{List}
use native.Mathlib.Omega.{arith}
use native.Mathlib.Decide.{ℕ_discrete}
use native.Mathlib.Numerals.{add-one}
use native.Mathlib.Nat.{mul-le-mul_right, suc-mul}
use lib.Dec.{eqb, ltb, leb}
use lib.ListN.{get_or}
use lib.IntN.{ℤ}
use borrow.Author.Tests.{lt-ltb, le-ltb, ltb-true, le-leb, not-true, not-false}
use Rattle.rules.specs.Grid.{pad_index, blank, Grid, Accepted}
use Rattle.rules.specs.Drawing.{Drawing, drawn, Side, on_left, on_right}
use Rattle.rules.specs.Record.{undecided_byte, line_byte, place_number, drawing_of}
use Rattle.rules.specs.Tests.{both, both_off, conflict}
use Rattle.rules.proofs.Places.{row_of_pad, column_of_pad}
use Rattle.rules.specs.CheckedListed.{has_corner, diagonal}
use Rattle.grid.specs.declared.Direction.{Direction}
use Rattle.grid.specs.declared.Direction.TheVariants as direction
use Rattle.grid.specs.Directions.{edge_to}
use Rattle.boardparts.specs.declared.Side.{Side as CodeSide}
use Rattle.boardparts.specs.declared.Side.TheVariants.{Left, Right}
use mathlib.Core.Logic.{◌⊎◌, inl, inr}
use Rattle.boardparts.specs.Sides.{side_of}
use Rattle.judging.specs.Shape.{InColumn, taken_at, line_beside, lines_around, square_keeps, corner_keeps}

-- a pad of an accepted grid stands in a column of it
pub in_column : {height width y x : ℕ} {cells : List ℤ} → Accepted height width cells → (y < height) × (x < width) → InColumn width y x
in_column ok (low, inside) = record { wide = ok.width_in_range.0; narrow = ok.width_in_range.1; low = omega (arith, low, ok.height_in_range); inside = inside }

module _ (width y x : ℕ) (here : InColumn width y x) where
  -- a grid of this width
  abbrev some_grid : Grid
  some_grid = record { height = 2; width = width; cell = λ v. blank }

  row_at : pad_index width y x / width ≡ y
  row_at = row_of_pad some_grid here.wide y x here.inside

  column_at : pad_index width y x % width ≡ x
  column_at = column_of_pad some_grid here.wide y x here.inside

  next_row : (y + 1) * width ≡ y * width + width
  next_row = ap (λ (n : ℕ). n * width) (add-one y) ∙ suc-mul y width

  -- THE TWO EDGES of the pad
  module _ (bytes : List ℕ) where
    right_off : width ≤ x + 1 → (drawing_of width bytes).right (pad_index width y x) ≡ false
    unfolding drawing_of
    right_off last = rw (column_at, le-ltb (x + 1) width last) refl

    -- the last column has none to the right
    pub none_leads : (d : Direction) → d ≡ direction.Right → width ≤ x + 1 → false ≡ drawn (drawing_of width bytes) (edge_to d (pad_index width y x))
    none_leads d is last = rw is (sym (right_off last))

    -- the byte at its place tells whether a line leads there
    pub line_leads : (d : Direction) → (d ≡ direction.Right → x + 1 < width) → {r : Bool}
        → r ≡ eqb (get_or bytes (place_number width (edge_to d (pad_index width y x))) undecided_byte) line_byte → r ≡ drawn (drawing_of width bytes) (edge_to d (pad_index width y x))
    unfolding drawing_of
    line_leads direction.Right inside is = is ∙ rw (column_at, lt-ltb (x + 1) width (inside refl)) refl
    line_leads direction.Down inside is = is

    right_inside : (drawing_of width bytes).right (pad_index width y x) ≡ true → x + 1 < width
    unfolding drawing_of
    right_inside h = ltb-true _ _ (both (ltb (x + 1) width) _ (rw column_at at h)).0

-- CORNERS
module _ (width y x : ℕ) (here : InColumn width y x) (bytes : List ℕ) where
  abbrev drawing : Drawing
  drawing = drawing_of width bytes

  abbrev pad : ℕ
  pad = pad_index width y x

  -- the corner is the line beside and the one downward
  corner_parts : (side : Side) → has_corner side drawing pad ≡ line_beside side drawing pad && drawing.down pad
  unfolding has_corner line_beside
  corner_parts on_left = refl
  corner_parts on_right = refl

  module _ (side : Side) {beside : Bool} (is : beside ≡ line_beside side drawing pad) where
    pub corner_if : {below : Bool} → below ≡ drawing.down pad → beside ≡ true → below ≡ has_corner side drawing pad
    corner_if down h = down ∙ rw (corner_parts side, ← is, h) refl

    pub no_corner : beside ≡ false → beside ≡ has_corner side drawing pad
    no_corner h = h ∙ rw (corner_parts side, ← is, h) refl

  pub beside_on_right : {beside : Bool} → beside ≡ drawing.right pad → beside ≡ line_beside on_right drawing pad
  unfolding line_beside
  beside_on_right is = is

  -- to the left: the pad before a row's first one is the last of its row, and has no edge to the right
  no_left_edge : x ≡ 0 → (leb 1 pad && drawing.right (pad - 1)) ≡ false
  no_left_edge first = go y refl
    where
      go : (row : ℕ) → y ≡ row → (leb 1 pad && drawing.right (pad - 1)) ≡ false
      go zero e = let none : pad ≡ 0 = rw (e, first) (omega arith) in rw none refl
      go (suc row) e =
          let last : InColumn width row (width - 1) = record { wide = here.wide; narrow = here.narrow; low = omega (arith, here.low); inside = omega (arith, here.wide) } in
          let before : pad - 1 ≡ pad_index width row (width - 1) = rw (e, first) (omega (arith, suc-mul row width, here.wide)) in
          rw before (both_off (leb 1 pad) (drawing.right (pad_index width row (width - 1))) (right_off width row (width - 1) last bytes (omega (arith, here.wide))))

  pub none_on_left : x ≡ 0 → false ≡ line_beside on_left drawing pad
  unfolding line_beside
  none_on_left first = sym (no_left_edge first)

  pub beside_on_left : 0 < x → {beside : Bool} → beside ≡ drawing.right (pad_index width y (x - 1)) → beside ≡ line_beside on_left drawing pad
  unfolding line_beside
  beside_on_left some is = let before : pad - 1 ≡ pad_index width y (x - 1) = omega arith in rw (le-leb 1 pad (omega arith), before) is

  -- A PAD WITH THE CORNER has one diagonally below, in the row below: it is not the last of its row, nor the first
  module _ {r : Bool} where
    pub column_on_right : r ≡ has_corner on_right drawing pad → not r ≡ false → x + 1 < width
    unfolding has_corner
    column_on_right is h = right_inside width y x here bytes (both (drawing.right pad) (drawing.down pad) (sym is ∙ not-false r h)).0

    pub column_on_left : r ≡ has_corner on_left drawing pad → not r ≡ false → 0 < x
    unfolding has_corner
    column_on_left is h = elim (ℕ_discrete x 0) [
      | yes first ↦ conflict (sym is ∙ not-false r h) (rw (no_left_edge first) refl)
      | no other ↦ omega arith
    ]

  -- that pad, by its column
  pub record Below (side : Side) (column : ℕ) : Type 0 where
    pub inside : column < width
    pub is_diagonal : pad_index width (y + 1) column ≡ diagonal side width pad

  pub below_on_right : {column : ℕ} → x + 1 < width → column ≡ x + 1 → Below on_right column
  unfolding diagonal
  below_on_right last e = record { inside = omega arith; is_diagonal = omega (arith, next_row width y x here) }

  pub below_on_left : {column : ℕ} → 0 < x → column ≡ x - 1 → Below on_left column
  unfolding diagonal
  below_on_left some e = record { inside = omega (arith, here.inside); is_diagonal = omega (arith, next_row width y x here) }

  -- by the side and the column that the code takes
  pub below_there : (side : CodeSide) {column : ℕ} {r : Bool} → r ≡ has_corner (side_of side) drawing pad → not r ≡ false → ((side ≡ Left) × (column ≡ x - 1)) ⊎ ((side ≡ Right) × (column ≡ x + 1))
      → Below (side_of side) column
  below_there side is h (inl (e, at)) = rw e (below_on_left (column_on_left (rw e at is) h) at)
  below_there side is h (inr (e, at)) = rw e (below_on_right (column_on_right (rw e at is) h) at)

-- THE CORNER RULE, on either side
module _ (side : Side) (width : ℕ) (cells : List ℤ) (D : Drawing) (v : ℕ) {corner : Bool} (is : corner ≡ has_corner side D v) where
  pub no_corner_keeps : not corner ≡ true → true ≡ corner_keeps side width cells D v
  unfolding corner_keeps
  no_corner_keeps h = rw (← is, not-true corner h) refl

  module _ (there : not corner ≡ false) (q : ℕ) (below : q ≡ diagonal side width v) {taken : Bool} (told : taken ≡ taken_at cells q) where
    pub taken_keeps : taken ≡ true → taken ≡ corner_keeps side width cells D v
    unfolding corner_keeps
    taken_keeps h = rw (← is, not-false corner there, ← below, ← told, h) refl

    pub same_corner_keeps : taken ≡ false → {r : Bool} (p : ℕ) → p ≡ diagonal side width v → r ≡ has_corner side D p → r ≡ corner_keeps side width cells D v
    unfolding corner_keeps
    same_corner_keeps h p at e = rw (← is, not-false corner there, ← below, ← told, h) (e ∙ ap (has_corner side D) (at ∙ sym below))

-- UNIT SQUARES
module _ (width y x : ℕ) (here : InColumn width y x) where
  module _ (height : ℕ) (D : Drawing) where
    pub last_column_keeps : width ≤ x + 1 → true ≡ square_keeps height width D (pad_index width y x)
    unfolding square_keeps
    last_column_keeps last = rw (column_at width y x here, le-ltb (x + 1) width last) refl

    module _ (inside : x + 1 < width) where
      pub last_row_keeps : height ≤ y + 1 → true ≡ square_keeps height width D (pad_index width y x)
      unfolding square_keeps
      last_row_keeps last =
          let rows : height * width ≤ (y + 1) * width = mul-le-mul_right width last in
          rw (column_at width y x here, lt-ltb (x + 1) width inside, le-ltb (pad_index width y x + width) (height * width) (omega (arith, next_row width y x here))) refl

      pub few_keep : y + 1 < height → (lines : ℕ) → lines ≡ lines_around width D (pad_index width y x) → leb lines 2 ≡ square_keeps height width D (pad_index width y x)
      unfolding square_keeps
      few_keep more lines is =
          let rows : suc (y + 1) * width ≤ height * width = mul-le-mul_right width more in
          let below : pad_index width y x + width < height * width = omega (arith, next_row width y x here, suc-mul (y + 1) width, here.inside) in
          rw (column_at width y x here, lt-ltb (x + 1) width inside, lt-ltb (pad_index width y x + width) (height * width) below) (ap (λ (n : ℕ). leb n 2) is)
