-- The two pads of an edge, both ways: each edge place gives exactly the first and the second pad that it joins, a place that is no edge
-- place gives none, and each two neighbouring pads have exactly one place. What a place joins, and which pads are neighbours, is said here
-- in document 01's words, by doubling; what a place gives is what Grid.antt finds by its two cases. The file rests on Places.antt.
-- What is proved of them stands in proofs/PadsOfEdges.antt.
use Rattle.std.specs.Prelude.{ℕ, ◌+◌, ◌*◌, ◌<◌, ◌≡◌, ◌⊎◌}
use Rattle.rules.specs.Grid.{Edge, first, second, pad_index, field_side, edge, place_at, Grid}

-- NEIGHBOURS: pad (y, x) with the pad to the right of it, or with the pad below it
pub data Neighbours (g : Grid) (a b : ℕ) : Type 0 where
  beside : (y x : ℕ) → y < g.height → x + 1 < g.width → a ≡ pad_index g.width y x → b ≡ pad_index g.width y (x + 1) → Neighbours g a b
  above : (y x : ℕ) → y + 1 < g.height → x < g.width → a ≡ pad_index g.width y x → b ≡ pad_index g.width (y + 1) x → Neighbours g a b

-- JOINS: place (2y, 2x+1) joins pad (y, x) to the right, (2y+1, 2x) downward; (y, x) is the first pad, the other the second.
pub data Joins (g : Grid) (row column a b : ℕ) : Type 0 where
  to_the_right : (y x : ℕ) → row ≡ 2 * y → column ≡ 2 * x + 1 → y < g.height → x + 1 < g.width
      → a ≡ pad_index g.width y x → b ≡ pad_index g.width y (x + 1) → Joins g row column a b
  downward : (y x : ℕ) → row ≡ 2 * y + 1 → column ≡ 2 * x → y + 1 < g.height → x < g.width
      → a ≡ pad_index g.width y x → b ≡ pad_index g.width (y + 1) x → Joins g row column a b

-- GIVES: a place of the field at which an edge is found, with its first and its second pad
pub record Gives (g : Grid) (row column a b : ℕ) : Type 0 where
  pub row_in_field : row < field_side g.height
  pub column_in_field : column < field_side g.width
  pub found : Edge
  pub there : place_at g.width row column ≡ edge found
  pub first_pad : first found ≡ a
  pub second_pad : second g.width found ≡ b

-- one place of the field gives the two pads, and no other place gives them, in this order or the other
pub record OnePlace (g : Grid) (a b : ℕ) : Type 0 where
  pub row : ℕ
  pub column : ℕ
  pub gives : Gives g row column a b
  pub only : (r c : ℕ) → Gives g r c a b ⊎ Gives g r c b a → (r ≡ row) × (c ≡ column)
