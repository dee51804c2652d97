-- Sizes, pads, edges, places of the field, and grids, in the words of document 01. Definitions only: nothing here is proved, and the
-- file rests on nothing but numbers and lists. The laws that show that the definitions fit together stand in Places.antt.
use Rattle.std.specs.Prelude.{ℕ, zero, suc, ◌+◌, ◌*◌, ◌-◌, ◌%◌, ◌/◌, ◌≤◌, ◌<◌, ◌≡◌, ◌⊎◌, List, get_or, length, ℤ, pos, negsuc}

-- SIZES: rows and columns are each 2 to 16.
abbrev pub least_size : ℕ
least_size = 2

abbrev pub largest_size : ℕ
largest_size = 16

abbrev pub Size : ℕ → Type 0
Size n = (least_size ≤ n) × (n ≤ largest_size)

-- PADS: pad (y, x) of a grid with `width` columns has this index; the pads are the indexes below height * width.
abbrev pub pad_index : ℕ → ℕ → ℕ → ℕ
pad_index width y x = y * width + x

-- EDGES: an edge is named by its first pad and leads to the right or downward.
pub data Edge : Type 0 where
  right : ℕ → Edge
  down : ℕ → Edge

-- the edge's first pad
abbrev pub first : Edge → ℕ
first (right v) = v
first (down v) = v

-- the edge's second pad: the next one, or the one below
abbrev pub second : ℕ → Edge → ℕ
second width (right v) = v + 1
second width (down v) = v + width

-- THE FIELD has 2H-1 rows and 2W-1 columns of places.
abbrev pub field_side : ℕ → ℕ
field_side n = 2 * n - 1

-- the number of places, which is also the length of a record
abbrev pub places : ℕ → ℕ → ℕ
places height width = field_side height * field_side width

-- what stands at a place: an edge, or no edge (a pad, or the middle of four pads)
pub data Place : Type 0 where
  edge : Edge → Place
  no_edge : Place

-- EVEN AND ODD: every number is even, 2n, or odd, 2n+1. They take turns, from 0 on, which is even.
pub data Parity : Type 0 where
  even : ℕ → Parity
  odd : ℕ → Parity

abbrev pub next_parity : Parity → Parity
next_parity (even n) = odd n
next_parity (odd n) = even (suc n)

unfoldable pub parity : ℕ → Parity
parity zero = even zero
parity (suc n) = next_parity (parity n)

-- THE EDGE AT A PLACE is found by two cases.
-- Even row 2y, pads beside each other: place (2y, 2x+1) joins pad (y, x) to the right. At place (2y, 2x) stands a pad, and no edge.
abbrev pub in_even_row : ℕ → ℕ → Parity → Place
in_even_row width y (odd x) = edge (right (pad_index width y x))
in_even_row width y (even x) = no_edge

-- Odd row 2y+1, pads one above the other: place (2y+1, 2x) joins pad (y, x) downward. At place (2y+1, 2x+1) four pads meet, and no edge stands.
abbrev pub in_odd_row : ℕ → ℕ → Parity → Place
in_odd_row width y (even x) = edge (down (pad_index width y x))
in_odd_row width y (odd x) = no_edge

abbrev pub in_row : ℕ → Parity → Parity → Place
in_row width (even y) column = in_even_row width y column
in_row width (odd y) column = in_odd_row width y column

unfoldable pub place_at : ℕ → ℕ → ℕ → Place
place_at width row column = in_row width (parity row) (parity column)

-- the row and the column of an edge's place
abbrev pub row_of : ℕ → Edge → ℕ
row_of width (right v) = 2 * (v / width)
row_of width (down v) = 2 * (v / width) + 1

abbrev pub column_of : ℕ → Edge → ℕ
column_of width (right v) = 2 * (v % width) + 1
column_of width (down v) = 2 * (v % width)

-- CELLS: a pad is blank, a clue with its code, or a drilled hole.
pub data Cell : Type 0 where
  blank : Cell
  clue : ℕ → Cell
  hole : Cell

-- a cell as it is lent: -1 for blank, -2 for a hole, else the code
unfoldable pub cell_of : ℤ → Cell
cell_of (pos code) = clue code
cell_of (negsuc zero) = blank
cell_of (negsuc (suc n)) = hole

abbrev pub blank_cell : ℤ
blank_cell = negsuc 0

abbrev pub hole_cell : ℤ
hole_cell = negsuc 1

-- codes are 0 to 4294967295
abbrev pub largest_code : ℕ
largest_code = 4294967295

-- a cell that a grid may hold: -1, -2, or a code in range
abbrev pub CellInRange : ℤ → Type 0
CellInRange z = (z ≡ blank_cell) ⊎ (z ≡ hole_cell) ⊎ ((code : ℕ) × (z ≡ pos code) × (code ≤ largest_code))

-- GRIDS: height, width, and what each pad holds, by its index.
pub record Grid : Type 0 where
  pub height : ℕ
  pub width : ℕ
  pub cell : ℕ → Cell

-- the grid of a list of cells; an index past the list is blank, so that one function speaks of every index
unfoldable pub grid_of : ℕ → ℕ → List ℤ → Grid
grid_of h w cells = record { height = h; width = w; cell = λ v. cell_of (get_or cells v blank_cell) }

-- the number of pads
abbrev pub pads : Grid → ℕ
pads g = g.height * g.width

-- the lists of cells that are a grid: both sizes in range, as many cells as pads, every cell in range
pub record Accepted (height width : ℕ) (cells : List ℤ) : Type 0 where
  pub height_in_range : Size height
  pub width_in_range : Size width
  pub one_cell_a_pad : length cells ≡ height * width
  pub cells_in_range : (v : ℕ) → v < height * width → CellInRange (get_or cells v blank_cell)

-- EDGES OF THE BOARD: a pad has an edge to the right unless it stands in the last column, and one downward unless in the last row.
abbrev pub HasRight : Grid → ℕ → Type 0
HasRight g v = (v < pads g) × (v % g.width + 1 < g.width)

abbrev pub HasDown : Grid → ℕ → Type 0
HasDown g v = v + g.width < pads g

unfoldable pub OnBoard : Grid → Edge → Type 0
OnBoard g (right v) = HasRight g v
OnBoard g (down v) = HasDown g v

-- UNIT SQUARES: four neighbouring pads, v and the one to the right of it, and the two below; named by v.
abbrev pub UnitSquare : Grid → ℕ → Type 0
UnitSquare g v = HasRight g v × HasDown g v
