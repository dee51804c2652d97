-- Records, pad codes and the order of layouts. Document 01, sections on the grid and on layouts. Definitions only; they rest on
-- Grid.antt and Drawing.antt.
use Rattle.std.specs.Prelude.{ℕ, zero, suc, ◌+◌, ◌*◌, ◌%◌, ◌/◌, ◌<◌, ◌≡◌, Bool, true, false, ◌&&◌, eqb, ltb, get_or}
use mathlib.Core.List.{List, [], ◌∷◌, Memᴰ}
use Rattle.rules.specs.Grid.{Edge, right, down, Place, edge, no_edge, place_at, places, field_side, row_of, column_of, Grid, pads}
use Rattle.rules.specs.Drawing.{Drawing, drawn, num, Ordinary, Listed}

-- BYTES of an edge: 0 undecided, 1 line, 2 none
abbrev pub undecided_byte : ℕ
undecided_byte = 0

abbrev pub line_byte : ℕ
line_byte = 1

abbrev pub none_byte : ℕ
none_byte = 2

abbrev pub byte_of : Bool → ℕ
byte_of true = line_byte
byte_of false = none_byte

-- the list of f at `start`, `start + 1`, and so on, n of them
unfoldable pub tabulate : {A : Type 0} → (ℕ → A) → ℕ → ℕ → List A
tabulate f start zero = []
tabulate f start (suc n) = f start ∷ tabulate f (start + 1) n

-- A RECORD is the field row by row: at place number i the byte of its edge, and undecided where there is no edge.
abbrev pub byte_at_place : (Edge → ℕ) → Place → ℕ
byte_at_place bytes (edge e) = bytes e
byte_at_place bytes no_edge = undecided_byte

unfoldable pub field : ℕ → ℕ → (Edge → ℕ) → List ℕ
field height width bytes =
    tabulate (λ i. byte_at_place bytes (place_at width (i / field_side width) (i % field_side width))) 0 (places height width)

-- the record of a drawing
unfoldable pub record_of : Grid → Drawing → List ℕ
record_of g D = field g.height g.width (λ e. byte_of (drawn D e))

-- where the byte of an edge stands in a record
abbrev pub place_number : ℕ → Edge → ℕ
place_number width e = row_of width e * field_side width + column_of width e

-- the drawing that a record shows: a line where the byte is 1. A pad of the last column has no edge to the right; the edges below the
-- last row and past the last pad would stand past the record's end, where nothing is a line.
unfoldable pub drawing_of : ℕ → List ℕ → Drawing
drawing_of width bytes = record {
  right = λ v. ltb (v % width + 1) width && eqb (get_or bytes (place_number width (right v)) undecided_byte) line_byte;
  down = λ v. eqb (get_or bytes (place_number width (down v)) undecided_byte) line_byte;
}

-- the records of the ordinary drawings of a grid, and of the listed ones
pub record OrdinaryRecord (g : Grid) (bytes : List ℕ) : Type 1 where
  pub drawing : Drawing
  pub ordinary : Ordinary g drawing
  pub shown : bytes ≡ record_of g drawing

pub record ListedRecord (g : Grid) (bytes : List ℕ) : Type 1 where
  pub drawing : Drawing
  pub listed : Listed g drawing
  pub shown : bytes ≡ record_of g drawing

-- the lines of a record: its bytes 1
unfoldable pub record_lines : List ℕ → ℕ
record_lines [] = 0
record_lines (b ∷ bytes) = num (eqb b line_byte) + record_lines bytes

-- THE CODE OF A PAD is right + 2 × down.
abbrev pub pad_code : Drawing → ℕ → ℕ
pad_code D v = num (D.right v) + 2 * num (D.down v)

-- the codes of the pads in index order
unfoldable pub codes : Grid → Drawing → List ℕ
codes g D = tabulate (pad_code D) 0 (pads g)

-- ASCENDING: by the codes of the pads in index order, the first difference decides
pub data Before : List ℕ → List ℕ → Type 0 where
  lower : {a b : ℕ} {k l : List ℕ} → a < b → Before (a ∷ k) (b ∷ l)
  later : {a : ℕ} {k l : List ℕ} → Before k l → Before (a ∷ k) (a ∷ l)

-- each comes before all that follow it, so none stands twice
unfoldable pub Ascending : List (List ℕ) → Type 0
Ascending [] = Unit {0}
Ascending (first ∷ rest) = ((other : List ℕ) → Memᴰ other rest → Before first other) × Ascending rest
