-- What the arrays of a bare board hold at each index: a byte for each edge, an end number for each pad, and what is told of the pads. The
-- contracts of the code cite these definitions; proofs/BareView.antt shows what they mean. It rests on boardview's View.antt.
use Rattle.std.specs.Prelude.{ℕ, suc, ◌+◌, ◌*◌, ◌-◌, ◌/◌, ◌%◌, ◌≤◌, ◌<◌, ◌≡◌, Bool, true, false, ◌&&◌, not, List, eqb, ltb, get_or, length, ℤ, pos, negsuc}
use Rattle.rules.specs.Grid.{CellInRange, blank_cell, cell_of, Grid}
use Rattle.rules.specs.Drawing.{num, on_left, on_right}
use Rattle.model.specs.PadTests.{is_blank, is_clue, has_down}
use Rattle.model.specs.Board.{has_side, barred}
use Rattle.boardbare.specs.declared.Facts.{Facts}
use Rattle.boardparts.specs.declared.Side.{Side}
use Rattle.boardparts.specs.declared.Side.TheVariants.{Left, Right}
use Rattle.boardview.specs.Told.{pick, has_bit, taken_bit, action_entry}

-- FILLED: a list of this length, which from `start` up to `size` holds what f says. The bytes of the pads are filled from the last index down to 0.
pub record Filled {A : Type 0} (f : ℕ → A) (rest : A) (long size start : ℕ) (l : List A) : Type 0 where
  pub as_long : length l ≡ long
  pub holds : (i : ℕ) → start ≤ i → i < size → get_or l i rest ≡ f i

-- EDGES: undecided, or none off the board
unfoldable pub right_byte : ℕ → ℕ → ℕ → ℕ
right_byte width pads v = pick (ltb (v % width + 1) width && ltb v pads) 0 2

unfoldable pub down_byte : ℕ → ℕ → ℕ → ℕ
down_byte width pads v = pick (ltb (v + width) pads) 0 2

-- the byte of a slot: 32 bytes before the first edge, then the edge to the right and the edge downward of each pad
unfoldable pub edge_byte : ℕ → ℕ → ℕ → ℕ
edge_byte width pads s = pick (ltb s 32) 2 (pick (eqb (s % 2) 0) (right_byte width pads (s / 2 - 16)) (down_byte width pads (s / 2 - 16)))

abbrev pub EdgesFrom : ℕ → ℕ → ℕ → List ℕ → Type 0
EdgesFrom width pads start edges = Filled (edge_byte width pads) 2 1024 1024 start edges

-- ENDS: -v - 2 for a clue of value v, the pad's own index for a blank pad and for a hole
unfoldable pub bare_end_number : ℤ → ℕ → ℤ
bare_end_number (pos code) v = negsuc (suc code)
bare_end_number (negsuc n) v = pos v

unfoldable pub end_number_at : List ℤ → ℕ → ℤ
end_number_at cells v = bare_end_number (get_or cells v blank_cell) v

abbrev pub EndsFrom : List ℤ → ℕ → List ℤ → Type 0
EndsFrom cells start ends = Filled (end_number_at cells) (pos 0) 512 512 start ends

abbrev pub CellsInRange : List ℤ → Type 0
CellsInRange cells = (v : ℕ) → v < length cells → CellInRange (get_or cells v blank_cell)

-- BITS: a byte of six facts of a pad: a clue, barred to the right, barred to the left, a corner to the right, a corner to the left, taken
unfoldable pub kind_byte : Bool → Bool → Bool → Bool → Bool → Bool → ℕ
kind_byte clue bar_right bar_left corner_right corner_left taken =
    num clue + 2 * num bar_right + 4 * num bar_left + 8 * num corner_right + 16 * num corner_left + 32 * num taken

-- the same, of the facts that the code has
unfoldable pub byte_of_facts : Facts → ℕ
byte_of_facts f = kind_byte f.clue f.bar_right f.bar_left f.corner_right f.corner_left f.taken

-- whether a side is the right one
abbrev pub is_right : Side → Bool
is_right Left = false
is_right Right = true

unfoldable pub is_clue_at : List ℤ → ℕ → Bool
is_clue_at cells v = is_clue (cell_of (get_or cells v blank_cell))

unfoldable pub is_taken : List ℤ → ℕ → Bool
is_taken cells v = not (is_blank (cell_of (get_or cells v blank_cell)))

-- the pad has an edge downward and one to that side
unfoldable pub corner_test : ℕ → ℕ → Bool → ℕ → Bool
corner_test width pads on_the_right v = ltb (v + width) pads && pick on_the_right (ltb (v % width + 1) width) (ltb 0 (v % width))

-- barred, as the byte of a pad tells it: where the pad has no corner, every blank pad is
unfoldable pub barred_in : List ℕ → ℕ → ℕ → ℕ → Bool
barred_in kind v corner bar = pick (has_bit kind v corner) (has_bit kind v bar) (not (has_bit kind v taken_bit))

unfoldable pub barred_below : List ℕ → ℕ → Bool → ℕ → Bool
barred_below kind width on_the_right v = pick on_the_right (barred_in kind (v + width + 1) 8 2) (barred_in kind (v + width - 1) 16 4)

unfoldable pub bar_test : List ℕ → ℕ → ℕ → Bool → Bool → ℕ → Bool
bar_test kind width pads taken on_the_right v = corner_test width pads on_the_right v && (not taken && barred_below kind width on_the_right v)

-- the byte of pad v, from the bytes of the pads below it
unfoldable pub kind_from : List ℕ → ℕ → ℕ → List ℤ → ℕ → ℕ
kind_from kind width pads cells v = kind_byte (is_clue_at cells v) (bar_test kind width pads (is_taken cells v) true v) (bar_test kind width pads (is_taken cells v) false v)
    (corner_test width pads true v) (corner_test width pads false v) (is_taken cells v)

-- the byte of pad v, by the model
unfoldable pub kind_of : Grid → ℕ → ℕ
kind_of g v = kind_byte (is_clue (g.cell v))
    ((has_down g v && has_side g on_right v) && barred g on_right g.height v) ((has_down g v && has_side g on_left v) && barred g on_left g.height v)
    (has_down g v && has_side g on_right v) (has_down g v && has_side g on_left v) (not (is_blank (g.cell v)))

abbrev pub BitsFrom : Grid → ℕ → List ℕ → Type 0
BitsFrom g start bits = Filled (kind_of g) 0 512 256 start bits

-- the pad check's table
pub record Table (actions : List ℕ) : Type 0 where
  pub as_long : length actions ≡ 512
  pub holds : (i : ℕ) → i < 512 → get_or actions i 0 ≡ action_entry i
