-- What is told of a grid for its boards: a byte for each pad, with a bit for each of six facts, and the table of what the pad check does
-- last. It rests on the model's Board.antt, and stands under the struct of the code, which holds it. Nothing is proved in this file.
use Rattle.std.specs.Prelude.{ℕ, ◌+◌, ◌/◌, ◌%◌, ◌≤◌, ◌<◌, ◌≡◌, Bool, true, false, ◌&&◌, not, List, eqb, ltb, get_or, length}
use Rattle.std.specs.Int.Bits.{bit_and}
use Rattle.rules.specs.Grid.{Cell, blank, clue, hole, Grid, pads}
use Rattle.rules.specs.Drawing.{num, Side, on_left, on_right}
use Rattle.model.specs.PadTests.{has_down}
use Rattle.model.specs.Board.{has_side, barred}

-- one of two values, by a test
abbrev pub pick : {A : Type 0} → Bool → A → A → A
pick true a b = a
pick false a b = b

-- THE BITS of the pads: a byte for each pad, with a bit for each of six facts
unfoldable pub has_bit : List ℕ → ℕ → ℕ → Bool
has_bit bits v bit = not (eqb (bit_and (get_or bits v 0) bit) 0)

abbrev pub clue_bit : ℕ
clue_bit = 1

abbrev pub bar_bit : Side → ℕ
bar_bit on_right = 2
bar_bit on_left = 4

abbrev pub corner_bit : Side → ℕ
corner_bit on_right = 8
corner_bit on_left = 16

-- not blank: a clue or a hole
abbrev pub taken_bit : ℕ
taken_bit = 32

-- the grid that sizes and bits tell of: which pads are blank, clues or holes. A decision asks no more of a grid (SameKinds.antt).
abbrev pub cell_in : (clue_is is_taken : Bool) → Cell
cell_in true is_taken = clue 0
cell_in false true = hole
cell_in false false = blank

abbrev pub grid_told : (height width : ℕ) → List ℕ → Grid
grid_told height width bits = record {
  height = height;
  width = width;
  cell = λ v. cell_in (ltb v 256 && has_bit bits v clue_bit) (ltb v 256 && has_bit bits v taken_bit);
}

-- WHAT THE PAD CHECK DOES LAST, as a code: 0 nothing, 1 the flag, 2 + a side a line there, 6 + a side none there. It depends on the clue (1 or
-- 0) and on the bytes of the edges left, right, up and down.
abbrev pub bytes_equal : (at_left at_right at_up at_down byte : ℕ) → ℕ
bytes_equal at_left at_right at_up at_down byte = num (eqb at_left byte) + num (eqb at_right byte) + num (eqb at_up byte) + num (eqb at_down byte)

unfoldable pub undecided_side : (at_left at_right at_up : ℕ) → ℕ
undecided_side at_left at_right at_up = pick (eqb at_left 0) 0 (pick (eqb at_right 0) 1 (pick (eqb at_up 0) 2 3))

unfoldable pub action_code : (clues at_left at_right at_up at_down : ℕ) → ℕ
action_code clues at_left at_right at_up at_down =
    pick (ltb 2 (clues + bytes_equal at_left at_right at_up at_down 1)) 1
    (pick (eqb (bytes_equal at_left at_right at_up at_down 0) 0) (pick (eqb (clues + bytes_equal at_left at_right at_up at_down 1) 1) 1 0)
    (pick (eqb (clues + bytes_equal at_left at_right at_up at_down 1) 2) (6 + undecided_side at_left at_right at_up)
    (pick (eqb (bytes_equal at_left at_right at_up at_down 0) 1) (pick (eqb (clues + bytes_equal at_left at_right at_up at_down 1) 1) (2 + undecided_side at_left at_right at_up) (6 + undecided_side at_left at_right at_up)) 0)))

-- the table of the codes: the clue and the four bytes are the digits of the index
unfoldable pub action_entry : ℕ → ℕ
action_entry i = action_code (i / 256) (i % 4) (i / 4 % 4) (i / 16 % 4) (i / 64 % 4)

-- WHAT IS TOLD: a clue is taken, the bits of the barred pads and of the corners are right, the sizes are in range, and the table is that of the
-- pad check's codes
pub record Told (height width : ℕ) (bits actions : List ℕ) : Type 0 where
  pub bits_long : length bits ≡ 512
  pub actions_long : length actions ≡ 512
  pub least_width : 2 ≤ width
  pub largest_width : width ≤ 16
  pub least_height : 2 ≤ height
  pub largest_height : height ≤ 16
  pub clue_taken : (v : ℕ) → v < 256 → has_bit bits v clue_bit ≡ true → has_bit bits v taken_bit ≡ true
  pub corners : (side : Side) (v : ℕ) → v < pads (grid_told height width bits) → has_bit bits v (corner_bit side) ≡ (has_down (grid_told height width bits) v && has_side (grid_told height width bits) side v)
  pub table : (i : ℕ) → i < 512 → get_or actions i 0 ≡ action_entry i
  pub bars : (side : Side) (v : ℕ) → v < pads (grid_told height width bits) → has_bit bits v (bar_bit side) ≡ ((has_down (grid_told height width bits) v && has_side (grid_told height width bits) side v) && barred (grid_told height width bits) side height v)
