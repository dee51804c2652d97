-- The codes of a layout's pads as the code adds them up, line by line: the line at a place, what it adds to the code of its first pad, and an
-- array that holds the codes. Assumes nothing.
use Rattle.std.specs.Prelude.{if◌then◌else◌}
use Rattle.std.specs.Prelude.{ℕ, ◌+◌, ◌*◌, ◌/◌, ◌%◌, ◌≤◌, ◌<◌, ◌≡◌, List, eqb, get_or, set, length}
use Rattle.rules.specs.Grid.{right, down, Place, edge, no_edge, place_at, field_side}
use Rattle.rules.specs.Record.{undecided_byte, line_byte}
use Rattle.model.specs.Printed.{code_of_pad}

-- what stands at the place of that number, if the layout has a line there
unfoldable pub line_place : ℕ → List ℕ → ℕ → Place
line_place width layout i =
    if eqb (get_or layout i undecided_byte) line_byte then place_at width (i / field_side width) (i % field_side width) else no_edge

-- a line adds 1 to the code of its first pad if it leads to the right, 2 if downward
unfoldable pub line_added : Place → List ℕ → List ℕ
line_added (edge (right v)) codes = set codes v (get_or codes v 0 + 1)
line_added (edge (down v)) codes = set codes v (get_or codes v 0 + 2)
line_added no_edge codes = codes

-- an array of codes
pub record Codes (codes : List ℕ) : Type 0 where
  pub small : (v : ℕ) → get_or codes v 0 ≤ 3
  pub long : length codes ≡ 256

-- the codes of the pads of a layout
pub record CodesOf (height width : ℕ) (layout codes : List ℕ) : Type 0 where
  pub each : (v : ℕ) → v < height * width → get_or codes v 0 ≡ code_of_pad height width layout (v / width) (v % width)
  pub are : Codes codes
