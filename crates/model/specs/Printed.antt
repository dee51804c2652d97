-- What the program `routes` prints, as bytes: the summary line, a layout's line, the line of a refused file, and the whole of it
-- for what a search found; and what any program prints for a file that is refused or not. Assumes nothing.
use Rattle.std.specs.Prelude.{if◌then◌else◌}
use Rattle.std.specs.Prelude.{ℕ, zero, suc, ◌+◌, ◌*◌, ◌/◌, ◌%◌, List, [], ◌∷◌, ◌++◌, length, take, get_or, ℤ, eqb, ltb, leb}
use Rattle.model.specs.Text.{bytes, comma, line_end}
use Rattle.model.specs.Decimal.{digit_byte, decimal}
use Rattle.rules.specs.Grid.{field_side}
use Rattle.rules.specs.Record.{record_lines, undecided_byte, line_byte}
use Rattle.model.specs.GridFile.{Reading, read}

-- ## Codes

-- 1 if the place of a record's field holds a line, else 0
unfoldable pub line_at : ℕ → List ℕ → ℕ → ℕ → ℕ
line_at width layout row column = if eqb (get_or layout (row * field_side width + column) undecided_byte) line_byte then 1 else 0

-- 1 if pad (y, x) has a line to the right, at place (2y, 2x+1)
unfoldable pub right_line : ℕ → List ℕ → ℕ → ℕ → ℕ
right_line width layout y x = if ltb (x + 1) width then line_at width layout (2 * y) (2 * x + 1) else 0

-- 1 if it has a line downward, at place (2y+1, 2x)
unfoldable pub down_line : ℕ → ℕ → List ℕ → ℕ → ℕ → ℕ
down_line height width layout y x = if ltb (y + 1) height then line_at width layout (2 * y + 1) (2 * x) else 0

-- the code of a pad is right + 2 × down
unfoldable pub code_of_pad : ℕ → ℕ → List ℕ → ℕ → ℕ → ℕ
code_of_pad height width layout y x = right_line width layout y x + 2 * down_line height width layout y x

-- the codes of so many pads from an index on, one digit each
unfoldable pub code_digits_from : ℕ → ℕ → List ℕ → ℕ → ℕ → List ℕ
code_digits_from height width layout zero index = []
code_digits_from height width layout (suc more) index =
    digit_byte (code_of_pad height width layout (index / width) (index % width))
    ∷ code_digits_from height width layout more (index + 1)

-- the codes of the pads in index order
unfoldable pub code_digits : ℕ → ℕ → List ℕ → List ℕ
code_digits height width layout = code_digits_from height width layout (height * width) 0

-- ## Lines, each ended by 0A

-- layouts, visited, fewest, outcome
unfoldable pub summary_line : ℕ → ℕ → ℕ → ℕ → List ℕ
summary_line layouts visited fewest outcome =
    decimal layouts ++ comma ++ decimal visited ++ comma ++ decimal fewest ++ comma ++ decimal outcome ++ line_end

-- a layout's number from 1, its lines, its codes
unfoldable pub layout_line : ℕ → ℕ → ℕ → List ℕ → List ℕ
layout_line height width number layout =
    decimal number ++ comma ++ decimal (record_lines layout) ++ comma ++ code_digits height width layout ++ line_end

-- the word, number, line, field
unfoldable pub refusal_line : ℕ → ℕ → ℕ → List ℕ
refusal_line number line field =
    bytes "refused," ++ decimal number ++ comma ++ decimal line ++ comma ++ decimal field ++ line_end

-- ## The whole

-- what a search gives back: its outcome, the numbers of layouts and visited boards, the fewest lines, and the records
pub record Found : Type 0 where
  pub outcome : ℕ
  pub layouts : ℕ
  pub visited : ℕ
  pub fewest : ℕ
  pub records : List (List ℕ)

-- one line for each layout, numbered on from a number
unfoldable pub layout_lines : ℕ → ℕ → ℕ → List (List ℕ) → List ℕ
layout_lines height width number [] = []
layout_lines height width number (layout ∷ layouts) =
    layout_line height width number layout ++ layout_lines height width (number + 1) layouts

unfoldable pub found_text : ℕ → ℕ → Found → List ℕ
found_text height width found =
    summary_line found.layouts found.visited found.fewest found.outcome
    ++ layout_lines height width 1 found.records

-- a refused file prints one line; an accepted one the text of its H, W and HW cells
unfoldable pub reading_text : (ℕ → ℕ → List ℤ → List ℕ) → Reading → List ℕ
reading_text text reading =
    elim reading.number [
      | zero ↦ text reading.height reading.width (take (reading.height * reading.width) reading.cells)
      | suc n ↦ refusal_line (suc n) reading.line reading.field
    ]

-- what a program prints for the bytes of standard input: of these the first 4,096 are read
unfoldable pub printed : (ℕ → ℕ → List ℤ → List ℕ) → List ℕ → List ℕ
printed text input = reading_text text (read (take 4096 input))

-- and what it hands over of an argument: nothing where it is longer than 4,096 bytes
unfoldable pub handed_over : List ℕ → List ℕ
handed_over argument = if leb (length argument) 4096 then argument else []
