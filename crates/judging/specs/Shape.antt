-- What is asked of a listed drawing at one pad, by the sizes and the list of cells: the test of its unit square, and the corner rule on both
-- sides. They are the bodies of the checks in the rules' CheckedListed.antt. Nothing is proved in this file.
use Rattle.std.specs.Prelude.{ℕ, ◌+◌, ◌*◌, ◌-◌, ◌%◌, ◌≤◌, ◌<◌, Bool, ◌&&◌, ◌||◌, not, List, leb, ltb, get_or, ℤ}
use Rattle.rules.specs.Grid.{cell_of, blank_cell}
use Rattle.rules.specs.Drawing.{Drawing, num, Side, on_left, on_right}
use Rattle.rules.specs.CheckedListed.{has_corner, diagonal, not_blank}

-- A COLUMN of a grid, in a row of it or in the one below its last
pub record InColumn (width y x : ℕ) : Type 0 where
  pub wide : 2 ≤ width
  pub narrow : width ≤ 16
  pub low : y ≤ 16
  pub inside : x < width

-- the line beside a pad, on one side
unfoldable pub line_beside : Side → Drawing → ℕ → Bool
line_beside on_left D v = leb 1 v && D.right (v - 1)
line_beside on_right D v = D.right v

-- whether a pad is a clue or a hole; past the list it is blank
unfoldable pub taken_at : List ℤ → ℕ → Bool
taken_at cells v = not_blank (cell_of (get_or cells v blank_cell))

-- the lines in the unit square of a pad: above, on the left, on the right, below
abbrev pub lines_around : ℕ → Drawing → ℕ → ℕ
lines_around width D v = num (D.right v) + num (D.down v) + num (D.down (v + 1)) + num (D.right (v + width))

-- at most two lines in the unit square of a pad, if it has one
unfoldable pub square_keeps : ℕ → ℕ → Drawing → ℕ → Bool
square_keeps height width D v = not (ltb (v % width + 1) width && ltb (v + width) (height * width)) || leb (lines_around width D v) 2

-- the corner rule at a pad, on one side
unfoldable pub corner_keeps : Side → ℕ → List ℤ → Drawing → ℕ → Bool
corner_keeps side width cells D v = not (has_corner side D v) || (taken_at cells (diagonal side width v) || has_corner side D (diagonal side width v))

-- ALL THREE at a pad
unfoldable pub pad_keeps : ℕ → ℕ → List ℤ → Drawing → ℕ → Bool
pad_keeps height width cells D v = square_keeps height width D v && (corner_keeps on_left width cells D v && corner_keeps on_right width cells D v)
