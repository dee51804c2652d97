-- When a grid is declined, for a board or a search: the numbers 7, 8 and 9, in document 01's order. Assumes nothing.
use Rattle.std.specs.Prelude.{if◌then◌else◌}
use Rattle.std.specs.Prelude.{ℕ, suc, ◌*◌, Bool, not, ◌&&◌, List, [], ◌∷◌, length, ℤ, pos, negsuc, eqb, ltb, leb}
use Rattle.rules.specs.Grid.{largest_code}
use Rattle.model.specs.Bounds.{is_size}

-- a cell is -1 for blank, -2 for a hole or a code: not below -2, and no more than the largest code
unfoldable pub is_cell : ℤ → Bool
is_cell (pos code) = not (ltb largest_code code)
is_cell (negsuc below) = leb below 1

-- the index of the first cell that is none; the number of cells if there is no such
unfoldable pub first_bad_cell : List ℤ → ℕ
first_bad_cell [] = 0
first_bad_cell (cell ∷ cells) = if is_cell cell then suc (first_bad_cell cells) else 0

-- number and index: 7 H or W out of bounds; 8 not HW cells; 9 a bad cell, with the first such index (0 for the others)
unfoldable pub grid_refusal : ℕ → ℕ → List ℤ → ℕ × ℕ
grid_refusal height width cells =
    if not (is_size height && is_size width) then (7, 0)
    else if not (eqb (length cells) (height * width)) then (8, 0)
    else if ltb (first_bad_cell cells) (length cells) then (9, first_bad_cell cells)
    else (0, 0)
