-- Writing a grid file: the text of a grid, and what the writer answers and leaves in the buffer that is lent to it. A text is the header
-- and the rows, each field in its shortest digits. Assumes nothing.
use Rattle.std.specs.Prelude.{if◌then◌else◌}
use Rattle.std.specs.Prelude.{ℕ, zero, suc, ◌+◌, true, false, not, List, [], ◌∷◌, ◌++◌, length, drop, ℤ, pos, negsuc, eqb, ltb}
use Rattle.model.specs.Text.{comma, line_end, hole_sign}
use Rattle.model.specs.Decimal.{decimal}
use Rattle.model.specs.Refusals.{grid_refusal}

-- ## The text

-- the field of a pad: its code in shortest digits, empty for blank, `#` for a hole
unfoldable pub cell_text : ℤ → List ℕ
cell_text (pos code) = decimal code
cell_text (negsuc zero) = []
cell_text (negsuc (suc below)) = hole_sign

-- the fields of pads in index order, the first of which is the given field of its row: after each a comma, after the last of a row 0A
unfoldable pub rows_text : ℕ → ℕ → List ℤ → List ℕ
rows_text width field [] = []
rows_text width field (cell ∷ cells) =
    cell_text cell
    ++ elim (eqb field width) [ true ↦ line_end ++ rows_text width 1 cells | false ↦ comma ++ rows_text width (field + 1) cells ]

-- the header `H,W`, then the rows
unfoldable pub grid_text : ℕ → ℕ → List ℤ → List ℕ
grid_text height width cells = decimal height ++ comma ++ decimal width ++ line_end ++ rows_text width 1 cells

-- ## The answer

pub record Writing : Type 0 where
  -- 0 if written; else 7, 8 or 9 of the grid, with the index of the first bad cell beside 9, or 14
  pub number : ℕ
  pub index : ℕ
  -- how many bytes were written; 0 if turned away
  pub length : ℕ
  -- every byte of the lent buffer
  pub buffer : List ℕ

-- nothing is written
unfoldable pub turned_away : ℕ → ℕ → List ℕ → Writing
turned_away number index buffer = record { number = number; index = index; length = 0; buffer = buffer }

-- the text stands at the start of the buffer; later bytes keep their values
unfoldable pub written : List ℕ → List ℕ → Writing
written text buffer = record { number = 0; index = 0; length = length text; buffer = text ++ drop (length text) buffer }

-- the grid's numbers first, then 14: the buffer is shorter than the text
unfoldable pub write : ℕ → ℕ → List ℤ → List ℕ → Writing
write height width cells buffer =
    let refusal = grid_refusal height width cells in
    if not (eqb refusal.0 0) then turned_away refusal.0 refusal.1 buffer
    else if ltb (length buffer) (length (grid_text height width cells)) then turned_away 14 0 buffer
    else written (grid_text height width cells) buffer
