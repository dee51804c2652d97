-- What it is that the head and the rows together are: the text of a head with the rows of its table, what the model prints for an accepted
-- grid, and the bytes of what `first_line` and `row` answer (Tabling.antt). proofs/Whole.antt proves that they are the text that `common` prints.
use Rattle.std.specs.Prelude.{ℕ, zero, suc, ◌+◌, ◌≡◌, List, [], ◌++◌, ℤ, Result}
use Rattle.model.specs.Routes.{routes_found}
use Rattle.model.specs.CommonText.{common_found_text}
use Rattle.gridfile.specs.declared.Declined.{Declined}
use Rattle.tabling.specs.declared.Heading.{Heading}
use Rattle.tabling.specs.Tabling.{Head, row_text, text_of, width_of, rows_of, Headed}
use Rattle.tabling.specs.TableRows.{rows_from}

-- the text of a head, and after it the rows of its table
unfoldable pub head_text : Head → List ℕ
head_text h = h.text ++ rows_from h.width h.rows h.table h.rows 0

-- what the model prints for an accepted grid
abbrev pub grid_text : ℕ → ℕ → List ℤ → List ℕ
grid_text height width cells = common_found_text height width (routes_found height width cells)

-- ## The whole text, over the contracts alone

-- the bytes of so many rows from row k on
unfoldable pub row_bytes : (ℕ → List ℕ) → ℕ → ℕ → List ℕ
row_bytes row zero k = []
row_bytes row (suc more) k = row k ++ row_bytes row more (k + 1)

-- what `head` answers, what `first_line` answers for that, and what `row` answers for each row
module _ (file buffer table : List ℕ) (r : Result Heading Declined) (buffer' table' : List ℕ) (headed : Headed file buffer table r buffer' table')
    (first : List ℕ) (begun : first ≡ text_of r) (row : ℕ → List ℕ) (lined : (k : ℕ) → row k ≡ row_text (width_of r) (rows_of r) k table') where
  -- the bytes of the first line, and after them the bytes of the rows 0, 1, .. in this order
  unfoldable pub all_bytes : List ℕ
  all_bytes = first ++ row_bytes row (rows_of r) 0
