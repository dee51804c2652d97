-- What the program `common` prints for a grid file on its standard input: the summary line as `routes` prints it, with its limit and room,
-- and for a complete list the table of the copper common to all layouts, one line for each row of the field. It puts Common.antt into
-- Printed.antt.
use Rattle.std.specs.Prelude.{if◌then◌else◌}
use Rattle.std.specs.Prelude.{ℕ, zero, suc, List, [], ◌++◌, map, eqb, take, drop}
use Rattle.rules.specs.Grid.{field_side}
use Rattle.model.specs.Text.{line_end}
use Rattle.model.specs.Decimal.{digit_byte}
use Rattle.model.specs.Printed.{Found, summary_line, printed}
use Rattle.model.specs.Routes.{routes_found}
use Rattle.model.specs.Common.{common_table}

-- so many rows of so many digits, each a line
unfoldable pub row_lines : ℕ → ℕ → List ℕ → List ℕ
row_lines side zero digits = []
row_lines side (suc rows) digits = take side digits ++ line_end ++ row_lines side rows (drop side digits)

-- the table of a complete list, its digits as they stand in it; nothing of any other list
unfoldable pub table_lines : ℕ → ℕ → Found → List ℕ
table_lines height width found =
    if eqb found.outcome 0
    then row_lines (field_side width) (field_side height) (map digit_byte (common_table height width found.records))
    else []

unfoldable pub common_found_text : ℕ → ℕ → Found → List ℕ
common_found_text height width found =
    summary_line found.layouts found.visited found.fewest found.outcome ++ table_lines height width found

-- WHAT `common` PRINTS for the bytes of standard input
unfoldable pub common_text : List ℕ → List ℕ
common_text input = printed (λ height width cells. common_found_text height width (routes_found height width cells)) input
