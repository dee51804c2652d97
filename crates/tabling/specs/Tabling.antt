-- What `common` prints, in the parts in which it is made: the head, for a file, an answer buffer and a table of any lengths, and the line of
-- row k of a table. It rests on the model's Common.antt, Printed.antt and Routes.antt; Whole.antt shows that the parts together are the
-- model's text.
use Rattle.std.specs.Prelude.{if◌then◌else◌}
use Rattle.std.specs.Prelude.{ℕ, zero, suc, ◌*◌, ◌/◌, ◌%◌, ◌≡◌, Bool, ◌&&◌, List, [], ◌++◌, map, eqb, ltb, length, take, drop, Result, Ok, Err}
use Rattle.rules.specs.Grid.{field_side}
use Rattle.model.specs.Bounds.{is_size}
use Rattle.model.specs.Text.{line_end}
use Rattle.model.specs.Decimal.{digit_byte}
use Rattle.model.specs.GridFile.{Reading, read}
use Rattle.model.specs.Printed.{summary_line, refusal_line}
use Rattle.model.specs.Routes.{routes_limit}
use Rattle.model.specs.Common.{Common, common}
use Rattle.gridfile.specs.declared.Declined.{Declined}
use Rattle.tally.specs.declared.Tally.{Tally}
use Rattle.tally.specs.declared.Solved.{Solved}
use Rattle.tally.specs.Empty.{empty}
use Rattle.copper.specs.declared.NoTable.{NoTable}
use Rattle.copper.specs.declared.NoTable.TheVariants.{Grid, Short, Incomplete}
use Rattle.listing.specs.Listing as listing
use Rattle.tabling.specs.declared.Heading.{Heading}

-- ## The head

-- its text, W and how many rows are printed, and the answer buffer and the table after it
pub record Head : Type 0 where
  pub text : List ℕ
  pub width : ℕ
  pub rows : ℕ
  pub buffer : List ℕ
  pub table : List ℕ

-- how many rows are printed: those of the field beside the number 0, which a complete list has; none beside 14 and 16
unfoldable pub rows_printed : (number height : ℕ) → ℕ
rows_printed number height = if eqb number 0 then field_side height else 0

-- the head of what `common` of the model says: the summary of its search, and its bytes
unfoldable pub common_head : ℕ → ℕ → Common → Head
common_head height width said = record {
  text = summary_line said.searched.layouts said.searched.visited said.searched.fewest_lines said.searched.outcome;
  width = width;
  rows = rows_printed said.searched.number height;
  buffer = said.searched.buffer;
  table = said.table;
}

-- the head of a refused file is its line, and every lent byte is as before; that of an accepted one is what `common` says of its grid, with
-- the limit of `routes`
unfoldable pub reading_head : Reading → (buffer table : List ℕ) → Head
reading_head reading buffer table =
    elim reading.number [
      | zero ↦ common_head reading.height reading.width (common reading.height reading.width (take (reading.height * reading.width) reading.cells) routes_limit buffer table)
      | suc n ↦ record { text = refusal_line (suc n) reading.line reading.field; width = 0; rows = 0; buffer = buffer; table = table }
    ]

-- ## The rows

-- is there a row k in a table of so many bytes: W is a size, k is below the rows, and the table has more than k whole rows?
unfoldable pub has_row : (width rows k room : ℕ) → Bool
has_row width rows k room = is_size width && ltb k rows && ltb k (room / field_side width)

-- the last digit of a byte; a byte of a table is at most 3 (promises' TableLaws.antt, `table_bytes_small`), so there it is the byte itself
unfoldable pub table_digit : ℕ → ℕ
table_digit byte = digit_byte (byte % 10)

-- the line of row k (from 0); nothing where there is no row k
unfoldable pub row_text : (width rows k : ℕ) → List ℕ → List ℕ
row_text width rows k table =
    if has_row width rows k (length table)
    then map table_digit (take (field_side width) (drop (k * field_side width) table)) ++ line_end
    else []

-- ## What `head` answers

-- what was found, with a table and without one; nothing where nothing was searched
abbrev pub found_in : Result Tally NoTable → Solved
found_in (Ok tally) = record { outcome = Ok tt; tally = tally }
found_in (Err (Grid refusal)) = record { outcome = Ok tt; tally = empty }
found_in (Err Short) = record { outcome = Ok tt; tally = empty }
found_in (Err (Incomplete found)) = found

-- how many rows are printed: those of the field where there is a table
abbrev pub rows_in : Result Tally NoTable → ℕ → ℕ
rows_in (Ok tally) height = field_side height
rows_in (Err none) height = 0

-- the line of the head, as `listing` has it
abbrev pub text_of : Result Heading Declined → List ℕ
text_of (Ok heading) = listing.head_text (Ok heading.found)
text_of (Err declined) = listing.head_text (Err declined)

-- W and the rows, none where the file is refused
abbrev pub width_of : Result Heading Declined → ℕ
width_of (Ok heading) = heading.width
width_of (Err declined) = 0

abbrev pub rows_of : Result Heading Declined → ℕ
rows_of (Ok heading) = heading.rows
rows_of (Err declined) = 0

-- ## The contract

-- HEAD: the line of the head, W and the rows that are printed, and every byte of the answer buffer and of the table
pub record Headed (file buffer table : List ℕ) (r : Result Heading Declined) (buffer' table' : List ℕ) : Type 0 where
  pub text : text_of r ≡ (reading_head (read file) buffer table).text
  pub width : width_of r ≡ (reading_head (read file) buffer table).width
  pub rows : rows_of r ≡ (reading_head (read file) buffer table).rows
  pub buffer_after : buffer' ≡ (reading_head (read file) buffer table).buffer
  pub table_after : table' ≡ (reading_head (read file) buffer table).table
