-- The list of a file's wirings as it is printed, in the parts in which it is made: the head for a file, a limit and a buffer of any length, and the
-- line of layout k of the buffer that the search left. It rests on the model's Printed.antt and Routes.antt; Whole.antt shows that the parts
-- together are the model's text.
use Rattle.std.specs.Prelude.{if◌then◌else◌}
use Rattle.std.specs.Prelude.{ℕ, zero, suc, ◌+◌, ◌*◌, ◌≡◌, List, [], ◌++◌, length, take, drop, Result, Ok, Err}
use Rattle.model.specs.Runs.{no_fewest, concat}
use Rattle.model.specs.Records.{has_record, record_at}
use Rattle.model.specs.GridFile.{Reading, read}
use Rattle.model.specs.Printed.{Found, summary_line, refusal_line, layout_line, reading_text}
use Rattle.model.specs.Routes.{found_within, text_within}
use Rattle.gridfile.specs.declared.Declined.{Declined}
use Rattle.gridfile.specs.Fields.{fault_number}
use Rattle.tally.specs.declared.Solved.{Solved}
use Rattle.tally.specs.Outcomes.{outcome_number}
use Rattle.listing.specs.declared.Heading.{Heading}

-- ## What is found and printed

-- what the search of the grid of an accepted file finds
unfoldable pub grid_found : (limit room : ℕ) → Reading → Found
grid_found limit room reading = found_within limit room reading.height reading.width (take (reading.height * reading.width) reading.cells)

-- in a refused file nothing is found
abbrev nothing_found : Found
nothing_found = record { outcome = 0; layouts = 0; visited = 0; fewest = no_fewest; records = [] }

unfoldable pub reading_found : (limit room : ℕ) → Reading → Found
reading_found limit room reading = elim reading.number [ zero ↦ grid_found limit room reading | suc n ↦ nothing_found ]

-- the whole text for a file: `list_text` of the model, for all bytes of the file
unfoldable pub file_text : (limit room : ℕ) → List ℕ → List ℕ
file_text limit room file = reading_text (text_within limit room) (read file)

-- ## Its parts

-- the head: a refused file's line, or the summary line
unfoldable pub reading_head : (limit room : ℕ) → Reading → List ℕ
reading_head limit room reading =
    elim reading.number [
      | zero ↦ let found = grid_found limit room reading in summary_line found.layouts found.visited found.fewest found.outcome
      | suc n ↦ refusal_line (suc n) reading.line reading.field
    ]

-- records from the start of a buffer on; all later bytes keep their values
unfoldable pub put_records : List (List ℕ) → List ℕ → List ℕ
put_records records buffer = concat records ++ drop (length (concat records)) buffer

-- the line of layout k (from 0) of a buffer with so many layouts; nothing where the buffer has no record k
unfoldable pub line_text : ℕ → ℕ → ℕ → ℕ → List ℕ → List ℕ
line_text height width layouts k buffer =
    if has_record height width layouts k (length buffer)
    then layout_line height width (k + 1) (record_at height width layouts k buffer)
    else []

-- ## What `head` answers

-- the file's number, 0 where it is accepted
abbrev pub number_of : Result Heading Declined → ℕ
number_of (Ok heading) = 0
number_of (Err declined) = fault_number declined.fault

-- H and W, 0 where the file is refused
abbrev pub height_of : Result Heading Declined → ℕ
height_of (Ok heading) = heading.height
height_of (Err declined) = 0

abbrev pub width_of : Result Heading Declined → ℕ
width_of (Ok heading) = heading.width
width_of (Err declined) = 0

-- what was found, nothing where the file is refused
abbrev pub outcome_of : Result Heading Declined → ℕ
outcome_of (Ok heading) = outcome_number heading.found.outcome
outcome_of (Err declined) = 0

abbrev pub layouts_of : Result Heading Declined → ℕ
layouts_of (Ok heading) = heading.found.tally.layouts
layouts_of (Err declined) = 0

abbrev pub visited_of : Result Heading Declined → ℕ
visited_of (Ok heading) = heading.found.tally.visited
visited_of (Err declined) = 0

-- the line of the head
abbrev pub head_text : Result Solved Declined → List ℕ
head_text (Ok found) = summary_line found.tally.layouts found.tally.visited found.tally.fewest (outcome_number found.outcome)
head_text (Err declined) = refusal_line (fault_number declined.fault) declined.line declined.field

abbrev pub text_of : Result Heading Declined → List ℕ
text_of (Ok heading) = head_text (Ok heading.found)
text_of (Err declined) = head_text (Err declined)

-- ## The contract

-- HEAD: the line of the head; the file's number, H and W (0 where it is refused); what was found; and every byte of the buffer
pub record Headed (limit : ℕ) (file buffer : List ℕ) (r : Result Heading Declined) (buffer' : List ℕ) : Type 0 where
  pub text : text_of r ≡ reading_head limit (length buffer) (read file)
  pub number : number_of r ≡ (read file).number
  pub height : height_of r ≡ (read file).height
  pub width : width_of r ≡ (read file).width
  pub outcome : outcome_of r ≡ (reading_found limit (length buffer) (read file)).outcome
  pub layouts : layouts_of r ≡ (reading_found limit (length buffer) (read file)).layouts
  pub visited : visited_of r ≡ (reading_found limit (length buffer) (read file)).visited
  pub after : buffer' ≡ put_records (reading_found limit (length buffer) (read file)).records buffer
