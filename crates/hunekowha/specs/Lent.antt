-- What each function for other languages returns and leaves in the slices that were lent to it. It rests on the model's definitions of the
-- same calls; the numbers stand in the order that hunekowha.h gives them. A slice that is too short is left as it was, and so is every other.
use Rattle.std.specs.Prelude.{if◌then◌else◌}
use Rattle.std.specs.Prelude.{ℕ, ◌*◌, ◌&&◌, List, [], ◌∷◌, ◌++◌, leb, length, drop, ℤ, Result, Ok}
use Rattle.model.specs.GridFile.{Reading}
use Rattle.model.specs.Writing.{Writing, write}
use Rattle.model.specs.Records.{record_length, has_record}
use Rattle.model.specs.Judge.{Judged, judge}
use Rattle.model.specs.Runs.{Solved, declined_search}
use Rattle.model.specs.Common.{common, with_number}
use Rattle.grid.specs.declared.Refusal.{Refusal}
use Rattle.tally.specs.declared.Solved.{Solved as Counted}
use Rattle.tally.specs.declared.Tally.{Tally}
use Rattle.tally.specs.Answers.{answer_says}
use Rattle.copper.specs.declared.NoTable.{NoTable}
use Rattle.copper.specs.Answers.{search_says}

-- a list whose first elements were overwritten
abbrev pub written : {A : Type 0} → List A → List A → List A
written new old = new ++ drop (length new) old

-- READ, a grid file or packed decimal: what is returned, and the two lent slices after the call
pub record ReadGives : Type 0 where
  pub returned : ℕ
  pub answer : List ℕ
  pub cells : List ℤ

abbrev pub read_numbers : Reading → List ℕ
read_numbers r = r.number ∷ r.line ∷ r.field ∷ r.height ∷ r.width ∷ []

unfoldable pub reading_gives : Reading → List ℕ → List ℤ → ReadGives
reading_gives reading answer cells =
    if leb 5 (length answer) && leb 256 (length cells)
    then record { returned = 5; answer = written (read_numbers reading) answer; cells = written reading.cells cells }
    else record { returned = 0; answer = answer; cells = cells }

-- WRITE: what is returned, and the text and the numbers after the call
pub record WriteGives : Type 0 where
  pub returned : ℕ
  pub text : List ℕ
  pub answer : List ℕ

abbrev pub write_numbers : Writing → List ℕ
write_numbers r = r.number ∷ r.index ∷ r.length ∷ []

unfoldable pub write_gives : ℕ → ℕ → List ℤ → List ℕ → List ℕ → WriteGives
write_gives height width cells text answer =
    if leb 3 (length answer)
    then record {
      returned = 3;
      text = (write height width cells text).buffer;
      answer = written (write_numbers (write height width cells text)) answer;
    }
    else record { returned = 0; text = text; answer = answer }

-- RECORD: what is returned, and the numbers after the call
pub record NumbersGiven : Type 0 where
  pub returned : ℕ
  pub answer : List ℕ

-- where record k begins and how many bytes it has; 0 and 0 where there is none
unfoldable pub record_place : ℕ → ℕ → ℕ → ℕ → ℕ → List ℕ
record_place height width count k room =
    if has_record height width count k room
    then k * record_length height width ∷ record_length height width ∷ []
    else 0 ∷ 0 ∷ []

unfoldable pub record_gives : ℕ → ℕ → ℕ → ℕ → List ℕ → List ℕ → NumbersGiven
record_gives height width count k buffer answer =
    if leb 2 (length answer)
    then record { returned = 2; answer = written (record_place height width count k (length buffer)) answer }
    else record { returned = 0; answer = answer }

-- JUDGE: the refusal of the grid, or the verdict on the record and its lines
abbrev pub judge_numbers : Judged → List ℕ
judge_numbers r = r.number ∷ r.index ∷ r.verdict ∷ r.lines ∷ []

unfoldable pub judge_gives : ℕ → ℕ → List ℤ → List ℕ → List ℕ → NumbersGiven
judge_gives height width cells bytes answer =
    if leb 4 (length answer)
    then record { returned = 4; answer = written (judge_numbers (judge height width cells bytes)) answer }
    else record { returned = 0; answer = answer }

-- SOLVE AND WALK, by what they answer in the model: what is returned, the buffer and the numbers after the call
pub record ListingGives : Type 0 where
  pub returned : ℕ
  pub buffer : List ℕ
  pub answer : List ℕ

abbrev pub solve_numbers : Solved → List ℕ
solve_numbers r = r.number ∷ r.index ∷ r.outcome ∷ r.layouts ∷ r.visited ∷ r.fewest_lines ∷ []

-- the same numbers of what the search answers, and the walk
abbrev pub search_numbers : Result Counted Refusal → List ℕ
search_numbers r = solve_numbers (answer_says r [])

-- of what a search has counted, behind a number
abbrev pub counted_numbers : ℕ → Counted → List ℕ
counted_numbers number found = solve_numbers (with_number number (answer_says (Ok found) []))

-- where nothing was searched
abbrev pub declined_numbers : ℕ → ℕ → List ℕ
declined_numbers number index = solve_numbers (declined_search number index [])

unfoldable pub listing_gives : Solved → List ℕ → List ℕ → ListingGives
listing_gives listed buffer answer =
    if leb 6 (length answer)
    then record { returned = 6; buffer = listed.buffer; answer = written (solve_numbers listed) answer }
    else record { returned = 0; buffer = buffer; answer = answer }

-- COMMON: the numbers of what it answers; what is returned, the buffer, the table and the numbers after the call
abbrev pub table_numbers : Result Tally NoTable → List ℕ
table_numbers r = solve_numbers (search_says r [])

pub record CommonGives : Type 0 where
  pub returned : ℕ
  pub buffer : List ℕ
  pub table : List ℕ
  pub answer : List ℕ

unfoldable pub common_gives : ℕ → ℕ → List ℤ → ℕ → List ℕ → List ℕ → List ℕ → CommonGives
common_gives height width cells limit buffer table answer =
    if leb 6 (length answer)
    then record {
      returned = 6;
      buffer = (common height width cells limit buffer table).searched.buffer;
      table = (common height width cells limit buffer table).table;
      answer = written (solve_numbers (common height width cells limit buffer table).searched) answer;
    }
    else record { returned = 0; buffer = buffer; table = table; answer = answer }
