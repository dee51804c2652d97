-- What `common` answers, as the model says it: the search's result and buffer beside the number, and the table. Without a table the number is
-- the grid's, 14 where the lent one is too short, with nothing searched, and 16 beside the search's own result where the list is not complete.
use Rattle.std.specs.Prelude.{ℕ, List, Result, Ok, Err}
use Rattle.model.specs.Runs as runs
use Rattle.model.specs.Common.{Common, with_number}
use Rattle.tally.specs.declared.Tally.{Tally}
use Rattle.tally.specs.Answers.{answer_says}
use Rattle.copper.specs.declared.NoTable.{NoTable}
use Rattle.copper.specs.declared.NoTable.TheVariants.{Grid, Short, Incomplete}

abbrev pub search_says : Result Tally NoTable → List ℕ → runs.Solved
search_says (Ok t) buffer = answer_says (Ok (record { outcome = Ok tt; tally = t })) buffer
search_says (Err (Grid refusal)) buffer = answer_says (Err refusal) buffer
search_says (Err Short) buffer = runs.declined_search 14 0 buffer
search_says (Err (Incomplete found)) buffer = with_number 16 (answer_says (Ok found) buffer)

abbrev pub common_says : Result Tally NoTable → List ℕ → List ℕ → Common
common_says r buffer table = record { searched = search_says r buffer; table = table }
