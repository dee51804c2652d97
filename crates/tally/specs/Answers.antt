-- What an engine answers, as the model says it: a refusal of the grid beside a search of nothing, or how its run ended and what it counted. The tried
-- codes of the slow walk stand in the place of visited boards. Assumes nothing.
use Rattle.std.specs.Prelude.{ℕ, List, Result, Ok, Err}
use Rattle.model.specs.Runs as runs
use Rattle.grid.specs.declared.Refusal.{Refusal}
use Rattle.grid.specs.Answers.{number_of, index_of}
use Rattle.tally.specs.declared.Solved.{Solved}
use Rattle.tally.specs.Outcomes.{outcome_number}

-- the answer and the buffer after it, as the model's result
abbrev pub answer_says : Result Solved Refusal → List ℕ → runs.Solved
answer_says (Ok s) buffer = record
    { number = 0; index = 0; outcome = outcome_number s.outcome; layouts = s.tally.layouts; visited = s.tally.visited; fewest_lines = s.tally.fewest; buffer = buffer }
answer_says (Err refusal) buffer = runs.declined_search (number_of refusal) (index_of refusal) buffer
