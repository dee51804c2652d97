-- What `walk` answers, as the model says it, and its whole promise in one record. `Walks` is the contract of `walk`; the equation with the model is
-- its first part, and demands 2 and 3 are its second.
use Rattle.std.specs.Prelude.{ℕ, ◌≡◌, List, length, ℤ, Result}
use Rattle.rules.specs.Grid.{grid_of, places}
use Rattle.model.specs.Refusals.{grid_refusal}
use Rattle.model.specs.Runs as runs
use Rattle.model.specs.Walk as model
use Rattle.grid.specs.declared.Refusal.{Refusal}
use Rattle.tally.specs.declared.Solved.{Solved}
use Rattle.tally.specs.Answers.{answer_says}
use Rattle.tally.specs.declared.Tally.{Tally}
use Rattle.tally.specs.Counts as counts
use Rattle.promises.specs.Contract.{Promise}

-- the run of the walk with no code tried before
abbrev pub run_of : ℕ → ℕ → List ℤ → ℕ → List ℕ → runs.Run
run_of height width cells limit buffer = runs.scan limit (places height width) 0 (length buffer) (model.every_code (grid_of height width cells))

pub record Walks (height width : ℕ) (cells : List ℤ) (limit : ℕ) (buffer : List ℕ) (r : Result Solved Refusal) (buffer' : List ℕ) : Type 0 where
  -- the result and every byte of the buffer, for a refused grid too
  pub equal : answer_says r buffer' ≡ model.walk height width cells limit buffer
  -- where it is not refused they are those of this run
  pub of_run : (grid_refusal height width cells).0 ≡ 0 → answer_says r buffer' ≡ runs.solved (run_of height width cells limit buffer) buffer
  -- and demands 2 and 3 hold of it
  pub promise : (grid_refusal height width cells).0 ≡ 0
      → Promise (grid_of height width cells) (model.every_code (grid_of height width cells)) limit (length buffer) (run_of height width cells limit buffer)

-- the tally and the buffer after the walk of the whole grid
abbrev pub Counted : ℕ → ℕ → List ℤ → ℕ → Tally → List ℕ → Solved → List ℕ → Type 0
Counted = counts.Counted (λ g. model.every_code g)
