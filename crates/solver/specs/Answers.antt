-- What `solve` answers, as the model says it, and its whole promise in one record. `Solves` is the contract of `solve`; the equation with
-- the model is its first part, and demands 2 and 3 are its second.
use Rattle.std.specs.Prelude.{ℕ, ◌≡◌, List, length, ℤ, Result}
use Rattle.rules.specs.Grid.{Grid, grid_of, places}
use Rattle.model.specs.Refusals.{grid_refusal}
use Rattle.model.specs.Runs as runs
use Rattle.model.specs.Search as model
use Rattle.grid.specs.declared.Refusal.{Refusal}
use Rattle.runs.specs.Progress.{Progress}
use Rattle.tally.specs.declared.Stop.{Stop}
use Rattle.tally.specs.declared.Tally.{Tally}
use Rattle.tally.specs.declared.Solved.{Solved}
use Rattle.tally.specs.Answers.{answer_says}
use Rattle.tally.specs.Counts as counts
use Rattle.promises.specs.Contract.{Promise}

-- how far the search of a grid has come: whether it was stopped, its tally, and the buffer
abbrev pub so_far : Grid → Result Unit Stop → Tally → List ℕ → Progress
so_far g = counts.progress_of (places g.height g.width)

-- the run of the search with no board visited before
abbrev pub run_of : ℕ → ℕ → List ℤ → ℕ → List ℕ → runs.Run
run_of height width cells limit buffer = runs.scan limit (places height width) 0 (length buffer) (model.search (grid_of height width cells))

pub record Solves (height width : ℕ) (cells : List ℤ) (limit : ℕ) (buffer : List ℕ) (r : Result Solved Refusal) (buffer' : List ℕ) : Type 0 where
  -- the result and every byte of the buffer, for a refused grid too
  pub equal : answer_says r buffer' ≡ model.solve height width cells limit buffer
  -- where it is not refused they are those of this run
  pub of_run : (grid_refusal height width cells).0 ≡ 0 → answer_says r buffer' ≡ runs.solved (run_of height width cells limit buffer) buffer
  -- and demands 2 and 3 hold of it
  pub promise : (grid_refusal height width cells).0 ≡ 0 → Promise (grid_of height width cells) (model.search (grid_of height width cells)) limit (length buffer) (run_of height width cells limit buffer)

-- the answer and the buffer after the search of the whole grid, from a tally and a buffer
abbrev pub Counted : ℕ → ℕ → List ℤ → ℕ → Tally → List ℕ → Solved → List ℕ → Type 0
Counted = counts.Counted (λ g. model.search g)
