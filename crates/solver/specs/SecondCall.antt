-- TWO CALLS OF `solve` on one grid, the second with at least the limit and at least the buffer of the first, whatever the two buffers held before:
-- what a caller can rely on (promises' SecondRun.antt) follows from the contract of `solve` alone, taken twice.
use Rattle.std.specs.Prelude.{ℕ, ◌≤◌, List, length, ℤ, Result}
use Rattle.promises.specs.SecondRun.{SecondRun}
use Rattle.promises.proofs.SecondRun.{second_run}
use Rattle.grid.specs.declared.Refusal.{Refusal}
use Rattle.tally.specs.declared.Solved.{Solved}
use Rattle.tally.specs.Answers.{answer_says}
use Rattle.solver.specs.Answers.{Solves}

module _ (height width : ℕ) (cells : List ℤ) (limit limit' : ℕ) (buffer buffer' : List ℕ) where
  pub second_call : limit ≤ limit' → length buffer ≤ length buffer'
      → (r : Result Solved Refusal) (after : List ℕ) → Solves height width cells limit buffer r after
      → (r' : Result Solved Refusal) (after' : List ℕ) → Solves height width cells limit' buffer' r' after'
      → SecondRun height width (answer_says r after) (answer_says r' after')
  second_call higher wider r after one r' after' two = rw (one.equal, two.equal) (second_run height width cells limit limit' higher buffer buffer' wider)
