-- WHAT EQUAL MEANS of the answers of the two engines on one grid, and what `compare` tells of it. Nothing is proved here;
-- that two complete answers are always equal stands in BothCalls.antt.
use Rattle.std.specs.Prelude.{ℕ, ◌*◌, ◌≤◌, ◌≡◌, true, ◌↔◌, List, length, take, replicate, ℤ, Result}
use Rattle.rules.specs.Grid.{places}
use Rattle.model.specs.Runs as runs
use Rattle.grid.specs.declared.Refusal.{Refusal}
use Rattle.tally.specs.declared.Solved.{Solved}
use Rattle.tally.specs.Answers.{answer_says}
use Rattle.walking.specs.Answers.{Walks}
use Rattle.solver.specs.Answers.{Solves}
use Rattle.engines.specs.declared.Compared.{Compared}

-- both are complete, and they say the same numbers; a declined grid counts as complete, with nothing counted
pub record SameCounts (walked solved : runs.Solved) : Type 0 where
  pub walk_complete : walked.outcome ≡ 0
  pub search_complete : solved.outcome ≡ 0
  pub number : walked.number ≡ solved.number
  pub index : walked.index ≡ solved.index
  pub layouts : walked.layouts ≡ solved.layouts
  pub fewest : walked.fewest_lines ≡ solved.fewest_lines

-- both buffers have so many bytes, and these are the same
pub record SameBytes (count : ℕ) (first second : List ℕ) : Type 0 where
  pub in_first : count ≤ length first
  pub in_second : count ≤ length second
  pub same : take count first ≡ take count second

-- EQUAL ANSWERS, with the buffers after the two calls
pub record Equal (height width : ℕ) (walked : Result Solved Refusal) (first : List ℕ) (solved : Result Solved Refusal) (second : List ℕ) : Type 0 where
  pub counts : SameCounts (answer_says walked first) (answer_says solved second)
  pub records : SameBytes ((answer_says walked first).layouts * places height width) first second

-- no engine is stopped by its count
abbrev pub no_limit : ℕ
no_limit = 18446744073709551615

-- WHAT `compare` TELLS of a grid: both engines were called on it, each with a buffer of its own; whether they are equal; and what they counted
pub record Compares (height width : ℕ) (cells : List ℤ) (r : Compared) : Type 0 where
  pub walked : Result Solved Refusal
  pub first : List ℕ
  pub walks : Walks height width cells no_limit (replicate 1600 7) walked first
  pub solved : Result Solved Refusal
  pub second : List ℕ
  pub solves : Solves height width cells no_limit (replicate 1600 9) solved second
  pub equal_exactly : (r.equal ≡ true) ↔ Equal height width walked first solved second
  pub layouts : r.layouts ≡ (answer_says solved second).layouts
  pub visited : r.visited ≡ (answer_says solved second).visited
  pub tried : r.tried ≡ (answer_says walked first).visited
