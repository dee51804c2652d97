-- What the contract of `walk` tells of the sizes where it has a layout, so that its records can be measured. Assumes nothing.
use Rattle.std.specs.Prelude.{ℕ, ◌<◌, ◌≡◌, List, ℤ, Result}
use Rattle.std.proofs.Common.{arith, ap, ◌∙◌}
use Rattle.std.proofs.Math.Decide.{ℕ_discrete}
use Rattle.rules.specs.Grid.{Size}
use Rattle.model.specs.Runs as runs
use Rattle.model.specs.Refusals.{grid_refusal}
use Rattle.model.specs.RefusalLaws.{not_refused}
use Rattle.everycode.specs.EveryCode.{walk_is_declined}
use Rattle.grid.specs.declared.Refusal.{Refusal}
use Rattle.tally.specs.declared.Solved.{Solved}
use Rattle.tally.specs.Answers.{answer_says}
use Rattle.walking.specs.Answers.{Walks}

-- a refused grid has none, and an accepted one has its sizes
pub layout_sizes : (height width : ℕ) (cells : List ℤ) (limit : ℕ) (buffer : List ℕ) (r : Result Solved Refusal) (after : List ℕ)
    → Walks height width cells limit buffer r after → 0 < (answer_says r after).layouts → Size height × Size width
layout_sizes height width cells limit buffer r after walks some = elim (ℕ_discrete (grid_refusal height width cells).0 0) [
  | no refused ↦
      let none : (answer_says r after).layouts ≡ 0 = ap (λ (s : runs.Solved). s.layouts) (walks.equal ∙ walk_is_declined height width cells refused limit buffer) in
      absurd (omega arith)
  | yes fine ↦
      let accepted = not_refused height width cells fine in
      (accepted.height_in_range, accepted.width_in_range)
]
