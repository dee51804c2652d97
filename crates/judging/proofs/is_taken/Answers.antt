-- `judging::is_taken` meets its contract: -1 is blank, and so is a pad past the list. Assumes nothing.
use mathlib.Core.Path.{◌∙◌}
use native.Mathlib.Omega.{arith}
use borrow.Author.Tests.{le-ltb}
use Rattle.judging.proofs.Cells.{past_the_cells, taken_there}
use Rattle.judging.proofs.is_taken.Goals as goal

pub returns-then-v-cells : goal.returns-then-v-cells
returns-then-v-cells c = taken_there _ _ c.if-v-cells.true (record { sfits = omega arith })

pub returns-else-v-cells : goal.returns-else-v-cells
returns-else-v-cells c = le-ltb _ _ c.if-v-cells.false ∙ past_the_cells _ _ c.if-v-cells.false
