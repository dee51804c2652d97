-- `judging::line_beside` meets its contract, on each side; the first pad of a row has none to the left. Assumes nothing.
use mathlib.Core.Path.{◌∙◌}
use native.Mathlib.Omega.{arith}
use borrow.Author.Tests.{le-ltb}
use Rattle.judging.proofs.Drawn.{none_on_left, beside_on_left, beside_on_right}
use Rattle.judging.proofs.line_beside.Goals as goal

pub returns-then-x-gt0 : goal.returns-then-x-gt0
returns-then-x-gt0 c = rw c.in-Left.is (beside_on_left _ _ _ c.requires _ c.if-x-gt0.true c.leads.ensures)

pub returns-else-x-gt0 : goal.returns-else-x-gt0
returns-else-x-gt0 c = rw c.in-Left.is (le-ltb _ _ c.if-x-gt0.false ∙ none_on_left _ _ _ c.requires _ (omega (arith, c.if-x-gt0.false)))

pub returns-in-Right : goal.returns-in-Right
returns-in-Right c = rw c.in-Right.is (beside_on_right _ _ _ c.requires _ c.leads-in-Right.ensures)
