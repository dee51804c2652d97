-- `tabling::has_row` meets its contract: each return is one test of the definition. Assumes nothing.
use mathlib.Core.Path.{sym, ◌∙◌}
use native.Mathlib.Omega.{arith}
use borrow.Author.Tests.{not-true, not-false}
use Rattle.model.specs.RefusalLaws.{size_of_test}
use Rattle.tabling.proofs.RowLaws.{no_size, not_counted, by_room}
use mathlib.Core.Path.{ap}
use mathlib.Core.Bool.{not}
use Rattle.tabling.proofs.has_row.Goals as goal

pub returns-then-not-is_size : goal.returns-then-not-is_size
returns-then-not-is_size c = no_size _ _ _ _ (sym c.is_size.ensures ∙ not-true _ (ap not c.if-not-is_size.true))

pub returns-then-rows-k : goal.returns-then-rows-k
returns-then-rows-k c = not_counted _ _ _ _ (sym c.is_size.ensures ∙ not-false _ (ap not c.if-not-is_size.false)) (omega arith)

pub overflow_mul-result : goal.overflow_mul-result
overflow_mul-result c = omega (arith, (size_of_test _ (sym c.is_size.ensures ∙ not-false _ (ap not c.if-not-is_size.false))).1)

pub overflow_sub-result : goal.overflow_sub-result
overflow_sub-result c = omega (arith, (size_of_test _ (sym c.is_size.ensures ∙ not-false _ (ap not c.if-not-is_size.false))).0)

pub nonzero_div-result : goal.nonzero_div-result
nonzero_div-result c = omega (arith, (size_of_test _ (sym c.is_size.ensures ∙ not-false _ (ap not c.if-not-is_size.false))).0)

pub returns : goal.returns
returns c = by_room _ _ _ _ (sym c.is_size.ensures ∙ not-false _ (ap not c.if-not-is_size.false)) c.if-rows-k.false
