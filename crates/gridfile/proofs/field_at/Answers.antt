-- `gridfile::field_at` meets its contract. The loop keeps `Passed`: what is left of the field gives the field's answer.
-- Assumes nothing.
use Rattle.gridfile.proofs.FieldLaws.{one_passed, a_digit}
use mathlib.Core.Path.{sym, ◌∙◌}
use mathlib.Core.Path.{ap}
use mathlib.Core.Bool.{not}
use Rattle.gridfile.proofs.field_at.Goals as goal

pub loop-at-preserved : goal.loop-at-preserved
loop-at-preserved c = rw c.from.ensures (one_passed _ _ _ _ c.loop-at.invariant c.loop-at-test.true (a_digit _ c.is_digit.ensures (ap not c.if-not-is_digit.false)) c.if-at-from-eq-MOST_DIGITS.false (sym c.is_zero_alone.ensures ∙ c.if-is_zero_alone.false))
