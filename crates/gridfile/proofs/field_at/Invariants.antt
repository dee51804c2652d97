-- `gridfile::field_at` meets its contract. The loop keeps `Passed`: what is left of the field gives the field's answer.
-- Assumes nothing.
use Rattle.gridfile.proofs.FieldLaws.{Passed}
use Rattle.gridfile.proofs.field_at.Given as goal

abbrev pub invariant-loop-at : goal.invariant-loop-at
invariant-loop-at l = Passed l.bytes l.from l.at l.value
