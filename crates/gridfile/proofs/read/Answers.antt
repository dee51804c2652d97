-- `gridfile::read` meets its contract: each return is a law of HeaderLaws, after what `field_at` and `read_rows` ensure.
-- Assumes nothing.
use Rattle.gridfile.proofs.ReadLaws.{value_ended, found_there}
use native.Mathlib.Omega.{arith}
use mathlib.Core.Path.{sym, ◌∙◌}
use Rattle.gridfile.proofs.read.Goals as goal

pub bounds-bytes-first : goal.bounds-bytes-first
bounds-bytes-first c = (value_ended _ _ _ (sym c.field_at.ensures ∙ found_there _ _ _ _ c.in_ok-first.ensures)).inside

pub overflow_add-first : goal.overflow_add-first
overflow_add-first c = omega (arith, (value_ended _ _ _ (sym c.field_at.ensures ∙ found_there _ _ _ _ c.in_ok-first.ensures)).inside)

pub bounds-bytes-second : goal.bounds-bytes-second
bounds-bytes-second c = (value_ended _ _ _ (sym c.field_at-2.ensures ∙ found_there _ _ _ _ c.in_ok-second.ensures)).inside
