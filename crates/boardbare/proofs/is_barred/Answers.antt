-- `boardbare::is_barred` meets its contract.
use mathlib.Core.Path.{sym, ap, ◌∙◌}
use mathlib.Core.Bool.{not}
use Rattle.boardbare.specs.BareArrays.{barred_in}
use Rattle.boardbare.proofs.is_barred.Goals as goal

pub returns-then-has : goal.returns-then-has
unfolding barred_in
returns-then-has c = rw (sym c.has.ensures ∙ c.if-has.true) c.has-then-has.ensures

pub returns-else-has : goal.returns-else-has
unfolding barred_in
returns-else-has c = rw (sym c.has.ensures ∙ c.if-has.false) (ap not c.has-else-has.ensures)
