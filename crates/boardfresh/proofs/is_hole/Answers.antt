-- `boardfresh::is_hole` meets its contract: a clue is no hole, and any other pad that is taken is one. Assumes nothing.
use mathlib.Core.Path.{refl, sym, ap, ◌∙◌}
use mathlib.Core.Bool.{not}
use Rattle.boardfresh.specs.Shutting.{hole_test}
use Rattle.boardfresh.proofs.is_hole.Goals as goal

pub returns-then-not-has : goal.returns-then-not-has
returns-then-not-has c = c.has-then-not-has.ensures ∙ sym (hole_test c.args.kinds.now _ c.requires ∙ rw (sym c.has.ensures ∙ c.if-not-has.true) refl)

pub returns-else-not-has : goal.returns-else-not-has
returns-else-not-has c = ap not c.if-not-has.false ∙ sym (hole_test c.args.kinds.now _ c.requires ∙ rw (sym c.has.ensures ∙ c.if-not-has.false) refl)
