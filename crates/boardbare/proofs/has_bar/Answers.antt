-- `boardbare::has_bar` meets its contract: the three tests, one after the other.
use mathlib.Core.Path.{sym, ◌∙◌}
use mathlib.Core.Bool.{false≢true}
use Rattle.boardbare.specs.BareArrays.{bar_test}
use Rattle.boardbare.proofs.has_bar.Goals as goal
use Rattle.boardbare.proofs.has_bar.Goals.{then-has_corner, else-has_corner}

pub returns-then-not-is_taken : goal.returns-then-not-is_taken
unfolding bar_test
returns-then-not-is_taken c = elim c.if-has_corner.branch [
  | then-has_corner w ↦ rw (sym c.has_corner.ensures ∙ w.if-has_corner.true, ← w.is_taken.ensures, sym w.value-is ∙ c.if-not-is_taken.true) c.is_barred_below.ensures
  | else-has_corner w ↦ absurd (false≢true (sym w.if-has_corner.false ∙ (sym w.value-is ∙ c.if-not-is_taken.true)))
]

pub returns-else-not-is_taken : goal.returns-else-not-is_taken
unfolding bar_test
returns-else-not-is_taken c = elim c.if-has_corner.branch [
  | then-has_corner w ↦ rw (sym c.has_corner.ensures ∙ w.if-has_corner.true, ← w.is_taken.ensures, sym w.value-is ∙ c.if-not-is_taken.false) c.if-not-is_taken.false
  | else-has_corner w ↦ rw (sym c.has_corner.ensures ∙ w.if-has_corner.false) (w.value-is ∙ w.if-has_corner.false)
]
