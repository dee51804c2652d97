-- `boardparts::direction_at` meets its contract.
use Rattle.boardview.specs.View.{edge_of}
use borrow.Author.Tests.{eq-eqb, ne_eqb}
use mathlib.Core.Path.{refl}
use Rattle.boardparts.proofs.direction_at.Goals as goal

pub returns-then-slot-eq0 : goal.returns-then-slot-eq0
unfolding edge_of
returns-then-slot-eq0 c = rw (eq-eqb _ _ c.if-slot-eq0.true) refl

pub returns-else-slot-eq0 : goal.returns-else-slot-eq0
unfolding edge_of
returns-else-slot-eq0 c = rw (ne_eqb _ _ c.if-slot-eq0.false) refl
