-- `boardparts::keeps_apart` meets its contract.
use borrow.Author.Tests.{eq-eqb, ne_eqb}
use mathlib.Core.Path.{refl}
use Rattle.model.specs.JoinedEnds.{at_clue}
use Rattle.boardview.specs.View.{keeps_apart}
use Rattle.boardview.specs.Check.{other_is_rival}
use Rattle.boardparts.proofs.Ends.{no_rival}
use Rattle.boardparts.proofs.keeps_apart.Goals as goal

pub returns-then-board-slot-ne-UNDECIDED : goal.returns-then-board-slot-ne-UNDECIDED
unfolding keeps_apart
returns-then-board-slot-ne-UNDECIDED c = rw (ne_eqb _ _ c.if-board-slot-ne-UNDECIDED.true) refl

pub returns-in-Clue : goal.returns-in-Clue
unfolding keeps_apart
returns-in-Clue c = rw (eq-eqb _ _ c.if-board-slot-ne-UNDECIDED.false, ← c.in-Clue.ensures) (other_is_rival c.args.code (at_clue c.in-Clue.other))

pub returns-in_default : goal.returns-in_default
unfolding keeps_apart
returns-in_default c = rw (eq-eqb _ _ c.if-board-slot-ne-UNDECIDED.false, ← c.end_at.ensures) (no_rival c.end_at.result c.in_default.not-Clue c.args.code)
