-- `boardview::Arrays::restart` meets its contract.
use mathlib.Core.Path.{sym, ◌∙◌}
use Rattle.std.proofs.Math.Path.{refl}
use borrow.Author.Tests.{lt-ltb, le-ltb, leb-true, leb-false}
use Rattle.boardview.specs.View.{restarted}
use Rattle.boardview.proofs.Arrays.restart.Goals as goal
use Rattle.boardview.proofs.Arrays.restart.Goals.{then-is_flagged, else-is_flagged}

pub returns : goal.returns
unfolding restarted
returns c = elim c.if-is_flagged.branch [
  | then-is_flagged w ↦ rw (w.self-is, le-ltb _ _ (leb-true _ _ (sym c.is_flagged.ensures ∙ w.if-is_flagged.true))) refl
  | else-is_flagged w ↦ rw (w.self-is, lt-ltb _ _ (leb-false _ _ (sym c.is_flagged.ensures ∙ w.if-is_flagged.false))) refl
]
