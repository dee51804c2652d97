-- `boardview::Arrays::end` meets its contract.
use Rattle.boardview.specs.View.{ended}
use Rattle.std.proofs.lemmas.Bool.{leb-true, leb-false}
use borrow.Author.Tests.{lt-ltb, le-ltb}
use mathlib.Core.Path.{refl, sym, ◌∙◌}
use Rattle.boardview.proofs.Arrays.end.Goals as goal

pub returns-then-is_flagged : goal.returns-then-is_flagged
unfolding ended
returns-then-is_flagged c = rw (le-ltb _ _ (leb-true 1024 _ (sym c.is_flagged.ensures ∙ c.if-is_flagged.true))) c.stop.ensures

pub returns-else-is_flagged : goal.returns-else-is_flagged
unfolding ended
returns-else-is_flagged c = rw (lt-ltb _ _ (leb-false 1024 _ (sym c.is_flagged.ensures ∙ c.if-is_flagged.false))) refl
