-- `boardview::Arrays::go_on` meets its contract.
use Rattle.boardview.specs.View.{going}
use Rattle.boardview.specs.Bytes.{has_ended, goes_on}
use borrow.Author.Tests.{lt-ltb, le-ltb}
use mathlib.Core.Path.{refl}
use Rattle.boardview.proofs.Arrays.go_on.Goals as goal

pub returns-then-has_ended : goal.returns-then-has_ended
unfolding going
returns-then-has_ended c = rw (le-ltb _ _ (has_ended _ _ c.has_ended.ensures c.if-has_ended.true)) refl

pub returns-else-has_ended : goal.returns-else-has_ended
unfolding going
returns-else-has_ended c = rw (lt-ltb _ _ (goes_on _ _ c.has_ended.ensures c.if-has_ended.false)) refl
