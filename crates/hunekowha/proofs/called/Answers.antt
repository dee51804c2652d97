-- `hunekowha::called` meets its contract: which call it is, by its kind. Assumes nothing.
use Rattle.std.proofs.Common.{rules}
use mathlib.Core.Path.{refl, subst}
use Rattle.model.specs.Calls.{Answer}
use Rattle.board.specs.Held.{Says}
use Rattle.hunekowha.specs.Replay.{called}
use Rattle.hunekowha.proofs.CallLaws.{says_decision, is_fresh}
use Rattle.hunekowha.proofs.called.Goals as goal

pub returns-in-1 : goal.returns-in-1
unfolding called
returns-in-1 c = λ B held. rw c.in-1.is (says_decision B _ _ _ c.edge_of.ensures (c.decide_edge.ensures B held))

pub returns-in-2 : goal.returns-in-2
unfolding called
returns-in-2 c = λ B held. rw c.in-2.is (c.get_edge.ensures B held)

pub returns-in-3 : goal.returns-in-3
unfolding called
returns-in-3 c = λ B held. rw c.in-3.is (c.add_checkpoint.ensures B held)

pub returns-in-4 : goal.returns-in-4
unfolding called
returns-in-4 c = λ B held. rw c.in-4.is (record { number = refl; answer = refl; board = c.undo.ensures B held })

pub returns-in_default : goal.returns-in_default
returns-in_default c = λ B held. subst (λ (A : Answer). Says c.new.result A) (is_fresh _ B _ _ _ _ (search rules) (search rules) (search rules) (search rules)) c.new.ensures
