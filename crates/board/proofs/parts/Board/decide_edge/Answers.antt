-- `Board::decide_edge` meets its contract: no place, a line, none, no state. Assumes nothing.
use Rattle.std.proofs.Common.{rules}
use Rattle.board.specs.PlaceCalls.{declined_decision, on_it, says_line, says_none, says_no_state}
use Rattle.board.proofs.parts.Board.decide_edge.Goals as goal

pub returns-in_default : goal.returns-in_default
returns-in_default c = λ B held. rw c.decline.ensures (declined_decision c.args.self B held _ _ (search rules) _)

pub decided-requires : goal.decided-requires
decided-requires c = on_it c.args.self _ _ _ c.in-Some.ensures

pub returns-then-eq : goal.returns-then-eq
returns-then-eq c = λ B held. says_line c.args.self B held _ _ _ c.in-Some.ensures _ (search rules) (c.decided.ensures B held)

pub decided-requires-then-eq-2 : goal.decided-requires-then-eq-2
decided-requires-then-eq-2 c = on_it c.args.self _ _ _ c.in-Some.ensures

pub returns-then-eq-2 : goal.returns-then-eq-2
returns-then-eq-2 c = λ B held. says_none c.args.self B held _ _ _ c.in-Some.ensures _ (search rules) (search rules) (c.decided-then-eq-2.ensures B held)

pub returns : goal.returns
returns c = λ B held. rw c.decline-2.ensures (says_no_state c.args.self B held _ _ _ c.in-Some.ensures _ (search rules) (search rules))
