-- `Board::get_edge` meets its contract: no place, or the byte of the edge. Assumes nothing.
use Rattle.std.proofs.Common.{rules}
use Rattle.board.specs.PlaceCalls.{declined_reading, inside_it, slot_inside, says_byte}
use Rattle.board.proofs.parts.Board.get_edge.Goals as goal

pub returns-in_default : goal.returns-in_default
returns-in_default c = λ B held. rw c.decline.ensures (declined_reading c.args.self B held _ _ (search rules))

pub slot_from-requires : goal.slot_from-requires
slot_from-requires c = inside_it c.args.self _ _ _ c.in-Some.ensures

pub bounds-self-slot_from : goal.bounds-self-slot_from
bounds-self-slot_from c = slot_inside c.args.self _ _ _ c.in-Some.ensures _ c.slot_from.ensures

pub returns : goal.returns
returns c = λ B held. says_byte c.args.self B held _ _ _ c.in-Some.ensures _ c.slot_from.ensures c.from.ensures
