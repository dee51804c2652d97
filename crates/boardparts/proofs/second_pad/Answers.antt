-- `boardparts::second_pad` meets its contract: the second pad of the slot's edge.
use Rattle.boardparts.proofs.Slots.{second_of_slot}
use Rattle.boardparts.proofs.second_pad.Goals as goal

pub returns : goal.returns
returns c = second_of_slot _ _ c.requires.0 _ c.direction_at.ensures _ c.first_pad.ensures c.second.ensures
