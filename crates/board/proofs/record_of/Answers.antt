-- `board::record_of` meets its contract: the record is put from the start of the array on. Assumes nothing.
use Rattle.board.specs.ShowLaws.{record_in_front}
use Rattle.board.proofs.record_of.Goals as goal

pub returns : goal.returns
returns c = record_in_front _ _ _ c.put_record.ensures.0
