-- `boardbare::pad_byte` meets its contract.
use Rattle.boardbare.specs.BareArrays.{byte_of_facts, kind_from}
use Rattle.boardbare.proofs.pad_byte.Goals as goal

pub returns : goal.returns
unfolding kind_from byte_of_facts
returns c = cc
