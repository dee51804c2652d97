-- The byte of six facts.
use Rattle.std.proofs.Common.{arith}
use Rattle.boardbare.specs.BareArrays.{byte_of_facts, kind_byte}
use Rattle.grid.specs.Numbers.{test_number}
use Rattle.boardbare.proofs.U8FromFacts.from.Goals as goal

pub returns : goal.returns
unfolding byte_of_facts kind_byte
returns c = omega (arith, test_number)
