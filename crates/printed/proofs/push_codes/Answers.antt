-- `printed::push_codes` meets its contract. The loop's invariant: the codes of the pads below the index are put. Assumes nothing.
use Rattle.std.proofs.Common.{arith}
use Rattle.printed.proofs.CodeLaws.{codes_taken, all_pushed}
use Rattle.printed.proofs.push_codes.Goals as goal

pub returns : goal.returns
returns c = all_pushed _ _ _ _ _ _ c.loop-code.invariant (omega (arith, codes_taken _ _ _ c.requires.0 c.requires.1 c.codes_of-codes.ensures.are.long))
