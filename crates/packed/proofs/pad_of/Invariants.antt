-- `packed::pad_of` meets its contract. The loop keeps `Passed`: what is left of the pad gives the pad's answer. Assumes nothing.
use Rattle.packed.proofs.PadLaws.{Passed}
use Rattle.packed.proofs.pad_of.Given as goal

abbrev pub invariant-loop-byte : goal.invariant-loop-byte
invariant-loop-byte l = Passed l.five l.value l.byte-index
