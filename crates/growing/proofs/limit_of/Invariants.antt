-- `growing::limit_of` meets its contract. The loop keeps `Passed`: the bytes before this one are digits, and their value is a limit.
-- Assumes nothing.
use Rattle.growing.proofs.ReadLaws.{Passed}
use Rattle.growing.proofs.limit_of.Given as goal

abbrev pub invariant-loop-byte : goal.invariant-loop-byte
invariant-loop-byte l = Passed l.text l.byte-index l.value
