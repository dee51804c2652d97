-- `lend::put_bytes` meets its contract. The loop's invariant: the first i bytes are copied, as numbers with a sign. Assumes nothing.
use Rattle.std.proofs.Common.{◌≡◌, map, pos}
use Rattle.std.proofs.Math.Seq.{paste}
use Rattle.lend.proofs.put_bytes.Given as goal

abbrev pub invariant-loop-i : goal.invariant-loop-i
invariant-loop-i l = l.target ≡ paste l.initial.target l.place (map pos l.bytes) l.i
