-- `text::put_word` meets its contract. The loop's invariant: as many bytes of the word are put as were passed.
-- Assumes nothing.
use Rattle.text.specs.Put.{Put}
use lib.ListN.{length, take}
use Prim.Native.Nat.{◌+◌, ◌≤◌}
use Rattle.text.proofs.put_word.Given as goal

abbrev pub invariant-loop-i : goal.invariant-loop-i
invariant-loop-i l = (l.i ≤ length l.word) × Put l.fn.out l.out l.at (take l.i l.word) (l.at + l.i)
