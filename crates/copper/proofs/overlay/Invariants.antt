-- `copper::overlay` meets its contract: the bytes of the record before `i` are laid over the table. Assumes nothing.
use Rattle.copper.proofs.TableLaws.{Covered}
use Rattle.copper.proofs.overlay.Given as goal

abbrev pub invariant-loop-i : goal.invariant-loop-i
invariant-loop-i l = Covered l.initial.table l.layout l.table l.i
