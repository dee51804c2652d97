-- `reader_cases::run_all` is safe and ends: what comes after a case is shorter. Assumes nothing.
use lib.ListN.{length}
use Rattle.reader_cases.proofs.run_all.Given as goal

abbrev pub decreases-loop-case : goal.decreases-loop-case
decreases-loop-case l = length l.rest
