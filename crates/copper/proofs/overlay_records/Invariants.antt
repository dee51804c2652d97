-- `copper::overlay_records` meets its contract: the records before `k` are laid over the table. Assumes nothing.
use Rattle.copper.proofs.TableLaws.{Laid}
use Rattle.copper.proofs.overlay_records.Given as goal

abbrev pub invariant-loop-k : goal.invariant-loop-k
invariant-loop-k l = Laid l.layouts.height l.layouts.width l.layouts.count l.layouts.buffer.now l.initial.table l.table l.k
