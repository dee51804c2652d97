-- `both_engines::compare_size` is safe: each next grid has kinds again. Assumes nothing.
use Rattle.engines.specs.Kinds.{Kinds}
use Rattle.both_engines.proofs.compare_size.Given as goal

abbrev pub invariant-loop-number : goal.invariant-loop-number
invariant-loop-number g l = Kinds l.kinds
