-- `engines::next_grid` meets its contract. The loop's invariant: the pads passed had their largest kinds, and are blank now. Assumes nothing.
use Rattle.engines.specs.KindLaws.{Carried}
use Rattle.engines.proofs.next_grid.Given as goal

abbrev pub invariant-loop-pad : goal.invariant-loop-pad
invariant-loop-pad l = Carried l.initial.kinds l.kinds l.pad
