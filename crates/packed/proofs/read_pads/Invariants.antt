-- `packed::read_pads` meets its contract. The loop keeps `Reached`: reading on from here is what reading all pads comes to.
-- Assumes nothing.
use Rattle.packed.proofs.SliceLaws.{Reached}
use Rattle.packed.proofs.read_pads.Given as goal

abbrev pub invariant-loop-index : goal.invariant-loop-index
invariant-loop-index l = Reached l.bytes l.height l.width l.cells l.index
