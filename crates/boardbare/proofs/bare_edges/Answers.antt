-- `boardbare::bare_edges` meets its contract: the loop has filled the bytes from the slot on.
use native.Mathlib.Omega.{arith}
use Rattle.boardbare.specs.Filling.{zero_left, filled_more, filled_same}
use Rattle.boardbare.specs.EdgeBytes.{few_pads, past_the_edges}
use Rattle.boardbare.proofs.bare_edges.Goals as goal

pub loop-slot-init : goal.loop-slot-init
loop-slot-init c =
    let ok = c.args.grid.now.accepted in
    let few = few_pads _ _ ok.height_in_range ok.width_in_range in
    (omega arith, filled_same _ 2 1024 1024 _ (omega arith) (λ i low high. past_the_edges _ _ i (omega (arith, low, c.pads.ensures))))

pub loop-slot-preserved : goal.loop-slot-preserved
loop-slot-preserved c = (omega arith, filled_more _ _ (omega arith) (omega arith) c.edge_byte.ensures c.loop-slot.invariant.1)

pub returns : goal.returns
returns c = rw (zero_left _ c.loop-slot-test.false) at c.loop-slot.invariant.1
