-- `boardbare::all_bits` meets its contract. The loop has filled the bytes from the pad on.
use native.Mathlib.Omega.{arith}
use mathlib.Core.Path.{◌∙◌}
use Rattle.boardbare.specs.Filling.{zero_left, one_more, one_back, filled_more, filled_same}
use Rattle.boardbare.specs.Bars.{next_kind, past_the_pads}
use Rattle.boardbare.specs.EdgeBytes.{few_pads}
use Rattle.boardbare.proofs.all_bits.Goals as goal

pub loop-v-init : goal.loop-v-init
loop-v-init c =
    let ok = c.args.grid.now.accepted in
    let few = few_pads _ _ ok.height_in_range ok.width_in_range in
    (omega arith, filled_same _ _ _ _ _ (omega arith) (λ i low high. past_the_pads _ _ c.args.grid.now.cells.now (omega arith) few _ (one_more _ (omega arith)) ok.one_cell_a_pad i (omega (arith, c.pads-v.ensures))))

pub loop-v-preserved : goal.loop-v-preserved
loop-v-preserved c =
    let ok = c.args.grid.now.accepted in
    let few = few_pads _ _ ok.height_in_range ok.width_in_range in
    let filled = c.loop-v.invariant.1 in
    (omega arith, filled_more _ _ (omega arith) (omega arith) (c.pad_byte.ensures ∙ next_kind _ _ c.args.grid.now.cells.now (omega arith) few _ (one_more _ (omega arith)) c.loop-v.bits _ (rw (one_back c.loop-v.v (omega arith)) filled)) filled)

pub returns : goal.returns
returns c = rw (zero_left _ c.loop-v-test.false) at c.loop-v.invariant.1
