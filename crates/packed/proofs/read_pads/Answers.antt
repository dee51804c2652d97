-- `packed::read_pads` meets its contract. The loop keeps `Reached`: reading on from here is what reading all pads comes to.
-- Assumes nothing.
use Prim.Native.Nat.{◌+◌, ◌*◌}
use mathlib.Core.Path.{sym, ◌∙◌}
use native.Mathlib.Omega.{arith}
use Rattle.packed.proofs.SliceLaws.{pad_part, all_read, refused_here, grid_read}
use lib.ListN.{drop, length-drop}
use Rattle.packed.proofs.read_pads.Goals as goal

pub returns-in-Err : goal.returns-in-Err
returns-in-Err c = c.declined_pad.ensures ∙ refused_here c.loop-index.invariant c.loop-index-test.true (pad_part (2 + c.loop-index.index * 5) c.args.bytes.now) (sym c.in-Err.ensures)

pub returns : goal.returns
returns c = all_read c.loop-index.invariant c.loop-index-test.false

pub invariant_of-result : goal.invariant_of-result
invariant_of-result c = record { accepted = grid_read c.requires.0 c.requires.1 (drop 2 c.args.bytes.now) (length-drop 2 c.args.bytes.now ∙ (omega arith)) (all_read c.loop-index.invariant c.loop-index-test.false) }
