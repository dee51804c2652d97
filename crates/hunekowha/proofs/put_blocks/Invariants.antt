-- `hunekowha::put_blocks` meets its contract. The loop's invariant is `Replaying`: the board holds one of the model's, and the blocks so
-- far are written. Assumes nothing.
use Rattle.hunekowha.proofs.Replaying.{Replaying}
use Rattle.hunekowha.specs.Replay.{fresh_answer, block_size}
use lib.ListN.{length}
use mathlib.Core.Path.{◌≡◌}
use Prim.Native.Nat.{◌-◌, ◌/◌}
use Rattle.hunekowha.proofs.put_blocks.Given as goal

abbrev pub invariant-loop-i : goal.invariant-loop-i
invariant-loop-i l = (sized : l.size ≡ block_size (fresh_answer (record { height = l.height; width = l.width; cells = l.cells })).board) × (counted : l.count ≡ length l.calls / 4) × Replaying (record { height = l.height; width = l.width; cells = l.cells }) l.calls l.size l.count sized counted l.initial.answer l.answer l.board l.i

abbrev pub decreases-loop-i : goal.decreases-loop-i
decreases-loop-i l = l.count - l.i
