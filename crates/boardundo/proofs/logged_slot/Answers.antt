-- `boardundo::logged_slot` meets its contract.
use Rattle.boardview.specs.Signed.{slot_cast, slot_read}
use Prim.Native.Nat.{◌*◌}
use lib.IntN.{pos}
use lib.ListN.{get_or}
use Rattle.boardundo.proofs.logged_slot.Goals as goal

pub overflow_cast-result : goal.overflow_cast-result
overflow_cast-result c = slot_cast (get_or c.args.log.now (3 * c.args.k) (pos 0)) _ (record { sfits = c.result-1.given }) c.requires.1

pub returns : goal.returns
returns c = slot_read (get_or c.args.log.now (3 * c.args.k) (pos 0)) (record { sfits = c.result-1.given })
