-- `Board::add_checkpoint` meets its contract: as many stand as may, or the count is marked. Assumes nothing.
use Rattle.std.proofs.Common.{sym, ◌∙◌}
use Rattle.board.specs.CallLaws.{checkpoint_declined, room_for_mark, checkpoint_added, marked_held}
use Rattle.board.proofs.parts.Board.add_checkpoint.Goals as goal

pub returns-then-is_full : goal.returns-then-is_full
returns-then-is_full c = λ B held. rw c.decline.ensures (checkpoint_declined c.args.self B held (sym c.if-is_full.true ∙ c.is_full.ensures))

pub push-requires : goal.push-requires
push-requires c = room_for_mark c.args.self.marks (sym c.if-is_full.false ∙ c.is_full.ensures)

pub returns : goal.returns
returns c = λ B held. checkpoint_added c.args.self B held (room_for_mark c.args.self.marks (sym c.if-is_full.false ∙ c.is_full.ensures)) _ c.push.ensures _

pub invariant_of-result : goal.invariant_of-result
invariant_of-result c = record { held = marked_held c.args.self _ c.push.ensures }
