-- `Board::undo` meets its contract: back to the last mark, or to the fresh board where none stands. Assumes nothing.
use native.Mathlib.Omega.{arith}
use Rattle.board.specs.Held.{ready_held}
use Rattle.board.specs.CallLaws.{mark_low, undone, undone_held}
use Rattle.board.proofs.parts.Board.undo.Goals as goal

pub undo-requires : goal.undo-requires
undo-requires c = let ready = ready_held c.args.self in (rw c.unwrap_or-mark.ensures (mark_low c.args.self _ c.pop.new.self c.pop.ensures), omega (arith, ready.room), ready.entries)

pub returns : goal.returns
returns c = λ B held. undone c.args.self B held _ c.pop.new.self c.pop.ensures (rw c.unwrap_or-mark.ensures at c.undo.ensures)

pub invariant_of-result : goal.invariant_of-result
invariant_of-result c = record { held = undone_held c.args.self _ c.pop.new.self c.pop.ensures (rw c.unwrap_or-mark.ensures at c.undo.ensures) }
