-- `Board::shown` meets its contract: sizes, record, ends and flag. Assumes nothing.
use mathlib.Core.Path.{refl}
use Rattle.board.specs.Held.{ready_held}
use Rattle.board.specs.ShowLaws.{shown_says}
use Rattle.board.proofs.parts.Board.shown.Goals as goal

pub record_of-requires : goal.record_of-requires
record_of-requires c = (ready_held c.args.self).bytes

pub returns : goal.returns
returns c = λ B held. shown_says c.args.self B held _ refl refl c.record_of.ensures c.shown_ends.ensures c.is_flagged.ensures
