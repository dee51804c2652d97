-- `board::pads_at` meets its contract: outside the field there is no edge, inside it grid's function tells the pads. Assumes nothing.
use Rattle.std.specs.Prelude.{refl}
use Rattle.board.specs.PlaceLaws.{row_off, column_off, pads_in_field}
use Rattle.board.proofs.pads_at.Goals as goal

pub returns-then-y-kinds : goal.returns-then-y-kinds
returns-then-y-kinds c = row_off _ _ _ c.if-y-kinds.true

pub returns-then-x-kinds : goal.returns-then-x-kinds
returns-then-x-kinds c = column_off _ _ _ c.if-y-kinds.false c.if-x-kinds.true

pub returns : goal.returns
returns c = pads_in_field _ _ _ c.if-y-kinds.false c.if-x-kinds.false _ refl c.pads_at.ensures
