-- `judging::square_keeps` meets its contract: the last column and the last row have no unit square. Assumes nothing.
use Rattle.judging.proofs.Drawn.{in_column, last_column_keeps, last_row_keeps, few_keep}
use Rattle.judging.proofs.square_keeps.Goals as goal

pub returns-then-y-grid : goal.returns-then-y-grid
returns-then-y-grid c = few_keep _ _ _ (in_column c.args.grid.now.accepted c.requires) _ _ c.if-x-grid.true c.if-y-grid.true _ c.square_lines.ensures

pub returns-else-y-grid : goal.returns-else-y-grid
returns-else-y-grid c = last_row_keeps _ _ _ (in_column c.args.grid.now.accepted c.requires) _ _ c.if-x-grid.true c.if-y-grid.false

pub returns-else-x-grid : goal.returns-else-x-grid
returns-else-x-grid c = last_column_keeps _ _ _ (in_column c.args.grid.now.accepted c.requires) _ _ c.if-x-grid.false
