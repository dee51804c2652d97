-- `grid::Direction::has_edge` meets its contract: each direction is one line of the model's test. Assumes nothing.
use Rattle.grid.proofs.DirectionLaws.{right_on, right_off, down_on}
use Rattle.grid.proofs.Direction.has_edge.Goals as goal

pub returns-then-v-width : goal.returns-then-v-width
returns-then-v-width c = λ cells. right_on _ _ _ cells _ c.in-Right.is c.if-v-width.true

pub returns-else-v-width : goal.returns-else-v-width
returns-else-v-width c = λ cells. right_off _ _ _ cells _ c.in-Right.is c.if-v-width.false

pub returns-in-Down : goal.returns-in-Down
returns-in-Down c = λ cells. down_on _ _ _ cells _ c.in-Down.is
