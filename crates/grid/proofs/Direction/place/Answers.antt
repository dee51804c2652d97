-- `grid::Direction::place` meets its contract: the edge downward from pad (y, x) stands at place (2y+1, 2x). Assumes nothing.
use Rattle.grid.proofs.DirectionLaws.{down_place}
use Rattle.grid.proofs.Direction.place.Goals as goal

pub returns-in-Down : goal.returns-in-Down
returns-in-Down c = rw c.in-Down.is (down_place _ _ _ c.requires.1)
