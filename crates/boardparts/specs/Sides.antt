-- What the code's sides stand for: a side of a pad in its row; and that the slot of an edge is one of the bytes. Assumes nothing.
use Rattle.std.specs.Prelude.{ℕ, ◌<◌}
use Rattle.std.proofs.Common.{arith}
use Rattle.boardview.specs.View.{slot}
use Rattle.rules.specs.Drawing as rules
use Rattle.grid.specs.declared.Direction.{Direction}
use Rattle.grid.specs.declared.Direction.TheVariants as direction
use Rattle.grid.specs.Directions.{edge_to}
use Rattle.boardparts.specs.declared.Side.{Side}
use Rattle.boardparts.specs.declared.Side.TheVariants as side

abbrev pub side_of : Side → rules.Side
side_of side.Right = rules.on_right
side_of side.Left = rules.on_left

pub slot_small : (d : Direction) (v : ℕ) → v < 256 → slot (edge_to d v) < 1024
slot_small direction.Right v small = omega arith
slot_small direction.Down v small = omega arith
