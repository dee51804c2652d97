-- Looking at one unit square: its lines are at most two and its two corners obey the corner rule, or one of the moves makes the drawing
-- better. Better means: as good, no more lines, and a number falls: the sum over the lines of the number of pads from the first pad of
-- the edge on. Here is what is meant; proofs/Step.antt proves it.
use Rattle.std.specs.Prelude.{ℕ, ◌+◌, ◌-◌, ◌≤◌, ◌<◌, ◌⊎◌}
use Rattle.rules.specs.Grid.{Grid, pads, UnitSquare}
use Rattle.rules.specs.Drawing.{Drawing, square_lines, Side, on_left, on_right, DiagonallyBelow, Corner, NotBlank, number_of_lines}
use Rattle.shortest.specs.Moves.{AsGood}
use Rattle.shortest.specs.Weight.{weigh}

-- a line counts for more the earlier the first pad of its edge is
abbrev pub pads_from : Grid → ℕ → ℕ
pads_from g v = pads g - v

pub record Better (g : Grid) (D : Drawing) : Type 1 where
  pub next : Drawing
  pub as_good : AsGood g D next
  pub lighter : weigh (pads_from g) (pads g) next < weigh (pads_from g) (pads g) D
  pub no_more_lines : number_of_lines g next ≤ number_of_lines g D

-- the upper pad of the unit square of v whose corner on that side lies in the square
abbrev pub corner_pad : Side → ℕ → ℕ
corner_pad on_right v = v
corner_pad on_left v = v + 1

-- nothing is left to do in the unit square of v
pub record Fine (g : Grid) (D : Drawing) (v : ℕ) : Type 0 where
  pub few : UnitSquare g v → square_lines g D v ≤ 2
  pub corner : (side : Side) (q : ℕ) → DiagonallyBelow side g.width (corner_pad side v) q → Corner side D (corner_pad side v)
      → NotBlank g q ⊎ Corner side D q
