-- What the code's directions stand for: the edge in a direction from a pad. Assumes nothing.
use Rattle.std.specs.Prelude.{ℕ, ◌≡◌, refl}
use Rattle.rules.specs.Grid.{Edge, right, down, first}
use Rattle.grid.specs.declared.Direction.{Direction}
use Rattle.grid.specs.declared.Direction.TheVariants.{Right, Down}

abbrev pub edge_to : Direction → ℕ → Edge
edge_to Right v = right v
edge_to Down v = down v

pub first_to : (d : Direction) (v : ℕ) → v ≡ first (edge_to d v)
first_to Right v = refl
first_to Down v = refl
