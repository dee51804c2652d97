-- What a board shows is short: at most 961 places and 256 pads. Assumes nothing.
use Rattle.std.specs.Prelude.{◌*◌, ◌≤◌, length}
use Rattle.std.proofs.Common.{arith, mul-le-mul}
use Rattle.std.proofs.lemmas.List.{length-take}
use Rattle.rules.specs.Grid.{places}
use Rattle.rules.specs.Places.{few_places}
use Rattle.board.specs.Held.{edges_of, ends_of}
use Rattle.board.specs.declared.shown.Shown.{Shown}

pub few_edges : (r : Shown) → length (edges_of r) ≤ 961
few_edges r = omega (arith, length-take (places r.height r.width) r.edges, few_places r.height r.width r.sizes.0.1 r.sizes.1.1)

pub few_ends : (r : Shown) → length (ends_of r) ≤ 256
few_ends r = omega (arith, length-take (r.height * r.width) r.ends, mul-le-mul r.sizes.0.1 r.sizes.1.1)
