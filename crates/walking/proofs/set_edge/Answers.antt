-- The byte of the edge is put at its place, where the edge is on the board. Assumes nothing.
use native.Mathlib.Omega.{arith}
use Rattle.walking.proofs.Small.{place_inside, edge_written, edge_left_out}
use Rattle.walking.proofs.set_edge.Goals as goal

pub bounds-bytes-place : goal.bounds-bytes-place
bounds-bytes-place c = omega (arith, place_inside c.args.grid.now _ _ c.has_edge.ensures c.if-has_edge.true c.place-place.ensures, c.requires.1)

pub returns-then-has_edge : goal.returns-then-has_edge
returns-then-has_edge c = edge_written c.args.grid.now _ _ c.has_edge.ensures c.if-has_edge.true c.place-place.ensures _ _ c.from.ensures _

pub returns-else-has_edge : goal.returns-else-has_edge
returns-else-has_edge c = edge_left_out c.args.grid.now _ _ c.has_edge.ensures c.if-has_edge.false _ _
