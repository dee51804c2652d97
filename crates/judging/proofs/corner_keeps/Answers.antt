-- `judging::corner_keeps` meets its contract, on each side: no corner, or a pad diagonally below that is taken or has the same corner. Assumes
-- nothing.
use native.Mathlib.Omega.{arith}
use mathlib.Core.Path.{ap}
use mathlib.Core.Logic.{inl, inr}
use mathlib.Core.Bool.{not}
use Rattle.boardparts.specs.Sides.{side_of}
use Rattle.judging.proofs.Drawn.{in_column, column_on_left, below_there, no_corner_keeps, taken_keeps, same_corner_keeps}
use Rattle.judging.proofs.corner_keeps.Goals as goal
use Rattle.judging.proofs.corner_keeps.Goals.{in-Left, in-Right}

pub returns-then-not-has_corner : goal.returns-then-not-has_corner
returns-then-not-has_corner c = no_corner_keeps (side_of c.args.side) _ _ _ _ c.has_corner.ensures (ap not c.if-not-has_corner.true)

pub overflow_sub-below : goal.overflow_sub-below
overflow_sub-below c = column_on_left _ _ _ (in_column c.args.grid.now.accepted c.requires) _ (rw c.in-Left.is at c.has_corner.ensures) (ap not c.if-not-has_corner.false)

pub has_corner-requires-else-is_taken : goal.has_corner-requires-else-is_taken
has_corner-requires-else-is_taken c =
    let start = c in
    let here = in_column start.args.grid.now.accepted start.requires in
    let there = below_there _ _ _ here _ start.args.side c.has_corner.ensures (ap not c.if-not-has_corner.false) (elim c.match-side.branch [ in-Left w ↦ inl (w.in-Left.is, w.below-is) | in-Right w ↦ inr (w.in-Right.is, w.below-is) ]) in
    record { wide = here.wide; narrow = here.narrow; low = omega (arith, start.requires.0, start.args.grid.now.accepted.height_in_range); inside = there.inside }

pub returns-then-is_taken : goal.returns-then-is_taken
returns-then-is_taken c =
    let start = c in
    let there = below_there _ _ _ (in_column start.args.grid.now.accepted start.requires) _ start.args.side c.has_corner.ensures (ap not c.if-not-has_corner.false) (elim c.match-side.branch [ in-Left w ↦ inl (w.in-Left.is, w.below-is) | in-Right w ↦ inr (w.in-Right.is, w.below-is) ]) in
    taken_keeps (side_of start.args.side) _ _ _ _ c.has_corner.ensures (ap not c.if-not-has_corner.false) _ there.is_diagonal c.is_taken.ensures c.if-is_taken.true

pub returns-else-is_taken : goal.returns-else-is_taken
returns-else-is_taken c =
    let start = c in
    let there = below_there _ _ _ (in_column start.args.grid.now.accepted start.requires) _ start.args.side c.has_corner.ensures (ap not c.if-not-has_corner.false) (elim c.match-side.branch [ in-Left w ↦ inl (w.in-Left.is, w.below-is) | in-Right w ↦ inr (w.in-Right.is, w.below-is) ]) in
    same_corner_keeps (side_of start.args.side) _ _ _ _ c.has_corner.ensures (ap not c.if-not-has_corner.false) _ there.is_diagonal c.is_taken.ensures c.if-is_taken.false
    _ there.is_diagonal c.has_corner-else-is_taken.ensures
