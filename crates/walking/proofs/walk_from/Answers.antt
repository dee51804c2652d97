-- The walk over a record of zeros, from the first pad on, is the walk of the grid. Assumes nothing.
use mathlib.Core.Path.{sym}
use native.Mathlib.Omega.{arith}
use Rattle.walking.proofs.Answered.{zeros_long, few, begun, counted}
use Rattle.walking.proofs.walk_from.Goals as goal

pub slice_bounds-bytes-end : goal.slice_bounds-bytes-end
slice_bounds-bytes-end c = few c.args.grid.now c.args.tally.now _ c.requires c.places-size.ensures

pub slice_bounds-walk_on-end : goal.slice_bounds-walk_on-end
slice_bounds-walk_on-end c = sym (zeros_long _ (few c.args.grid.now c.args.tally.now _ c.requires c.places-size.ensures))

pub walk_on-requires : goal.walk_on-requires
walk_on-requires c = (begun c.args.grid.now c.args.tally.now _ c.requires c.places-size.ensures, omega arith)

pub returns : goal.returns
returns c = counted c.args.grid.now c.args.tally.now _ c.requires c.places-size.ensures _ _ _ _ c.walk_on.ensures
