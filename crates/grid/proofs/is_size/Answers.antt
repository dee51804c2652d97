-- `grid::is_size` meets its contract: each way through the code is one of the two tests of `is_size`. Assumes nothing.
use borrow.Author.Tests.{le-leb, lt-leb}
use Rattle.model.specs.Bounds.{is_size}
use Rattle.grid.proofs.is_size.Goals as goal

pub returns-then-n-ge-LEAST_SIZE : goal.returns-then-n-ge-LEAST_SIZE
unfolding is_size
returns-then-n-ge-LEAST_SIZE c = rw (le-leb _ _ c.if-n-ge-LEAST_SIZE.true)

pub returns-else-n-ge-LEAST_SIZE : goal.returns-else-n-ge-LEAST_SIZE
unfolding is_size
returns-else-n-ge-LEAST_SIZE c = rw (lt-leb _ _ c.if-n-ge-LEAST_SIZE.false)
