-- `growing::head` meets its contract. The loop keeps: head and buffer are those of one run with the limit that has been reached, into the buffer as it was
-- at first. It ends, since the limits grow up to the last. Assumes nothing.
use Prim.Native.Nat.{◌-◌}
use Rattle.listing.specs.Listing.{Headed}
use Rattle.growing.specs.Limits.{Reached}
use Rattle.growing.proofs.head.Given as goal

abbrev pub invariant-loop-head : goal.invariant-loop-head
invariant-loop-head l = record { so_far : Reached l.reached l.limit; is_run : Headed l.reached l.file l.fn.buffer l.head l.buffer }

abbrev pub decreases-loop-head : goal.decreases-loop-head
decreases-loop-head l = l.limit - l.reached
