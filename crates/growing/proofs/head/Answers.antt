-- `growing::head` meets its contract. The loop keeps: head and buffer are those of one run with the limit that has been reached, into the buffer as it was
-- at first. It ends, since the limits grow up to the last. Assumes nothing.
use native.Mathlib.Omega.{arith}
use Rattle.listing.specs.HeadAgain.{headed_again, headed_last}
use Rattle.growing.specs.Limits.{next_reached}
use Rattle.growing.proofs.head.Goals as goal

pub loop-head-preserved : goal.loop-head-preserved
loop-head-preserved c =
    let larger = next_reached _ _ c.loop-head.invariant.so_far c.if-reached-limit.true in
    rw c.next_limit-reached.ensures (record {
      so_far = larger.1;
      is_run = headed_again _ _ _ _ _ c.loop-head.invariant.is_run _ (omega (arith, larger.0)) _ _ (rw c.next_limit-reached.ensures at c.run-head-in-loop-head.ensures);
    })

pub returns-after-loop-head : goal.returns-after-loop-head
returns-after-loop-head c = headed_last _ _ _ _ _ c.loop-head.invariant.is_run _ c.loop-head.invariant.so_far.within (λ spent. cc (c.is_spent.ensures.1 spent))
