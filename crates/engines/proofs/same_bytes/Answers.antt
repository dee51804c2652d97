-- `engines::same_bytes` meets its contract. The loop's invariant: the bytes passed are the same. Assumes nothing.
use Rattle.engines.specs.EqualLaws.{confirmed, refuted, byte_differs, bytes_same}
use borrow.Author.Count.{below_none, below_more}
use native.Mathlib.Omega.{arith}
use Rattle.engines.proofs.same_bytes.Goals as goal

pub loop-i-init : goal.loop-i-init
loop-i-init c = (omega arith, below_none _)

pub returns-then-first-i : goal.returns-then-first-i
returns-then-first-i c = refuted (byte_differs _ (omega arith) c.if-first-i.true)

pub loop-i-preserved : goal.loop-i-preserved
loop-i-preserved c = (omega arith, below_more _ _ c.loop-i.invariant.1 c.if-first-i.false)

pub returns : goal.returns
returns c = confirmed (bytes_same _ _ _ (omega arith) (omega arith) (λ k below. c.loop-i.invariant.1 k (omega arith)))
