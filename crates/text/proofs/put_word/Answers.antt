-- `text::put_word` meets its contract. The loop's invariant: as many bytes of the word are put as were passed.
-- Assumes nothing.
use Rattle.text.specs.PutLaws.{put_length, put_none, byte_put, word_put}
use native.Mathlib.Omega.{arith}
use mathlib.Core.Path.{refl}
use Rattle.text.proofs.put_word.Goals as goal

pub loop-i-init : goal.loop-i-init
loop-i-init c = (omega arith, put_none _ _ _ (omega arith))

pub bounds-out-at : goal.bounds-out-at
bounds-out-at c = omega (arith, put_length c.loop-i.invariant.1, c.requires)

pub loop-i-preserved : goal.loop-i-preserved
loop-i-preserved c = (omega arith, byte_put _ _ _ _ _ (omega arith) c.loop-i.invariant.1)

pub returns : goal.returns
returns c =
    let done = word_put c.args.out.now c.loop-i.out c.args.word.now c.args.at c.loop-i.i (omega arith) c.loop-i.invariant.1 in
    record { stored = done.stored; place = refl }
