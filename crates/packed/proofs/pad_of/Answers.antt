-- `packed::pad_of` meets its contract. The loop keeps `Passed`: what is left of the pad gives the pad's answer. Assumes nothing.
use mathlib.Core.Path.{sym, ◌∙◌}
use Rattle.packed.proofs.PadLaws.{all_are_FF, blank_pad, none_passed, one_passed}
use Rattle.packed.proofs.pad_of.Goals as goal

pub returns-then-all_blank : goal.returns-then-all_blank
returns-then-all_blank c = blank_pad _ (sym (all_are_FF c.args.five.now) ∙ sym c.all_blank.ensures ∙ c.if-all_blank.true)

pub loop-byte-init : goal.loop-byte-init
loop-byte-init c = none_passed _ (sym (all_are_FF c.args.five.now) ∙ sym c.all_blank.ensures ∙ c.if-all_blank.false)

pub loop-byte-preserved : goal.loop-byte-preserved
loop-byte-preserved c = one_passed c.loop-byte.invariant c.requires c.loop-byte-test.true c.from-byte.ensures c.if-high-gt9.false c.if-low-gt9.false
