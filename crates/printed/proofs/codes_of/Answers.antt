-- `printed::codes_of` meets its contract. The loop's invariant: the codes are those of the layout's first i bytes. Assumes nothing.
use Rattle.printed.proofs.CodedLaws.{none_added, all_added}
use mathlib.Core.Path.{refl}
use native.Mathlib.Omega.{arith}
use Rattle.printed.proofs.codes_of.Goals as goal

pub loop-i-init : goal.loop-i-init
loop-i-init c = none_added _ _ c.requires.0 c.requires.1 c.args.layout.now refl

pub returns : goal.returns
returns c = all_added _ _ c.requires.0 c.requires.1 _ c.loop-i.i (omega (arith, c.places-i-end.ensures)) c.loop-i.invariant
