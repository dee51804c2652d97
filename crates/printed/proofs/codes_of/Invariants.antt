-- `printed::codes_of` meets its contract. The loop's invariant: the codes are those of the layout's first i bytes. Assumes nothing.
use Rattle.printed.specs.Coded.{CodesOf}
use lib.ListN.{take}
use Rattle.printed.proofs.codes_of.Given as goal

abbrev pub invariant-loop-i : goal.invariant-loop-i
invariant-loop-i l = CodesOf l.height l.width (take l.i l.layout) l.codes
