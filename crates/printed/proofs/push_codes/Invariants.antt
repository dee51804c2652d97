-- `printed::push_codes` meets its contract. The loop's invariant: the codes of the pads below the index are put. Assumes nothing.
use Rattle.std.proofs.Common.{◌≡◌, ◌++◌}
use Rattle.model.specs.Printed.{code_digits_from}
use Rattle.printed.proofs.push_codes.Given as goal

abbrev pub invariant-loop-code : goal.invariant-loop-code
invariant-loop-code l = l.line ≡ l.initial.line ++ code_digits_from l.height l.width l.layout l.code-index 0
