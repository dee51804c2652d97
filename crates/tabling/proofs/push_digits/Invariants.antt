-- `tabling::push_digits` meets its contract. The loop's invariant: a digit is put for each byte that was passed. Assumes nothing.
use Rattle.std.proofs.Common.{◌≡◌, ◌++◌, map, take}
use Rattle.tabling.specs.Tabling.{table_digit}
use Rattle.tabling.proofs.push_digits.Given as goal

abbrev pub invariant-loop-byte : goal.invariant-loop-byte
invariant-loop-byte l = l.line ≡ l.initial.line ++ map table_digit (take l.byte-index l.row)
