-- `records::put_field` meets its contract. The loop has put the field's first rows, and counted their lines. Assumes nothing.
use Prim.Native.Nat.{◌*◌, ◌≤◌}
use Rattle.rules.specs.Grid.{field_side}
use Rattle.records.specs.Laid.{EachInField, AnswersByte, Laid}
use Rattle.records.proofs.LaidLaws.{rows_until}
use Rattle.records.proofs.fields.put_field.Given as goal

abbrev pub invariant-loop-row : goal.invariant-loop-row
invariant-loop-row g l =
    (l.row ≤ l.rows)
    × Laid (λ bytes. EachInField l.height l.width (AnswersByte (goal.F-post g l.byte_of) bytes)) (rows_until l.width l.row) (l.row * field_side l.width) l.at l.initial.buffer l.lines l.buffer
