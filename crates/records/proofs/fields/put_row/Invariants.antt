-- `records::put_row` meets its contract. The loop has put the row's first bytes, and counted their lines. Assumes nothing.
use Prim.Native.Nat.{◌≤◌}
use Rattle.records.specs.Laid.{EachInRow, AnswersByte, Laid}
use Rattle.records.proofs.LaidLaws.{row_until}
use Rattle.records.proofs.fields.put_row.Given as goal

abbrev pub invariant-loop-column : goal.invariant-loop-column
invariant-loop-column g l =
    (l.column ≤ l.side)
    × Laid (λ bytes. EachInRow l.width l.row (AnswersByte (goal.F-post g l.byte_of) bytes)) (row_until l.width l.row l.column) l.column l.at l.initial.buffer l.lines l.buffer
