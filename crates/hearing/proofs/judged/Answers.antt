-- `hearing::judged` meets its contract: a refused file gives the refusal's line, an accepted one the line of what the judge says of the cells of
-- its pads and the record of the codes. Assumes nothing.
use mathlib.Core.Path.{ap, ◌∙◌}
use Prim.Native.Nat.{ℕ}
use Rattle.model.specs.Printed.{refusal_line}
use Rattle.hearing.proofs.TextLaws.{refused_text, accepted_text}
use Rattle.hearing.proofs.judged.Goals as goal

pub returns-in-Ok : goal.returns-in-Ok
returns-in-Ok c =
    let view = c.accepted-grid in
    accepted_text _ c.in-Ok.found c.in-Ok.ensures view.result view.ensures.height view.ensures.width view.ensures.cells _ c.record_of_codes-record.ensures c.judge_record.ensures c.judged_line.ensures

pub returns-in-Err : goal.returns-in-Err
returns-in-Err c = refused_text _ _ c.in-Err.declined c.in-Err.ensures (c.refusal_line.ensures ∙ ap (λ (n : ℕ). refusal_line n c.in-Err.declined.line c.in-Err.declined.field) c.number.ensures)
