-- What the judge answers, as the model says it: by the pads, and for the record of an accepted grid. It rests on the model's Judge.antt.
use Rattle.std.specs.Prelude.{ℕ, Bool, eqb, Result, Ok, Err}
use Rattle.std.specs.Prelude.{if◌then◌else◌}
use Rattle.model.specs.Judge as model
use Rattle.grid.specs.declared.Refusal.{Refusal}
use Rattle.grid.specs.Answers.{number_of, index_of}
use Rattle.judging.specs.declared.Judged.{Judged}
use Rattle.judging.specs.declared.Verdict.{Verdict}
use Rattle.judging.specs.declared.Verdict.TheVariants.{NoLayout, Ordinary, Listed}

-- the number of a verdict, as the model has it
abbrev pub verdict_number : Verdict → ℕ
verdict_number NoLayout = 0
verdict_number Ordinary = 1
verdict_number Listed = 2

-- what is answered: the verdict with the lines, or the refusal beside a verdict 0
abbrev pub judged_says : Result Judged Refusal → model.Judged
judged_says (Ok r) = record { number = 0; index = 0; verdict = verdict_number r.verdict; lines = r.lines }
judged_says (Err refusal) = record { number = number_of refusal; index = index_of refusal; verdict = 0; lines = 0 }

-- the verdict by the pads: whether they are finished, and whether they keep the rules of a listed drawing
abbrev pub mark : Bool → Bool → ℕ
mark finished kept = if finished then (if kept then 2 else 1) else 0

-- the answer for an accepted grid: the verdict with the lines, 0 beside 0
abbrev pub answer : ℕ → ℕ → model.Judged
answer verdict lines = record { number = 0; index = 0; verdict = verdict; lines = if eqb verdict 0 then 0 else lines }
