-- `judging::judge` meets its contract: a refusal, or the answer for the record of an accepted grid. Assumes nothing.
use Rattle.std.proofs.lemmas.Result.{err_from_is_err_and}
use Rattle.judging.proofs.Answers.{refused, judged}
use Rattle.judging.proofs.judge.Goals as goal

pub returns-in_err-grid : goal.returns-in_err-grid
returns-in_err-grid c =
    let p = err_from_is_err_and c.from_residual.result c.from_residual.ensures.1 in
    rw (p.1, p.2) (refused _ _ _ _ _ c.in_err-grid.ensures.says)

pub returns : goal.returns
returns c = judged _ _ _ _ c.in_ok-grid.ensures.says c.in_ok-grid.grid c.in_ok-grid.ensures.same c.judge_record.ensures
