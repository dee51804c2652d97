-- `hunekowha_judge` meets its contract: the slice is too short, or the record is judged and the numbers are written. Assumes nothing.
use Rattle.hunekowha.proofs.Short.{put_front, judge_short, judge_whole}
use Rattle.hunekowha.proofs.hunekowha_judge.Goals as goal

pub returns-then-answer-lt4 : goal.returns-then-answer-lt4
returns-then-answer-lt4 c = judge_short _ _ _ _ _ c.if-answer-lt4.true

pub returns : goal.returns
returns c = judge_whole _ _ _ _ _ c.if-answer-lt4.false _ _ c.judge.ensures (put_front _ c.judged_numbers-numbers.ensures c.put.ensures)
