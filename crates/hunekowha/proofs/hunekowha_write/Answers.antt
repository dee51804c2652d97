-- `hunekowha_write` meets its contract: the slice is too short, or the grid is written and the numbers are. Assumes nothing.
use Rattle.hunekowha.proofs.Short.{put_front, write_short, write_whole}
use Rattle.hunekowha.proofs.hunekowha_write.Goals as goal

pub returns-then-answer-lt3 : goal.returns-then-answer-lt3
returns-then-answer-lt3 c = write_short _ _ _ _ _ c.if-answer-lt3.true

pub returns : goal.returns
returns c = write_whole _ _ _ _ _ c.if-answer-lt3.false _ _ _ c.write.ensures (put_front _ c.writing_numbers-numbers.ensures c.put.ensures)
