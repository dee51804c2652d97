-- `hunekowha_common` meets its contract: the slice is too short, or the search is run, the table filled from a complete list, and the numbers are written. Assumes nothing.
use Rattle.hunekowha.proofs.Short.{put_front, common_short, common_whole}
use Rattle.hunekowha.proofs.hunekowha_common.Goals as goal

pub returns-then-answer-lt6 : goal.returns-then-answer-lt6
returns-then-answer-lt6 c = common_short _ _ _ _ _ _ _ c.if-answer-lt6.true

pub returns : goal.returns
returns c = common_whole _ _ _ _ _ _ _ c.if-answer-lt6.false _ _ _ _ c.common.ensures (put_front _ c.table_numbers-numbers.ensures c.put.ensures)
