-- `hunekowha_walk` meets its contract: the slice is too short, or the walk is run and the numbers are written. Assumes nothing.
use Rattle.hunekowha.proofs.Short.{put_front, listing_short, listing_whole}
use Rattle.hunekowha.proofs.hunekowha_walk.Goals as goal

pub returns-then-answer-lt6 : goal.returns-then-answer-lt6
returns-then-answer-lt6 c = listing_short _ _ _ c.if-answer-lt6.true

pub returns : goal.returns
returns c = listing_whole _ _ _ c.if-answer-lt6.false _ _ _ c.walk.ensures.equal (put_front _ c.search_numbers-numbers.ensures c.put.ensures)
