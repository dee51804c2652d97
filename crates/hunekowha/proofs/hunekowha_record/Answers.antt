-- `hunekowha_record` meets its contract: the slice is too short, or place and length are written. Assumes nothing.
use Rattle.hunekowha.proofs.Short.{record_short, record_whole, offset_inside}
use native.Mathlib.Omega.{arith}
use Rattle.hunekowha.proofs.hunekowha_record.Goals as goal

pub returns-then-answer-lt2 : goal.returns-then-answer-lt2
returns-then-answer-lt2 c = record_short _ _ _ _ _ _ c.if-answer-lt2.true

pub overflow_mul-numbers : goal.overflow_mul-numbers
overflow_mul-numbers c = omega (arith, offset_inside _ _ _ _ _ _ c.at-length.ensures)

pub returns : goal.returns
returns c = record_whole _ _ _ _ _ _ c.if-answer-lt2.false _ _ c.at-length.ensures c.put.ensures
