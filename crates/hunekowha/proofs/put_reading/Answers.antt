-- `hunekowha::put_reading` meets its contract: a slice is too short, or the reading is written. Assumes nothing.
use Rattle.hunekowha.proofs.Short.{put_front, read_short_answer, read_short_cells, read_whole}
use lib.ListN.{length}
use native.Mathlib.Omega.{arith}
use mathlib.Core.Path.{◌≡◌}
use borrow.Author.Rules.{rules}
use Rattle.hunekowha.proofs.put_reading.Goals as goal

pub returns-then-answer-lt5 : goal.returns-then-answer-lt5
returns-then-answer-lt5 c = read_short_answer _ _ _ c.if-answer-lt5.true

pub returns-then-cells-lt256 : goal.returns-then-cells-lt256
returns-then-cells-lt256 c = read_short_cells _ _ _ c.if-answer-lt5.false c.if-cells-lt256.true

pub returns : goal.returns
returns c = read_whole _ _ _ c.if-answer-lt5.false c.if-cells-lt256.false _ _ (put_front _ c.reading_numbers.ensures c.put.ensures) c.put_cells.ensures
