-- `hunekowha_replay` meets its contract: the room is too small, or all blocks are written. Assumes nothing.
use Rattle.hunekowha.proofs.Replayed.{some_size, replay_short, enough_room, replay_whole}
use native.Mathlib.Omega.{arith}
use mathlib.Core.Path.{refl}
use Rattle.hunekowha.proofs.hunekowha_replay.Goals as goal

pub nonzero_div-answer : goal.nonzero_div-answer
nonzero_div-answer c = some_size (record { height = c.args.height; width = c.args.width; cells = c.args.cells.now }) c.args.calls.now c.args.answer.now c.size_of_block-size.result (c.size_of_block-size.ensures _ c.new-first.ensures.board)

pub returns-then-answer-size : goal.returns-then-answer-size
returns-then-answer-size c = replay_short (record { height = c.args.height; width = c.args.width; cells = c.args.cells.now }) c.args.calls.now c.args.answer.now c.size_of_block-size.result (c.size_of_block-size.ensures _ c.new-first.ensures.board) c.if-answer-size.true

pub put_blocks-requires : goal.put_blocks-requires
put_blocks-requires c = record { held = c.new-first.ensures.board; sized = c.size_of_block-size.ensures _ c.new-first.ensures.board; counted = refl; fits = enough_room (record { height = c.args.height; width = c.args.width; cells = c.args.cells.now }) c.args.calls.now c.args.answer.now c.size_of_block-size.result (c.size_of_block-size.ensures _ c.new-first.ensures.board) c.if-answer-size.false }

pub overflow_mul-result : goal.overflow_mul-result
overflow_mul-result c = omega (arith, enough_room (record { height = c.args.height; width = c.args.width; cells = c.args.cells.now }) c.args.calls.now c.args.answer.now c.size_of_block-size.result (c.size_of_block-size.ensures _ c.new-first.ensures.board) c.if-answer-size.false)

pub returns : goal.returns
returns c = replay_whole (record { height = c.args.height; width = c.args.width; cells = c.args.cells.now }) c.args.calls.now c.args.answer.now c.size_of_block-size.result (c.size_of_block-size.ensures _ c.new-first.ensures.board) c.if-answer-size.false _ c.put_blocks.ensures
