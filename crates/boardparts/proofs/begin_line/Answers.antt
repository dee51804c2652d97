-- `boardparts::begin_line` meets its contract: the count of a decision that goes on leaves room for one entry more.
use Rattle.std.proofs.Common.{ap}
use native.Mathlib.Omega.{arith}
use Rattle.boardview.specs.declared.Arrays.{Arrays}
use Rattle.boardview.specs.View.{going}
use Rattle.boardview.specs.Stores.{going_count}
use Rattle.boardparts.proofs.begin_line.Goals as goal

pub overflow_add-board-2 : goal.overflow_add-board-2
overflow_add-board-2 c = omega (arith, ap (λ (s : Arrays). s.count) c.go_on.ensures, ap (λ (s : Arrays). going s.count) c.log_line.ensures, (going_count c.args.board.now.count c.requires.3).1)
