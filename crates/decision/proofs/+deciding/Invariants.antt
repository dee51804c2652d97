-- Each function of the cycle calls on with fewer undecided edges, or with as many and a smaller number of its own.
use Rattle.boardview.specs.View.{undecided_in}
use Prim.Native.Nat.{◌+◌, ◌*◌}
use Rattle.decision.proofs.+deciding.Given as goal

abbrev pub decreases-check_end : goal.decreases-check_end
decreases-check_end l = 6 * undecided_in l.board.now.edges + 5

abbrev pub decreases-check : goal.decreases-check
decreases-check l = 6 * undecided_in l.board.now.edges + 4

abbrev pub decreases-check_pad : goal.decreases-check_pad
decreases-check_pad l = 6 * undecided_in l.board.now.edges + 3

abbrev pub decreases-keep_clues_apart : goal.decreases-keep_clues_apart
decreases-keep_clues_apart l = 6 * undecided_in l.board.now.edges + 2

abbrev pub decreases-keep_apart : goal.decreases-keep_apart
decreases-keep_apart l = 6 * undecided_in l.board.now.edges + 1

abbrev pub decreases-shape : goal.decreases-shape
decreases-shape l = 6 * undecided_in l.board.now.edges + 4

abbrev pub decreases-shape_right : goal.decreases-shape_right
decreases-shape_right l = 6 * undecided_in l.board.now.edges + 2

abbrev pub decreases-shape_down : goal.decreases-shape_down
decreases-shape_down l = 6 * undecided_in l.board.now.edges + 3

abbrev pub decreases-far_detour : goal.decreases-far_detour
decreases-far_detour l = 6 * undecided_in l.board.now.edges + 2

abbrev pub decreases-detour : goal.decreases-detour
decreases-detour l = 6 * undecided_in l.board.now.edges + 1

abbrev pub decreases-corner : goal.decreases-corner
decreases-corner l = 6 * undecided_in l.board.now.edges + 1

abbrev pub decreases-bar : goal.decreases-bar
decreases-bar l = 6 * undecided_in l.board.now.edges + 1

abbrev pub decreases-decide_line : goal.decreases-decide_line
decreases-decide_line l = 6 * undecided_in l.board.now.edges

abbrev pub decreases-decide_none : goal.decreases-decide_none
decreases-decide_none l = 6 * undecided_in l.board.now.edges
