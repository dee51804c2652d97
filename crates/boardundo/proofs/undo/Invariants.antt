-- `boardundo::undo` meets its contract: undoing the entries that are left gives what undoing all of them would have given.
use Rattle.boardview.specs.View.{logged, unwound}
use Prim.Native.Nat.{◌-◌, ◌≤◌}
use mathlib.Core.Path.{◌≡◌}
use Rattle.boardundo.proofs.undo.Given as goal

abbrev pub invariant-loop-k : goal.invariant-loop-k
invariant-loop-k l = (l.k-start ≤ l.k) × (l.k ≤ logged l.initial.board) × (l.board.log ≡ l.initial.board.log)
    × (unwound l.kinds.width l.initial.board.log l.k-start (l.k - l.k-start) (l.board.edges, l.board.ends) ≡ unwound l.kinds.width l.initial.board.log l.k-start (logged l.initial.board - l.k-start) (l.initial.board.edges, l.initial.board.ends))
