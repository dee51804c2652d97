-- `boardfresh::lay_board` meets its contract: the holes are shut on the bare arrays, and the log begins anew. Assumes nothing.
use Rattle.std.proofs.Common.{rules}
use Rattle.boardfresh.specs.FreshView.{fresh_made}
use Rattle.boardfresh.proofs.lay_board.Goals as goal

pub shut_holes-requires : goal.shut_holes-requires
shut_holes-requires c = let bare = c.bare_board-bare.ensures in
    bare.ready _ (search rules)

pub returns : goal.returns
returns c = rw c.restart.ensures (fresh_made _ _ _ _ c.bare_board-bare.ensures _ _ c.shut_holes.ensures, c.shut_holes.ensures.ready.log_long)
