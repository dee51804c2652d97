-- `judging::follow_row` meets its contract. The loop has followed the row's first places and counted their lines. Assumes nothing.
use Prim.Native.Nat.{◌+◌, ◌*◌, ◌≤◌}
use Rattle.rules.specs.Grid.{field_side}
use Rattle.std.proofs.Common.{Some}
use Rattle.judging.specs.Following.{FollowedOn}
use Rattle.judging.proofs.follow_row.Given as goal

abbrev pub invariant-loop-column : goal.invariant-loop-column
invariant-loop-column l =
    (l.column ≤ field_side l.width) × FollowedOn l.width l.bytes (l.row * field_side l.width) (l.row * field_side l.width + l.column) l.initial.ends (Some l.found) l.ends
