-- `judging::follow_record` meets its contract. The loop has followed the first rows of the field and counted their lines. Assumes nothing.
use Prim.Native.Nat.{◌*◌, ◌≤◌}
use Rattle.rules.specs.Grid.{field_side}
use Rattle.std.proofs.Common.{Some}
use Rattle.judging.specs.Following.{FollowedOn}
use Rattle.judging.proofs.follow_record.Given as goal

abbrev pub invariant-loop-row : goal.invariant-loop-row
invariant-loop-row l = (l.row ≤ field_side l.grid.height) × FollowedOn l.grid.width l.bytes 0 (l.row * field_side l.grid.width) l.initial.ends (Some l.lines) l.ends
