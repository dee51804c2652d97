-- What the code's last part of a pad check stands for: the number that the theory tells it by, and that its slot is of an undecided edge.
-- Assumes nothing.
use Rattle.std.specs.Prelude.{ℕ, ◌+◌, ◌<◌, ◌≡◌, List, get_or}
use Rattle.boardparts.specs.declared.Action.{Action}
use Rattle.boardparts.specs.declared.Action.TheVariants.{Nothing, Flag, Line, NoLine}

-- 0 nothing, 1 the flag, a slot: a line there, 1024 + a slot: none there
abbrev pub action_number : Action → ℕ
action_number Nothing = 0
action_number Flag = 1
action_number (Line slot) = slot
action_number (NoLine slot) = slot + 1024

-- the slot of a line or none holds an edge that is not decided
abbrev pub Undecided : List ℕ → Action → Type 0
Undecided edges Nothing = Unit {0}
Undecided edges Flag = Unit {0}
Undecided edges (Line slot) = (slot < 1024) × (get_or edges slot 0 ≡ 0)
Undecided edges (NoLine slot) = (slot < 1024) × (get_or edges slot 0 ≡ 0)
