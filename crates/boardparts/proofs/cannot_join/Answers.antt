-- `boardparts::cannot_join` meets its contract, by what the two ends say.
use mathlib.Core.Path.{refl}
use Rattle.model.specs.JoinedEnds.{unjoinable}
use Rattle.boardparts.proofs.Ends.{ends_at_pad, or_nothing}
use Rattle.boardparts.proofs.cannot_join.Goals as goal

pub returns-in-Through : goal.returns-in-Through
unfolding unjoinable
returns-in-Through c = rw (← c.in-Through.ensures) refl

pub returns-in-Through-second_end : goal.returns-in-Through-second_end
unfolding unjoinable
returns-in-Through-second_end c = rw (← c.in-Pad.ensures, ← c.in-Through-second_end.ensures) refl

pub returns-in_default : goal.returns-in_default
returns-in_default c = rw (← c.in-Pad.ensures, ← c.end_at-second_end.ensures) (ends_at_pad c.end_at-second_end.result c.in_default.not-Through c.in-Pad.a c.args.q)

pub returns-in-Through-second_end-2 : goal.returns-in-Through-second_end-2
unfolding unjoinable
returns-in-Through-second_end-2 c = rw (← c.in-Clue.ensures, ← c.in-Through-second_end-2.ensures) refl

pub returns-in-Pad-second_end : goal.returns-in-Pad-second_end
unfolding unjoinable
returns-in-Pad-second_end c = rw (← c.in-Clue.ensures, ← c.in-Pad-second_end.ensures) refl

pub returns-in-Clue-second_end : goal.returns-in-Clue-second_end
unfolding unjoinable
returns-in-Clue-second_end c = rw (← c.in-Clue.ensures, ← c.in-Clue-second_end.ensures) (or_nothing _)
