-- `judging::leads` meets its contract: an edge to the right that is none in the last column, or the byte at the place. Assumes nothing.
use Rattle.std.proofs.Common.{rules, sym}
use mathlib.Core.Bool.{false≢true}
use denote.Enum.Bare.{same_true}
use Rattle.grid.specs.contracts.Direction.{the_type}
use Rattle.judging.proofs.Drawn.{none_leads, line_leads}
use Rattle.judging.proofs.leads.Goals as goal
use Rattle.judging.proofs.leads.Goals.{else-eq-via-then-eq+else-width-x, else-eq-via-else-eq}

pub returns-then-width-x : goal.returns-then-width-x
returns-then-width-x c = none_leads _ _ _ c.requires _ _ (same_true the_type (search rules) _ _ (sym c.if-eq.ensures)) c.if-width-x.true

pub returns : goal.returns
returns c = line_leads _ _ _ c.requires _ c.args.direction (elim c.else-eq.branch [
  | else-eq-via-then-eq+else-width-x w ↦ λ is. w.if-width-x.false
  | else-eq-via-else-eq w ↦ λ is. absurd (false≢true (rw is at w.if-eq.ensures))
]) (rw c.place.ensures at c.line_at.ensures)
