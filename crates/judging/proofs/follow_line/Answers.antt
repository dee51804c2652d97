-- `judging::follow_line` meets its contract: the line cannot be, or the ends are joined. Assumes nothing.
use mathlib.Core.Path.{sym, ◌∙◌}
use Rattle.judging.proofs.Lines.{line_refused, line_joined}
use Rattle.judging.proofs.follow_line.Goals as goal

pub returns-then-cannot_join : goal.returns-then-cannot_join
returns-then-cannot_join c =
    let start = c in
    line_refused _ _ _ start.requires.0 start.requires.1 start.requires.2 (sym c.if-cannot_join.true ∙ c.cannot_join.ensures)

pub returns : goal.returns
returns c =
    let start = c in
    rw c.join_ends.ensures (line_joined _ _ _ start.requires.0 start.requires.1 start.requires.2 (sym c.if-cannot_join.false ∙ c.cannot_join.ensures))
