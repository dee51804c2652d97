-- `boardbare::bare_end` meets its contract: a clue by its code; a pad that is none, or past the list, by its own index.
use native.Mathlib.Omega.{arith}
use mathlib.Core.Path.{sym, ◌∙◌}
use borrow.Author.Tests.{ltb-true, ltb-false}
use Rattle.rules.specs.Grid.{blank_cell}
use Rattle.model.specs.Lists.{default_free}
use Rattle.boardbare.proofs.Codes.{past_the_cells, own_end, clue_end}
use Rattle.boardbare.proofs.bare_end.Goals as goal
use Rattle.boardbare.proofs.bare_end.Goals.{in_default-via-in-Some+else-code-ge0, in_default-via-in_default}

pub returns-in-Some : goal.returns-in-Some
returns-in-Some c =
    let inside = ltb-true _ _ (sym c.in-Some.ensures.lookup.0) in
    clue_end c.args.cells.now _ _ (c.in-Some.ensures.lookup.1 ∙ default_free c.args.cells.now _ _ blank_cell inside) (record { sfits = omega arith }) (c.requires.1 _ inside) c.if-code-ge0.true

pub returns-in_default : goal.returns-in_default
returns-in_default c = elim c.in_default.branch [
  | in_default-via-in-Some+else-code-ge0 w ↦
      own_end c.args.cells.now _ _ (w.in-Some.ensures.lookup.1 ∙ default_free c.args.cells.now _ _ blank_cell (ltb-true _ _ (sym w.in-Some.ensures.lookup.0))) (record { sfits = omega arith }) c.requires.0 w.if-code-ge0.false
  | in_default-via-in_default w ↦ past_the_cells c.args.cells.now _ (ltb-false _ _ (sym w.in_default.ensures.lookup.0)) c.requires.0
]
