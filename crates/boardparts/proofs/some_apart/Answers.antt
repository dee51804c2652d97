-- `boardparts::some_apart` meets its contract.
use mathlib.Core.Path.{refl, sym, ◌∙◌}
use Rattle.boardview.specs.View.{clue_apart}
use Rattle.boardparts.proofs.Ends.{no_clue}
use Rattle.boardparts.proofs.Apart.{or_first, or_next, some_of_four}
use Rattle.boardparts.proofs.some_apart.Goals.{then-keeps_apart, else-keeps_apart, then-keeps_apart-2, else-keeps_apart-2}
use Rattle.boardparts.proofs.some_apart.Goals as goal

pub returns-in_default : goal.returns-in_default
unfolding clue_apart
returns-in_default c = rw (← c.end_at.ensures, no_clue c.end_at.result c.in_default.not-Clue) refl

pub returns-then-keeps_apart-3 : goal.returns-then-keeps_apart-3
returns-then-keeps_apart-3 c = some_of_four c.args.board.now.edges c.args.board.now.ends c.args.width c.args.v c.in-Clue.code c.in-Clue.ensures c.requires.2 _ _ _
    (elim c.if-keeps_apart.branch [
      | then-keeps_apart w ↦ or_first _ _ _ (sym c.keeps_apart.ensures ∙ w.if-keeps_apart.true) (w.value-is ∙ c.keeps_apart.ensures)
      | else-keeps_apart w ↦ or_next _ _ _ (sym c.keeps_apart.ensures ∙ w.if-keeps_apart.false) (w.value-is ∙ w.keeps_apart-else-keeps_apart.ensures)
    ])
    (elim c.if-keeps_apart-2.branch [
      | then-keeps_apart-2 w ↦ or_first _ _ _ w.if-keeps_apart-2.true w.value-is
      | else-keeps_apart-2 w ↦ or_next _ _ _ w.if-keeps_apart-2.false (w.value-is ∙ w.keeps_apart-else-keeps_apart-2.ensures)
    ])
    (or_first _ _ _ c.if-keeps_apart-3.true refl)

pub returns-else-keeps_apart-3 : goal.returns-else-keeps_apart-3
returns-else-keeps_apart-3 c = some_of_four c.args.board.now.edges c.args.board.now.ends c.args.width c.args.v c.in-Clue.code c.in-Clue.ensures c.requires.2 _ _ _
    (elim c.if-keeps_apart.branch [
      | then-keeps_apart w ↦ or_first _ _ _ (sym c.keeps_apart.ensures ∙ w.if-keeps_apart.true) (w.value-is ∙ c.keeps_apart.ensures)
      | else-keeps_apart w ↦ or_next _ _ _ (sym c.keeps_apart.ensures ∙ w.if-keeps_apart.false) (w.value-is ∙ w.keeps_apart-else-keeps_apart.ensures)
    ])
    (elim c.if-keeps_apart-2.branch [
      | then-keeps_apart-2 w ↦ or_first _ _ _ w.if-keeps_apart-2.true w.value-is
      | else-keeps_apart-2 w ↦ or_next _ _ _ w.if-keeps_apart-2.false (w.value-is ∙ w.keeps_apart-else-keeps_apart-2.ensures)
    ])
    (or_next _ _ _ c.if-keeps_apart-3.false c.keeps_apart-else-keeps_apart-3.ensures)
