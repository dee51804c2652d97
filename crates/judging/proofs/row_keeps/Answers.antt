-- `judging::row_keeps` meets its contract: the chain over the pads of the row. Assumes nothing.
use Rattle.std.proofs.Common.{rules, tests, arith, refl, ◌∙◌, ℕ, Bool}
use Rattle.std.proofs.lemmas.Iterator.{YieldsList-from_range}
use Rattle.std.proofs.lemmas.Iterator.Search.{all_from_yields_List}
use Rattle.rules.specs.Grid.{pad_index}
use Rattle.rules.specs.Record.{drawing_of}
use Rattle.judging.specs.Every.{every_number}
use Rattle.judging.specs.Shape.{pad_keeps}
use Rattle.judging.proofs.row_keeps.Goals as goal

pub returns : goal.returns
returns c =
    let test : ℕ → Bool = λ x. pad_keeps c.args.grid.now.height c.args.grid.now.width c.args.grid.now.cells.now (drawing_of c.args.grid.now.width c.args.bytes.now) (pad_index c.args.grid.now.width c.args.y x) in
    all_from_yields_List test _ _ c.all.result c.all.ensures.ran (YieldsList-from_range 0 _ c.args.grid.now.width refl (omega arith)) (λ x b q k. search (rules, tests))
    ∙ every_number test c.args.grid.now.width
