-- `judging::all_finished` meets its contract: the chain over the pads. Assumes nothing.
use Rattle.std.proofs.Common.{rules, tests, arith, refl, ◌∙◌, ap}
use Rattle.std.proofs.lemmas.Iterator.{YieldsList-from_range}
use Rattle.std.proofs.lemmas.Iterator.Search.{all_from_yields_List}
use Rattle.rules.specs.Tests.{all_below}
use Rattle.judging.specs.Every.{every_number}
use Rattle.judging.specs.Following.{finished_at}
use Rattle.judging.proofs.all_finished.Goals as goal

pub returns : goal.returns
returns c =
    all_from_yields_List (finished_at c.args.grid.now.cells.now c.args.ends.now) _ _ _ c.all.ensures.ran (YieldsList-from_range 0 _ c.pads.result refl (omega arith)) (λ x b q k. search (rules, tests))
    ∙ every_number (finished_at c.args.grid.now.cells.now c.args.ends.now) c.pads.result ∙ ap (all_below (finished_at c.args.grid.now.cells.now c.args.ends.now)) c.pads.ensures
