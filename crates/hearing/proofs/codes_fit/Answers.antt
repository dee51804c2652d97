-- `hearing::codes_fit` meets its contract: one digit for each pad, and the chain over them. Assumes nothing.
use Rattle.std.proofs.Common.{rules, tests, arith, refl, ◌∙◌}
use Rattle.std.proofs.lemmas.Iterator.{YieldsList-from_range}
use Rattle.std.proofs.lemmas.Iterator.Search.{all_from_yields_List}
use Rattle.model.specs.JudgeText.{digit_fits}
use Rattle.judging.specs.Every.{every_number}
use Rattle.hearing.proofs.DigitLaws.{other_length, by_all}
use Rattle.hearing.proofs.codes_fit.Goals as goal

pub returns-then-digits-pads : goal.returns-then-digits-pads
returns-then-digits-pads c =
    let n = c.pads-then-digits-pads.result in
    by_all _ _ c.args.digits.now c.if-digits-pads.true c.pads.ensures c.pads-then-digits-pads.ensures
    (all_from_yields_List (digit_fits c.args.grid.now.height c.args.grid.now.width c.args.digits.now) _ _ _ c.all.ensures.ran (YieldsList-from_range 0 _ n refl (omega arith)) (λ x b q k. search (rules, tests))
    ∙ every_number (digit_fits c.args.grid.now.height c.args.grid.now.width c.args.digits.now) n)

pub returns-else-digits-pads : goal.returns-else-digits-pads
returns-else-digits-pads c = other_length _ _ c.args.digits.now c.if-digits-pads.false c.pads.ensures
