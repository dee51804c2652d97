-- `engines::codes_before`: what the fold comes to.
use Rattle.std.proofs.Common.{rules, ◌≡◌, ◌∙◌, take}
use Rattle.std.specs.List.{fold}
use Rattle.engines.specs.Kinds.{more_codes}
use Rattle.engines.specs.KindLaws.{codes_folded}
use Rattle.engines.proofs.codes_before.Goals as goal

pub returns : goal.returns
returns c = let folded : c.fold.result ≡ fold more_codes 0 (take c.args.pad c.args.kinds.now) = search rules in folded ∙ codes_folded _ _ c.requires
