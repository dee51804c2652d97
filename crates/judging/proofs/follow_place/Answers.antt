-- `judging::follow_place` meets its contract: by whether the place has pads. Assumes nothing.
use mathlib.Core.Path.{sym, ◌∙◌}
use Rattle.rules.proofs.Places.{first_small}
use Rattle.judging.proofs.Lines.{place_joins, place_nowhere, pads_small}
use Rattle.judging.proofs.follow_place.Goals as goal

pub follow_edge-requires : goal.follow_edge-requires
follow_edge-requires c =
    let start = c in
    let small = pads_small _ start.requires.0 _ (first_small _ _ _ start.requires.0 start.requires.1 start.requires.2) (sym c.in-Some.is ∙ c.pads_at.ensures) in
    (small.0, small.1, start.requires.3)

pub returns-in-Some : goal.returns-in-Some
returns-in-Some c = place_joins _ _ _ (sym c.in-Some.is ∙ c.pads_at.ensures) c.follow_edge.ensures

pub returns-in-None : goal.returns-in-None
returns-in-None c = place_nowhere _ _ _ (sym c.in-None.is ∙ c.pads_at.ensures) c.requires.3
