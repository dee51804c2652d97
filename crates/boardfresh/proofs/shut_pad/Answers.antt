-- `boardfresh::shut_pad` meets its contract: the four edges at a hole are decided one after another. Assumes nothing.
use mathlib.Core.Path.{refl, sym, ◌∙◌}
use Rattle.boardfresh.specs.Shutting.{four_done, no_hole_here}
use Rattle.boardfresh.proofs.shut_pad.Goals as goal

pub returns-then-not-is_hole : goal.returns-then-not-is_hole
returns-then-not-is_hole c = no_hole_here _ _ _ c.requires.1 (sym c.is_hole.ensures ∙ c.if-not-is_hole.true)

pub returns : goal.returns
returns c =
    let entry = c.requires in
    four_done _ c.args.kinds.now.told.least_width c.args.kinds.now.told.largest_width _ entry.0 (sym c.is_hole.ensures ∙ c.if-not-is_hole.false)
    _ refl _ _ _ _ _ c.shut_edge.ensures c.shut_edge-2.ensures c.shut_edge-3.ensures c.shut_edge-4.ensures
