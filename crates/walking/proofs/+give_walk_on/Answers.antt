-- The walk: a code goes on at the next pad, so twice the pads left, plus one in `walk_on`, falls. Each path of the code is one law of Steps.antt.
-- Assumes nothing.
use mathlib.Core.Path.{refl, ◌∙◌}
use mathlib.Core.Bool.{false}
use native.Mathlib.Omega.{arith}
use borrow.Author.Tests.{not-true, not-false}
use Rattle.rules.specs.Grid.{right}
use Rattle.walking.proofs.Steps.{few_pads, one_long, both_same, written_begun, not_tried, spent, went_on, all_given, none_yet, loop_over, stops_at, next_one}
use mathlib.Core.Path.{ap}
use mathlib.Core.Bool.{not}
use Rattle.std.proofs.lemmas.Result.{err_from_is_err_and}
use Rattle.walking.proofs.+give_walk_on.Goals as goal

pub give-returns-then-not-may_be_given : goal.give-returns-then-not-may_be_given
give-returns-then-not-may_be_given t c = not_tried c.args.grid.now _ _ _ c.requires.0 _ _ _ _ _ _ _ c.may_be_given.ensures (not-true _ (ap not c.if-not-may_be_given.true))

pub give-returns-then-tally-limit : goal.give-returns-then-tally-limit
give-returns-then-tally-limit t c = spent c.args.grid.now _ _ _ c.requires.0 _ _ _ _ _ _ _ c.may_be_given.ensures (not-false _ (ap not c.if-not-may_be_given.false)) c.if-tally-limit.true

pub give-overflow_add-tally : goal.give-overflow_add-tally
give-overflow_add-tally t c = omega (arith, c.if-tally-limit.false)

pub give-set_edge-requires : goal.give-set_edge-requires
give-set_edge-requires t c = (c.requires.1, c.requires.0.long)

pub give-set_edge-requires-2 : goal.give-set_edge-requires-2
give-set_edge-requires-2 t c = (c.requires.1, one_long c.args.grid.now _ _ _ c.requires.0 _ (right c.args.v) _ false _ c.set_edge.ensures)

pub give-overflow_add-v : goal.give-overflow_add-v
give-overflow_add-v t c = omega (arith, few_pads c.args.grid.now, c.requires.1)

pub give-walk_on-requires : goal.give-walk_on-requires
give-walk_on-requires t c = (omega (arith, c.decreases, c.requires.1), (written_begun c.args.grid.now _ _ _ c.requires.0 _ _ _ _ _ c.set_edge.ensures _ c.set_edge-2.ensures, omega (arith, c.requires.1)))

pub give-shape_of-bytes : goal.give-shape_of-bytes
give-shape_of-bytes t c = c.walk_on.ensures.same_size ∙ both_same c.args.grid.now _ _ _ c.requires.0 _ _ _ _ _ c.set_edge.ensures _ c.set_edge-2.ensures

pub give-shape_of-buffer : goal.give-shape_of-buffer
give-shape_of-buffer t c = c.walk_on.ensures.same_length

pub give-returns : goal.give-returns
give-returns t c = went_on c.args.grid.now _ _ _ c.requires.0 _ _ _ _ _ _ _ c.may_be_given.ensures (not-false _ (ap not c.if-not-may_be_given.false)) c.if-tally-limit.false _ _ _ _ c.set_edge.ensures c.set_edge-2.ensures c.walk_on.ensures

pub walk_on-test_drawing-requires : goal.walk_on-test_drawing-requires
walk_on-test_drawing-requires t c = c.requires.0

pub walk_on-shape_of-bytes-then-v-pads : goal.walk_on-shape_of-bytes-then-v-pads
walk_on-shape_of-bytes-then-v-pads t c = refl

pub walk_on-shape_of-buffer-then-v-pads : goal.walk_on-shape_of-buffer-then-v-pads
walk_on-shape_of-buffer-then-v-pads t c = c.test_drawing.ensures.0.same_length

pub walk_on-returns-then-v-pads : goal.walk_on-returns-then-v-pads
walk_on-returns-then-v-pads t c = all_given c.args.grid.now _ _ _ c.requires.0 _ _ _ _ c.requires.1 (rw c.pads.ensures at c.if-v-pads.true) _ _ _ _ _ c.test_drawing.ensures.0 c.test_drawing.ensures.1

pub walk_on-loop-m-init : goal.walk_on-loop-m-init
walk_on-loop-m-init t c = (omega arith, none_yet c.args.grid.now _ _ _ c.requires.0 _ _ _ _ (rw c.pads.ensures at c.if-v-pads.false))

pub walk_on-give-requires : goal.walk_on-give-requires
walk_on-give-requires t c = (omega (arith, c.decreases), (record { long = c.loop-m.invariant.1.same_size ∙ c.requires.0.long; inside = c.loop-m.invariant.1.inside }, (rw c.pads.ensures at c.if-v-pads.false)))

pub walk_on-returns-in_err-give : goal.walk_on-returns-in_err-give
walk_on-returns-in_err-give t c =
    let p = err_from_is_err_and c.from_residual.result c.from_residual.ensures.1 in
    rw (p.1, p.2) (stops_at c.args.grid.now _ _ _ c.requires.0 _ _ _ _ (rw c.pads.ensures at c.if-v-pads.false) c.loop-m.m c.loop-m-test.true _ _ _ _ _ c.loop-m.invariant.1 _ c.in_err-give.ensures)

pub walk_on-loop-m-preserved : goal.walk_on-loop-m-preserved
walk_on-loop-m-preserved t c = (omega (arith, c.loop-m-test.true), next_one c.args.grid.now _ _ _ c.requires.0 _ _ _ _ (rw c.pads.ensures at c.if-v-pads.false) c.loop-m.m c.loop-m-test.true _ _ _ _ _ c.loop-m.invariant.1 c.in_ok-give.ensures)

pub walk_on-shape_of-bytes : goal.walk_on-shape_of-bytes
walk_on-shape_of-bytes t c = c.loop-m.invariant.1.same_size

pub walk_on-shape_of-buffer : goal.walk_on-shape_of-buffer
walk_on-shape_of-buffer t c = c.loop-m.invariant.1.same_length

pub walk_on-returns : goal.walk_on-returns
walk_on-returns t c = loop_over c.args.grid.now _ _ _ c.requires.0 _ _ _ _ (rw c.pads.ensures at c.if-v-pads.false) c.loop-m.m c.loop-m.invariant.0 c.loop-m-test.false _ _ c.loop-m.invariant.1
