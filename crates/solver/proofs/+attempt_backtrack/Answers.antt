-- The search: an attempt goes on at a later pad, so twice the pads left, plus one in backtrack, falls. Each path of the code is one law of
-- SearchLaws.antt. Assumes nothing.
use mathlib.Core.Path.{refl, sym, ◌∙◌}
use native.Mathlib.Omega.{arith}
use Rattle.boardview.specs.Bytes.{is_flagged, is_clear}
use Rattle.boardview.specs.View.{grid_in}
use Rattle.boardview.specs.Unwind.{since_then}
use Rattle.std.specs.Prelude.{Ok}
use Rattle.std.proofs.lemmas.Result.{err_from_is_err_and}
use Rattle.tally.specs.Outcomes.{stopped_some}
use Rattle.solver.specs.Answers.{so_far}
use Rattle.searchview.specs.SearchLaws.{ready_edges, since_restored, ready_restored, not_tried, flagged, next_entered, went_on, spent, last_row_reached, begun, loop_over, stops_at, next_one, row_small, row_few, row_below, pad_small, right_on_board, down_on_board, next_in_row, gone_back}
use Rattle.solver.proofs.+attempt_backtrack.Goals as goal

pub attempt-tried-requires : goal.attempt-tried-requires
attempt-tried-requires t c = (pad_small _ _ c.requires.0.ready c.args.kinds.now.told.least_height _ c.requires.1, ready_edges _ _ c.requires.0.ready)

pub attempt-returns-then-not-tried : goal.attempt-returns-then-not-tried
attempt-returns-then-not-tried t c = (not_tried _ _ _ _ _ _ _ c.requires.0.inside (sym c.tried.ensures ∙ c.if-not-tried.true), refl)

pub attempt-decide-requires : goal.attempt-decide-requires
attempt-decide-requires t c =
    let start = c in
    (pad_small _ _ start.requires.0.ready start.args.kinds.now.told.least_height _ start.requires.1, start.requires.0.ready, right_on_board _ _ start.requires.0.ready start.args.kinds.now.told.least_height _ start.requires.1)

pub attempt-decide-requires-2 : goal.attempt-decide-requires-2
attempt-decide-requires-2 t c =
    let start = c in
    (pad_small _ _ start.requires.0.ready start.args.kinds.now.told.least_height _ start.requires.1, c.decide.ensures.ready, down_on_board _ _ start.requires.0.ready start.args.kinds.now.told.least_height _ start.requires.1)

pub attempt-overflow_add-v : goal.attempt-overflow_add-v
attempt-overflow_add-v t c = let k = pad_small _ _ c.requires.0.ready c.args.kinds.now.told.least_height _ c.requires.1 in omega arith

pub attempt-next_pad-next-requires : goal.attempt-next_pad-next-requires
attempt-next_pad-next-requires t c = let below = row_below _ _ c.requires.0.ready c.args.kinds.now.told.least_height in (omega (arith, c.first_of_last_row-last.ensures, c.requires.1.low), omega (arith, c.first_of_last_row-last.ensures))

pub attempt-backtrack-outcome-requires : goal.attempt-backtrack-outcome-requires
attempt-backtrack-outcome-requires t c =
    let start = c in
    let next-pad-says = c.next_pad-next.ensures in
    let decide-down-says = c.decide-2.ensures in
    let if2-taken = is_clear _ _ c.is_flagged.ensures c.if-not-is_flagged.true in
    (omega (arith, start.decreases, next-pad-says.later, row_small _ _ start.requires.0.ready start.args.kinds.now.told.least_height, start.requires.1.low), (record { ready = decide-down-says.ready; clear = if2-taken; inside = start.requires.0.inside }, next_entered _ _ _ _ _ (sym c.tried.ensures ∙ c.if-not-tried.false) start.requires.0.ready _ _ c.decide.ensures (decide-down-says) start.args.kinds.now.told.least_width start.args.kinds.now.told.least_height (row_few _ _ start.requires.0.ready start.args.kinds.now.told.least_height) (if2-taken) start.requires.1.low _ (next_in_row _ _ _ _ _ c.first_of_last_row-last.ensures (next-pad-says))))

pub attempt-undo-requires : goal.attempt-undo-requires
attempt-undo-requires t c =
    let start = c in
    let ready = ready_restored _ _ _ c.backtrack-outcome.ensures.1 c.backtrack-outcome.ensures.0.restored c.decide-2.ensures.ready in
    let since = since_restored _ _ _ _ c.backtrack-outcome.ensures.1 (since_then _ _ _ _ c.decide.ensures.since c.decide-2.ensures.since) c.backtrack-outcome.ensures.0.restored in
    (omega (arith, since.longer), omega (arith, ready.room), ready.entries)

pub attempt-shape_of-buffer-then-not-is_flagged : goal.attempt-shape_of-buffer-then-not-is_flagged
attempt-shape_of-buffer-then-not-is_flagged t c = c.backtrack-outcome.ensures.0.same_length

pub attempt-returns-then-not-is_flagged : goal.attempt-returns-then-not-is_flagged
attempt-returns-then-not-is_flagged t c =
    let start = c in
    let decide-right-says = c.decide.ensures in
    let decide-down-says = c.decide-2.ensures in
    let backtrack-says = c.backtrack-outcome.ensures in
    let back = gone_back _ _ _ _ (since_restored _ _ _ _ backtrack-says.1 (since_then _ _ _ _ decide-right-says.since decide-down-says.since) backtrack-says.0.restored) (backtrack-says.0.restored.log_long ∙ decide-down-says.ready.log_long ∙ sym start.requires.0.ready.log_long) c.undo.ensures in
    (went_on _ _ _ _ _ (sym c.tried.ensures ∙ c.if-not-tried.false) start.requires.0.ready _ _ (decide-right-says) (decide-down-says) start.args.kinds.now.told.least_width start.args.kinds.now.told.least_height (row_few _ _ start.requires.0.ready start.args.kinds.now.told.least_height) (is_clear _ _ c.is_flagged.ensures c.if-not-is_flagged.true) start.requires.1.low _ (next_in_row _ _ _ _ _ c.first_of_last_row-last.ensures c.next_pad-next.ensures) _ _ _ _ _ backtrack-says.0 back.0, back.1)

pub attempt-undo-requires-2 : goal.attempt-undo-requires-2
attempt-undo-requires-2 t c =
    let ready = c.decide-2.ensures.ready in
    let since = since_then _ _ _ _ c.decide.ensures.since c.decide-2.ensures.since in
    (omega (arith, since.longer), omega (arith, ready.room), ready.entries)

pub attempt-returns : goal.attempt-returns
attempt-returns t c =
    let start = c in
    let decide-right-says = c.decide.ensures in
    let decide-down-says = c.decide-2.ensures in
    let back = gone_back _ _ _ _ (since_then _ _ _ _ decide-right-says.since decide-down-says.since) (decide-down-says.ready.log_long ∙ sym start.requires.0.ready.log_long) c.undo-2.ensures in
    (flagged _ _ _ _ _ (sym c.tried.ensures ∙ c.if-not-tried.false) start.requires.0.ready _ _ (decide-right-says) (decide-down-says) _ _ start.requires.0.inside (is_flagged _ _ c.is_flagged.ensures c.if-not-is_flagged.false) _ back.0, back.1)

pub backtrack-returns-then-tally-limit : goal.backtrack-returns-then-tally-limit
backtrack-returns-then-tally-limit t c =
    let start = c in
    (spent (grid_in start.args.kinds.now) start.args.limit start.args.v start.args.board.now (so_far (grid_in start.args.kinds.now) (Ok tt) start.args.tally.now start.args.buffer.now) start.requires.0.inside refl start.args.kinds.now.told.least_height start.args.kinds.now.told.least_width start.requires.1 c.if-tally-limit.true, refl)

pub backtrack-overflow_add-tally : goal.backtrack-overflow_add-tally
backtrack-overflow_add-tally t c = omega (arith, c.if-tally-limit.false)

pub backtrack-add_layout-requires : goal.backtrack-add_layout-requires
backtrack-add_layout-requires t c = (ready_edges _ _ c.requires.0.ready, c.requires.0.inside)

pub backtrack-shape_of-buffer-then-v-first_of_last_row : goal.backtrack-shape_of-buffer-then-v-first_of_last_row
backtrack-shape_of-buffer-then-v-first_of_last_row t c = c.add_layout.ensures.added.same_length

pub backtrack-returns-then-v-first_of_last_row : goal.backtrack-returns-then-v-first_of_last_row
backtrack-returns-then-v-first_of_last_row t c =
    let start = c in
    let add-layout-says = c.add_layout.ensures in
    (last_row_reached (grid_in start.args.kinds.now) start.args.limit start.args.v start.args.board.now (so_far (grid_in start.args.kinds.now) (Ok tt) start.args.tally.now start.args.buffer.now) start.requires.0.inside refl start.args.kinds.now.told.least_height start.args.kinds.now.told.least_width start.requires.1 c.if-tally-limit.false (omega (arith, c.first_of_last_row.ensures, c.if-v-first_of_last_row.true)) _ (rw add-layout-says.none_visited (add-layout-says.added.advanced _ _)) add-layout-says.added.inside add-layout-says.added.same_length, refl)

pub backtrack-loop-m-init : goal.backtrack-loop-m-init
backtrack-loop-m-init t c =
    let start = c in
    (begun (grid_in start.args.kinds.now) start.args.limit start.args.v start.args.board.now (so_far (grid_in start.args.kinds.now) (Ok tt) start.args.tally.now start.args.buffer.now) start.requires.0.inside refl start.args.kinds.now.told.least_height start.args.kinds.now.told.least_width start.requires.1 c.if-tally-limit.false (omega (arith, c.first_of_last_row.ensures, c.if-v-first_of_last_row.false)), refl)

pub backtrack-attempt-requires : goal.backtrack-attempt-requires
backtrack-attempt-requires t c =
    let start = c in
    let loop-inv = c.loop-m.invariant in
    let first-of-last-row-says = c.first_of_last_row.ensures in
    let if2-left = c.if-v-first_of_last_row.false in
    (omega (arith, start.decreases), (record { ready = ready_restored _ _ _ loop-inv.1 loop-inv.0.restored start.requires.0.ready; clear = omega (arith, start.requires.0.clear, loop-inv.1); inside = loop-inv.0.inside }, (record { low = (omega (arith, first-of-last-row-says, if2-left)); has_next = start.requires.1.has_next (omega (arith, first-of-last-row-says, if2-left)) })))

pub backtrack-returns-in_err-attempt : goal.backtrack-returns-in_err-attempt
backtrack-returns-in_err-attempt t c =
    let start = c in
    let p = err_from_is_err_and c.from_residual.result c.from_residual.ensures.1 in
    rw (p.1, p.2) (stops_at (grid_in start.args.kinds.now) start.args.limit start.args.v start.args.board.now (so_far (grid_in start.args.kinds.now) (Ok tt) start.args.tally.now start.args.buffer.now) start.requires.0.inside refl start.args.kinds.now.told.least_height start.args.kinds.now.told.least_width start.requires.1 c.if-tally-limit.false (omega (arith, c.first_of_last_row.ensures, c.if-v-first_of_last_row.false)) c.loop-m.m c.loop-m-test.true _ _ _ _ _ _ _ _ c.loop-m.invariant.1 c.in_err-attempt.ensures.0 c.loop-m.invariant.0 (stopped_some _), c.in_err-attempt.ensures.1 ∙ c.loop-m.invariant.1)

pub backtrack-loop-m-preserved : goal.backtrack-loop-m-preserved
backtrack-loop-m-preserved t c =
    let start = c in
    let loop-test-taken = c.loop-m-test.true in
    (next_one (grid_in start.args.kinds.now) start.args.limit start.args.v start.args.board.now (so_far (grid_in start.args.kinds.now) (Ok tt) start.args.tally.now start.args.buffer.now) start.requires.0.inside refl start.args.kinds.now.told.least_height start.args.kinds.now.told.least_width start.requires.1 c.if-tally-limit.false (omega (arith, c.first_of_last_row.ensures, c.if-v-first_of_last_row.false)) c.loop-m.m (loop-test-taken) _ _ _ _ _ _ _ _ c.loop-m.invariant.1 c.in_ok-attempt.ensures.0 c.loop-m.invariant.0 refl, c.in_ok-attempt.ensures.1 ∙ c.loop-m.invariant.1)

pub backtrack-shape_of-buffer : goal.backtrack-shape_of-buffer
backtrack-shape_of-buffer t c = c.loop-m.invariant.0.same_length

pub backtrack-returns : goal.backtrack-returns
backtrack-returns t c =
    let start = c in
    (loop_over (grid_in start.args.kinds.now) start.args.limit start.args.v start.args.board.now (so_far (grid_in start.args.kinds.now) (Ok tt) start.args.tally.now start.args.buffer.now) start.requires.0.inside refl start.args.kinds.now.told.least_height start.args.kinds.now.told.least_width start.requires.1 c.if-tally-limit.false (omega (arith, c.first_of_last_row.ensures, c.if-v-first_of_last_row.false)) c.loop-m.m (omega arith) c.loop-m-test.false _ _ c.loop-m.invariant.0, c.loop-m.invariant.1)
