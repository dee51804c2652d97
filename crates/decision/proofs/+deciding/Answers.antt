-- The functions of the cycle meet their contracts: each path through the code does the items that the contract names, and the number falls.
use mathlib.Core.Path.{refl, ap, sym, ◌∙◌}
use native.Mathlib.Omega.{arith}
use Rattle.std.proofs.lemmas.List.{append-nil}
use Rattle.model.specs.PadTests.{on_board}
use Rattle.boardview.specs.declared.Arrays.{Arrays}
use Rattle.boardview.specs.Told.{has_bit}
use Rattle.boardview.specs.View.{grid_in, going, with_count, pad_number, undecided_in}
use Rattle.boardview.specs.Bytes.{has_ended, goes_on}
use Rattle.boardview.specs.Stores.{going_count}
use Rattle.boardview.specs.Steps.{done_as, done_nothing, done_then, done_ended, slot_is_on, detour_off, detour_first, detour_both}
use Rattle.boardview.specs.Items.{recount_decided, corner_off, corner_taken, corner_ends, corner_lines, bar_off, bar_none}
use Rattle.boardview.specs.Cycle.{same_on, all_on, none_room, none_high, none_first, none_second, none_is_stored, none_returns, none_raised, none_again, right_up_left, right_up_right, right_up, right_left, right_right, right_below, right_corner, left_corner, right_bar_on, left_bar_on, right_done, down_left, down_left_below, down_right, down_right_below, down_far_left, down_far_right, far_left_on, far_right_on, down_right_corner, down_left_bar_on, down_right_bar_on, down_done, corner_exists, corner_down, corner_line, apart_ends, apart_rests, apart_decides, small_pad, left_there, up_there, past_left, past_up, no_apart, four_apart, slot_there, slot_high, slot_pad}
use Rattle.boardparts.specs.Sides.{side_of, slot_small}
use Rattle.grid.specs.Directions.{edge_to}
use Rattle.decision.proofs.Lines.{again, raised, room, first_in, second_in, first_end, second_end, stops, is_stored, all_done}
use Rattle.decision.proofs.Checks.{no_pad, no_clue, no_side, ends, nothing, raises, leaves, draws}
use Rattle.decision.proofs.+deciding.Goals as goal

pub bar-returns-then-has_ended : goal.bar-returns-then-has_ended
bar-returns-then-has_ended t c = done_ended (grid_in c.args.kinds.now) 1 _ _ c.requires.3 (has_ended _ _ c.has_ended.ensures c.if-has_ended.true)

pub bar-returns-then-has : goal.bar-returns-then-has
bar-returns-then-has t c =
    let has-says = c.has.ensures in
    let if2-taken = c.if-has.true in
    bar_none (grid_in c.args.kinds.now) _ c.requires.3 _ (goes_on _ _ c.has_ended.ensures c.if-has_ended.false) _ (sym (has-says) ∙ if2-taken) (c.requires.2 (sym (has-says) ∙ if2-taken)) _ (c.decide_none.ensures.acts (c.requires.2 (sym (has-says) ∙ if2-taken)))

pub bar-returns-else-has : goal.bar-returns-else-has
bar-returns-else-has t c = bar_off (grid_in c.args.kinds.now) _ c.requires.3 _ (goes_on _ _ c.has_ended.ensures c.if-has_ended.false) _ (sym c.has.ensures ∙ c.if-has.false)

pub corner-returns-then-has_ended : goal.corner-returns-then-has_ended
corner-returns-then-has_ended t c = done_ended (grid_in c.args.kinds.now) 1 _ _ c.requires.3 (has_ended _ _ c.has_ended.ensures c.if-has_ended.true)

pub corner-returns-then-board-a-ne-LINE : goal.corner-returns-then-board-a-ne-LINE
corner-returns-then-board-a-ne-LINE t c = corner_off c.args.kinds.now (side_of c.args.side) _ c.requires.3 c.args.q c.args.a c.requires.0 (goes_on _ _ c.has_ended.ensures c.if-has_ended.false) c.if-board-a-ne-LINE.true

pub corner-returns-then-has : goal.corner-returns-then-has
corner-returns-then-has t c = corner_taken c.args.kinds.now (side_of c.args.side) _ c.requires.3 c.args.q c.args.a c.requires.0 (goes_on _ _ c.has_ended.ensures c.if-has_ended.false) c.if-board-a-ne-LINE.false (omega (arith, (c.requires.2 (slot_is_on (grid_in c.args.kinds.now) _ c.requires.3 c.args.a c.requires.0 (omega (arith, c.if-board-a-ne-LINE.false)))), c.requires.3.few_pads)) (sym c.has.ensures ∙ c.if-has.true)

pub corner-decide_line-requires : goal.corner-decide_line-requires
corner-decide_line-requires t c =
    let inside = c.requires.2 (slot_is_on (grid_in c.args.kinds.now) _ c.requires.3 c.args.a c.requires.0 (omega (arith, c.if-board-a-ne-LINE.false))) in
    let there = corner_line c.args.kinds.now c.args.q inside _ (side_of c.args.side) (c.has-2.ensures ∙ ap (has_bit c.args.kinds.now.bits c.args.q) c.corner.ensures) c.if-has-2.true in
    (omega (arith, c.decreases), (ap (on_board (grid_in c.args.kinds.now)) c.first_beside.ensures.0 ∙ there, omega (arith, inside, c.first_beside.ensures.1, c.requires.3.few_pads), c.requires.3))

pub corner-decide_line-requires-then-has-2 : goal.corner-decide_line-requires-then-has-2
corner-decide_line-requires-then-has-2 t c =
    let d = c.decide_line.ensures in ((omega (arith, c.decreases, d.fewer, ap (λ (s : Arrays). undecided_in s.edges) c.go_on.ensures)), (corner_down c.args.kinds.now c.args.q (c.requires.2 (slot_is_on (grid_in c.args.kinds.now) _ c.requires.3 c.args.a c.requires.0 (omega (arith, c.if-board-a-ne-LINE.false)))) _ (side_of c.args.side) (c.has-2.ensures ∙ ap (has_bit c.args.kinds.now.bits c.args.q) c.corner.ensures) c.if-has-2.true, (omega (arith, (c.requires.2 (slot_is_on (grid_in c.args.kinds.now) _ c.requires.3 c.args.a c.requires.0 (omega (arith, c.if-board-a-ne-LINE.false)))), c.requires.3.few_pads)), rw c.go_on.ensures (recount_decided d)))

pub corner-returns-then-has-2 : goal.corner-returns-then-has-2
corner-returns-then-has-2 t c =
    rw c.go_on-then-has-2.ensures (corner_lines c.args.kinds.now (side_of c.args.side) _ c.requires.3 c.args.q c.args.a c.requires.0 (goes_on _ _ c.has_ended.ensures c.if-has_ended.false) c.if-board-a-ne-LINE.false (omega (arith, (c.requires.2 (slot_is_on (grid_in c.args.kinds.now) _ c.requires.3 c.args.a c.requires.0 (omega (arith, c.if-board-a-ne-LINE.false)))), c.requires.3.few_pads)) (sym c.has.ensures ∙ c.if-has.false) (corner_exists c.args.kinds.now c.args.q (c.requires.2 (slot_is_on (grid_in c.args.kinds.now) _ c.requires.3 c.args.a c.requires.0 (omega (arith, c.if-board-a-ne-LINE.false)))) _ (side_of c.args.side) (c.has-2.ensures ∙ ap (has_bit c.args.kinds.now.bits c.args.q) c.corner.ensures) ∙ c.if-has-2.true) _ _ (rw c.first_beside.ensures.0 at c.decide_line.ensures) (rw c.go_on.ensures at c.decide_line-then-has-2.ensures))

pub corner-returns : goal.corner-returns
corner-returns t c =
    rw c.stop.ensures (corner_ends c.args.kinds.now (side_of c.args.side) _ c.requires.3 c.args.q c.args.a c.requires.0 (goes_on _ _ c.has_ended.ensures c.if-has_ended.false) c.if-board-a-ne-LINE.false (omega (arith, (c.requires.2 (slot_is_on (grid_in c.args.kinds.now) _ c.requires.3 c.args.a c.requires.0 (omega (arith, c.if-board-a-ne-LINE.false)))), c.requires.3.few_pads)) (sym c.has.ensures ∙ c.if-has.false) (corner_exists c.args.kinds.now c.args.q (c.requires.2 (slot_is_on (grid_in c.args.kinds.now) _ c.requires.3 c.args.a c.requires.0 (omega (arith, c.if-board-a-ne-LINE.false)))) _ (side_of c.args.side) (c.has-2.ensures ∙ ap (has_bit c.args.kinds.now.bits c.args.q) c.corner.ensures) ∙ c.if-has-2.false))

pub decide_line-begin_line-requires : goal.decide_line-begin_line-requires
decide_line-begin_line-requires t c =
    (omega (arith, c.slot_from-slot.ensures, slot_small c.args.direction c.args.v c.requires.1), omega (arith, c.requires.1), omega (arith, second_in c.args.kinds.now _ c.args.direction c.args.v c.requires.2 c.requires.0 _ c.slot_from-slot.ensures c.if-old-eq-UNDECIDED.true _ c.second-q.ensures, c.requires.2.few_pads), c.requires.2.mode, room c.args.kinds.now _ c.args.direction c.args.v c.requires.2 c.requires.0 _ c.slot_from-slot.ensures c.if-old-eq-UNDECIDED.true _ c.second-q.ensures)

pub decide_line-returns-then-has_ended : goal.decide_line-returns-then-has_ended
decide_line-returns-then-has_ended t c = stops c.args.kinds.now _ c.args.direction c.args.v c.requires.2 c.requires.0 _ c.slot_from-slot.ensures c.if-old-eq-UNDECIDED.true _ c.second-q.ensures _ c.begin_line.ensures (has_ended _ _ c.has_ended.ensures c.if-has_ended.true)

pub decide_line-shape-requires : goal.decide_line-shape-requires
decide_line-shape-requires t c =
    let stored = is_stored c.args.kinds.now _ c.args.direction c.args.v c.requires.2 c.requires.0 _ c.slot_from-slot.ensures c.if-old-eq-UNDECIDED.true _ c.second-q.ensures _ c.begin_line.ensures (goes_on _ _ c.has_ended.ensures c.if-has_ended.false) in
    (omega (arith, c.decreases, stored.less), (c.requires.0, c.requires.1, stored.ready))

pub decide_line-check-requires : goal.decide_line-check-requires
decide_line-check-requires t c =
    let stored = is_stored c.args.kinds.now _ c.args.direction c.args.v c.requires.2 c.requires.0 _ c.slot_from-slot.ensures c.if-old-eq-UNDECIDED.true _ c.second-q.ensures _ c.begin_line.ensures (goes_on _ _ c.has_ended.ensures c.if-has_ended.false) in
    (omega (arith, c.decreases, stored.less, c.shape.ensures.fewer), (first_in c.args.kinds.now _ c.args.direction c.args.v c.requires.2 c.requires.0 _ c.slot_from-slot.ensures c.if-old-eq-UNDECIDED.true _ c.second-q.ensures, c.shape.ensures.ready))

pub decide_line-check-requires-then-old-eq-UNDECIDED : goal.decide_line-check-requires-then-old-eq-UNDECIDED
decide_line-check-requires-then-old-eq-UNDECIDED t c =
    let stored = is_stored c.args.kinds.now _ c.args.direction c.args.v c.requires.2 c.requires.0 _ c.slot_from-slot.ensures c.if-old-eq-UNDECIDED.true _ c.second-q.ensures _ c.begin_line.ensures (goes_on _ _ c.has_ended.ensures c.if-has_ended.false) in
    (omega (arith, c.decreases, stored.less, c.shape.ensures.fewer, c.check.ensures.fewer), (second_in c.args.kinds.now _ c.args.direction c.args.v c.requires.2 c.requires.0 _ c.slot_from-slot.ensures c.if-old-eq-UNDECIDED.true _ c.second-q.ensures, c.check.ensures.ready))

pub decide_line-returns-then-old-eq-UNDECIDED : goal.decide_line-returns-then-old-eq-UNDECIDED
decide_line-returns-then-old-eq-UNDECIDED t c =
    let g = grid_in c.args.kinds.now in
    rw c.end.ensures (all_done c.args.kinds.now _ c.args.direction c.args.v c.requires.2 c.requires.0 _ c.slot_from-slot.ensures c.if-old-eq-UNDECIDED.true _ c.second-q.ensures _ c.begin_line.ensures (goes_on _ _ c.has_ended.ensures c.if-has_ended.false) _ _ c.end_at-a.ensures c.end_at-b.ensures _
    (done_then g c.shape.ensures (done_then g c.check.ensures (done_then g c.check-then-old-eq-UNDECIDED.ensures (done_then g c.check_end.ensures c.check_end-then-old-eq-UNDECIDED.ensures)))))

pub decide_line-returns-then-old-eq-LINE : goal.decide_line-returns-then-old-eq-LINE
decide_line-returns-then-old-eq-LINE t c = rw c.end-then-old-eq-LINE.ensures (again c.args.kinds.now _ c.args.direction c.args.v c.requires.2 c.requires.0 _ c.slot_from-slot.ensures c.if-old-eq-LINE.true)

pub decide_line-returns : goal.decide_line-returns
decide_line-returns t c = rw c.stop.ensures (raised c.args.kinds.now _ c.args.direction c.args.v c.requires.2 c.requires.0 _ c.slot_from-slot.ensures c.if-old-eq-UNDECIDED.false c.if-old-eq-LINE.false)

pub shape_down-detour-requires : goal.shape_down-detour-requires
shape_down-detour-requires t c =
    (omega (arith, c.decreases), (omega (arith, c.requires.1, c.args.kinds.now.told.largest_width), omega (arith, c.requires.1, c.args.kinds.now.told.largest_width), omega (arith, c.requires.1, c.args.kinds.now.told.largest_width), (λ o. (same_on (down_left c.args.kinds.now c.args.v c.requires.0) (down_left_below c.args.kinds.now c.args.v c.requires.0) o, down_far_left c.args.kinds.now c.args.v c.requires.0 (sym (down_left c.args.kinds.now c.args.v c.requires.0) ∙ o))), c.requires.2))

pub shape_down-detour-requires-2 : goal.shape_down-detour-requires-2
shape_down-detour-requires-2 t c =
    (omega (arith, c.decreases, c.detour.ensures.fewer), (omega (arith, c.requires.1, c.args.kinds.now.told.largest_width), omega (arith, c.requires.1, c.args.kinds.now.told.largest_width), omega (arith, c.requires.1, c.args.kinds.now.told.largest_width), (λ o. (same_on (down_left_below c.args.kinds.now c.args.v c.requires.0) (down_left c.args.kinds.now c.args.v c.requires.0) o, down_far_left c.args.kinds.now c.args.v c.requires.0 (sym (down_left_below c.args.kinds.now c.args.v c.requires.0) ∙ o))), c.detour.ensures.ready))

pub shape_down-detour-requires-3 : goal.shape_down-detour-requires-3
shape_down-detour-requires-3 t c =
    (omega (arith, c.decreases, c.detour.ensures.fewer, c.detour-2.ensures.fewer, c.far_detour.ensures.fewer), (omega (arith, c.requires.1, c.args.kinds.now.told.largest_width), omega (arith, c.requires.1, c.args.kinds.now.told.largest_width), omega (arith, c.requires.1, c.args.kinds.now.told.largest_width), (λ o. (same_on (down_right c.args.kinds.now c.args.v c.requires.0) (down_right_below c.args.kinds.now c.args.v c.requires.0) o, down_far_right c.args.kinds.now c.args.v c.requires.0 (sym (down_right c.args.kinds.now c.args.v c.requires.0) ∙ o))), c.far_detour.ensures.ready))

pub shape_down-detour-requires-4 : goal.shape_down-detour-requires-4
shape_down-detour-requires-4 t c =
    (omega (arith, c.decreases, c.detour.ensures.fewer, c.detour-2.ensures.fewer, c.far_detour.ensures.fewer, c.detour-3.ensures.fewer), (omega (arith, c.requires.1, c.args.kinds.now.told.largest_width), omega (arith, c.requires.1, c.args.kinds.now.told.largest_width), omega (arith, c.requires.1, c.args.kinds.now.told.largest_width), (λ o. (same_on (down_right_below c.args.kinds.now c.args.v c.requires.0) (down_right c.args.kinds.now c.args.v c.requires.0) o, down_far_right c.args.kinds.now c.args.v c.requires.0 (sym (down_right_below c.args.kinds.now c.args.v c.requires.0) ∙ o))), c.detour-3.ensures.ready))

pub shape_down-corner-requires-2 : goal.shape_down-corner-requires-2
shape_down-corner-requires-2 t c =
    (omega (arith, c.decreases, c.detour.ensures.fewer, c.detour-2.ensures.fewer, c.far_detour.ensures.fewer, c.detour-3.ensures.fewer, c.detour-4.ensures.fewer, c.far_detour-2.ensures.fewer, c.corner.ensures.fewer), (omega (arith, c.requires.1, c.args.kinds.now.told.largest_width), omega (arith, c.requires.1, c.args.kinds.now.told.largest_width), (λ o. down_right_corner c.args.kinds.now c.args.v c.requires.0 _ refl o), c.corner.ensures.ready))

pub shape_down-bar-requires : goal.shape_down-bar-requires
shape_down-bar-requires t c =
    (omega (arith, c.decreases, c.detour.ensures.fewer, c.detour-2.ensures.fewer, c.far_detour.ensures.fewer, c.detour-3.ensures.fewer, c.detour-4.ensures.fewer, c.far_detour-2.ensures.fewer, c.corner.ensures.fewer, c.corner-2.ensures.fewer), (omega (arith, c.requires.1, c.args.kinds.now.told.largest_width), omega (arith, c.requires.1, c.args.kinds.now.told.largest_width), down_left_bar_on c.args.kinds.now c.args.v c.requires.0, c.corner-2.ensures.ready))

pub shape_down-bar-requires-2 : goal.shape_down-bar-requires-2
shape_down-bar-requires-2 t c =
    (omega (arith, c.decreases, c.detour.ensures.fewer, c.detour-2.ensures.fewer, c.far_detour.ensures.fewer, c.detour-3.ensures.fewer, c.detour-4.ensures.fewer, c.far_detour-2.ensures.fewer, c.corner.ensures.fewer, c.corner-2.ensures.fewer, c.bar.ensures.fewer), (omega (arith, c.requires.1, c.args.kinds.now.told.largest_width), omega (arith, c.requires.1, c.args.kinds.now.told.largest_width), down_right_bar_on c.args.kinds.now c.args.v c.requires.0, c.bar.ensures.ready))

pub shape_right-detour-requires : goal.shape_right-detour-requires
shape_right-detour-requires t c =
    (omega (arith, c.decreases), (omega (arith, c.requires.1, c.args.kinds.now.told.largest_width), omega (arith, c.requires.1, c.args.kinds.now.told.largest_width), omega (arith, c.requires.1, c.args.kinds.now.told.largest_width), all_on (right_up_left c.args.kinds.now c.args.v c.requires.0) (right_up_right c.args.kinds.now c.args.v c.requires.0) (right_up c.args.kinds.now c.args.v c.requires.0), c.requires.2))

pub shape_right-detour-requires-2 : goal.shape_right-detour-requires-2
shape_right-detour-requires-2 t c =
    (omega (arith, c.decreases, c.detour.ensures.fewer), (omega (arith, c.requires.1, c.args.kinds.now.told.largest_width), omega (arith, c.requires.1, c.args.kinds.now.told.largest_width), omega (arith, c.requires.1, c.args.kinds.now.told.largest_width), all_on (right_up_right c.args.kinds.now c.args.v c.requires.0) (right_up_left c.args.kinds.now c.args.v c.requires.0) (right_up c.args.kinds.now c.args.v c.requires.0), c.detour.ensures.ready))

pub shape_right-detour-requires-3 : goal.shape_right-detour-requires-3
shape_right-detour-requires-3 t c =
    (omega (arith, c.decreases, c.detour.ensures.fewer, c.detour-2.ensures.fewer), (omega (arith, c.requires.1, c.args.kinds.now.told.largest_width), omega (arith, c.requires.1, c.args.kinds.now.told.largest_width), omega (arith, c.requires.1, c.args.kinds.now.told.largest_width), all_on (right_up c.args.kinds.now c.args.v c.requires.0) (right_up_left c.args.kinds.now c.args.v c.requires.0) (right_up_right c.args.kinds.now c.args.v c.requires.0), c.detour-2.ensures.ready))

pub shape_right-detour-requires-4 : goal.shape_right-detour-requires-4
shape_right-detour-requires-4 t c =
    (omega (arith, c.decreases, c.detour.ensures.fewer, c.detour-2.ensures.fewer, c.detour-3.ensures.fewer), (omega (arith, c.requires.1, c.args.kinds.now.told.largest_width), omega (arith, c.requires.1, c.args.kinds.now.told.largest_width), omega (arith, c.requires.1, c.args.kinds.now.told.largest_width), all_on (right_left c.args.kinds.now c.args.v c.requires.0) (right_right c.args.kinds.now c.args.v c.requires.0) (right_below c.args.kinds.now c.args.v c.requires.0), c.detour-3.ensures.ready))

pub shape_right-detour-requires-5 : goal.shape_right-detour-requires-5
shape_right-detour-requires-5 t c =
    (omega (arith, c.decreases, c.detour.ensures.fewer, c.detour-2.ensures.fewer, c.detour-3.ensures.fewer, c.detour-4.ensures.fewer), (omega (arith, c.requires.1, c.args.kinds.now.told.largest_width), omega (arith, c.requires.1, c.args.kinds.now.told.largest_width), omega (arith, c.requires.1, c.args.kinds.now.told.largest_width), all_on (right_right c.args.kinds.now c.args.v c.requires.0) (right_left c.args.kinds.now c.args.v c.requires.0) (right_below c.args.kinds.now c.args.v c.requires.0), c.detour-4.ensures.ready))

pub shape_right-detour-requires-6 : goal.shape_right-detour-requires-6
shape_right-detour-requires-6 t c =
    (omega (arith, c.decreases, c.detour.ensures.fewer, c.detour-2.ensures.fewer, c.detour-3.ensures.fewer, c.detour-4.ensures.fewer, c.detour-5.ensures.fewer), (omega (arith, c.requires.1, c.args.kinds.now.told.largest_width), omega (arith, c.requires.1, c.args.kinds.now.told.largest_width), omega (arith, c.requires.1, c.args.kinds.now.told.largest_width), all_on (right_below c.args.kinds.now c.args.v c.requires.0) (right_left c.args.kinds.now c.args.v c.requires.0) (right_right c.args.kinds.now c.args.v c.requires.0), c.detour-5.ensures.ready))

pub shape_right-corner-requires : goal.shape_right-corner-requires
shape_right-corner-requires t c =
    (omega (arith, c.decreases, c.detour.ensures.fewer, c.detour-2.ensures.fewer, c.detour-3.ensures.fewer, c.detour-4.ensures.fewer, c.detour-5.ensures.fewer, c.detour-6.ensures.fewer), (omega (arith, c.requires.1, c.args.kinds.now.told.largest_width), omega (arith, c.requires.1, c.args.kinds.now.told.largest_width), right_corner c.args.kinds.now c.args.v c.requires.0 _ refl, c.detour-6.ensures.ready))

pub shape_right-corner-requires-2 : goal.shape_right-corner-requires-2
shape_right-corner-requires-2 t c =
    (omega (arith, c.decreases, c.detour.ensures.fewer, c.detour-2.ensures.fewer, c.detour-3.ensures.fewer, c.detour-4.ensures.fewer, c.detour-5.ensures.fewer, c.detour-6.ensures.fewer, c.corner.ensures.fewer), (omega (arith, c.requires.1, c.args.kinds.now.told.largest_width), omega (arith, c.requires.1, c.args.kinds.now.told.largest_width), left_corner c.args.kinds.now c.args.v c.requires.0 _ refl, c.corner.ensures.ready))

pub shape_right-bar-requires : goal.shape_right-bar-requires
shape_right-bar-requires t c =
    (omega (arith, c.decreases, c.detour.ensures.fewer, c.detour-2.ensures.fewer, c.detour-3.ensures.fewer, c.detour-4.ensures.fewer, c.detour-5.ensures.fewer, c.detour-6.ensures.fewer, c.corner.ensures.fewer, c.corner-2.ensures.fewer), (omega (arith, c.requires.1, c.args.kinds.now.told.largest_width), omega (arith, c.requires.1, c.args.kinds.now.told.largest_width), right_bar_on c.args.kinds.now c.args.v c.requires.0, c.corner-2.ensures.ready))

pub shape_right-bar-requires-2 : goal.shape_right-bar-requires-2
shape_right-bar-requires-2 t c =
    (omega (arith, c.decreases, c.detour.ensures.fewer, c.detour-2.ensures.fewer, c.detour-3.ensures.fewer, c.detour-4.ensures.fewer, c.detour-5.ensures.fewer, c.detour-6.ensures.fewer, c.corner.ensures.fewer, c.corner-2.ensures.fewer, c.bar.ensures.fewer), (omega (arith, c.requires.1, c.args.kinds.now.told.largest_width), omega (arith, c.requires.1, c.args.kinds.now.told.largest_width), left_bar_on c.args.kinds.now c.args.v c.requires.0, c.bar.ensures.ready))

pub shape_right-returns : goal.shape_right-returns
shape_right-returns t c =
    let g = grid_in c.args.kinds.now in
    done_as g (append-nil _) (right_done c.args.kinds.now c.args.v c.requires.0 _
    (done_then g c.detour.ensures (done_then g c.detour-2.ensures (done_then g c.detour-3.ensures (done_then g c.detour-4.ensures (done_then g c.detour-5.ensures (done_then g c.detour-6.ensures (done_then g c.corner.ensures (done_then g c.corner-2.ensures (done_then g c.bar.ensures (done_then g c.bar-2.ensures (done_nothing g 1 _ c.bar-2.ensures.ready))))))))))))

pub shape_down-returns : goal.shape_down-returns
shape_down-returns t c =
    let g = grid_in c.args.kinds.now in
    done_as g (append-nil _) (down_done c.args.kinds.now c.args.v c.requires.0 _
    (done_then g c.detour.ensures (done_then g c.detour-2.ensures (done_then g c.far_detour.ensures (done_then g c.detour-3.ensures (done_then g c.detour-4.ensures (done_then g c.far_detour-2.ensures (done_then g c.corner.ensures (done_then g c.corner-2.ensures (done_then g c.bar.ensures (done_then g c.bar-2.ensures (done_nothing g 1 _ c.bar-2.ensures.ready))))))))))))

pub decide_none-store-requires : goal.decide_none-store-requires
decide_none-store-requires t c = (c.requires.0, none_room c.args.kinds.now _ c.args.slot c.requires.0 c.requires.1 c.if-state-eq-UNDECIDED.true)

pub decide_none-first_pad-v-requires : goal.decide_none-first_pad-v-requires
decide_none-first_pad-v-requires t c = none_high c.args.kinds.now _ c.args.slot c.requires.0 c.requires.1 c.if-state-eq-UNDECIDED.true

pub decide_none-second_pad-q-requires : goal.decide_none-second_pad-q-requires
decide_none-second_pad-q-requires t c = (none_high c.args.kinds.now _ c.args.slot c.requires.0 c.requires.1 c.if-state-eq-UNDECIDED.true, c.requires.0, c.args.kinds.now.told.largest_width)

pub decide_none-overflow_add-board : goal.decide_none-overflow_add-board
decide_none-overflow_add-board t c = omega (arith, ap (λ (s : Arrays). s.count) c.go_on.ensures, ap (λ (s : Arrays). going s.count) c.store.ensures, (going_count c.args.board.now.count c.requires.1.mode).1)

pub decide_none-check-requires : goal.decide_none-check-requires
decide_none-check-requires t c =
    let st = none_is_stored c.args.kinds.now _ c.args.slot c.requires.0 c.requires.1 c.if-state-eq-UNDECIDED.true _ (c.go_on.ensures ∙ ap (λ (s : Arrays). with_count s (going s.count)) c.store.ensures) in
    (omega (arith, c.decreases, st.less), (none_first c.args.kinds.now _ c.args.slot c.requires.0 c.requires.1 c.if-state-eq-UNDECIDED.true _ c.first_pad-v.ensures, st.ready))

pub decide_none-check-requires-then-state-eq-UNDECIDED : goal.decide_none-check-requires-then-state-eq-UNDECIDED
decide_none-check-requires-then-state-eq-UNDECIDED t c =
    let st = none_is_stored c.args.kinds.now _ c.args.slot c.requires.0 c.requires.1 c.if-state-eq-UNDECIDED.true _ (c.go_on.ensures ∙ ap (λ (s : Arrays). with_count s (going s.count)) c.store.ensures) in
    (omega (arith, c.decreases, st.less, c.check.ensures.fewer), (none_second c.args.kinds.now _ c.args.slot c.requires.0 c.requires.1 c.if-state-eq-UNDECIDED.true _ c.second_pad-q.ensures, c.check.ensures.ready))

pub decide_none-returns-then-state-eq-UNDECIDED : goal.decide_none-returns-then-state-eq-UNDECIDED
decide_none-returns-then-state-eq-UNDECIDED t c = rw c.end.ensures (none_returns c.args.kinds.now _ c.args.slot c.requires.0 c.requires.1 c.if-state-eq-UNDECIDED.true _ (c.go_on.ensures ∙ ap (λ (s : Arrays). with_count s (going s.count)) c.store.ensures) _ _ c.first_pad-v.ensures c.second_pad-q.ensures _ _ c.check.ensures c.check-then-state-eq-UNDECIDED.ensures)

pub decide_none-returns-then-state-eq-LINE : goal.decide_none-returns-then-state-eq-LINE
decide_none-returns-then-state-eq-LINE t c = rw c.stop.ensures (none_raised c.args.kinds.now _ c.args.slot c.requires.0 c.requires.1 c.if-state-eq-UNDECIDED.false c.if-state-eq-LINE.true)

pub decide_none-returns : goal.decide_none-returns
decide_none-returns t c = rw c.end-2.ensures (none_again c.args.kinds.now _ c.args.slot c.requires.0 c.requires.1 c.if-state-eq-UNDECIDED.false c.if-state-eq-LINE.false)

pub detour-returns-then-has_ended : goal.detour-returns-then-has_ended
detour-returns-then-has_ended t c = done_ended (grid_in c.args.kinds.now) 1 _ _ c.requires.4 (has_ended _ _ c.has_ended.ensures c.if-has_ended.true)

pub detour-returns-then-board-a-ne-LINE : goal.detour-returns-then-board-a-ne-LINE
detour-returns-then-board-a-ne-LINE t c = detour_off (grid_in c.args.kinds.now) _ c.requires.4 c.args.a c.args.b c.args.c c.requires.0 (goes_on _ _ c.has_ended.ensures c.if-has_ended.false) c.if-board-a-ne-LINE.true

pub detour-returns-then-has_ended-2 : goal.detour-returns-then-has_ended-2
detour-returns-then-has_ended-2 t c =
    detour_first (grid_in c.args.kinds.now) _ c.requires.4 c.args.a c.args.b c.args.c c.requires.0 (goes_on _ _ c.has_ended.ensures c.if-has_ended.false) c.if-board-a-ne-LINE.false _ (c.decide_none.ensures.acts (c.requires.3 (slot_is_on (grid_in c.args.kinds.now) _ c.requires.4 c.args.a c.requires.0 (omega (arith, c.if-board-a-ne-LINE.false)))).0) (has_ended _ _ c.has_ended-2.ensures c.if-has_ended-2.true)

pub detour-returns : goal.detour-returns
detour-returns t c =
    detour_both (grid_in c.args.kinds.now) _ c.requires.4 c.args.a c.args.b c.args.c c.requires.0 (goes_on _ _ c.has_ended.ensures c.if-has_ended.false) c.if-board-a-ne-LINE.false _ _ (c.decide_none.ensures.acts (c.requires.3 (slot_is_on (grid_in c.args.kinds.now) _ c.requires.4 c.args.a c.requires.0 (omega (arith, c.if-board-a-ne-LINE.false)))).0) (goes_on _ _ c.has_ended-2.ensures c.if-has_ended-2.false) (c.decide_none-2.ensures.acts (c.requires.3 (slot_is_on (grid_in c.args.kinds.now) _ c.requires.4 c.args.a c.requires.0 (omega (arith, c.if-board-a-ne-LINE.false)))).1)

pub decide_line-check_end-requires : goal.decide_line-check_end-requires
decide_line-check_end-requires t c =
    let stored = is_stored c.args.kinds.now _ c.args.direction c.args.v c.requires.2 c.requires.0 _ c.slot_from-slot.ensures c.if-old-eq-UNDECIDED.true _ c.second-q.ensures _ c.begin_line.ensures (goes_on _ _ c.has_ended.ensures c.if-has_ended.false) in
    (omega (arith, c.decreases, stored.less, c.shape.ensures.fewer, c.check.ensures.fewer, c.check-then-old-eq-UNDECIDED.ensures.fewer), (first_end c.args.kinds.now _ c.args.direction c.args.v c.requires.2 c.requires.0 _ c.slot_from-slot.ensures c.if-old-eq-UNDECIDED.true _ c.second-q.ensures _ c.end_at-a.ensures, c.check-then-old-eq-UNDECIDED.ensures.ready))

pub decide_line-check_end-requires-then-old-eq-UNDECIDED : goal.decide_line-check_end-requires-then-old-eq-UNDECIDED
decide_line-check_end-requires-then-old-eq-UNDECIDED t c =
    let stored = is_stored c.args.kinds.now _ c.args.direction c.args.v c.requires.2 c.requires.0 _ c.slot_from-slot.ensures c.if-old-eq-UNDECIDED.true _ c.second-q.ensures _ c.begin_line.ensures (goes_on _ _ c.has_ended.ensures c.if-has_ended.false) in
    (omega (arith, c.decreases, stored.less, c.shape.ensures.fewer, c.check.ensures.fewer, c.check-then-old-eq-UNDECIDED.ensures.fewer, c.check_end.ensures.fewer), (second_end c.args.kinds.now _ c.args.direction c.args.v c.requires.2 c.requires.0 _ c.slot_from-slot.ensures c.if-old-eq-UNDECIDED.true _ c.second-q.ensures _ c.end_at-b.ensures, c.check_end.ensures.ready))

pub check-returns-then-has_ended : goal.check-returns-then-has_ended
check-returns-then-has_ended t c = done_ended (grid_in c.args.kinds.now) 1 _ _ c.requires.1 (has_ended _ _ c.has_ended.ensures c.if-has_ended.true)

pub check_end-returns-in-Pad : goal.check_end-returns-in-Pad
unfolding pad_number
check_end-returns-in-Pad t c = rw c.in-Pad.is c.check.ensures

pub check_end-returns-in_default : goal.check_end-returns-in_default
check_end-returns-in_default t c = no_pad (grid_in c.args.kinds.now) _ c.requires.1 c.args.end c.in_default.not-Pad

pub check_pad-returns-then-has_ended : goal.check_pad-returns-then-has_ended
check_pad-returns-then-has_ended t c = ends c.args.kinds.now _ _ c.requires.2 c.args.v c.requires.0 c.requires.1 c.keep_clues_apart.ensures _ c.has_ended.ensures c.if-has_ended.true

pub check_pad-first_pad-requires : goal.check_pad-first_pad-requires
check_pad-first_pad-requires t c = slot_high c.args.kinds.now _ c.keep_clues_apart.ensures.ready c.args.v c.requires.0 c.in-Line.slot c.in-Line.ensures.at_slot.0 c.in-Line.ensures.at_slot.1

pub check_pad-decide_line-requires : goal.check_pad-decide_line-requires
check_pad-decide_line-requires t c =
    (omega (arith, c.decreases, c.keep_clues_apart.ensures.fewer), (ap (on_board (grid_in c.args.kinds.now)) (ap (edge_to c.direction_at.result) c.first_pad.ensures ∙ c.direction_at.ensures) ∙ slot_there c.args.kinds.now _ c.keep_clues_apart.ensures.ready c.args.v c.requires.0 c.in-Line.slot c.in-Line.ensures.at_slot.0 c.in-Line.ensures.at_slot.1, rw c.first_pad.ensures (slot_pad c.args.kinds.now _ c.keep_clues_apart.ensures.ready c.args.v c.requires.0 c.in-Line.slot c.in-Line.ensures.at_slot.0 c.in-Line.ensures.at_slot.1), c.keep_clues_apart.ensures.ready))

pub check_pad-returns-in-Nothing : goal.check_pad-returns-in-Nothing
check_pad-returns-in-Nothing t c = rw c.end.ensures (nothing c.args.kinds.now _ _ c.requires.2 c.args.v c.requires.0 c.requires.1 c.keep_clues_apart.ensures _ c.has_ended.ensures c.if-has_ended.false c.in-Nothing.ensures.acts)

pub check_pad-returns-in-Flag : goal.check_pad-returns-in-Flag
check_pad-returns-in-Flag t c = rw c.stop.ensures (raises c.args.kinds.now _ _ c.requires.2 c.args.v c.requires.0 c.requires.1 c.keep_clues_apart.ensures _ c.has_ended.ensures c.if-has_ended.false c.in-Flag.ensures.acts)

pub check_pad-returns-in-NoLine : goal.check_pad-returns-in-NoLine
check_pad-returns-in-NoLine t c = leaves c.args.kinds.now _ _ c.requires.2 c.args.v c.requires.0 c.requires.1 c.keep_clues_apart.ensures _ c.has_ended.ensures c.if-has_ended.false c.in-NoLine.slot c.in-NoLine.ensures.at_slot _ c.in-NoLine.ensures.acts c.decide_none.ensures

pub check_pad-returns-in-Line : goal.check_pad-returns-in-Line
check_pad-returns-in-Line t c = draws c.args.kinds.now _ _ c.requires.2 c.args.v c.requires.0 c.requires.1 c.keep_clues_apart.ensures _ c.has_ended.ensures c.if-has_ended.false c.in-Line.slot c.in-Line.ensures.at_slot _ c.in-Line.ensures.acts _ (ap (edge_to c.direction_at.result) c.first_pad.ensures ∙ c.direction_at.ensures) c.decide_line.ensures

pub keep_clues_apart-some_apart-requires : goal.keep_clues_apart-some_apart-requires
keep_clues_apart-some_apart-requires t c = (small_pad c.args.kinds.now _ c.requires.2 c.args.v c.requires.0, c.args.kinds.now.told.least_width, c.args.kinds.now.told.largest_width, past_left c.args.kinds.now _ c.requires.2 c.args.v c.requires.0, past_up c.args.kinds.now _ c.requires.2 c.args.v c.requires.0)

pub keep_clues_apart-returns-then-not-some_apart : goal.keep_clues_apart-returns-then-not-some_apart
keep_clues_apart-returns-then-not-some_apart t c = no_apart c.args.kinds.now _ c.requires.2 c.args.v c.requires.0 c.requires.1 (sym c.some_apart.ensures ∙ c.if-not-some_apart.true)

pub keep_clues_apart-keep_apart-requires : goal.keep_clues_apart-keep_apart-requires
keep_clues_apart-keep_apart-requires t c = (omega (arith, c.decreases), (omega (arith, small_pad c.args.kinds.now _ c.requires.2 c.args.v c.requires.0), omega (arith, small_pad c.args.kinds.now _ c.requires.2 c.args.v c.requires.0), (λ on. omega (arith, left_there c.args.kinds.now _ c.requires.2 c.args.v c.requires.0 on)), c.requires.2))

pub keep_clues_apart-keep_apart-requires-in-Clue-2 : goal.keep_clues_apart-keep_apart-requires-in-Clue-2
keep_clues_apart-keep_apart-requires-in-Clue-2 t c = (omega (arith, c.decreases, c.keep_apart.ensures.fewer, c.keep_apart-in-Clue.ensures.fewer), (omega (arith, small_pad c.args.kinds.now _ c.requires.2 c.args.v c.requires.0), omega (arith, small_pad c.args.kinds.now _ c.requires.2 c.args.v c.requires.0), (λ on. omega (arith, up_there c.args.kinds.now _ c.requires.2 c.args.v c.requires.0 on)), c.keep_apart-in-Clue.ensures.ready))

pub keep_clues_apart-returns-in-Clue : goal.keep_clues_apart-returns-in-Clue
keep_clues_apart-returns-in-Clue t c = four_apart c.args.kinds.now _ c.requires.2 c.args.v c.requires.0 c.in-Clue.code c.in-Clue.ensures c.keep_apart.ensures c.keep_apart-in-Clue.ensures c.keep_apart-in-Clue-2.ensures c.keep_apart-in-Clue-3.ensures

pub keep_clues_apart-returns-in_default : goal.keep_clues_apart-returns-in_default
keep_clues_apart-returns-in_default t c = no_clue c.args.kinds.now _ c.requires.2 c.args.v c.requires.0 c.end_at.result c.end_at.ensures c.in_default.not-Clue

pub keep_apart-returns-then-has_ended : goal.keep_apart-returns-then-has_ended
keep_apart-returns-then-has_ended t c = apart_ends (grid_in c.args.kinds.now) _ c.requires.3 c.args.code c.args.slot c.args.past c.requires.0 (has_ended _ _ c.has_ended.ensures c.if-has_ended.true)

pub keep_apart-returns-then-keeps_apart : goal.keep_apart-returns-then-keeps_apart
keep_apart-returns-then-keeps_apart t c = apart_decides (grid_in c.args.kinds.now) _ c.requires.3 c.args.code c.args.slot c.args.past c.requires.0 (goes_on _ _ c.has_ended.ensures c.if-has_ended.false) (sym c.keeps_apart.ensures ∙ c.if-keeps_apart.true) _ c.decide_none.ensures

pub keep_apart-returns-else-keeps_apart : goal.keep_apart-returns-else-keeps_apart
keep_apart-returns-else-keeps_apart t c = apart_rests (grid_in c.args.kinds.now) _ c.requires.3 c.args.code c.args.slot c.args.past c.requires.0 (goes_on _ _ c.has_ended.ensures c.if-has_ended.false) (sym c.keeps_apart.ensures ∙ c.if-keeps_apart.false)

pub far_detour-returns-else-has : goal.far_detour-returns-else-has
far_detour-returns-else-has t c = no_side (grid_in c.args.kinds.now) _ c.requires.5 c.args.far c.args.beside c.args.below _ _ c.has.ensures c.if-has.false

pub shape_down-far_detour-requires : goal.shape_down-far_detour-requires
shape_down-far_detour-requires t c =
    (omega (arith, c.decreases, c.detour.ensures.fewer, c.detour-2.ensures.fewer), (omega (arith, c.requires.1), omega (arith, c.requires.1, c.args.kinds.now.told.largest_width), omega (arith, c.requires.1, c.args.kinds.now.told.largest_width), omega (arith, c.requires.1, c.args.kinds.now.told.largest_width), (λ h. (down_left c.args.kinds.now c.args.v c.requires.0 ∙ far_left_on c.args.kinds.now c.args.v c.requires.0 h, down_left_below c.args.kinds.now c.args.v c.requires.0 ∙ far_left_on c.args.kinds.now c.args.v c.requires.0 h)), c.detour-2.ensures.ready))

pub shape_down-far_detour-requires-2 : goal.shape_down-far_detour-requires-2
shape_down-far_detour-requires-2 t c =
    (omega (arith, c.decreases, c.detour.ensures.fewer, c.detour-2.ensures.fewer, c.far_detour.ensures.fewer, c.detour-3.ensures.fewer, c.detour-4.ensures.fewer), (omega (arith, c.requires.1), omega (arith, c.requires.1, c.args.kinds.now.told.largest_width), omega (arith, c.requires.1, c.args.kinds.now.told.largest_width), omega (arith, c.requires.1, c.args.kinds.now.told.largest_width), (λ h. (down_right c.args.kinds.now c.args.v c.requires.0 ∙ far_right_on c.args.kinds.now c.args.v c.requires.0 h, down_right_below c.args.kinds.now c.args.v c.requires.0 ∙ far_right_on c.args.kinds.now c.args.v c.requires.0 h)), c.detour-4.ensures.ready))
