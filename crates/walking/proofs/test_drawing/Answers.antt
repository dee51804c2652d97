-- What the judge does not find listed is no layout; what it finds listed is added. Assumes nothing.
use mathlib.Core.Path.{refl}
use Rattle.walking.proofs.Tested.{unlisted, no_layout, some_bytes, its_lines, room_so_far, its_layout}
use Rattle.walking.proofs.test_drawing.Goals as goal

pub returns-in-NoLayout : goal.returns-in-NoLayout
returns-in-NoLayout c = (no_layout c.args.grid.now _ _ _ c.requires _ c.judge_record-judged.ensures _ (unlisted _ c.in-NoLayout.is), refl)

pub add_record-requires : goal.add_record-requires
add_record-requires c =
    let says = c.judge_record-judged.ensures in
    let listed = c.in-Listed.is in
    (some_bytes c.args.grid.now _ _ _ c.requires _ says listed, its_lines c.args.grid.now _ _ _ c.requires _ says listed, room_so_far c.args.grid.now _ _ _ c.requires _ says listed)

pub returns-in-Listed : goal.returns-in-Listed
returns-in-Listed c = (its_layout c.args.grid.now _ _ _ c.requires _ c.judge_record-judged.ensures c.in-Listed.is _ _ _ _ _ c.add_record.ensures.0, c.add_record.ensures.1)
