-- `judging::judge_record` meets its contract: the length, the record followed from the bare ends, and the verdict by the pads. Assumes
-- nothing.
use mathlib.Core.Path.{sym, ◌∙◌}
use Rattle.judging.proofs.Answers.{no_layout, a_layout}
use Rattle.judging.proofs.Ordinary.{bare_in_use, not_followed, by_the_pads, all_lines, wrong_length}
use Rattle.judging.proofs.judge_record.Goals as goal

pub returns-then-bytes-places : goal.returns-then-bytes-places
returns-then-bytes-places c = no_layout _ _ c.answered.ensures (wrong_length _ _ _ c.args.grid.now.accepted _ (λ is. c.if-bytes-places.true (is ∙ sym c.places.ensures)))

pub follow_record-requires : goal.follow_record-requires
follow_record-requires c = (c.if-bytes-places.false ∙ c.places.ensures, bare_in_use _ _ _ c.args.grid.now.accepted _ c.bare_ends-ends.ensures)

pub returns-in-None : goal.returns-in-None
returns-in-None c =
    no_layout _ _ c.answered-in-None.ensures
    (not_followed _ _ _ c.args.grid.now.accepted _ c.bare_ends-ends.ensures _ (c.if-bytes-places.false ∙ c.places.ensures) c.follow_record.ensures c.in-None.is)

pub returns-in-Some : goal.returns-in-Some
returns-in-Some c =
    let ok = c.args.grid.now.accepted in
    let bare = c.bare_ends-ends.ensures in
    let long = c.if-bytes-places.false ∙ c.places.ensures in
    let followed = c.follow_record.ensures in
    let right = c.in-Some.is in
    a_layout _ _ _ _ c.answered-in-Some.ensures (c.pads_verdict.ensures ∙ by_the_pads _ _ _ ok _ bare _ long followed right) (all_lines _ _ _ ok _ bare _ long followed right)
