-- Where less than a record of room is left the buffer is full; else the record is put behind those before it. Assumes nothing.
use mathlib.Core.Path.{◌≡◌, refl, ap, ◌∙◌}
use native.Mathlib.Omega.{arith}
use Prim.Native.Nat.{ℕ, ◌*◌, ◌-◌, ◌<◌}
use lib.ListN.{length}
use Rattle.std.proofs.lemmas.Result.{err_from_is_err_and}
use Rattle.rules.specs.Grid.{places}
use Rattle.boardview.specs.View.{grid_in}
use Rattle.boardview.specs.ShownRecordLaws.{shown_length}
use Rattle.runs.specs.Layouts.{full, added}
use Rattle.searchparts.proofs.add_layout.Goals as goal

pub returns-in_err-at : goal.returns-in_err-at
returns-in_err-at c =
    let p = err_from_is_err_and c.from_residual.result c.from_residual.ensures.1 in
    let short : length c.args.buffer.now - c.args.tally.now.layouts * places (grid_in c.args.kinds.now).height (grid_in c.args.kinds.now).width < places (grid_in c.args.kinds.now).height (grid_in c.args.kinds.now).width = rw c.places.ensures at c.in_err-at.ensures.1 in
    rw (p.1, p.2, c.in_err-at.ensures.0) (record { added = full _ _ _ _ _ c.requires.1 short; none_visited = refl })

pub returns : goal.returns
returns c =
    let at = c.in_ok-at.ensures in
    let its_place : c.in_ok-at.at ≡ c.args.tally.now.layouts * places (grid_in c.args.kinds.now).height (grid_in c.args.kinds.now).width = at.0 ∙ ap (λ (k : ℕ). c.args.tally.now.layouts * k) c.places.ensures in
    let put = c.put_record-lines.ensures in
    rw c.add.ensures (record { added = added _ _ _ _ _ _ _ _ _ (shown_length _ _) its_place c.requires.1 (omega (arith, at.1, its_place, c.places.ensures)) put.0 put.1 refl; none_visited = refl })
