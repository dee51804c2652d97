-- `boardundo::unjoin` meets its contract.
use Prim.Native.Nat.{◌+◌, ◌*◌}
use lib.IntN.{pos}
use lib.ListN.{get_or}
use native.Mathlib.Omega.{arith}
use mathlib.Core.Path.{refl, sym, ap, ◌∙◌}
use Rattle.model.specs.JoinedEnds.{is_through}
use Rattle.boardview.specs.Signed.{back, slot_number}
use Rattle.boardview.specs.View.{end_of, unjoined}
use Rattle.boardparts.specs.Ends.{end_told, not_through}
use Rattle.boardundo.proofs.unjoin.Goals as goal

pub returns-in-Through : goal.returns-in-Through
unfolding unjoined
returns-in-Through c =
    let a = back (get_or c.args.log.now (3 * c.args.k + 1) (pos 0)) (record { sfits = c.a-1.given }) in
    let first = ap is_through (ap end_of (sym a) ∙ (sym c.from-first_end.ensures ∙ ap end_told c.in-Through.is)) in
    rw first refl

pub returns : goal.returns
unfolding unjoined
returns c =
    let a = back (get_or c.args.log.now (3 * c.args.k + 1) (pos 0)) (record { sfits = c.a-1.given }) in
    let b = back (get_or c.args.log.now (3 * c.args.k + 2) (pos 0)) (record { sfits = c.b-1.given }) in
    let first = c.from-first_end.ensures ∙ ap end_of a in
    let second = c.from.ensures ∙ ap end_of b in
    let some = ap is_through (sym first) ∙ not_through c.from-first_end.result c.in_default.not-Through in
    c.put_number-2.ensures ∙ rw (c.put_number.ensures, first, second, a, b, slot_number c.args.v (omega arith), slot_number c.args.q (omega arith), some) refl
