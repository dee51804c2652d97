-- One byte more: the store takes the copy of i numbers to that of i + 1. Assumes nothing.
use Rattle.std.proofs.Common.{◌≡◌, ℤ, List, ◌∙◌, ap, sym, map, ◌+◌, pos, arith, set, get_or, w64, to_z, of_z}
use Rattle.std.proofs.Math.Facts.{to_z-of_z}
use Rattle.std.proofs.Math.ListN.{get_or-map}
use Rattle.std.proofs.lemmas.List.{length-map}
use Rattle.std.proofs.lemmas.List.Edits.{paste_more}
use Rattle.lend.proofs.put_bytes.Goals as goal

pub loop-i-preserved : goal.loop-i-preserved
loop-i-preserved c =
    let stored : to_z w64 (of_z w64 c.from.result) ≡ get_or (map pos c.args.bytes.now) c.loop-i.i (pos 0) = to_z-of_z {w = w64} (record { sfits = c.from.type_inv }) ∙ c.from.ensures ∙ sym (get_or-map pos c.args.bytes.now c.loop-i.i 0) in
    ap (λ (v : ℤ). set c.loop-i.target (c.args.place + c.loop-i.i) v) stored
    ∙ ap (λ (t : List ℤ). set t (c.args.place + c.loop-i.i) (get_or (map pos c.args.bytes.now) c.loop-i.i (pos 0))) c.loop-i.invariant
    ∙ paste_more c.args.target.now c.args.place (map pos c.args.bytes.now) c.loop-i.i (pos 0) (omega arith) (omega (arith, length-map c.args.bytes.now pos))
