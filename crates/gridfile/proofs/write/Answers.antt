-- `gridfile::write` meets its contract: the grid is refused, the buffer is too short, or the text is copied. Assumes nothing.
use Rattle.gridfile.proofs.WriteLaws.{copied}
use mathlib.Core.Path.{ap, ◌∙◌}
use mathlib.Core.List.{List, ◌++◌}
use Prim.Native.Nat.{ℕ}
use lib.ListN.{length, drop}
use Rattle.gridfile.proofs.write.Goals as goal

pub returns : goal.returns
returns c =
    let same = c.in_ok-grid.ensures.same in
    rw (← same.0, ← same.1, ← same.2)
    (copied _ _ _ c.in_ok-grid.grid.accepted (c.as_bytes-whole.ensures.same ∙ c.text_of-text.ensures) _ c.if-buffer-whole.false (ap (λ (text : List ℕ). text ++ drop (length c.as_bytes-whole.result.now) c.args.buffer.now) c.copy_from_slice.ensures.after))
