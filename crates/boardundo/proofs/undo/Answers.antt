-- `boardundo::undo` meets its contract.
use Rattle.boardview.specs.Unwind.{back_to, before, unwound_step}
use mathlib.Core.List.{List}
use lib.IntN.{ℤ}
use Rattle.boardview.specs.declared.Arrays.{Arrays}
use Rattle.boardview.specs.View.{logged, undone_one, unwound}
use Prim.Native.Nat.{ℕ, ◌-◌}
use native.Mathlib.Omega.{arith}
use mathlib.Core.Path.{◌≡◌, sym, ap, ◌∙◌}
use Rattle.boardundo.proofs.undo.Goals as goal

pub loop-k-preserved : goal.loop-k-preserved
loop-k-preserved c =
    let inv = c.loop-k.invariant in
    let is = c.undo_one.ensures in
    let w : ℕ = c.args.kinds.now.width in
    let least : ℕ = c.length_in-k-start.result in
    let k : ℕ = c.loop-k.k in (
      omega arith,
      omega (arith, inv.1),
      ap (λ (s : Arrays). s.log) is ∙ inv.2,
      ap (λ (s : Arrays). unwound w c.args.board.now.log least (k - 1 - least) (s.edges, s.ends)) is
          ∙ ap (λ (log : List ℤ). unwound w c.args.board.now.log least (k - 1 - least) (undone_one w log (k - 1) (c.loop-k.board.edges, c.loop-k.board.ends))) inv.2
          ∙ sym (unwound_step _ _ _ k _ c.loop-k-test.true)
          ∙ inv.3,
    )

pub returns : goal.returns
unfolding back_to unwound
returns c =
    let least : ℕ = c.length_in-k-start.result in
    let none_left : c.loop-k.k - least ≡ 0 = omega arith in
    let undone : (c.loop-k.board.edges, c.loop-k.board.ends) ≡ before c.args.kinds.now.width c.args.board.now c.args.mark =
    sym (ap (λ (n : ℕ). unwound c.args.kinds.now.width c.args.board.now.log least n (c.loop-k.board.edges, c.loop-k.board.ends)) none_left)
    ∙ (c.loop-k.invariant.3 ∙ ap (λ (m : ℕ). unwound c.args.kinds.now.width c.args.board.now.log m (logged c.args.board.now - m) (c.args.board.now.edges, c.args.board.now.ends)) c.length_in-k-start.ensures) in
    λ i. record { edges = (undone i).0; ends = (undone i).1; log = c.loop-k.invariant.2 i; count = c.args.mark }
