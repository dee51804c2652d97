-- A barred pad never has its two lines. For any drawing whose lines are on the board and which keeps the corner rule: the corner would
-- stand at each pad of the diagonal, all of them blank, and the last of them is at the rim. One law over the side.
use Prim.Native.Nat.{ℕ, zero, suc, ◌+◌, ◌*◌, ◌-◌, ◌%◌, ◌≤◌}
use Rattle.std.specs.Prelude.{◌≡◌, refl, ◌⊎◌}
use Rattle.std.proofs.Common.{sym, ◌∙◌, ap, lt-ltb}
use Rattle.std.proofs.Math.Logic.{⊎_elim}
use Rattle.std.proofs.Math.Bool.{true}
use native.Mathlib.Omega.{arith}
use Rattle.std.proofs.Math.Nat.{add-mod_right, mod-le}
use Rattle.rules.specs.Grid.{Grid, pads, blank}
use Rattle.rules.specs.Drawing.{Drawing, drawn, Placed, Side, LineBeside, DiagonallyBelow, Corner, NotBlank, on_left, on_right}
use Rattle.rules.specs.Places.{next_column}
use Rattle.rules.specs.Tests.{both, both_on}
use Rattle.model.specs.PadTests.{is_blank}
use Rattle.model.specs.Board.{has_side, diagonal, barred}
use Rattle.model.specs.BoardLaws.{blank_of}
use Rattle.propagation.specs.Squares.{edge_beside}
use Rattle.propagation.specs.Counting.{right_column, down_in}

module _ (g : Grid) (wide : 2 ≤ g.width) (D : Drawing) (placed : Placed g D)
    (corners : (side : Side) (p q : ℕ) → DiagonallyBelow side g.width p q → Corner side D p → NotBlank g q ⊎ Corner side D q) where
  abbrev W : ℕ
  W = g.width

  -- the line beside a pad: the pad has a neighbour on that side, and the edge to it is a line
  pub line_beside : (side : Side) (q : ℕ) → LineBeside side D q → (has_side g side q ≡ true) × (drawn D (edge_beside g wide side q) ≡ true)
  line_beside on_right q h = (lt-ltb (q % W + 1) W (right_column g wide D placed q h), h)
  line_beside on_left q (w, e, h) =
      (lt-ltb 0 (q % W) (rw (← e, next_column W w (right_column g wide D placed w h)) (omega arith)), (let k : q - 1 ≡ w = omega arith in ap D.right k ∙ h))

  -- the pad diagonally below: one row lower, and one column further on that side
  diagonal_below : (side : Side) (p : ℕ) → LineBeside side D p → DiagonallyBelow side W p (diagonal g side p)
  diagonal_below on_right p b = refl
  diagonal_below on_left p (w, e, h) = omega arith

  one_row_lower : (side : Side) (p : ℕ) → LineBeside side D p → diagonal g side p + p % W ≡ p + W + diagonal g side p % W
  one_row_lower on_right p h =
      let next : (p + W + 1) % W ≡ p % W + 1 = ap (λ x. x % W) (swap p) ∙ add-mod_right (p + 1) W ∙ next_column W p (right_column g wide D placed p h) in
      omega (arith, next)
    where
      swap : (n : ℕ) → n + W + 1 ≡ n + 1 + W
      swap n = omega arith
  one_row_lower on_left p (w, e, h) =
      let here : p % W ≡ w % W + 1 = ap (λ x. x % W) (sym e) ∙ next_column W w (right_column g wide D placed w h) in
      let same : p + W - 1 ≡ w + W = omega arith in
      let there : (p + W - 1) % W ≡ w % W = ap (λ x. x % W) same ∙ add-mod_right w W in
      omega (arith, here, same, there)

  barred_blank : (side : Side) (n v : ℕ) → barred g side n v ≡ true → g.cell v ≡ blank
  unfolding barred
  barred_blank side zero v h = blank_of (g.cell v) h
  barred_blank side (suc n) v h = blank_of (g.cell v) (both (is_blank (g.cell v)) _ h).0

  -- n rows are enough from the row of p on
  down_the_diagonal : (side : Side) (n p : ℕ) → pads g + p % W ≤ p + n * W → barred g side n p ≡ true → Corner side D p → ⊥
  unfolding barred
  down_the_diagonal side zero p far b (l, d) = let k = down_in g wide D placed p d in omega arith
  down_the_diagonal side (suc n) p far b (l, d) = ⊎_elim
      (λ not_blank. absurd (not_blank (barred_blank side n (diagonal g side p) deeper)))
      (λ k. down_the_diagonal side n (diagonal g side p) (let j = one_row_lower side p l in omega (arith, j, far)) deeper k)
      (corners side p (diagonal g side p) (diagonal_below side p l) (l, d))
    where
      deeper : barred g side n (diagonal g side p) ≡ true
      deeper = rw (both_on (lt-ltb (p + W) (pads g) (down_in g wide D placed p d)) (line_beside side p l).0) at (both (is_blank (g.cell p)) _ b).1

  pub no_barred_corner : (side : Side) (p : ℕ) → barred g side g.height p ≡ true → Corner side D p → ⊥
  no_barred_corner side p b c = down_the_diagonal side g.height p (let k = mod-le p W in omega arith) b c
