-- The code's scan for the next pad is the model's, and the pad it finds comes later and has a right edge, or is the first of the last row.
-- It rests on Shown.antt; slots to the right of the last column hold none, so the scan needs no test of the column.
use Prim.Native.Nat.{ℕ, zero, suc, ◌+◌, ◌*◌, ◌-◌, ◌≤◌, ◌<◌}
use Rattle.std.specs.Prelude.{◌≡◌, Bool, true, ◌&&◌, List, ltb, get_or}
use Rattle.std.proofs.Math.Path.{refl, ap}
use Rattle.std.proofs.Common.{sym, ◌∙◌, suc-mul}
use Rattle.std.proofs.Math.Bool.{false}
use native.Mathlib.Omega.{arith}
use Rattle.std.proofs.Math.Dec.{eqb}
use borrow.Author.Tests.{lt-ltb, le-ltb, ltb-true, ltb-false, eqb-true}
use Rattle.rules.specs.Grid.{right, Grid, pads}
use Rattle.rules.specs.Tests.{both, both_off, is_so}
use Rattle.model.specs.PadTests.{has_right, has_down}
use Rattle.model.specs.Board.{State, is_undecided}
use Rattle.model.specs.Search.{next_pad}
use Rattle.boardview.specs.View.{slot_on, view}
use Rattle.model.specs.Lists.{default_free}
use Rattle.boardview.specs.Bytes.{undecided_byte_test, edge_on}
use Rattle.boardview.specs.ShownRecord.{edges_only}
use Rattle.searchview.specs.Shown.{EdgesReady, last_row, NextPad}

-- the rows above the last: a pad above it has one below
module _ (g : Grid) (high : 2 ≤ g.height) where
  all_rows : last_row g + g.width ≡ pads g
  all_rows = above g.height high
    where
      above : (h : ℕ) → 2 ≤ h → (h - 1) * g.width + g.width ≡ h * g.width
      above zero k = absurd (omega arith)
      above (suc h) k = ap (λ (n : ℕ). n * g.width + g.width) (before h) ∙ sym (suc-mul h g.width)
        where
          before : (h : ℕ) → suc h - 1 ≡ h
          before h = omega arith

  pub below_some : (v : ℕ) → v < last_row g → has_down g v ≡ true
  below_some v h = lt-ltb (v + g.width) (pads g) (let k = all_rows in omega arith)

  pub below_none : (v : ℕ) → last_row g ≤ v → has_down g v ≡ false
  below_none v h = le-ltb (v + g.width) (pads g) (let k = all_rows in omega arith)

  pub last_below_pads : 2 ≤ g.width → last_row g < pads g
  last_below_pads wide = let k = all_rows in omega arith

module _ (g : Grid) (high : 2 ≤ g.height) (edges : List ℕ) (ready : EdgesReady g edges) (few : 32 + 2 * last_row g ≤ 1024) (S : State)
    (shown : (v : ℕ) → S.edge (right v) ≡ (edges_only edges).edge (right v)) where
  undecided_here : (v : ℕ) → v < last_row g → is_undecided (S.edge (right v)) ≡ eqb (get_or edges (32 + 2 * v) 0) 0
  unfolding edges_only view
  undecided_here v h = ap is_undecided (shown v) ∙ undecided_byte_test (get_or edges (32 + 2 * v) 2)
      ∙ ap (λ (b : ℕ). eqb b 0) (default_free edges (32 + 2 * v) 2 0 (let k = ready.long in omega arith))

  -- where the byte is 0 there is an edge to the right
  pub right_there : (v : ℕ) → v < last_row g → get_or edges (32 + 2 * v) 0 ≡ 0 → has_right g v ≡ true
  right_there v h z =
      let on = is_so (slot_on g (32 + 2 * v)) (λ off. let k = ready.rim (32 + 2 * v) (omega arith) off in omega arith) in
      (both (has_right g v) (ltb v (pads g)) (sym (edge_on g (right v)) ∙ on)).0

  pub scan_same : (n from r : ℕ) → from ≤ last_row g → last_row g ≤ n + from → NextPad edges (last_row g) from r → next_pad g n from S ≡ r
  unfolding next_pad
  scan_same zero from r low high' next = let a = next.above in let b = next.later in omega arith
  scan_same (suc n) from r low high' next = row (ltb from (last_row g)) refl (scan_same n (from + 1) r)
    where
      Rest : Type 0
      Rest = from + 1 ≤ last_row g → last_row g ≤ n + (from + 1) → NextPad edges (last_row g) (from + 1) r → next_pad g n (from + 1) S ≡ r

      column : from < last_row g → Rest → (b : Bool) → eqb (get_or edges (32 + 2 * from) 0) 0 ≡ b → next_pad g (suc n) from S ≡ r
      column above rest true z =
          let zero_here = eqb-true (get_or edges (32 + 2 * from) 0) 0 z in
          let stops : (has_right g from && is_undecided (S.edge (right from))) ≡ true = rw (right_there from above zero_here, undecided_here from above ∙ z) refl in
          let here : r ≡ from = stay (ltb from r) refl zero_here in
          rw (below_some g high from above, next_pad) (rw stops (sym here))
        where
          stay : (t : Bool) → ltb from r ≡ t → get_or edges (32 + 2 * from) 0 ≡ 0 → r ≡ from
          stay true k z = absurd (next.passed from (omega arith) (ltb-true from r k) z)
          stay false k z = let a = next.later in let b = ltb-false from r k in omega arith
      column above rest false z =
          let goes : (has_right g from && is_undecided (S.edge (right from))) ≡ false = both_off (has_right g from) _ (undecided_here from above ∙ z) in
          let there = moved (ltb from r) refl in
          rw (below_some g high from above, next_pad) (rw goes (rest (omega arith) (omega arith)
          (record { above = next.above; later = omega arith; passed = λ k a b. next.passed k (omega arith) b; found = next.found })))
        where
          moved : (t : Bool) → ltb from r ≡ t → from < r
          moved true k = ltb-true from r k
          moved false k =
              let same : r ≡ from = let a = next.later in let b = ltb-false from r k in omega arith in
              absurd (borrow.Author.Tests.eqb-false (get_or edges (32 + 2 * from) 0) 0 z (rw same at (next.found (omega arith))))

      row : (b : Bool) → ltb from (last_row g) ≡ b → Rest → next_pad g (suc n) from S ≡ r
      row true h rest = column (ltb-true from (last_row g) h) rest (eqb (get_or edges (32 + 2 * from) 0) 0) refl
      row false h rest =
          let at_last : r ≡ from = let a = next.above in let b = next.later in let c = ltb-false from (last_row g) h in omega arith in
          rw (below_none g high from (ltb-false from (last_row g) h), next_pad) (sym at_last)

  -- from a pad whose right edge is decided the scan goes on
  pub next_same : (v r : ℕ) → v < last_row g → is_undecided (S.edge (right v)) ≡ false → NextPad edges (last_row g) (v + 1) r → next_pad g (pads g) v S ≡ r
  unfolding next_pad
  next_same v r above decided next = go (pads g) (let k = all_rows g high in omega arith)
    where
      go : (n : ℕ) → last_row g ≤ n → next_pad g n v S ≡ r
      go zero k = absurd (omega arith)
      go (suc n) k =
          let goes : (has_right g v && is_undecided (S.edge (right v))) ≡ false = both_off (has_right g v) _ decided in
          rw (below_some g high v above, next_pad) (rw goes (scan_same n (v + 1) r (omega arith) (omega arith) next))
