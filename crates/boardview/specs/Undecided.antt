-- The model's bound on the nesting is enough for the arrays: at most two undecided edges for each pad, because a slot off the board holds
-- none. It rests on View.antt and Bytes.antt.
use Rattle.std.specs.Prelude.{ℕ, zero, suc, ◌+◌, ◌*◌, ◌-◌, ◌≤◌, ◌<◌, ◌≡◌, Bool, true, false, List, [], ◌∷◌, eqb, ltb, get_or, length}
use native.Mathlib.Omega.{arith}
use borrow.Author.Tests.{ne_eqb}
use Rattle.rules.specs.Grid.{Edge, right, down, Grid, pads}
use Rattle.rules.specs.Tests.{both, not_so}
use Rattle.model.specs.PadTests.{on_board, has_right}
use Rattle.model.specs.Board.{enough}
use Rattle.boardview.specs.declared.Arrays.{Arrays}
use Rattle.boardview.specs.Told.{pick}
use Rattle.boardview.specs.View.{slot, slot_on, edge_of, undecided_in, Ready}
use Rattle.boardview.specs.Bytes.{on_slot, slot_of_edge}

-- bytes below a and from b on are no zeros: there are at most b - a zeros
zeros_between : (l : List ℕ) (a b : ℕ) → ((i : ℕ) → i < length l → i < a → get_or l i 0 ≡ 0 → ⊥) → ((i : ℕ) → i < length l → b ≤ i → get_or l i 0 ≡ 0 → ⊥)
    → undecided_in l ≤ b - a
unfolding undecided_in
zeros_between [] a b low high = omega arith
zeros_between (x ∷ l) zero zero low high =
    let here : eqb x 0 ≡ false = ne_eqb x 0 (high 0 (omega arith) (omega arith)) in
    let rest = zeros_between l zero zero (λ i k j. absurd (omega arith)) (λ i k j e. high (suc i) (omega arith) (omega arith) e) in
    rw here (omega arith)
zeros_between (x ∷ l) zero (suc b) low high = count (eqb x 0) (zeros_between l zero b (λ i k j. absurd (omega arith)) (λ i k j e. high (suc i) (omega arith) (omega arith) e))
  where
    count : (t : Bool) → undecided_in l ≤ b - 0 → pick t (suc (undecided_in l)) (undecided_in l) ≤ suc b - 0
    count true h = omega arith
    count false h = omega arith
zeros_between (x ∷ l) (suc a) zero low high =
    let here : eqb x 0 ≡ false = ne_eqb x 0 (high 0 (omega arith) (omega arith)) in
    let rest = zeros_between l a zero (λ i k j e. low (suc i) (omega arith) (omega arith) e) (λ i k j e. high (suc i) (omega arith) (omega arith) e) in
    rw here (omega arith)
zeros_between (x ∷ l) (suc a) (suc b) low high =
    let here : eqb x 0 ≡ false = ne_eqb x 0 (low 0 (omega arith) (omega arith)) in
    let rest = zeros_between l a b (λ i k j e. low (suc i) (omega arith) (omega arith) e) (λ i k j e. high (suc i) (omega arith) (omega arith) e) in
    rw here (omega arith)

module _ (g : Grid) where
  -- an edge of the board has its slot in this range
  on_in_range : (e : Edge) → on_board g e ≡ true → slot e < 32 + 2 * pads g
  on_in_range (right v) on = let k = borrow.Author.Tests.ltb-true v (pads g) (both (has_right g v) (ltb v (pads g)) on).1 in omega arith
  on_in_range (down v) on = let k = borrow.Author.Tests.ltb-true (v + g.width) (pads g) on in width_some g.width k
    where
      width_some : (w : ℕ) → v + w < pads g → 33 + 2 * v < 32 + 2 * pads g
      width_some w k = omega arith

  slot_in_range : (s : ℕ) → slot_on g s ≡ true → (32 ≤ s) × (s < 32 + 2 * pads g)
  slot_in_range s on = let k = on_slot g s on in (k.0, rw (slot_of_edge s k.0) at (on_in_range (edge_of s) k.1))

  module _ (s : Arrays) (ready : Ready g s) where
    off_no_zero : (i : ℕ) → i < length s.edges → (slot_on g i ≡ true → ⊥) → get_or s.edges i 0 ≡ 0 → ⊥
    off_no_zero i inside off e = let two = ready.rim i (let k = ready.edges_long in omega arith) (not_so (slot_on g i) off) in omega arith

    pub undecided_at_most : undecided_in s.edges ≤ 2 * pads g
    undecided_at_most =
        let k = zeros_between s.edges 32 (32 + 2 * pads g)
        (λ i inside low. off_no_zero i inside (λ on. let r = (slot_in_range i on).0 in omega arith))
        (λ i inside high. off_no_zero i inside (λ on. let r = (slot_in_range i on).1 in omega arith)) in omega arith

    pub enough_here : 2 * undecided_in s.edges < enough g
    unfolding enough
    enough_here = let k = undecided_at_most in omega arith
