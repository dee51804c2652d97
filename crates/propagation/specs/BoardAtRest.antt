-- A board on which every object holds, in the rules' own words: each pad is at rest, the lines are on the board, no unit square has more
-- than two lines and two of them make the others none, the corner rule holds, no barred pad has its two lines, and the ends say of the
-- chains what they should (crate ends).
use Rattle.std.specs.Prelude.{ℕ, ◌+◌, ◌-◌, ◌%◌, ◌≤◌, ◌<◌, ◌≡◌, refl, ◌⊎◌, Bool, true, false, ltb}
use Rattle.std.proofs.Common.{ap, inl, inr, ⊎_elim, ltb-true}
use Rattle.std.proofs.Math.Logic.{⊎_map}
use mathlib.Core.List.{Memᴰ}
use native.Mathlib.Omega.{arith}
use Rattle.std.proofs.Math.Nat.{add-mod_right}
use Rattle.rules.specs.Grid.{Edge, Cell, Grid, pads, OnBoard, right, down, blank, clue, hole}
use Rattle.rules.specs.Drawing.{Placed, num, square_lines, Side, DiagonallyBelow, Corner, NotBlank, on_left, on_right}
use Rattle.rules.specs.Places.{zero≢one}
use Rattle.rules.specs.Tests.{both, conflict, num_small}
use Rattle.model.specs.PadTests.{is_blank, has_right, on_board}
use Rattle.model.specs.Board.{is_line, State, Item, barred, shape_items, line, none, detour, corner}
use Rattle.ends.specs.Ends.{Ends}
use Rattle.propagation.specs.Edges.{is_line-true, drawing, board_lines}
use Rattle.propagation.specs.Objects.{AtRest, Achieved, Holds, AllHold, rule, pad, chains, board}
use Rattle.propagation.specs.Squares.{SquareAt, square_at, corner_pad, lower_pad, edge_beside, corner_item, square_items, corner_items_across, upper_edge, right_edge}
use Rattle.propagation.specs.Bars.{no_barred_corner}

-- A BOARD AT REST
pub record BoardAtRest (g : Grid) (S : State) : Type 0 where
  -- each pad: nothing undecided and degree 0 or 2, or at least two undecided and degree at most 1
  pub pads_rest : (v : ℕ) → AtRest g S v
  pub placed : Placed g (drawing S)
  pub squares : (u : ℕ) → square_lines g (drawing S) u ≤ 2
  -- where x, a, b, c are the edges of a unit square, that is where `detour a b c` is an item of x: two lines make the other two none
  pub detours_none : (x a b c : Edge) → Memᴰ (detour a b c) (shape_items g x) → S.edge x ≡ line → S.edge a ≡ line → (S.edge b ≡ none) × (S.edge c ≡ none)
  pub corners : (side : Side) (p q : ℕ) → DiagonallyBelow side g.width p q → Corner side (drawing S) p → NotBlank g q ⊎ Corner side (drawing S) q
  pub bars : (side : Side) (p : ℕ) → barred g side g.height p ≡ true → Corner side (drawing S) p → ⊥
  pub ends : Ends g.cell (board_lines g S) S.end

module _ (g : Grid) (wide : 2 ≤ g.width) (S : State) (holds : AllHold g S) where
  abbrev W : ℕ
  W = g.width

  abbrev lined : Edge → Bool
  lined e = is_line (S.edge e)

  on_the_board : (e : Edge) → S.edge e ≡ line → on_board g e ≡ true
  on_the_board = unfold Holds in (holds board)

  pub ends_say : Ends g.cell (board_lines g S) S.end
  ends_say = unfold Holds in (holds chains)

  pub pad_at_rest : (v : ℕ) → AtRest g S v
  pad_at_rest v = unfold Holds in (holds (pad v))

  rule_at : (x : Edge) (it : Item) → Memᴰ it (shape_items g x) → S.edge x ≡ line → Achieved g S it
  rule_at x it m = unfold Holds in (holds (rule x it m))

  -- its lines are at edges of the board
  pub right_place : (v : ℕ) → lined (right v) ≡ true → (v % W + 1 < W) × (v < pads g)
  right_place v h = let (r, i) = both (has_right g v) (ltb v (pads g)) (on_the_board (right v) (is_line-true (S.edge (right v)) h)) in
      (ltb-true (v % W + 1) W r, ltb-true v (pads g) i)

  pub down_place : (v : ℕ) → lined (down v) ≡ true → v + W < pads g
  down_place v h = ltb-true (v + W) (pads g) (on_the_board (down v) (is_line-true (S.edge (down v)) h))

  pub board_placed : Placed g (drawing S)
  unfolding drawing OnBoard
  board_placed (right v) h = ((right_place v h).1, (right_place v h).0)
  board_placed (down v) h = down_place v h

  -- AT MOST TWO LINES in each unit square
  not_line : {e : Edge} → S.edge e ≡ none → lined e ≡ true → ⊥
  not_line h k = let j = ap is_line h in conflict k j

  square_of : (v : ℕ) → (lined (right v) ≡ true) ⊎ (lined (right (v + W)) ≡ true) → (lined (down v) ≡ true) ⊎ (lined (down (v + 1)) ≡ true) → SquareAt g wide v
  square_of v a b =
      let c : v % W + 1 < W = ⊎_elim (λ h. (right_place v h).0) (λ h. rw (add-mod_right v W) at (right_place (v + W) h).0) a in
      square_at g wide v c (⊎_elim (λ h. down_place v h) (λ h. let k = down_place (v + 1) h in omega arith) b)

  two_lines : (x a b c : Edge) → Memᴰ (detour a b c) (shape_items g x) → lined x ≡ true → lined a ≡ true → (lined b ≡ true → ⊥) × (lined c ≡ true → ⊥)
  two_lines x a b c m hx ha =
      let (p, q) = now_detour (rule_at x (detour a b c) m (is_line-true (S.edge x) hx)) (is_line-true (S.edge a) ha) in (not_line p, not_line q)
    where
      now_detour : Achieved g S (detour a b c) → S.edge a ≡ line → (S.edge b ≡ none) × (S.edge c ≡ none)
      now_detour n = unfold Achieved in n

  pub at_most_two : (v : ℕ) → num (lined (right v)) + num (lined (down v)) + num (lined (down (v + 1))) + num (lined (right (v + W))) ≤ 2
  at_most_two v = go (lined (right v)) (lined (down v)) (lined (down (v + 1))) (lined (right (v + W))) refl refl refl refl
    where
      upper_left : lined (right v) ≡ true → lined (down v) ≡ true → (lined (down (v + 1)) ≡ true → ⊥) × (lined (right (v + W)) ≡ true → ⊥)
      upper_left h k = two_lines (right v) (down v) (down (v + 1)) (right (v + W)) (square_items g wide v upper_edge _ (square_of v (inl h) (inl k)) (Memᴰ.head refl)) h k

      lower_right : lined (down (v + 1)) ≡ true → lined (right (v + W)) ≡ true → (lined (right v) ≡ true → ⊥) × (lined (down v) ≡ true → ⊥)
      lower_right h k = two_lines (down (v + 1)) (right (v + W)) (right v) (down v) (square_items g wide v right_edge _ (square_of v (inr k) (inr h)) (Memᴰ.tail (Memᴰ.head refl))) h k

      go : (t l r b : Bool) → lined (right v) ≡ t → lined (down v) ≡ l → lined (down (v + 1)) ≡ r → lined (right (v + W)) ≡ b
          → num (lined (right v)) + num (lined (down v)) + num (lined (down (v + 1))) + num (lined (right (v + W))) ≤ 2
      go true true true b et el er eb = absurd ((upper_left et el).0 er)
      go true true false true et el er eb = absurd ((upper_left et el).1 eb)
      go true false true true et el er eb = absurd ((lower_right er eb).0 et)
      go false true true true et el er eb = absurd ((lower_right er eb).1 el)
      go true true false false et el er eb = rw (et, el, er, eb) (omega arith)
      go true false true false et el er eb = rw (et, el, er, eb) (omega arith)
      go true false false b et el er eb = let k = num_small b in rw (et, el, er, eb) (omega arith)
      go false true true false et el er eb = rw (et, el, er, eb) (omega arith)
      go false true false b et el er eb = let k = num_small b in rw (et, el, er, eb) (omega arith)
      go false false r b et el er eb = let j = num_small r in let k = num_small b in rw (et, el, er, eb) (omega arith)

  -- THE CORNER RULE on both sides
  now_corner : (q : ℕ) (a : Edge) (o : Bool) (b c : Edge) → Achieved g S (corner q a o b c) → is_blank (g.cell q) ≡ true → S.edge a ≡ line
      → (o ≡ true) × (S.edge b ≡ line) × (S.edge c ≡ line)
  unfolding Achieved
  now_corner q a o b c n = n

  corner_square : (side : Side) (u : ℕ) → lined (right u) ≡ true → lined (down (corner_pad g wide side u)) ≡ true → SquareAt g wide u
  corner_square on_right u h k = square_of u (inl h) (inl k)
  corner_square on_left u h k = square_of u (inl h) (inr k)

  corner_below : (side : Side) (u : ℕ) → lined (right u) ≡ true → lined (down (corner_pad g wide side u)) ≡ true
      → NotBlank g (lower_pad g wide side u) ⊎ ((lined (edge_beside g wide side (lower_pad g wide side u)) ≡ true) × (lined (down (lower_pad g wide side u)) ≡ true))
  corner_below side u h k = go (g.cell (lower_pad g wide side u)) refl
    where
      go : (C : Cell) → g.cell (lower_pad g wide side u) ≡ C
          → NotBlank g (lower_pad g wide side u) ⊎ ((lined (edge_beside g wide side (lower_pad g wide side u)) ≡ true) × (lined (down (lower_pad g wide side u)) ≡ true))
      go (clue c) e = inl (λ b. zero≢one (cc))
      go hole e = inl (λ b. zero≢one (cc))
      go blank e =
          let (o, p, q) = now_corner (lower_pad g wide side u) (down (corner_pad g wide side u)) _ (edge_beside g wide side (lower_pad g wide side u)) (down (lower_pad g wide side u))
          (rule_at (right u) (corner_item g wide side u (down (corner_pad g wide side u))) (corner_items_across g wide side u (corner_square side u h k)) (is_line-true (S.edge (right u)) h))
          (ap is_blank e) (is_line-true (S.edge (down (corner_pad g wide side u))) k) in
          inr (ap is_line p, ap is_line q)

  pub board_corners : (side : Side) (p q : ℕ) → DiagonallyBelow side W p q → Corner side (drawing S) p → NotBlank g q ⊎ Corner side (drawing S) q
  unfolding drawing
  board_corners on_right p q e (t, d) = rw e (corner_below on_right p t d)
  board_corners on_left p q e ((u, f, t), d) =
      let k : q ≡ u + W = omega arith in
      rw k (⊎_map (λ c. c) (λ (l, b). ((u + W - 1, (omega arith), l), b)) (corner_below on_left u t (rw f d)))

  pub board_at_rest : BoardAtRest g S
  board_at_rest = record {
    pads_rest = pad_at_rest;
    placed = board_placed;
    squares = λ u. unfold drawing in (at_most_two u);
    detours_none = λ x a b c m h. unfold Achieved in (rule_at x (detour a b c) m h);
    corners = board_corners;
    bars = no_barred_corner g wide (drawing S) board_placed board_corners;
    ends = ends_say;
  }
