-- What a listed drawing gives to the proof of soundness: its degree at each pad is 0 or 2, and it never has what steps d and e rule out.
-- Both sides of a corner are one law.
use Rattle.std.specs.Prelude.{ℕ, ◌+◌, ◌%◌, ◌≤◌, ◌<◌, ◌≡◌, refl, Bool, true, false, ◌&&◌}
use Rattle.std.proofs.Common.{sym, ◌∙◌, inl, inr, ⊎_elim, arith, lt-ltb}
use mathlib.Core.List.{Memᴰ}
use Rattle.rules.specs.Grid.{Edge, first, second, Cell, Grid, pads, right, down, blank, clue, hole}
use Rattle.rules.specs.Drawing.{Drawing, drawn, Placed, Line, NoLine, OneLine, TwoLines, Joined, num, square_lines, Side, DiagonallyBelow, Corner, Listed, here, more, on_left, on_right}
use Rattle.rules.specs.Places.{first_inside, second_inside}
use Rattle.rules.specs.Tests.{both_on, not_so, num_none}
use Rattle.model.specs.PadTests.{is_blank, has_down, on_board}
use Rattle.model.specs.Board.{State, has_side, barred, shape_items, around, detour, corner, bar}
use Rattle.model.specs.BoardLaws.{blank_of, on_board_of_test}
use Rattle.propagation.specs.Edges.{board_lines, edge_of}
use Rattle.rules.proofs.Chains.{line_forward}
use Rattle.propagation.specs.Squares.{SquareAt, upper_right, lower_right, left_down, right_down, upper_in, lower_in, Role, square_edge, detours_at, corner_pad, lower_pad, edge_beside, Standing, standing, one_of_three, detours_only, detour_parts, corner_parts, bar_parts, detour_no_corner, detour_no_bar, corner_no_bar, upper_edge, left_edge, right_edge, lower_edge, in_square, corner_across, corner_downward, bar_across, bar_downward}
use Rattle.propagation.specs.Counting.{among, none_among, one_to, two_to, some_among, two_among, around_apart, right_column, right_in, down_in, beside, leads}
use Rattle.propagation.specs.Bars.{line_beside, no_barred_corner}
use Rattle.propagation.specs.Agreement.{Agrees, drawn_degree, NoneOrTwo}

module _ (g : Grid) (wide : 2 ≤ g.width) (D : Drawing) (listed : Listed g D) where
  abbrev W : ℕ
  W = g.width

  abbrev on : Placed g D
  on = listed.ordinary.placed

  abbrev OnTheBoard : Edge → Type 0
  OnTheBoard e = on_board g e ≡ true

  -- EDGES AND PADS
  pub its_line : (e : Edge) → drawn D e ≡ true → Line W D (first e) (second W e)
  its_line e h = line_forward W D e h

  pub line_on : (e : Edge) → drawn D e ≡ true → OnTheBoard e
  line_on (right v) h = both_on (lt-ltb (v % W + 1) W (right_column g wide D on v h)) (lt-ltb v (pads g) (right_in g wide D on v h))
  line_on (down v) h = lt-ltb (v + W) (pads g) (down_in g wide D on v h)

  pub both_pads : (e : Edge) → OnTheBoard e → (first e < pads g) × (second W e < pads g)
  both_pads e h = let on = on_board_of_test g e h in (first_inside g e on, second_inside g e on)

  -- a chain of the board's lines stays among the pads
  pub reach : (S : State) → Agrees D S → {v w : ℕ} → v < pads g → Joined (board_lines g S) v w → w < pads g
  reach S a o here = o
  reach S a o (more {a = x} {b = y} l j) =
      let t = edge_of g S x y l in
      let e = both_pads t.edge (line_on t.edge (a.where_line t.edge t.is)) in
      reach S a (⊎_elim (λ (p, q). rw q e.1) (λ (p, q). rw q e.0) t.ends) j

  -- DEGREES: lines, plus 1 for a clue, are 0 or 2
  one_line : (v : ℕ) → OneLine (Line W D) v → among (drawn D) (around g v) ≡ 1
  one_line v n =
      let b = beside g wide D on v n.to n.line in
      let p = one_to (drawn D) (around g v) n.to (around_apart g wide v) (λ p m h. n.only p.1 (leads g wide D on v p m h)) in
      let q = some_among (drawn D) (around g v) b.at b.member b.lined in
      omega arith

  two_lines : (v : ℕ) → TwoLines (Line W D) v → among (drawn D) (around g v) ≡ 2
  two_lines v n =
      let b = beside g wide D on v n.to n.line in
      let c = beside g wide D on v n.also_to n.also_line in
      let p = two_to (drawn D) (around g v) n.to n.also_to (around_apart g wide v) (λ p m h. n.only p.1 (leads g wide D on v p m h)) in
      let q = two_among (drawn D) (around g v) b.at c.at b.member c.member b.lined c.lined (λ e. n.apart (sym b.leads_to ∙ e ∙ c.leads_to)) in
      omega arith

  no_lines : (v : ℕ) → NoLine (Line W D) v → among (drawn D) (around g v) ≡ 0
  no_lines v n = none_among (drawn D) (around g v) (λ p m h. n p.1 (leads g wide D on v p m h))

  pub its_degree : (v : ℕ) → NoneOrTwo D (drawn_degree D g v)
  its_degree v = go (g.cell v) refl
    where
      go : (C : Cell) → g.cell v ≡ C → NoneOrTwo D (drawn_degree D g v)
      go (clue c) e = inr (rw (e, one_line v (listed.ordinary.wired.clue_one v c e)) refl)
      go hole e = inl (rw (e, no_lines v (listed.ordinary.wired.hole_none v e)) refl)
      go blank e = ⊎_elim (λ n. inl (rw (e, no_lines v n) refl)) (λ n. inr (rw (e, two_lines v n) refl)) (listed.ordinary.wired.blank_none_or_two v e)

  -- STEP d: where two edges of a unit square are lines the other two are none
  square_on : (r : Role g wide) (u : ℕ) → SquareAt g wide u → OnTheBoard (square_edge g wide r u)
  square_on upper_edge u s = both_on (upper_right g wide s) (upper_in g wide s)
  square_on lower_edge u s = both_on (lower_right g wide s) (lower_in g wide s)
  square_on left_edge u s = left_down g wide s
  square_on right_edge u s = right_down g wide s

  at_most_two : (u : ℕ) → SquareAt g wide u → square_lines g D u ≤ 2
  at_most_two u s = listed.squares u (((let h = s.lower in omega arith), s.column), (let h = s.lower in omega arith))

  -- three different edges of a unit square: they are among its lines
  abbrev Three : (r q t : Role g wide) → Type 0
  Three r q t = (u : ℕ) → num (drawn D (square_edge g wide r u)) + num (drawn D (square_edge g wide q u)) + num (drawn D (square_edge g wide t u)) ≤ square_lines g D u

  num_line : (b : Bool) → b ≡ true → num b ≡ 1
  num_line b h = rw h refl

  no_third : (r q t : Role g wide) → Three r q t → (u : ℕ) → SquareAt g wide u
      → drawn D (square_edge g wide r u) ≡ true → drawn D (square_edge g wide q u) ≡ true → drawn D (square_edge g wide t u) ≡ false
  no_third r q t f u s hr hq = num_none (drawn D (square_edge g wide t u))
      (let k = f u in let m = at_most_two u s in let a = num_line (drawn D (square_edge g wide r u)) hr in let b = num_line (drawn D (square_edge g wide q u)) hq in omega (arith, k, m, a, b))

  abbrev Ruled : Edge → Edge → Edge → Type 0
  Ruled a b c = OnTheBoard b × OnTheBoard c × (drawn D a ≡ true → (drawn D b ≡ false) × (drawn D c ≡ false))

  -- the item of step d at the edge of role r, guarded by the edge of role q
  ruled : (r q t w : Role g wide) → Three r q t → Three r q w → (x a b c : Edge) (u : ℕ) → SquareAt g wide u → drawn D x ≡ true → x ≡ square_edge g wide r u
      → detour a b c ≡ detour (square_edge g wide q u) (square_edge g wide t u) (square_edge g wide w u) → Ruled a b c
  ruled r q t w f h x a b c u s dx ex e =
      let (ea, eb, ec) = detour_parts g wide e in
      rw (ea, eb, ec) (square_on t u s, square_on w u s, λ da. (no_third r q t f u s (rw ex at dx) da, no_third r q w h u s (rw ex at dx) da))

  ruled_at : (x a b c : Edge) → drawn D x ≡ true → (u : ℕ) (r : Role g wide) → SquareAt g wide u → x ≡ square_edge g wide r u
      → Memᴰ (detour a b c) (detours_at g wide r u) → Ruled a b c
  ruled_at x a b c dx u upper_edge s ex m = ⊎_elim
      (ruled upper_edge left_edge right_edge lower_edge (λ u. omega arith) (λ u. omega arith) x a b c u s dx ex)
      (⊎_elim (ruled upper_edge right_edge left_edge lower_edge (λ u. omega arith) (λ u. omega arith) x a b c u s dx ex)
      (ruled upper_edge lower_edge left_edge right_edge (λ u. omega arith) (λ u. omega arith) x a b c u s dx ex)) (one_of_three g wide m)
  ruled_at x a b c dx u lower_edge s ex m = ⊎_elim
      (ruled lower_edge left_edge right_edge upper_edge (λ u. omega arith) (λ u. omega arith) x a b c u s dx ex)
      (⊎_elim (ruled lower_edge right_edge left_edge upper_edge (λ u. omega arith) (λ u. omega arith) x a b c u s dx ex)
      (ruled lower_edge upper_edge left_edge right_edge (λ u. omega arith) (λ u. omega arith) x a b c u s dx ex)) (one_of_three g wide m)
  ruled_at x a b c dx u left_edge s ex m = ⊎_elim
      (ruled left_edge upper_edge lower_edge right_edge (λ u. omega arith) (λ u. omega arith) x a b c u s dx ex)
      (⊎_elim (ruled left_edge lower_edge upper_edge right_edge (λ u. omega arith) (λ u. omega arith) x a b c u s dx ex)
      (ruled left_edge right_edge upper_edge lower_edge (λ u. omega arith) (λ u. omega arith) x a b c u s dx ex)) (one_of_three g wide m)
  ruled_at x a b c dx u right_edge s ex m = ⊎_elim
      (ruled right_edge upper_edge lower_edge left_edge (λ u. omega arith) (λ u. omega arith) x a b c u s dx ex)
      (⊎_elim (ruled right_edge lower_edge upper_edge left_edge (λ u. omega arith) (λ u. omega arith) x a b c u s dx ex)
      (ruled right_edge left_edge upper_edge lower_edge (λ u. omega arith) (λ u. omega arith) x a b c u s dx ex)) (one_of_three g wide m)

  pub detours_right : (x a b c : Edge) → drawn D x ≡ true → Memᴰ (detour a b c) (shape_items g x) → Ruled a b c
  detours_right x a b c dx m = go (standing g wide x (detour a b c) m)
    where
      go : Standing g wide x (detour a b c) → Ruled a b c
      go (in_square u r s e k) = ruled_at x a b c dx u r s e k
      go (corner_across side u s e k) = detour_no_corner g wide k
      go (corner_downward side u s e k) = detour_no_corner g wide k
      go (bar_across side u s e k) = detour_no_bar g wide k
      go (bar_downward side u s e k) = detour_no_bar g wide k

  corner_of : (side : Side) (u : ℕ) → D.right u ≡ true → D.down (corner_pad g wide side u) ≡ true → Corner side D (corner_pad g wide side u)
  corner_of on_right u t d = (t, d)
  corner_of on_left u t d = ((u, refl, t), d)

  diagonal_of : (side : Side) (u : ℕ) → DiagonallyBelow side W (corner_pad g wide side u) (lower_pad g wide side u)
  diagonal_of on_right u = refl
  diagonal_of on_left u = omega arith

  abbrev Forced : Bool → Edge → Edge → Type 0
  Forced ok b c = (ok ≡ true) × OnTheBoard b × OnTheBoard c × (drawn D b ≡ true) × (drawn D c ≡ true)

  forced : (side : Side) (u : ℕ) → D.right u ≡ true → D.down (corner_pad g wide side u) ≡ true → is_blank (g.cell (lower_pad g wide side u)) ≡ true
      → Forced (has_down g (lower_pad g wide side u) && has_side g side (lower_pad g wide side u)) (edge_beside g wide side (lower_pad g wide side u)) (down (lower_pad g wide side u))
  forced side u t d bl = ⊎_elim (λ not_blank. absurd (not_blank (blank_of (g.cell (lower_pad g wide side u)) bl)))
      (λ (b, l). let (h, k) = line_beside g wide D on listed.corners side (lower_pad g wide side u) b in
      (both_on (line_on (down (lower_pad g wide side u)) l) h, line_on (edge_beside g wide side (lower_pad g wide side u)) k, line_on (down (lower_pad g wide side u)) l, k, l))
      (listed.corners side (corner_pad g wide side u) (lower_pad g wide side u) (diagonal_of side u) (corner_of side u t d))

  pub corners_right : (x : Edge) (q : ℕ) (a : Edge) (ok : Bool) (b c : Edge) → drawn D x ≡ true → Memᴰ (corner q a ok b c) (shape_items g x)
      → is_blank (g.cell q) ≡ true → drawn D a ≡ true → Forced ok b c
  corners_right x q a ok b c dx m = go (standing g wide x (corner q a ok b c) m)
    where
      go : Standing g wide x (corner q a ok b c) → is_blank (g.cell q) ≡ true → drawn D a ≡ true → Forced ok b c
      go (in_square u r s e k) bl da = let (p, t, w, h) = detours_only g wide u r k in detour_no_corner g wide (sym h)
      go (corner_across side u s e k) bl da = let (p1, p2, p3, p4, p5) = corner_parts g wide k in rw (p3, p4, p5) (forced side u (rw e at dx) (rw p2 at da) (rw p1 at bl))
      go (corner_downward side u s e k) bl da = let (p1, p2, p3, p4, p5) = corner_parts g wide k in rw (p3, p4, p5) (forced side u (rw p2 at da) (rw e at dx) (rw p1 at bl))
      go (bar_across side u s e k) bl da = corner_no_bar g wide k
      go (bar_downward side u s e k) bl da = corner_no_bar g wide k

  -- A BARRED PAD has no corner
  corner_on : (side : Side) (u : ℕ) → SquareAt g wide u → OnTheBoard (down (corner_pad g wide side u))
  corner_on on_right u s = square_on left_edge u s
  corner_on on_left u s = square_on right_edge u s

  pub bars_right : (x a : Edge) (o : Bool) → drawn D x ≡ true → Memᴰ (bar o a) (shape_items g x) → o ≡ true → OnTheBoard a × (drawn D a ≡ false)
  bars_right x a o dx m = go (standing g wide x (bar o a) m)
    where
      none : (side : Side) (u : ℕ) → barred g side g.height (corner_pad g wide side u) ≡ true → D.right u ≡ true → D.down (corner_pad g wide side u) ≡ true → ⊥
      none side u h t d = no_barred_corner g wide D on listed.corners side (corner_pad g wide side u) h (corner_of side u t d)

      go : Standing g wide x (bar o a) → o ≡ true → OnTheBoard a × (drawn D a ≡ false)
      go (in_square u r s e k) h = let (p, t, w, q) = detours_only g wide u r k in detour_no_bar g wide (sym q)
      go (corner_across side u s e k) h = corner_no_bar g wide (sym k)
      go (corner_downward side u s e k) h = corner_no_bar g wide (sym k)
      go (bar_across side u s e k) h = let (p, q) = bar_parts g wide k in
          rw q (corner_on side u s, not_so (D.down (corner_pad g wide side u)) (λ d. none side u (sym p ∙ h) (rw e at dx) d))
      go (bar_downward side u s e k) h = let (p, q) = bar_parts g wide k in
          rw q (square_on upper_edge u s, not_so (D.right u) (λ t. none side u (sym p ∙ h) t (rw e at dx)))
