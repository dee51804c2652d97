-- Looking at one unit square: its lines are at most two and its two corners obey the corner rule, or one of the moves makes the drawing
-- better. What better and the rule mean stands in specs/Step.antt. It rests on Moves.antt and Weight.antt.
use Rattle.std.specs.Prelude.{ℕ, ◌+◌, ◌%◌, ◌≤◌, ◌<◌, ◌≡◌, ◌⊎◌, Bool, true, false}
use Rattle.std.proofs.Math.Path.{refl, sym}
use Rattle.std.proofs.Common.{◌∙◌}
use Rattle.std.proofs.Math.Logic.Dec
use Rattle.std.proofs.Math.Logic.{inl, inr, ⊎_elim}
use Rattle.std.proofs.Math.Decide.{dec_lt}
use native.Mathlib.Omega.{arith}
use Rattle.rules.specs.Grid.{right, down, blank, Grid, pads, UnitSquare, OnBoard}
use Rattle.rules.specs.Drawing.{Drawing, drawn, Line, rightward, leftward, downward, upward, NoLine, TwoLines, num, square_lines, Side, on_left, on_right, LineBeside, DiagonallyBelow, Corner, NotBlank, Ordinary}
use Rattle.rules.specs.Places.{zero≢one, first_inside}
use Rattle.shortest.specs.Chains.{blank_or_not}
use Rattle.shortest.specs.Edges.{Joins, forth, back, joins_back, first_is_lower}
use Rattle.shortest.specs.Ring.{Ring, turn, ring_at, RingLines, ring_lines, redraw}
use Rattle.shortest.specs.Moves.{AsGood, fourth_alone, corner_opposite, three_lines_give_way, not_four_lines, corner_flips}
use Rattle.shortest.specs.Weight.{weigh_one, weigh_redraw, ring_worth}
use Rattle.shortest.specs.Step.{pads_from, Better, corner_pad, Fine}

-- the lines of a ring before each of the moves
abbrev all_but_fourth : RingLines
all_but_fourth = record { on_ab = true; on_bc = true; on_cd = true; on_da = false }

abbrev corner_alone : RingLines
corner_alone = record { on_ab = true; on_bc = false; on_cd = false; on_da = true }

module _ (g : Grid) (wide : 2 ≤ g.width) (D : Drawing) (ordinary : Ordinary g D) where
  -- a move on a ring
  move : (R : Ring g) (new : RingLines) → AsGood g D (redraw R D new)
      → ring_worth (pads_from g) R new < ring_worth (pads_from g) R (ring_lines R D)
      → ring_worth (λ v. 1) R new ≤ ring_worth (λ v. 1) R (ring_lines R D) → Better g D
  move R new as_good lighter fewer = record {
    next = E;
    as_good = as_good;
    lighter = less (weigh_redraw (pads_from g) R D new) lighter;
    no_more_lines = rw (weigh_one g E, weigh_one g D) at (at_most (weigh_redraw (λ v. 1) R D new) fewer);
  }
    where
      E : Drawing
      E = redraw R D new

      less : {x y z w : ℕ} → x + y ≡ z + w → w < y → x < z
      less e h = omega arith

      at_most : {x y z w : ℕ} → x + y ≡ z + w → w ≤ y → x ≤ z
      at_most e h = omega arith

  -- three lines in a ring
  shrink : (R : Ring g) → drawn D R.ab ≡ true → drawn D R.bc ≡ true → drawn D R.cd ≡ true → drawn D R.da ≡ false → Better g D
  shrink R ab bc cd da = move R fourth_alone (three_lines_give_way wide R D ordinary ab bc cd da)
      (rw (ab, bc, cd, da) (lighter R.joins_da)) (rw (ab, bc, cd, da) (omega arith))
    where
      lighter : Joins g.width R.da R.d R.a → ring_worth (pads_from g) R fourth_alone < ring_worth (pads_from g) R all_but_fourth
      lighter (forth d_first a_second) =
          let below = first_is_lower g.width R.cd (joins_back R.joins_cd) in
          omega (arith, first_inside g R.ab R.on_board_ab)
      lighter (back d_second a_first) =
          let below = first_is_lower g.width R.ab R.joins_ab in
          omega (arith, first_inside g R.cd R.on_board_cd)

  -- how many lines a ring has: at most two, or the drawing can be bettered
  few_or_better : (R : Ring g) (ab bc cd da : Bool)
      → drawn D R.ab ≡ ab → drawn D R.bc ≡ bc → drawn D R.cd ≡ cd → drawn D R.da ≡ da
      → (num ab + num da + num bc + num cd ≤ 2) ⊎ Better g D
  few_or_better R true true true true p q r s = absurd (not_four_lines wide R D ordinary p q r s)
  few_or_better R true true true false p q r s = inr (shrink R p q r s)
  few_or_better R false true true true p q r s = inr (shrink (turn R) q r s p)
  few_or_better R true false true true p q r s = inr (shrink (turn (turn R)) r s p q)
  few_or_better R true true false true p q r s = inr (shrink (turn (turn (turn R))) s p q r)
  few_or_better R true true false false p q r s = inl (omega arith)
  few_or_better R true false true false p q r s = inl (omega arith)
  few_or_better R true false false true p q r s = inl (omega arith)
  few_or_better R true false false false p q r s = inl (omega arith)
  few_or_better R false true true false p q r s = inl (omega arith)
  few_or_better R false true false true p q r s = inl (omega arith)
  few_or_better R false true false false p q r s = inl (omega arith)
  few_or_better R false false true true p q r s = inl (omega arith)
  few_or_better R false false true false p q r s = inl (omega arith)
  few_or_better R false false false true p q r s = inl (omega arith)
  few_or_better R false false false false p q r s = inl (omega arith)

  module _ (v : ℕ) (u : UnitSquare g v) where
    -- the ring of the unit square, beginning with the upper pad whose corner lies in it
    ring_of : Side → Ring g
    ring_of on_right = ring_at g wide v u
    ring_of on_left = turn (ring_at g wide v u)

    -- the corner's two lines are the ring's at its first pad, and the pad diagonally below is the one opposite
    corner_lines : (side : Side) → Corner side D (corner_pad side v)
        → (drawn D (ring_of side).ab ≡ true) × (drawn D (ring_of side).da ≡ true)
    unfolding ring_of ring_at
    corner_lines on_right (h, k) = (h, k)
    corner_lines on_left ((w, e, h), k) = let q : w ≡ v = omega arith in (k, rw q at h)

    opposite : (side : Side) (q : ℕ) → DiagonallyBelow side g.width (corner_pad side v) q → q ≡ (ring_of side).c
    unfolding ring_of ring_at
    opposite on_right q e = omega arith
    opposite on_left q e = omega arith

    -- a line of the pad opposite that is not in the ring leads to that side, or downward
    abbrev Beside : Side → ℕ → ℕ → Type 0
    Beside on_right p y = y ≡ p + 1
    Beside on_left p y = y + 1 ≡ p

    outer_line : (side : Side) → drawn D (ring_of side).bc ≡ false → drawn D (ring_of side).cd ≡ false
        → (y : ℕ) → Line g.width D (ring_of side).c y
        → (Beside side (ring_of side).c y × LineBeside side D (ring_of side).c)
        ⊎ ((y ≡ (ring_of side).c + g.width) × (D.down (ring_of side).c ≡ true))
    unfolding ring_of ring_at
    outer_line on_right bc cd y (rightward e h) = inl (e, h)
    outer_line on_right bc cd y (downward e h) = inr (e, h)
    outer_line on_right bc cd y (leftward e h) = let q : y ≡ v + g.width = omega arith in zero≢one (cc)
    outer_line on_right bc cd y (upward e h) = let q : y ≡ v + 1 = omega arith in zero≢one (cc)
    outer_line on_left bc cd y (leftward e h) = inl (sym e, (y, sym e, h))
    outer_line on_left bc cd y (downward e h) = inr (e, h)
    outer_line on_left bc cd y (rightward e h) = zero≢one (cc)
    outer_line on_left bc cd y (upward e h) = let q : y ≡ v = omega arith in zero≢one (cc)

    one_beside : (side : Side) (p x y : ℕ) → Beside side p x → Beside side p y → x ≡ y
    one_beside on_right p x y e f = omega arith
    one_beside on_left p x y e f = omega arith

    -- so if it has two lines, they are the same two
    same_corner : (side : Side) → drawn D (ring_of side).bc ≡ false → drawn D (ring_of side).cd ≡ false
        → TwoLines (Line g.width D) (ring_of side).c → Corner side D (ring_of side).c
    same_corner side bc cd o = go (outer_line side bc cd o.to o.line) (outer_line side bc cd o.also_to o.also_line)
      where
        c : ℕ
        c = (ring_of side).c

        go : (Beside side c o.to × LineBeside side D c) ⊎ ((o.to ≡ c + g.width) × (D.down c ≡ true))
            → (Beside side c o.also_to × LineBeside side D c) ⊎ ((o.also_to ≡ c + g.width) × (D.down c ≡ true)) → Corner side D c
        go (inl (p, h)) (inl (q, k)) = absurd (o.apart (one_beside side c o.to o.also_to p q))
        go (inl (p, h)) (inr (q, k)) = (h, k)
        go (inr (p, h)) (inl (q, k)) = (k, h)
        go (inr (p, h)) (inr (q, k)) = absurd (o.apart (p ∙ sym q))

    -- a flip makes the weight fall
    flip_lighter : (side : Side) → ring_worth (pads_from g) (ring_of side) corner_opposite < ring_worth (pads_from g) (ring_of side) corner_alone
    unfolding ring_of ring_at
    flip_lighter on_right = omega arith
    flip_lighter on_left = omega arith

    -- the corner rule on that side of the square
    abbrev CornerRule : Side → Type 0
    CornerRule side = (q : ℕ) → DiagonallyBelow side g.width (corner_pad side v) q → Corner side D (corner_pad side v)
        → NotBlank g q ⊎ Corner side D q

    -- a corner with no other line in the square obeys it, or is flipped onto the bare blank pad opposite
    corner_at : (side : Side) → drawn D (ring_of side).ab ≡ true → drawn D (ring_of side).bc ≡ false → drawn D (ring_of side).cd ≡ false
        → drawn D (ring_of side).da ≡ true → CornerRule side ⊎ Better g D
    corner_at side ab bc cd da = go (blank_or_not (g.cell R.c))
      where
        R : Ring g
        R = ring_of side

        flip : g.cell R.c ≡ blank → NoLine (Line g.width D) R.c → Better g D
        flip e none = move R corner_opposite (corner_flips wide R D ordinary ab da none e)
            (rw (ab, bc, cd, da) (flip_lighter side)) (rw (ab, bc, cd, da) (omega arith))

        go : (g.cell R.c ≡ blank) ⊎ NotBlank g R.c → CornerRule side ⊎ Better g D
        go (inr n) = inl (λ q below corner. inl (rw (opposite side q below) n))
        go (inl e) = ⊎_elim (λ none. inr (flip e none))
            (λ two. inl (λ q below corner. inr (rw (opposite side q below) (same_corner side bc cd two)))) (ordinary.wired.blank_none_or_two R.c e)

    -- two lines at the ring's first pad leave none for the other two edges
    no_other : (side : Side) → square_lines g D v ≤ 2 → drawn D (ring_of side).ab ≡ true → drawn D (ring_of side).da ≡ true
        → num (drawn D (ring_of side).bc) + num (drawn D (ring_of side).cd) ≤ 0
    unfolding ring_of ring_at
    no_other on_right few ab da = let h = rw (ab, da) at few in omega arith
    no_other on_left few ab da = let h = rw (ab, da) at few in omega arith

    corner_or_better : (side : Side) → square_lines g D v ≤ 2 → CornerRule side ⊎ Better g D
    corner_or_better side few = go (drawn D R.ab) (drawn D R.bc) (drawn D R.cd) (drawn D R.da) refl refl refl refl
      where
        R : Ring g
        R = ring_of side

        none_of : (ab bc cd da : Bool) → drawn D R.ab ≡ ab → drawn D R.bc ≡ bc → drawn D R.cd ≡ cd → drawn D R.da ≡ da
            → ab ≡ true → da ≡ true → num bc + num cd ≤ 0
        none_of ab bc cd da p q r s is_ab is_da = rw (q, r) at (no_other side few (p ∙ is_ab) (s ∙ is_da))

        go : (ab bc cd da : Bool) → drawn D R.ab ≡ ab → drawn D R.bc ≡ bc → drawn D R.cd ≡ cd → drawn D R.da ≡ da
            → CornerRule side ⊎ Better g D
        go false bc cd da p q r s = inl (λ x below corner. let h = (corner_lines side corner).0 in zero≢one (cc))
        go true bc cd false p q r s = inl (λ x below corner. let h = (corner_lines side corner).1 in zero≢one (cc))
        go true false false true p q r s = corner_at side p q r s
        go true true cd true p q r s = absurd (omega (arith, none_of true true cd true p q r s refl refl))
        go true false true true p q r s = absurd (omega (arith, none_of true false true true p q r s refl refl))

    look_in_square : Fine g D v ⊎ Better g D
    unfolding ring_of ring_at
    look_in_square = ⊎_elim (λ few. corners few) (λ b. inr b)
        (few_or_better R (drawn D R.ab) (drawn D R.bc) (drawn D R.cd) (drawn D R.da) refl refl refl refl)
      where
        R : Ring g
        R = ring_at g wide v u

        corners : square_lines g D v ≤ 2 → Fine g D v ⊎ Better g D
        corners few = ⊎_elim (λ l. ⊎_elim (λ r. inl (record { few = λ h. few; corner = by_side l r })) (λ b. inr b) (corner_or_better on_right few))
            (λ b. inr b) (corner_or_better on_left few)
          where
            by_side : CornerRule on_left → CornerRule on_right → (side : Side) → CornerRule side
            by_side l r on_left = l
            by_side l r on_right = r

  -- a corner lies in a unit square
  corner_in_square : (side : Side) (v : ℕ) → Corner side D (corner_pad side v) → UnitSquare g v
  unfolding OnBoard
  corner_in_square on_right v (h, k) = (ordinary.placed (right v) h, ordinary.placed (down v) k)
  corner_in_square on_left v ((w, e, h), k) = let q : w ≡ v = omega arith in
      let below : v + 1 + g.width < pads g = ordinary.placed (down (v + 1)) k in
      (ordinary.placed (right v) (rw q at h), omega arith)

  pub look : (v : ℕ) → Fine g D v ⊎ Better g D
  look v = go (in_square v)
    where
      in_square : (v : ℕ) → Dec (UnitSquare g v)
      in_square v = Dec.and (Dec.and (dec_lt v (pads g)) (dec_lt (v % g.width + 1) g.width)) (dec_lt (v + g.width) (pads g))

      go : Dec (UnitSquare g v) → Fine g D v ⊎ Better g D
      go (yes u) = look_in_square v u
      go (no n) = inl (record
          { few = λ u. absurd (n u); corner = λ side q below corner. absurd (n (corner_in_square side v corner)) })
