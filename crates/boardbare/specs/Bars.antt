-- Laws of barred pads, each stated once over the side: more rows than the grid has change nothing, and the byte of a pad follows from the
-- bytes of the pads below it. It rests on BareArrays.antt and KindBits.antt.
use Prim.Native.Nat.{ℕ, zero, suc, ◌+◌, ◌*◌, ◌%◌, ◌≤◌, ◌<◌}
use Rattle.std.specs.Prelude.{◌≡◌, Bool, ◌&&◌, not, List, ltb, get_or, length, ℤ}
use Rattle.std.proofs.Math.Path.{refl, sym, ap}
use Rattle.std.proofs.Common.{◌∙◌}
use Rattle.std.proofs.Math.Bool.{true, false, and-true, not-not}
use native.Mathlib.Omega.{arith}
use Rattle.std.proofs.Math.Nat.{add-mod_right, mul-mod_left, mul-add-mod_self_right}
use Rattle.std.proofs.Math.ListN.{get_or-eq_default}
use borrow.Author.Tests.{le-ltb, ltb-true, ltb-false}
use Rattle.rules.specs.Grid.{Grid, pads, grid_of, blank_cell, cell_of}
use Rattle.rules.specs.Drawing.{Side, on_left, on_right}
use Rattle.rules.specs.Tests.{both}
use Rattle.rules.specs.Places.{next_in_row}
use Rattle.model.specs.PadTests.{is_blank, is_clue, has_down}
use Rattle.model.specs.Board.{has_side, diagonal, barred}
use Rattle.boardview.specs.Told.{pick, has_bit, clue_bit, corner_bit, bar_bit, taken_bit}
use Rattle.boardbare.specs.BareArrays.{Filled, kind_byte, is_clue_at, is_taken, corner_test, barred_in, barred_below, bar_test, kind_from, kind_of}
use Rattle.boardbare.specs.KindBits.{SixBits, six_bits}

module _ (g : Grid) where
  abbrev W : ℕ
  W = g.width

  -- the pad has an edge downward and one to that side
  abbrev pub corner : Side → ℕ → Bool
  corner side v = has_down g v && has_side g side v

  -- the last row and the first column meet in a pad of column 0
  row_beyond : (n v : ℕ) → 0 < v % W → pads g ≤ v + n * W → pads g < v + n * W
  row_beyond n v left h = go (ltb (pads g) (v + n * W)) refl
    where
      go : (b : Bool) → ltb (pads g) (v + n * W) ≡ b → pads g < v + n * W
      go true e = ltb-true (pads g) (v + n * W) e
      go false e = absurd (omega (arith, sym (mul-add-mod_self_right n W v) ∙ (ap (λ x. x % W) same ∙ mul-mod_left g.height W)))
        where
          same : n * W + v ≡ g.height * W
          same = omega (arith, ltb-false (pads g) (v + n * W) e)

  -- one row fewer is left below the diagonal pad
  fewer_rows : (side : Side) (n v : ℕ) → has_side g side v ≡ true → pads g ≤ v + suc n * W → pads g ≤ diagonal g side v + n * W
  fewer_rows on_right n v on h = omega arith
  fewer_rows on_left n v on h = omega (arith, row_beyond (suc n) v (ltb-true 0 (v % W) on) h)

  -- MORE ROWS THAN ARE LEFT change nothing
  pub enough_rows : (side : Side) (n v : ℕ) → pads g ≤ v + suc n * W → barred g side n v ≡ barred g side (suc n) v
  unfolding barred
  enough_rows side zero v h = rw (le-ltb (v + W) (pads g) (omega arith)) (sym (and-true (is_blank (g.cell v))))
  enough_rows side (suc n) v h = go (corner side v) refl (λ k. enough_rows side n (diagonal g side v) k)
    where
      go : (b : Bool) → corner side v ≡ b → (pads g ≤ diagonal g side v + suc n * W → barred g side n (diagonal g side v) ≡ barred g side (suc n) (diagonal g side v))
          → is_blank (g.cell v) && (elim b [ true ↦ barred g side n (diagonal g side v) | false ↦ true ])
          ≡ is_blank (g.cell v) && (elim b [ true ↦ barred g side (suc n) (diagonal g side v) | false ↦ true ])
      go true e rest = ap (λ b. is_blank (g.cell v) && b) (rest (fewer_rows side (suc n) v (both (has_down g v) (has_side g side v) e).1 h))
      go false e rest = refl

  -- the whole height, at a pad with a corner and at one without
  module _ (side : Side) (h v : ℕ) (high : g.height ≡ suc h) where
    one_step : corner side v ≡ true → barred g side (suc h) v ≡ is_blank (g.cell v) && barred g side h (diagonal g side v)
    unfolding barred
    one_step e = rw e refl

    more_rows : barred g side h (diagonal g side v) ≡ barred g side (suc h) (diagonal g side v)
    more_rows = enough_rows side h (diagonal g side v) (rw (← high) (omega arith))

    pub barred_inside : corner side v ≡ true → barred g side g.height v ≡ is_blank (g.cell v) && barred g side g.height (diagonal g side v)
    barred_inside e = ap (λ n. barred g side n v) high ∙ (one_step e
        ∙ (ap (λ b. is_blank (g.cell v) && b) (more_rows ∙ ap (λ n. barred g side n (diagonal g side v)) (sym high))))

    at_rim : corner side v ≡ false → barred g side (suc h) v ≡ is_blank (g.cell v)
    unfolding barred
    at_rim e = rw e (and-true (is_blank (g.cell v)))

    pub barred_at_rim : corner side v ≡ false → barred g side g.height v ≡ is_blank (g.cell v)
    barred_at_rim e = ap (λ n. barred g side n v) high ∙ at_rim e

  -- THE BITS OF A PAD that is filled
  module _ (bits : List ℕ) (start : ℕ) (filled : Filled (kind_of g) 0 512 256 start bits) (v : ℕ) (low : start ≤ v) (high : v < 256) where
    six : SixBits bits v (is_clue (g.cell v)) (corner on_right v && barred g on_right g.height v) (corner on_left v && barred g on_left g.height v)
        (corner on_right v) (corner on_left v) (not (is_blank (g.cell v)))
    unfolding kind_of
    six = six_bits bits v _ _ _ _ _ _ (filled.holds v low high)

    pub clue_held : has_bit bits v clue_bit ≡ is_clue (g.cell v)
    clue_held = six.clue

    pub taken_held : has_bit bits v taken_bit ≡ not (is_blank (g.cell v))
    taken_held = six.taken

    pub corner_held : (side : Side) → has_bit bits v (corner_bit side) ≡ corner side v
    corner_held on_right = six.corner_right
    corner_held on_left = six.corner_left

    pub bar_held : (side : Side) → has_bit bits v (bar_bit side) ≡ corner side v && barred g side g.height v
    bar_held on_right = six.bar_right
    bar_held on_left = six.bar_left

    -- a byte tells whether its pad is barred
    pub barred_held : (side : Side) (h : ℕ) → g.height ≡ suc h → barred_in bits v (corner_bit side) (bar_bit side) ≡ barred g side g.height v
    unfolding barred_in
    barred_held side h tall = rw (corner_held side, bar_held side, taken_held, not-not (is_blank (g.cell v))) (go (corner side v) refl)
      where
        go : (b : Bool) → corner side v ≡ b → pick b (b && barred g side g.height v) (is_blank (g.cell v)) ≡ barred g side g.height v
        go true e = refl
        go false e = sym (barred_at_rim side h v tall e)

-- THE BYTE OF A PAD follows from those below it
abbrev is_right : Side → Bool
is_right on_right = true
is_right on_left = false

module _ (height width : ℕ) (cells : List ℤ) (wide : 2 ≤ width) (few : height * width ≤ 256) (h : ℕ) (tall : height ≡ suc h) where
  abbrev the_grid : Grid
  the_grid = grid_of height width cells

  same_corner : (side : Side) (v : ℕ) → corner_test width (height * width) (is_right side) v ≡ corner the_grid side v
  unfolding corner_test grid_of
  same_corner on_right v = refl
  same_corner on_left v = refl

  below_at : (bits : List ℕ) (side : Side) (v : ℕ) → barred_below bits width (is_right side) v ≡ barred_in bits (diagonal the_grid side v) (corner_bit side) (bar_bit side)
  unfolding barred_below grid_of
  below_at bits on_right v = refl
  below_at bits on_left v = refl

  -- the diagonal pad is one of the grid, further on
  diagonal_pad : (side : Side) (v : ℕ) → corner the_grid side v ≡ true → (v + 1 ≤ diagonal the_grid side v) × (diagonal the_grid side v < 256)
  unfolding grid_of
  diagonal_pad on_right v e =
      let b = both _ _ e in
      let below : v + width < height * width = ltb-true _ _ b.0 in
      let column : v % width + 1 < width = ltb-true _ _ b.1 in
      let inside = next_in_row width (v + width) height (rw (add-mod_right v width) column) below in
      (omega arith, omega arith)
  diagonal_pad on_left v e = let below : v + width < height * width = ltb-true _ _ (both _ _ e).0 in (omega arith, omega arith)

  module _ (bits : List ℕ) (v : ℕ) (filled : Filled (kind_of the_grid) 0 512 256 (v + 1) bits) where
    same_bar : (side : Side) → bar_test bits width (height * width) (is_taken cells v) (is_right side) v ≡ corner the_grid side v && barred the_grid side height v
    unfolding bar_test is_taken grid_of
    same_bar side = rw (same_corner side v, below_at bits side v) (go (corner the_grid side v) refl)
      where
        go : (b : Bool) → corner the_grid side v ≡ b
            → b && (not (not (is_blank (cell_of (get_or cells v blank_cell)))) && barred_in bits (diagonal the_grid side v) (corner_bit side) (bar_bit side)) ≡ b && barred the_grid side height v
        go true e = let d = diagonal_pad side v e in
            rw (not-not (is_blank (cell_of (get_or cells v blank_cell))), barred_held the_grid bits (v + 1) filled (diagonal the_grid side v) d.0 d.1 side h tall) (sym (barred_inside the_grid side h v tall e))
        go false e = refl

    pub next_kind : kind_from bits width (height * width) cells v ≡ kind_of the_grid v
    unfolding kind_from kind_of grid_of is_clue_at is_taken
    next_kind = rw (same_bar on_right, same_bar on_left, same_corner on_right v, same_corner on_left v) refl

  pub past_the_pads : length cells ≡ height * width → (v : ℕ) → height * width ≤ v → 0 ≡ kind_of the_grid v
  unfolding kind_of kind_byte grid_of cell_of
  past_the_pads long v past = rw (le-ltb (v + width) (height * width) (omega arith), get_or-eq_default cells blank_cell {n = v} (omega arith)) refl
