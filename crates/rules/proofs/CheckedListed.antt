-- What is proved of the definitions in specs/CheckedListed.antt.
use Rattle.std.specs.Prelude.{ℕ, ◌+◌, ◌-◌, ◌%◌, ◌≤◌, ◌<◌, ◌≡◌, ◌≢◌, ◌⊎◌, Bool, ◌&&◌, ◌||◌, ltb}
use Rattle.std.proofs.Math.Path.{refl}
use Rattle.std.proofs.Math.Logic.{inl, inr, ⊎_elim, ⊎_map}
use Rattle.std.proofs.Math.Bool.{true, false, not}
use native.Mathlib.Omega.{arith}
use borrow.Author.Tests.{leb-true, ltb-true, not-true, le-leb, lt-ltb}
use Rattle.std.proofs.Math.Dec.{leb}
use Rattle.rules.specs.Grid.{down, Cell, blank, clue, hole, Grid, pads, OnBoard, UnitSquare}
use Rattle.rules.specs.Drawing.{Drawing, Ordinary, Listed, square_lines, Side, on_left, on_right, DiagonallyBelow, Corner, NotBlank}
use Rattle.rules.specs.Tests.{both, both_on, either, either_on, conflict, all_below_at, all_below_so}
use Rattle.rules.specs.Places.{zero≢one}
use Rattle.rules.specs.CheckedListed.{has_corner, diagonal, not_blank, corners_checked, is_square, squares_checked}

corner_is : (side : Side) (D : Drawing) (p : ℕ) → Corner side D p → has_corner side D p ≡ true
unfolding has_corner
corner_is on_right D p (h, k) = rw (h, k) refl
corner_is on_left D p ((u, e, h), k) = let q : p - 1 ≡ u = omega arith in rw (le-leb 1 p (omega arith), q, h, k) refl

is_corner : (side : Side) (D : Drawing) (p : ℕ) → has_corner side D p ≡ true → Corner side D p
unfolding has_corner
is_corner on_right D p h = both (D.right p) (D.down p) h
is_corner on_left D p h =
    let (a, k) = both (leb 1 p && D.right (p - 1)) (D.down p) h in
    let (b, l) = both (leb 1 p) (D.right (p - 1)) a in ((p - 1, omega (arith, leb-true 1 p b), l), k)

diagonal_is : (side : Side) (width p q : ℕ) → DiagonallyBelow side width p q → q ≡ diagonal side width p
unfolding diagonal
diagonal_is on_right width p q e = e
diagonal_is on_left width p q e = omega arith

is_diagonal : (side : Side) (width p : ℕ) → 0 < width → DiagonallyBelow side width p (diagonal side width p)
unfolding diagonal
is_diagonal on_right width p some = refl
is_diagonal on_left width p some = omega arith

not_blank_is : (C : Cell) → not_blank C ≡ true → C ≢ blank
unfolding not_blank
not_blank_is (clue code) h e = zero≢one (cc)
not_blank_is hole h e = zero≢one (cc)
not_blank_is blank h e = zero≢one (cc)

is_not_blank : (C : Cell) → C ≢ blank → not_blank C ≡ true
unfolding not_blank
is_not_blank (clue code) n = refl
is_not_blank hole n = refl
is_not_blank blank n = absurd (n refl)

module _ (g : Grid) (D : Drawing) (ordinary : Ordinary g D) where
  corner_in_range : (side : Side) (p : ℕ) → Corner side D p → p < pads g
  unfolding OnBoard
  corner_in_range on_right p (h, k) = let below : p + g.width < pads g = ordinary.placed (down p) k in omega arith
  corner_in_range on_left p (h, k) = let below : p + g.width < pads g = ordinary.placed (down p) k in omega arith

  corner_checked : (side : Side) → corners_checked side g D ≡ true → (p q : ℕ) → DiagonallyBelow side g.width p q → Corner side D p
      → NotBlank g q ⊎ Corner side D q
  unfolding corners_checked
  corner_checked side ok p q below corner = ⊎_elim
      (λ n. zero≢one (cc (not-true (has_corner side D p) n, corner_is side D p corner)))
      (λ h. ⊎_elim (λ c. inl (rw same (not_blank_is _ c))) (λ c. inr (rw same (is_corner side D _ c)))
      (either (not_blank (g.cell (diagonal side g.width p))) _ h))
      (either (not (has_corner side D p)) _ (all_below_at _ (pads g) ok p (corner_in_range side p corner)))
    where
      same : q ≡ diagonal side g.width p
      same = diagonal_is side g.width p q below

  -- an ordinary drawing that passes them is listed
  pub checked_listed : squares_checked g D ≡ true → corners_checked on_left g D ≡ true → corners_checked on_right g D ≡ true → Listed g D
  unfolding squares_checked
  checked_listed squares left_corners right_corners = record { ordinary = ordinary; squares = by_square; corners = by_side }
    where
      by_square : (v : ℕ) → UnitSquare g v → square_lines g D v ≤ 2
      by_square v ((below, inside), down_inside) = ⊎_elim
          (λ n. conflict (both_on (lt-ltb _ _ inside) (lt-ltb _ _ down_inside)) (not-true (is_square g v) n))
          (λ few. leb-true (square_lines g D v) 2 few) (either (not (is_square g v)) _ (all_below_at _ (pads g) squares v below))

      by_side : (side : Side) (p q : ℕ) → DiagonallyBelow side g.width p q → Corner side D p → NotBlank g q ⊎ Corner side D q
      by_side on_left = corner_checked on_left left_corners
      by_side on_right = corner_checked on_right right_corners

-- and a listed one passes them
module _ (g : Grid) (some : 0 < g.width) (D : Drawing) (listed : Listed g D) where
  pub listed_squares : squares_checked g D ≡ true
  unfolding squares_checked
  listed_squares = all_below_so _ (pads g) (λ v below. go v below (is_square g v) refl)
    where
      go : (v : ℕ) → v < pads g → (b : Bool) → is_square g v ≡ b → not (is_square g v) || leb (square_lines g D v) 2 ≡ true
      go v below false h = rw h refl
      go v below true h = let (inside, down_inside) = both (ltb (v % g.width + 1) g.width) _ h in
          either_on (not (is_square g v)) (leb (square_lines g D v) 2) (inr (le-leb _ _ (listed.squares v ((below, ltb-true _ _ inside), ltb-true _ _ down_inside))))

  pub listed_corners : (side : Side) → corners_checked side g D ≡ true
  unfolding corners_checked
  listed_corners side = all_below_so _ (pads g) (λ p below. go p (has_corner side D p) refl)
    where
      go : (p : ℕ) → (b : Bool) → has_corner side D p ≡ b
          → not (has_corner side D p) || (not_blank (g.cell (diagonal side g.width p)) || has_corner side D (diagonal side g.width p)) ≡ true
      go p false h = rw h refl
      go p true h =
          let q = diagonal side g.width p in
          let corner = is_corner side D p h in
          let kept = ⊎_map (is_not_blank (g.cell q)) (corner_is side D q) (listed.corners side p q (is_diagonal side g.width p some) corner) in
          either_on (not (has_corner side D p)) (not_blank (g.cell q) || has_corner side D q) (inr (either_on (not_blank (g.cell q)) (has_corner side D q) kept))
