-- Laws of a test of every number below a bound: three tests in one, the pads row by row; and that the shape of a listed drawing is such a
-- test. They rest on Every.antt and on the rules' Tests.antt and CheckedListed.antt.
use Prim.Native.Nat.{ℕ, suc, ◌*◌, ◌/◌, ◌%◌, ◌≤◌, ◌<◌}
use mathlib.Core.Path.{◌≡◌, sym, ap, ◌∙◌}
use mathlib.Core.Bool.{Bool, true, ◌&&◌}
use mathlib.Core.List.{List}
use native.Mathlib.Omega.{arith}
use native.Mathlib.Nat.{mod-lt, div-add-mod', div-lt_iff_lt-mul, mul-le-mul_right, suc-mul}
use lib.IntN.{ℤ}
use Rattle.rules.specs.Grid.{pad_index, grid_of}
use Rattle.rules.specs.Record.{drawing_of}
use Rattle.rules.specs.Tests.{both, both_on, all_below, all_below_at, all_below_so}
use Rattle.rules.specs.CheckedListed.{squares_checked, corners_checked}
use Rattle.model.specs.Judge.{has_listed_shape}
use Rattle.judging.specs.Every.{same_truth}
use Rattle.judging.specs.Shape.{taken_at, square_keeps, corner_keeps, pad_keeps}

-- three tests in one
three_tests : (f g k : ℕ → Bool) (n : ℕ) → all_below f n && (all_below g n && all_below k n) ≡ all_below (λ v. f v && (g v && k v)) n
three_tests f g k n = same_truth _ _ together apart
  where
    together : all_below f n && (all_below g n && all_below k n) ≡ true → all_below (λ v. f v && (g v && k v)) n ≡ true
    together h = let (a, rest) = both (all_below f n) _ h in let (b, c) = both (all_below g n) _ rest in
        all_below_so _ n (λ v l. both_on (all_below_at f n a v l) (both_on (all_below_at g n b v l) (all_below_at k n c v l)))

    apart : all_below (λ v. f v && (g v && k v)) n ≡ true → all_below f n && (all_below g n && all_below k n) ≡ true
    apart h = both_on (all_below_so f n (λ v l. (both (f v) _ (all_below_at _ n h v l)).0))
        (both_on (all_below_so g n (λ v l. (both (g v) _ (both (f v) _ (all_below_at _ n h v l)).1).0))
        (all_below_so k n (λ v l. (both (g v) _ (both (f v) _ (all_below_at _ n h v l)).1).1)))

-- row by row
pub pad_inside : (height width y x : ℕ) → y < height → x < width → pad_index width y x < height * width
pad_inside height width y x low inside =
    let rows : suc y * width ≤ height * width = mul-le-mul_right width low in
    omega (arith, suc-mul y width)

pub by_rows : (test : ℕ → Bool) (height width : ℕ) → 0 < width → all_below (λ y. all_below (λ x. test (pad_index width y x)) width) height ≡ all_below test (height * width)
by_rows test height width some = same_truth _ _ rows_to_pads pads_to_rows
  where
    rows_to_pads : all_below (λ y. all_below (λ x. test (pad_index width y x)) width) height ≡ true → all_below test (height * width) ≡ true
    rows_to_pads h = all_below_so test (height * width) (λ v l. ap test (sym (div-add-mod' v width))
        ∙ all_below_at (λ x. test (pad_index width (v / width) x)) width (all_below_at _ height h (v / width) ((div-lt_iff_lt-mul some).1 l)) (v % width) (mod-lt v some))

    pads_to_rows : all_below test (height * width) ≡ true → all_below (λ y. all_below (λ x. test (pad_index width y x)) width) height ≡ true
    pads_to_rows h = all_below_so _ height (λ y low. all_below_so _ width (λ x inside. all_below_at test (height * width) h (pad_index width y x) (pad_inside height width y x low inside)))

-- THE SHAPE OF A LISTED DRAWING, row by row
pub shape_by_rows : (height width : ℕ) (cells : List ℤ) (bytes : List ℕ) → 0 < width
    → all_below (λ y. all_below (λ x. pad_keeps height width cells (drawing_of width bytes) (pad_index width y x)) width) height ≡ has_listed_shape (grid_of height width cells) bytes
unfolding has_listed_shape squares_checked corners_checked grid_of pad_keeps square_keeps corner_keeps taken_at
shape_by_rows height width cells bytes some = by_rows (pad_keeps height width cells (drawing_of width bytes)) height width some ∙ sym (three_tests _ _ _ (height * width))
