-- Two more checks by computing, for the unit squares and for the corners on each side: an ordinary drawing is listed exactly where it passes
-- them. The example drawings of Examples.antt are checked by them, and the judge of a drawing asks them. They rest on Drawing.antt and Tests.antt.
-- What is proved of them stands in proofs/CheckedListed.antt.
use Rattle.std.specs.Prelude.{ℕ, ◌+◌, ◌-◌, ◌%◌, Bool, ◌&&◌, ◌||◌, ltb}
use Rattle.std.proofs.Math.Bool.{true, false, not}
use Rattle.std.proofs.Math.Dec.{leb}
use Rattle.rules.specs.Grid.{Cell, blank, clue, hole, Grid, pads}
use Rattle.rules.specs.Drawing.{Drawing, square_lines, Side, on_left, on_right}
use Rattle.rules.specs.Tests.{all_below}

-- has the pad the corner on that side
unfoldable pub has_corner : Side → Drawing → ℕ → Bool
has_corner on_right D p = D.right p && D.down p
has_corner on_left D p = (leb 1 p && D.right (p - 1)) && D.down p

unfoldable pub diagonal : Side → ℕ → ℕ → ℕ
diagonal on_right width p = p + width + 1
diagonal on_left width p = p + width - 1

unfoldable pub not_blank : Cell → Bool
not_blank (clue code) = true
not_blank hole = true
not_blank blank = false

unfoldable pub corners_checked : Side → Grid → Drawing → Bool
unfolding has_corner diagonal not_blank all_below
corners_checked side g D = all_below (λ p. not (has_corner side D p) || (not_blank (g.cell (diagonal side g.width p))
    || has_corner side D (diagonal side g.width p))) (pads g)

-- has the pad a neighbour to the right and one below
abbrev pub is_square : Grid → ℕ → Bool
is_square g v = ltb (v % g.width + 1) g.width && ltb (v + g.width) (pads g)

unfoldable pub squares_checked : Grid → Drawing → Bool
unfolding all_below
squares_checked g D = all_below (λ v. not (is_square g v) || leb (square_lines g D v) 2) (pads g)
