-- Where codes end, and example drawings that are listed, that are ordinary and not listed, and that are neither, on small grids. Each is a
-- fact of the rules of Grid.antt and Drawing.antt, so a slip in those rules is refused here. A drawing is told by the pads with a line to
-- the right and the pads with a line downward. Checked.antt and CheckedListed.antt prove a drawing ordinary or listed by computing: they are
-- given the lines, a number for each pad that rises along its chain, and the code of each pad's chain.
use Rattle.std.specs.Prelude.{ℕ, zero, suc, ◌<◌, ◌≡◌, refl, ◌≢◌, List, [], ◌∷◌, ℤ, pos, nat_abs}
use Rattle.std.proofs.Common.{ap, inl, inr, ⊎_elim, arith}
use Rattle.rules.specs.Grid.{cell_of, blank_cell, hole_cell, CellInRange, grid_of}
use Rattle.rules.specs.Drawing.{Drawing, Line, rightward, leftward, downward, upward, here, more, Ordinary, Listed, on_left, on_right}
use Rattle.rules.specs.Checked.{elem, lines_at, checked, checked_ordinary}
use Rattle.rules.specs.CheckedListed.{corners_checked, squares_checked}
use Rattle.rules.proofs.CheckedListed.{checked_listed}
use Rattle.rules.specs.Places.{zero≢one}

-- the cells of a grid, row by row: blank, a hole, and clues of code 5, 6 and 7
abbrev empty : ℤ
empty = blank_cell

abbrev drilled : ℤ
drilled = hole_cell

abbrev five : ℤ
five = pos 5

abbrev six : ℤ
six = pos 6

abbrev seven : ℤ
seven = pos 7

-- CODES end with 4294967295.
pub last_code_is_in_range : CellInRange (pos 4294967295)
last_code_is_in_range = inr (inr (4294967295, refl, omega arith))

pub one_more_is_not_in_range : CellInRange (pos 4294967296) → ⊥
one_more_is_not_in_range (inl e) = omega (arith, ap nat_abs e)
one_more_is_not_in_range (inr (inl e)) = omega (arith, ap nat_abs e)
one_more_is_not_in_range (inr (inr (code, e, below))) = omega (arith, ap nat_abs e, below)

-- LISTED. 5 and 5 on a diagonal, drawn down from pad 0 and right from pad 2.
-- (5 _ / _ 5)
abbrev diagonal_cells : List ℤ
diagonal_cells = five ∷ empty ∷ empty ∷ five ∷ []

pub straight_is_listed : Listed (grid_of 2 2 diagonal_cells) (lines_at (2 ∷ []) (0 ∷ []))
unfolding checked corners_checked squares_checked grid_of lines_at cell_of elem
straight_is_listed = checked_listed _ _
    (checked_ordinary 2 2 diagonal_cells (2 ∷ []) (0 ∷ []) (0 ∷ 0 ∷ 1 ∷ 2 ∷ []) (5 ∷ 0 ∷ 5 ∷ 5 ∷ []) refl) refl refl refl

-- Pad 0 has right and down lines, and diagonally below it on the right stands a clue.
-- (_ 5 _ / 5 6 6)
abbrev clue_on_the_right : List ℤ
clue_on_the_right = empty ∷ five ∷ empty ∷ five ∷ six ∷ six ∷ []

pub right_corner_over_a_clue_is_listed : Listed (grid_of 2 3 clue_on_the_right) (lines_at (0 ∷ 4 ∷ []) (0 ∷ []))
unfolding checked corners_checked squares_checked grid_of lines_at cell_of elem
right_corner_over_a_clue_is_listed = checked_listed _ _
    (checked_ordinary 2 3 clue_on_the_right (0 ∷ 4 ∷ []) (0 ∷ []) (1 ∷ 0 ∷ 0 ∷ 2 ∷ 0 ∷ 1 ∷ []) (5 ∷ 5 ∷ 0 ∷ 5 ∷ 6 ∷ 6 ∷ []) refl) refl refl refl

-- Pad 2 has left and down lines, and diagonally below it on the left stands a clue.
-- (_ 5 _ / 6 6 5)
abbrev clue_on_the_left : List ℤ
clue_on_the_left = empty ∷ five ∷ empty ∷ six ∷ six ∷ five ∷ []

pub left_corner_over_a_clue_is_listed : Listed (grid_of 2 3 clue_on_the_left) (lines_at (1 ∷ 3 ∷ []) (2 ∷ []))
unfolding checked corners_checked squares_checked grid_of lines_at cell_of elem
left_corner_over_a_clue_is_listed = checked_listed _ _
    (checked_ordinary 2 3 clue_on_the_left (1 ∷ 3 ∷ []) (2 ∷ []) (0 ∷ 0 ∷ 1 ∷ 0 ∷ 1 ∷ 2 ∷ []) (0 ∷ 5 ∷ 5 ∷ 6 ∷ 6 ∷ 5 ∷ []) refl) refl refl refl

-- Pad 0 has right and down lines, and diagonally below it on the right is a hole.
-- (_ 5 / 5 #)
abbrev hole_on_the_right : List ℤ
hole_on_the_right = empty ∷ five ∷ five ∷ drilled ∷ []

pub right_corner_over_a_hole_is_listed : Listed (grid_of 2 2 hole_on_the_right) (lines_at (0 ∷ []) (0 ∷ []))
unfolding checked corners_checked squares_checked grid_of lines_at cell_of elem
right_corner_over_a_hole_is_listed = checked_listed _ _
    (checked_ordinary 2 2 hole_on_the_right (0 ∷ []) (0 ∷ []) (1 ∷ 0 ∷ 2 ∷ 0 ∷ []) (5 ∷ 5 ∷ 5 ∷ 0 ∷ []) refl) refl refl refl

-- Pad 1 has left and down lines, and diagonally below it on the left is a hole.
-- (5 _ / # 5)
abbrev hole_on_the_left : List ℤ
hole_on_the_left = five ∷ empty ∷ drilled ∷ five ∷ []

pub left_corner_over_a_hole_is_listed : Listed (grid_of 2 2 hole_on_the_left) (lines_at (0 ∷ []) (1 ∷ []))
unfolding checked corners_checked squares_checked grid_of lines_at cell_of elem
left_corner_over_a_hole_is_listed = checked_listed _ _
    (checked_ordinary 2 2 hole_on_the_left (0 ∷ []) (1 ∷ []) (0 ∷ 1 ∷ 0 ∷ 2 ∷ []) (5 ∷ 5 ∷ 0 ∷ 5 ∷ []) refl) refl refl refl

-- Pad 0 has right and down lines, so has pad 5 diagonally below it, and diagonally below that stands a clue.
-- (_ 5 _ _ / 5 _ 7 _ / _ 7 6 6)
abbrev corner_below_cells : List ℤ
corner_below_cells = empty ∷ five ∷ empty ∷ empty ∷ five ∷ empty ∷ seven ∷ empty ∷ empty ∷ seven ∷ six ∷ six ∷ []

pub corner_over_a_corner_is_listed : Listed (grid_of 3 4 corner_below_cells) (lines_at (0 ∷ 5 ∷ 10 ∷ []) (0 ∷ 5 ∷ []))
unfolding checked corners_checked squares_checked grid_of lines_at cell_of elem
corner_over_a_corner_is_listed = checked_listed _ _ (checked_ordinary 3 4 corner_below_cells (0 ∷ 5 ∷ 10 ∷ []) (0 ∷ 5 ∷ [])
    (1 ∷ 0 ∷ 0 ∷ 0 ∷ 2 ∷ 1 ∷ 0 ∷ 0 ∷ 0 ∷ 2 ∷ 0 ∷ 1 ∷ []) (5 ∷ 5 ∷ 0 ∷ 0 ∷ 5 ∷ 7 ∷ 7 ∷ 0 ∷ 0 ∷ 7 ∷ 6 ∷ 6 ∷ []) refl) refl refl refl

-- ORDINARY AND NOT LISTED. 5 beside 5, drawn down, right and up: three lines in a unit square.
-- (5 5 / _ _)
abbrev beside_cells : List ℤ
beside_cells = five ∷ five ∷ empty ∷ empty ∷ []

abbrev detour : Drawing
detour = lines_at (2 ∷ []) (0 ∷ 1 ∷ [])

pub detour_is_ordinary : Ordinary (grid_of 2 2 beside_cells) detour
unfolding checked
detour_is_ordinary = checked_ordinary 2 2 beside_cells (2 ∷ []) (0 ∷ 1 ∷ []) (0 ∷ 3 ∷ 1 ∷ 2 ∷ []) (5 ∷ 5 ∷ 5 ∷ 5 ∷ []) refl

pub detour_is_not_listed : Listed (grid_of 2 2 beside_cells) detour → ⊥
unfolding grid_of lines_at elem
detour_is_not_listed h = omega (arith, h.squares 0 ((omega arith, omega arith), omega arith))

-- 5 and 5 on the other diagonal, drawn right and down from pad 0 over the blank pad 3.
-- (_ 5 / 5 _)
abbrev other_diagonal_cells : List ℤ
other_diagonal_cells = empty ∷ five ∷ five ∷ empty ∷ []

abbrev right_corner : Drawing
right_corner = lines_at (0 ∷ []) (0 ∷ [])

pub right_corner_is_ordinary : Ordinary (grid_of 2 2 other_diagonal_cells) right_corner
unfolding checked
right_corner_is_ordinary =
    checked_ordinary 2 2 other_diagonal_cells (0 ∷ []) (0 ∷ []) (1 ∷ 0 ∷ 2 ∷ 0 ∷ []) (5 ∷ 5 ∷ 5 ∷ 0 ∷ []) refl

pub right_corner_is_not_listed : Listed (grid_of 2 2 other_diagonal_cells) right_corner → ⊥
unfolding grid_of lines_at elem cell_of
right_corner_is_not_listed h =
    ⊎_elim (λ not_blank. not_blank refl) (λ (e, f). zero≢one (cc)) (h.corners on_right 0 3 refl (refl, refl))

-- 5 and 5 on a diagonal, drawn left and down from pad 1 over the blank pad 2.
abbrev left_corner : Drawing
left_corner = lines_at (0 ∷ []) (1 ∷ [])

pub left_corner_is_ordinary : Ordinary (grid_of 2 2 diagonal_cells) left_corner
unfolding checked
left_corner_is_ordinary = checked_ordinary 2 2 diagonal_cells (0 ∷ []) (1 ∷ []) (0 ∷ 1 ∷ 0 ∷ 2 ∷ []) (5 ∷ 5 ∷ 0 ∷ 5 ∷ []) refl

pub left_corner_is_not_listed : Listed (grid_of 2 2 diagonal_cells) left_corner → ⊥
unfolding grid_of lines_at elem cell_of
left_corner_is_not_listed h =
    ⊎_elim (λ not_blank. not_blank refl) (λ (e, f). zero≢one (cc)) (h.corners on_left 1 2 refl ((0, refl, refl), refl))

-- NEITHER. All four lines on a blank grid: a closed loop.
abbrev blank_cells : List ℤ
blank_cells = empty ∷ empty ∷ empty ∷ empty ∷ []

abbrev square : Drawing
square = lines_at (0 ∷ 2 ∷ []) (0 ∷ 1 ∷ [])

pub closed_loop_is_not_ordinary : Ordinary (grid_of 2 2 blank_cells) square → ⊥
unfolding grid_of lines_at elem
closed_loop_is_not_ordinary h = h.wired.no_loop (λ v. v < 4) (record { pad = 0; inside = omega arith; two = two })
  where
    two : (v : ℕ) → v < 4 → (a : ℕ) × (b : ℕ) × (a ≢ b) × (a < 4) × (b < 4) × Line 2 square v a × Line 2 square v b
    two zero l = (1, 2, (omega arith), (omega arith), (omega arith), rightward refl refl, downward refl refl)
    two (suc zero) l = (0, 3, (omega arith), (omega arith), (omega arith), leftward refl refl, downward refl refl)
    two (suc (suc zero)) l = (3, 0, (omega arith), (omega arith), (omega arith), rightward refl refl, upward refl refl)
    two (suc (suc (suc zero))) l = (2, 1, (omega arith), (omega arith), (omega arith), leftward refl refl, upward refl refl)
    two (suc (suc (suc (suc v)))) l = absurd (omega arith)

-- 5 beside 6, drawn right from pad 0: unequal codes joined.
-- (5 6 / _ _)
abbrev unequal_cells : List ℤ
unequal_cells = five ∷ six ∷ empty ∷ empty ∷ []

pub unequal_codes_are_not_ordinary : Ordinary (grid_of 2 2 unequal_cells) (lines_at (0 ∷ []) []) → ⊥
unfolding grid_of lines_at elem cell_of
unequal_codes_are_not_ordinary h = omega (arith, h.wired.equal_codes 0 1 5 6 refl refl (more (rightward refl refl) here))

-- A single 5 and no line: the clue has none.
-- (5 _ / _ _)
abbrev lone_cells : List ℤ
lone_cells = five ∷ empty ∷ empty ∷ empty ∷ []

pub lone_clue_is_not_ordinary : Ordinary (grid_of 2 2 lone_cells) (lines_at [] []) → ⊥
unfolding grid_of lines_at elem cell_of
lone_clue_is_not_ordinary h = none (h.wired.clue_one 0 5 refl).line
  where
    none : {u : ℕ} → Line 2 (lines_at [] []) 0 u → ⊥
    none (rightward e f) = zero≢one (cc)
    none (leftward e f) = zero≢one (cc)
    none (downward e f) = zero≢one (cc)
    none (upward e f) = zero≢one (cc)

-- One line on a blank grid: a blank pad has one.
pub loose_end_is_not_ordinary : Ordinary (grid_of 2 2 blank_cells) (lines_at (0 ∷ []) []) → ⊥
unfolding grid_of lines_at elem cell_of
loose_end_is_not_ordinary h = ⊎_elim (λ none. none 1 (rightward refl refl)) (λ o. o.apart (omega (arith, one o.line, one o.also_line)))
    (h.wired.blank_none_or_two 0 refl)
  where
    one : {u : ℕ} → Line 2 (lines_at (0 ∷ []) []) 0 u → u ≡ 1
    one (rightward e f) = e
    one (leftward e f) = absurd (omega arith)
    one (downward e f) = zero≢one (cc)
    one (upward e f) = absurd (omega arith)

-- 5 and 5 on a diagonal, drawn right from pad 0 and down from pad 1, which is a hole: two lines at a hole.
-- (5 # / _ 5)
abbrev hole_between : List ℤ
hole_between = five ∷ drilled ∷ empty ∷ five ∷ []

pub lines_at_a_hole_are_not_ordinary : Ordinary (grid_of 2 2 hole_between) (lines_at (0 ∷ []) (1 ∷ [])) → ⊥
unfolding grid_of lines_at elem cell_of
lines_at_a_hole_are_not_ordinary h = h.wired.hole_none 1 refl 0 (leftward refl refl)

-- 5 beside a hole, drawn right from pad 0: the line ends at a hole.
-- (5 # / _ _)
abbrev hole_beside : List ℤ
hole_beside = five ∷ drilled ∷ empty ∷ empty ∷ []

pub a_line_to_a_hole_is_not_ordinary : Ordinary (grid_of 2 2 hole_beside) (lines_at (0 ∷ []) []) → ⊥
unfolding grid_of lines_at elem cell_of
a_line_to_a_hole_is_not_ordinary h = h.wired.hole_none 1 refl 0 (leftward refl refl)
