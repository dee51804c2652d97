-- The search against the rules on small grids, with holes and wide codes and without, by computation: all drawings are enumerated in ascending
-- order of their codes, those that keep the rules of a listed layout are picked out by a test, and the search must list exactly these. The
-- test is written from document 01's section on layouts and knows nothing of boards and ends: it counts lines and labels chains.
use Rattle.std.specs.Prelude.{ℕ, zero, suc, ◌+◌, ◌-◌, ◌%◌, ◌/◌, ◌≡◌, refl, Bool, true, false, ◌&&◌, ◌||◌, not, List, [], ◌∷◌, ◌++◌, map, eqb, ltb, leb, get_or, ℤ, pos}
use Rattle.rules.specs.Grid.{Cell, blank, clue, hole, cell_of, blank_cell, hole_cell, Grid, grid_of, pads, place_at, parity}
use Rattle.rules.specs.Drawing.{Drawing, num, square_lines}
use Rattle.rules.specs.Record.{codes, drawing_of, field, tabulate}
use Rattle.rules.specs.Tests.{all_below}
use Rattle.model.specs.JoinedEnds.{unjoinable, joined_ends, put_end, put_end_at}
use Rattle.model.specs.PadTests.{has_left, has_right, has_up, has_down, is_blank, is_clue}
use Rattle.model.specs.Board.{fresh, prepared, shut_at, shut, bare, decide, check, after_store, cannot_join, join_ends, check_items, settled, decide_first, degree, undecideds, lines, keep_aparts, around, do_item, do_items, shape_items, barred, set_flag, set_edge, enough}
use Rattle.model.specs.Runs.{Event, visit, layout}
use Rattle.model.specs.Search.{search, search_from, backtrack, try, degree_so_far, next_pad, board_record}

-- THE DRAWING of a list of codes, one for each pad
unfoldable pub drawing_of_codes : List ℕ → Drawing
drawing_of_codes list = record { right = λ v. eqb (get_or list v 0 % 2) 1; down = λ v. eqb (get_or list v 0 / 2) 1 }

module _ (g : Grid) where
  -- ALL DRAWINGS as lists of codes, ascending: the codes that a pad may have, and every choice of them
  unfoldable pub codes_at : ℕ → List ℕ
  codes_at v = elim (has_right g v) [
    | true ↦ elim (has_down g v) [ true ↦ 0 ∷ 1 ∷ 2 ∷ 3 ∷ [] | false ↦ 0 ∷ 1 ∷ [] ]
    | false ↦ elim (has_down g v) [ true ↦ 0 ∷ 2 ∷ [] | false ↦ 0 ∷ [] ]
  ]

  unfoldable pub before_each : List ℕ → List (List ℕ) → List (List ℕ)
  before_each [] rest = []
  before_each (c ∷ choices) rest = map (λ l. c ∷ l) rest ++ before_each choices rest

  unfoldable pub all_drawings : ℕ → ℕ → List (List ℕ)
  all_drawings v zero = [] ∷ []
  all_drawings v (suc n) = before_each (codes_at v) (all_drawings (v + 1) n)

  module _ (D : Drawing) where
    -- LINES AT A PAD: a clue has one, a blank pad none or two, a hole none
    abbrev pub lines_at : ℕ → ℕ
    lines_at v = num (has_left g v && D.right (v - 1)) + num (has_right g v && D.right v) + num (has_up g v && D.down (v - g.width)) + num (has_down g v && D.down v)

    abbrev pub right_number : Cell → ℕ → Bool
    right_number blank n = eqb n 0 || eqb n 2
    right_number (clue code) n = eqb n 1
    right_number hole n = eqb n 0

    -- UNIT SQUARES and CORNERS
    abbrev pub square_right : ℕ → Bool
    square_right v = not (has_right g v && has_down g v) || leb (square_lines g D v) 2

    abbrev pub corner_right_at : ℕ → Bool
    corner_right_at v = let q = v + g.width + 1 in not (D.right v && D.down v) || (not (is_blank (g.cell q)) || (D.right q && D.down q))

    -- the left+down corner of the pad to the right of v
    abbrev pub corner_left_at : ℕ → Bool
    corner_left_at v = let q = v + g.width in not (D.right v && D.down (v + 1)) || (not (is_blank (g.cell q)) || (has_left g q && (D.right (q - 1) && D.down q)))

    -- CHAINS: every pad takes the least label along its lines, as often as there are pads
    abbrev pub least_of : Bool → ℕ → ℕ → ℕ
    least_of false a b = b
    least_of true a b = elim (ltb a b) [ true ↦ a | false ↦ b ]

    unfoldable pub relabel : List ℕ → List ℕ
    relabel labels = tabulate (λ v.
        least_of (has_left g v && D.right (v - 1)) (get_or labels (v - 1) 0)
        (least_of (has_right g v && D.right v) (get_or labels (v + 1) 0)
        (least_of (has_up g v && D.down (v - g.width)) (get_or labels (v - g.width) 0)
        (least_of (has_down g v && D.down v) (get_or labels (v + g.width) 0) (get_or labels v 0))))) 0 (pads g)

    unfoldable pub labels : ℕ → List ℕ
    labels zero = tabulate (λ v. v) 0 (pads g)
    labels (suc n) = relabel (labels n)

    -- two clues of one chain have equal codes; a pad with a line has a clue in its chain, else the chain is closed
    abbrev pub same_code : Cell → Cell → Bool
    same_code blank d = true
    same_code hole d = true
    same_code (clue c) blank = true
    same_code (clue c) hole = true
    same_code (clue c) (clue d) = eqb c d

    unfoldable pub codes_agree : List ℕ → Bool
    codes_agree chain = all_below (λ u. all_below (λ v. not (eqb (get_or chain u 0) (get_or chain v 0)) || same_code (g.cell u) (g.cell v)) u) (pads g)

    unfoldable pub none_closed : List ℕ → Bool
    none_closed chain = all_below (λ u. eqb (lines_at u) 0 || not (all_below (λ v. not (is_clue (g.cell v) && eqb (get_or chain u 0) (get_or chain v 0))) (pads g))) (pads g)

    unfoldable pub is_ordinary : Bool
    is_ordinary = all_below (λ v. right_number (g.cell v) (lines_at v)) (pads g) && (codes_agree (labels (pads g)) && none_closed (labels (pads g)))

    unfoldable pub is_listed : Bool
    is_listed = is_ordinary && all_below (λ v. square_right v && (corner_right_at v && corner_left_at v)) (pads g)

  -- those that keep the rules
  unfoldable pub listed_among : List (List ℕ) → List (List ℕ)
  listed_among [] = []
  listed_among (l ∷ rest) = elim (is_listed (drawing_of_codes l)) [ true ↦ l ∷ listed_among rest | false ↦ listed_among rest ]

-- the codes of the layouts that the search lists
unfoldable pub found_codes : Grid → List Event → List (List ℕ)
found_codes g [] = []
found_codes g (visit ∷ events) = found_codes g events
found_codes g (layout bytes ∷ events) = codes g (drawing_of g.width bytes) ∷ found_codes g events

-- THE FACT for one grid
abbrev pub Agree : ℕ → ℕ → List ℤ → Type 0
Agree height width cells = let g = grid_of height width cells in found_codes g (search g) ≡ listed_among g (all_drawings g 0 (pads g))

abbrev pub o : ℤ
o = blank_cell

abbrev pub h : ℤ
h = hole_cell

pub record SmallGrids : Type 0 where
  pub blank_2_2 : Agree 2 2 (o ∷ o ∷ o ∷ o ∷ [])
  pub pair_2_2 : Agree 2 2 (pos 5 ∷ o ∷ o ∷ pos 5 ∷ [])
  pub four_2_2 : Agree 2 2 (pos 5 ∷ pos 5 ∷ pos 5 ∷ pos 5 ∷ [])
  pub blank_2_3 : Agree 2 3 (o ∷ o ∷ o ∷ o ∷ o ∷ o ∷ [])
  pub six_2_3 : Agree 2 3 (pos 1 ∷ pos 1 ∷ pos 1 ∷ pos 1 ∷ pos 1 ∷ pos 1 ∷ [])
  pub four_2_3 : Agree 2 3 (pos 1 ∷ o ∷ pos 1 ∷ pos 1 ∷ o ∷ pos 1 ∷ [])
  pub two_pairs_2_3 : Agree 2 3 (pos 1 ∷ o ∷ pos 1 ∷ pos 2 ∷ o ∷ pos 2 ∷ [])
  pub crossed_2_3 : Agree 2 3 (pos 1 ∷ o ∷ pos 2 ∷ pos 2 ∷ o ∷ pos 1 ∷ [])
  pub across_2_3 : Agree 2 3 (pos 1 ∷ pos 2 ∷ o ∷ o ∷ pos 2 ∷ pos 1 ∷ [])
  pub six_3_2 : Agree 3 2 (pos 1 ∷ pos 1 ∷ pos 1 ∷ pos 1 ∷ pos 1 ∷ pos 1 ∷ [])
  pub pair_3_2 : Agree 3 2 (pos 7 ∷ o ∷ o ∷ o ∷ o ∷ pos 7 ∷ [])
  pub four_3_2 : Agree 3 2 (pos 1 ∷ pos 1 ∷ o ∷ o ∷ pos 1 ∷ pos 1 ∷ [])
  pub turned_3_2 : Agree 3 2 (o ∷ pos 0 ∷ pos 0 ∷ pos 3 ∷ pos 3 ∷ o ∷ [])
  -- codes that 31 bits do not hold: equal ones are joined, and none is joined to what 31 bits hold of it, or to the next code
  pub wide_pair_2_2 : Agree 2 2 (pos 4294967295 ∷ o ∷ o ∷ pos 4294967295 ∷ [])
  pub wide_and_low_2_3 : Agree 2 3 (pos 3100000012 ∷ pos 952516364 ∷ o ∷ pos 3100000012 ∷ pos 952516364 ∷ o ∷ [])
  pub wide_beside_0_2_2 : Agree 2 2 (pos 0 ∷ pos 2147483648 ∷ pos 2147483648 ∷ pos 0 ∷ [])
  pub wide_neighbours_2_3 : Agree 2 3 (pos 4294967295 ∷ o ∷ pos 4294967294 ∷ pos 4294967295 ∷ h ∷ pos 4294967294 ∷ [])
  -- a hole frees the corner above it, ends the bar, shuts a clue in (no layout) and is gone around
  pub corner_right_over_a_hole_2_2 : Agree 2 2 (o ∷ pos 0 ∷ pos 0 ∷ h ∷ [])
  pub corner_left_over_a_hole_2_2 : Agree 2 2 (pos 0 ∷ o ∷ h ∷ pos 0 ∷ [])
  pub line_at_a_hole_2_2 : Agree 2 2 (o ∷ h ∷ pos 2 ∷ o ∷ [])
  pub hole_beside_a_pair_2_2 : Agree 2 2 (pos 5 ∷ pos 5 ∷ h ∷ o ∷ [])
  pub holes_2_2 : Agree 2 2 (h ∷ h ∷ h ∷ h ∷ [])
  pub shut_in_2_3 : Agree 2 3 (pos 5 ∷ h ∷ o ∷ h ∷ o ∷ o ∷ [])
  pub around_a_hole_2_3 : Agree 2 3 (pos 5 ∷ h ∷ pos 5 ∷ o ∷ o ∷ o ∷ [])
  pub corner_and_pair_2_3 : Agree 2 3 (o ∷ pos 1 ∷ pos 1 ∷ pos 1 ∷ h ∷ pos 1 ∷ [])
  pub corner_and_pair_3_2 : Agree 3 2 (pos 1 ∷ o ∷ h ∷ pos 1 ∷ pos 0 ∷ pos 0 ∷ [])
  pub between_holes_3_2 : Agree 3 2 (pos 1 ∷ h ∷ o ∷ o ∷ pos 1 ∷ h ∷ [])
  pub hole_ends_a_bar_3_3 : Agree 3 3 (o ∷ pos 0 ∷ o ∷ pos 0 ∷ o ∷ pos 1 ∷ o ∷ pos 1 ∷ h ∷ [])

pub small_grids : SmallGrids
unfolding all_below drawing_of_codes codes_at before_each all_drawings relabel labels codes_agree none_closed is_ordinary is_listed listed_among found_codes codes drawing_of field tabulate place_at parity grid_of cell_of search search_from backtrack try degree_so_far next_pad board_record fresh prepared shut_at shut bare decide check after_store cannot_join unjoinable join_ends check_items settled decide_first degree undecideds lines keep_aparts around do_item do_items shape_items barred joined_ends put_end put_end_at set_flag set_edge enough
small_grids = record {
  blank_2_2 = refl;
  pair_2_2 = refl;
  four_2_2 = refl;
  blank_2_3 = refl;
  six_2_3 = refl;
  four_2_3 = refl;
  two_pairs_2_3 = refl;
  crossed_2_3 = refl;
  across_2_3 = refl;
  six_3_2 = refl;
  pair_3_2 = refl;
  four_3_2 = refl;
  turned_3_2 = refl;
  wide_pair_2_2 = refl;
  wide_and_low_2_3 = refl;
  wide_beside_0_2_2 = refl;
  wide_neighbours_2_3 = refl;
  corner_right_over_a_hole_2_2 = refl;
  corner_left_over_a_hole_2_2 = refl;
  line_at_a_hole_2_2 = refl;
  hole_beside_a_pair_2_2 = refl;
  holes_2_2 = refl;
  shut_in_2_3 = refl;
  around_a_hole_2_3 = refl;
  corner_and_pair_2_3 = refl;
  corner_and_pair_3_2 = refl;
  between_holes_3_2 = refl;
  hole_ends_a_bar_3_3 = refl;
}
