-- Known answers of the judge and of the program `judge`, by computation. The answers were worked out by hand from the rules.
use Rattle.std.specs.Prelude.{ℕ, ◌≡◌, refl, List, [], ◌∷◌, ℤ, pos, negsuc}
use Rattle.rules.specs.Grid.{cell_of, grid_of, place_at, parity}
use Rattle.rules.specs.Record.{drawing_of, field, record_lines, tabulate}
use Rattle.rules.specs.Tests.{all_below}
use Rattle.rules.specs.CheckedListed.{has_corner, diagonal, not_blank, squares_checked, corners_checked}
use Rattle.model.specs.Bounds.{is_size, most_digits}
use Rattle.model.specs.Refusals.{is_cell, first_bad_cell, grid_refusal}
use Rattle.model.specs.Text.{bytes, comma, line_end}
use Rattle.model.specs.Decimal.{digit_byte, digits_before, decimal}
use Rattle.model.specs.GridFile.{is_digit, is_comma, is_line_end, is_hole_sign, begins_hole, is_allowed, disallowed_number, is_zero_alone, blank, hole, no_cells, start, in_header, fields_due, is_complete, field_cell, bad_size, refusal, with_digit, with_hole, begun, after, accepted, declined, read_from, read}
use Rattle.model.specs.Printed.{refusal_line, reading_text}
use Rattle.model.specs.JoinedEnds.{unjoinable, joined_ends, put_end, put_end_at}
use Rattle.model.specs.Judge.{Judged, after_line, after_edge, after_place, followed, is_ordinary_record, has_listed_shape, verdict, judge}
use Rattle.model.specs.JudgeText.{digit_fits, codes_fit, record_of_codes, judged_line, judged_text, judge_text}
use Rattle.model.specs.SmallGrids.{o, h}

abbrev pub said : (verdict lines : ℕ) → Judged
said verdict lines = record { number = 0; index = 0; verdict = verdict; lines = lines }

abbrev pub refused : (number index : ℕ) → Judged
refused number index = record { number = number; index = index; verdict = 0; lines = 0 }

-- two pads of floor 5 in opposite corners of four, and the wiring below and to the right of them
abbrev pub pair : List ℤ
pair = pos 5 ∷ o ∷ o ∷ pos 5 ∷ []

abbrev pub below : List ℕ
below = 0 ∷ 2 ∷ 0 ∷ 1 ∷ 0 ∷ 2 ∷ 0 ∷ 1 ∷ 0 ∷ []

pub record KnownJudged : Type 0 where
  -- listed; its mirror image is ordinary, and the corner rule leaves it out
  pub listed : judge 2 2 pair below ≡ said 2 2
  pub ordinary : judge 2 2 pair (0 ∷ 1 ∷ 0 ∷ 2 ∷ 0 ∷ 1 ∷ 0 ∷ 2 ∷ 0 ∷ []) ≡ said 1 2
  -- no drawing's record: a byte too few, one too many, no byte
  pub too_short : judge 2 2 pair (0 ∷ 2 ∷ 0 ∷ 1 ∷ 0 ∷ 2 ∷ 0 ∷ 1 ∷ []) ≡ said 0 0
  pub too_long : judge 2 2 pair (0 ∷ 2 ∷ 0 ∷ 1 ∷ 0 ∷ 2 ∷ 0 ∷ 1 ∷ 0 ∷ 0 ∷ []) ≡ said 0 0
  pub empty : judge 2 2 pair [] ≡ said 0 0
  -- at an edge 3 for none, 3 for a line, undecided
  pub three_for_none : judge 2 2 pair (0 ∷ 3 ∷ 0 ∷ 1 ∷ 0 ∷ 2 ∷ 0 ∷ 1 ∷ 0 ∷ []) ≡ said 0 0
  pub three_for_a_line : judge 2 2 pair (0 ∷ 2 ∷ 0 ∷ 3 ∷ 0 ∷ 2 ∷ 0 ∷ 1 ∷ 0 ∷ []) ≡ said 0 0
  pub undecided_edge : judge 2 2 pair (0 ∷ 0 ∷ 0 ∷ 1 ∷ 0 ∷ 2 ∷ 0 ∷ 1 ∷ 0 ∷ []) ≡ said 0 0
  -- between the edges another byte than 0: at a pad, in the middle of four
  pub byte_at_a_pad : judge 2 2 pair (2 ∷ 2 ∷ 0 ∷ 1 ∷ 0 ∷ 2 ∷ 0 ∷ 1 ∷ 0 ∷ []) ≡ said 0 0
  pub byte_in_the_middle : judge 2 2 pair (0 ∷ 2 ∷ 0 ∷ 1 ∷ 1 ∷ 2 ∷ 0 ∷ 1 ∷ 0 ∷ []) ≡ said 0 0
  -- a clue with no line, a clue with two, unequal codes joined
  pub no_line_at_a_clue : judge 2 2 pair (0 ∷ 2 ∷ 0 ∷ 2 ∷ 0 ∷ 2 ∷ 0 ∷ 2 ∷ 0 ∷ []) ≡ said 0 0
  pub two_lines_at_a_clue : judge 2 2 pair (0 ∷ 1 ∷ 0 ∷ 1 ∷ 0 ∷ 1 ∷ 0 ∷ 1 ∷ 0 ∷ []) ≡ said 0 0
  pub unequal_codes : judge 2 2 (pos 5 ∷ o ∷ o ∷ pos 4 ∷ []) below ≡ said 0 0
  -- the largest code joined to itself, and to what is left of it in 31 bits
  pub largest_codes : judge 2 2 (pos 4294967295 ∷ o ∷ o ∷ pos 4294967295 ∷ []) below ≡ said 2 2
  pub unequal_largest : judge 2 2 (pos 4294967295 ∷ o ∷ o ∷ pos 2147483647 ∷ []) below ≡ said 0 0
  -- on blank pads: nothing drawn is listed, with no line; a loose end and a loop are no layout
  pub nothing_drawn : judge 2 2 (o ∷ o ∷ o ∷ o ∷ []) (0 ∷ 2 ∷ 0 ∷ 2 ∷ 0 ∷ 2 ∷ 0 ∷ 2 ∷ 0 ∷ []) ≡ said 2 0
  pub loose_end : judge 2 2 (o ∷ o ∷ o ∷ o ∷ []) below ≡ said 0 0
  pub loop : judge 2 2 (o ∷ o ∷ o ∷ o ∷ []) (0 ∷ 1 ∷ 0 ∷ 1 ∷ 0 ∷ 1 ∷ 0 ∷ 1 ∷ 0 ∷ []) ≡ said 0 0
  -- a loop beside a pair that is joined, and the pair alone
  pub loop_beside_a_pair : judge 2 3 (o ∷ o ∷ pos 7 ∷ o ∷ o ∷ pos 7 ∷ []) (0 ∷ 1 ∷ 0 ∷ 2 ∷ 0 ∷ 1 ∷ 0 ∷ 1 ∷ 0 ∷ 1 ∷ 0 ∷ 1 ∷ 0 ∷ 2 ∷ 0 ∷ []) ≡ said 0 0
  pub pair_alone : judge 2 3 (o ∷ o ∷ pos 7 ∷ o ∷ o ∷ pos 7 ∷ []) (0 ∷ 2 ∷ 0 ∷ 2 ∷ 0 ∷ 2 ∷ 0 ∷ 2 ∷ 0 ∷ 1 ∷ 0 ∷ 2 ∷ 0 ∷ 2 ∷ 0 ∷ []) ≡ said 2 1
  -- three lines in a square, and the one that does without
  pub three_in_a_square : judge 2 2 (pos 5 ∷ pos 5 ∷ o ∷ o ∷ []) (0 ∷ 2 ∷ 0 ∷ 1 ∷ 0 ∷ 1 ∷ 0 ∷ 1 ∷ 0 ∷ []) ≡ said 1 3
  pub one_in_a_square : judge 2 2 (pos 5 ∷ pos 5 ∷ o ∷ o ∷ []) (0 ∷ 1 ∷ 0 ∷ 2 ∷ 0 ∷ 2 ∷ 0 ∷ 2 ∷ 0 ∷ []) ≡ said 2 1
  -- a corner over a blank pad, over a hole, and a line at a hole
  pub corner_over_a_blank : judge 2 2 (o ∷ pos 0 ∷ pos 0 ∷ o ∷ []) (0 ∷ 1 ∷ 0 ∷ 1 ∷ 0 ∷ 2 ∷ 0 ∷ 2 ∷ 0 ∷ []) ≡ said 1 2
  pub corner_over_a_hole : judge 2 2 (o ∷ pos 0 ∷ pos 0 ∷ h ∷ []) (0 ∷ 1 ∷ 0 ∷ 1 ∷ 0 ∷ 2 ∷ 0 ∷ 2 ∷ 0 ∷ []) ≡ said 2 2
  pub lines_at_a_hole : judge 2 2 (h ∷ pos 0 ∷ pos 0 ∷ o ∷ []) (0 ∷ 1 ∷ 0 ∷ 1 ∷ 0 ∷ 2 ∷ 0 ∷ 2 ∷ 0 ∷ []) ≡ said 0 0
  -- declined grids, beside a 0, whatever the record is
  pub one_row : judge 1 2 (pos 5 ∷ pos 5 ∷ []) (0 ∷ 1 ∷ 0 ∷ []) ≡ refused 7 0
  pub too_many_cells : judge 2 2 (pos 5 ∷ o ∷ o ∷ pos 5 ∷ o ∷ []) below ≡ refused 8 0
  pub bad_cell : judge 2 2 (pos 5 ∷ o ∷ negsuc 2 ∷ pos 5 ∷ []) below ≡ refused 9 2
  pub code_too_large : judge 2 2 (pos 5 ∷ o ∷ o ∷ pos 4294967296 ∷ []) below ≡ refused 9 3
  -- the program: the example of the order, its mirror image, codes that are no layout's, and a refused file
  pub as_routes_prints : judge_text (bytes "2010") (bytes "2,2\n5,\n,5\n") ≡ bytes "2,2\n"
  pub mirrored : judge_text (bytes "1200") (bytes "2,2\n5,\n,5\n") ≡ bytes "1,2\n"
  pub no_layout : judge_text (bytes "0000") (bytes "2,2\n5,\n,5\n") ≡ bytes "0,0\n"
  pub a_digit_missing : judge_text (bytes "201") (bytes "2,2\n5,\n,5\n") ≡ bytes "0,0\n"
  pub a_digit_too_many : judge_text (bytes "20100") (bytes "2,2\n5,\n,5\n") ≡ bytes "0,0\n"
  pub no_digit : judge_text (bytes "2O10") (bytes "2,2\n5,\n,5\n") ≡ bytes "0,0\n"
  pub digit_4 : judge_text (bytes "2410") (bytes "2,2\n5,\n,5\n") ≡ bytes "0,0\n"
  pub byte_before_0 : judge_text (bytes "2/10") (bytes "2,2\n5,\n,5\n") ≡ bytes "0,0\n"
  pub off_to_the_right : judge_text (bytes "2011") (bytes "2,2\n5,\n,5\n") ≡ bytes "0,0\n"
  pub off_downward : judge_text (bytes "2030") (bytes "2,2\n5,\n,5\n") ≡ bytes "0,0\n"
  pub refused_file : judge_text (bytes "2010") (bytes "2,2\n1O,\n,5\n") ≡ bytes "refused,13,2,1\n"

pub known_judged : KnownJudged
unfolding all_below drawing_of field record_lines tabulate place_at parity grid_of cell_of has_corner diagonal not_blank squares_checked corners_checked is_size most_digits is_cell first_bad_cell grid_refusal bytes comma line_end digit_byte digits_before decimal is_digit is_comma is_line_end is_hole_sign begins_hole is_allowed disallowed_number is_zero_alone blank hole no_cells start in_header fields_due is_complete field_cell bad_size refusal with_digit with_hole begun after accepted declined read_from read refusal_line unjoinable joined_ends put_end put_end_at after_line after_edge after_place followed is_ordinary_record has_listed_shape verdict judge digit_fits codes_fit record_of_codes judged_line judged_text judge_text reading_text
known_judged = record {
  listed = refl;
  ordinary = refl;
  too_short = refl;
  too_long = refl;
  empty = refl;
  three_for_none = refl;
  three_for_a_line = refl;
  undecided_edge = refl;
  byte_at_a_pad = refl;
  byte_in_the_middle = refl;
  no_line_at_a_clue = refl;
  two_lines_at_a_clue = refl;
  unequal_codes = refl;
  largest_codes = refl;
  unequal_largest = refl;
  nothing_drawn = refl;
  loose_end = refl;
  loop = refl;
  loop_beside_a_pair = refl;
  pair_alone = refl;
  three_in_a_square = refl;
  one_in_a_square = refl;
  corner_over_a_blank = refl;
  corner_over_a_hole = refl;
  lines_at_a_hole = refl;
  one_row = refl;
  too_many_cells = refl;
  bad_cell = refl;
  code_too_large = refl;
  as_routes_prints = refl;
  mirrored = refl;
  no_layout = refl;
  a_digit_missing = refl;
  a_digit_too_many = refl;
  no_digit = refl;
  digit_4 = refl;
  byte_before_0 = refl;
  off_to_the_right = refl;
  off_downward = refl;
  refused_file = refl;
}
