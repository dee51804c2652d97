-- Known answers of `common` and of the program `common`, by computation. The answers were worked out by hand from the rules.
use Rattle.std.specs.Prelude.{ℕ, ◌≡◌, refl, List, [], ◌∷◌, ◌++◌, replicate, ℤ, pos}
use Rattle.rules.specs.Grid.{cell_of, hole_cell, grid_of, place_at, parity}
use Rattle.rules.specs.Record.{drawing_of, field, record_lines, tabulate}
use Rattle.model.specs.Bounds.{is_size, most_digits}
use Rattle.model.specs.Refusals.{is_cell, first_bad_cell, grid_refusal}
use Rattle.model.specs.Text.{bytes, comma, line_end}
use Rattle.model.specs.Decimal.{digit_byte, digits_before, decimal}
use Rattle.model.specs.GridFile.{is_digit, is_comma, is_line_end, is_hole_sign, begins_hole, is_allowed, disallowed_number, is_zero_alone, blank, hole, no_cells, start, in_header, fields_due, is_complete, field_cell, bad_size, refusal, with_digit, with_hole, begun, after, accepted, declined, read_from, read}
use Rattle.model.specs.Printed.{summary_line, refusal_line, reading_text, printed}
use Rattle.model.specs.Routes.{found_within}
use Rattle.model.specs.JoinedEnds.{unjoinable, joined_ends, put_end, put_end_at}
use Rattle.model.specs.Board.{fresh, prepared, shut_at, shut, bare, decide, check, after_store, cannot_join, join_ends, check_items, settled, decide_first, degree, undecideds, lines, keep_aparts, around, do_item, do_items, shape_items, barred, set_flag, set_edge, enough}
use Rattle.model.specs.Runs.{declined_search, scan, fewest, concat}
use Rattle.model.specs.Search.{search, search_from, backtrack, try, degree_so_far, next_pad, board_record}
use Rattle.model.specs.SmallGrids.{o}
use Rattle.model.specs.KnownJudged.{pair, below}
use Rattle.model.specs.Common.{Common, all_have, none_has, common_byte, common_table, common}
use Rattle.model.specs.CommonText.{row_lines, table_lines, common_found_text, common_text}

-- four pads of floor 5: two wirings, side by side, and one above the other
abbrev pub four : List ℤ
four = pos 5 ∷ pos 5 ∷ pos 5 ∷ pos 5 ∷ []

abbrev pub beside : List ℕ
beside = 0 ∷ 1 ∷ 0 ∷ 2 ∷ 0 ∷ 2 ∷ 0 ∷ 1 ∷ 0 ∷ []

abbrev pub above : List ℕ
above = 0 ∷ 2 ∷ 0 ∷ 1 ∷ 0 ∷ 1 ∷ 0 ∷ 2 ∷ 0 ∷ []

-- lent bytes, by which a change would show
abbrev pub lent : ℕ → List ℕ
lent n = replicate n 7

abbrev pub answers : (number outcome layouts visited fewest : ℕ) → (buffer table : List ℕ) → Common
answers number outcome layouts visited fewest buffer table = record {
  searched = record { number = number; index = 0; outcome = outcome; layouts = layouts; visited = visited; fewest_lines = fewest; buffer = buffer };
  table = table;
}

abbrev pub declines : (number index : ℕ) → (buffer table : List ℕ) → Common
declines number index buffer table = record { searched = declined_search number index buffer; table = table }

pub record KnownCommon : Type 0 where
  -- two layouts that have no line in common, and no edge that is free in both; bytes past the records and past the places stay
  pub two_layouts : common 2 2 four 1000 (lent 20) (lent 11) ≡ answers 0 0 2 3 2 (beside ++ above ++ lent 2) (0 ∷ 3 ∷ 0 ∷ 3 ∷ 0 ∷ 3 ∷ 0 ∷ 3 ∷ 0 ∷ 7 ∷ 7 ∷ [])
  -- one layout: the table is its record
  pub one_layout : common 2 2 pair 1000 (lent 9) (lent 9) ≡ answers 0 0 1 2 2 below below
  -- every byte that a table has: a pair that is joined in one way only beside the four pads
  pub all_bytes : (common 2 3 (pos 5 ∷ pos 5 ∷ pos 6 ∷ pos 5 ∷ pos 5 ∷ pos 6 ∷ []) 1000 (lent 30) (lent 15)).table
      ≡ 0 ∷ 3 ∷ 0 ∷ 2 ∷ 0 ∷ 3 ∷ 0 ∷ 3 ∷ 0 ∷ 1 ∷ 0 ∷ 3 ∷ 0 ∷ 2 ∷ 0 ∷ []
  -- blank pads with nothing drawn: no line in any layout
  pub nothing_drawn : (common 2 2 (o ∷ o ∷ o ∷ o ∷ []) 1000 (lent 9) (lent 9)).table ≡ 0 ∷ 2 ∷ 0 ∷ 2 ∷ 0 ∷ 2 ∷ 0 ∷ 2 ∷ 0 ∷ []
  -- an empty list that ended complete: unequal codes; and a clue among holes, where nothing is searched, not even with limit 0
  pub empty_list : common 2 2 (pos 5 ∷ o ∷ o ∷ pos 6 ∷ []) 1000 (lent 9) (lent 10) ≡ answers 0 0 0 1 481 (lent 9) (replicate 9 0 ++ lent 1)
  pub nothing_searched : common 2 2 (pos 5 ∷ hole_cell ∷ hole_cell ∷ o ∷ []) 0 [] (lent 9) ≡ answers 0 0 0 0 481 [] (replicate 9 0)
  -- 14: a table one byte short, whatever the list would be; nothing is searched
  pub short_table : common 2 2 four 1000 (lent 20) (lent 8) ≡ declines 14 0 (lent 20) (lent 8)
  pub short_table_spent : common 2 2 four 0 (lent 20) (lent 8) ≡ declines 14 0 (lent 20) (lent 8)
  -- the grid's own numbers come before 14
  pub size_first : common 1 2 (o ∷ o ∷ []) 1000 (lent 20) [] ≡ declines 7 0 (lent 20) []
  pub cells_first : common 2 2 (o ∷ o ∷ o ∷ []) 1000 (lent 20) [] ≡ declines 8 0 (lent 20) []
  pub cell_first : common 2 2 (o ∷ o ∷ o ∷ pos 4294967296 ∷ []) 1000 (lent 20) [] ≡ declines 9 3 (lent 20) []
  pub bad_cell : common 2 2 (o ∷ pos 4294967296 ∷ o ∷ o ∷ []) 1000 (lent 20) (lent 9) ≡ declines 9 1 (lent 20) (lent 9)
  -- 16: the limit is spent before the first layout, and after it; the room ends before the second layout, and before the first
  pub spent : common 2 2 four 1 (lent 20) (lent 9) ≡ answers 16 1 0 1 481 (lent 20) (lent 9)
  pub spent_later : common 2 2 four 2 (lent 20) (lent 9) ≡ answers 16 1 1 2 2 (beside ++ lent 11) (lent 9)
  pub full : common 2 2 four 1000 (lent 17) (lent 9) ≡ answers 16 2 1 3 2 (beside ++ lent 8) (lent 9)
  pub no_room : common 2 2 pair 1000 [] (lent 9) ≡ answers 16 2 0 2 481 [] (lent 9)
  -- what the program prints: the summary and the table, a table of an empty list, no table of a list that is not complete, a refused file
  pub printed_two : common_text (bytes "2,2\n5,5\n5,5\n") ≡ bytes "2,3,2,0\n030\n303\n030\n"
  pub printed_wide : common_text (bytes "2,3\n5,5,6\n5,5,6\n") ≡ bytes "2,3,3,0\n03020\n30301\n03020\n"
  pub printed_empty : common_text (bytes "2,2\n5,\n,6\n") ≡ bytes "0,1,481,0\n000\n000\n000\n"
  pub printed_spent : common_found_text 2 2 (record { outcome = 1; layouts = 1; visited = 2; fewest = 2; records = beside ∷ [] }) ≡ bytes "1,2,2,1\n"
  pub printed_refused : common_text (bytes "2,2\n1O,\n,5\n") ≡ bytes "refused,13,2,1\n"

pub known_common : KnownCommon
unfolding common common_table common_byte all_have none_has row_lines table_lines common_found_text common_text is_size most_digits is_cell first_bad_cell grid_refusal grid_of cell_of drawing_of field record_lines tabulate place_at parity bytes comma line_end digit_byte digits_before decimal is_digit is_comma is_line_end is_hole_sign begins_hole is_allowed disallowed_number is_zero_alone blank hole no_cells start in_header fields_due is_complete field_cell bad_size refusal with_digit with_hole begun after accepted declined read_from read summary_line refusal_line reading_text printed found_within unjoinable joined_ends put_end put_end_at fresh prepared shut_at shut bare decide check after_store cannot_join join_ends check_items settled decide_first degree undecideds lines keep_aparts around do_item do_items shape_items barred set_flag set_edge enough scan search search_from fewest concat backtrack try degree_so_far next_pad board_record
known_common = record {
  two_layouts = refl;
  one_layout = refl;
  all_bytes = refl;
  nothing_drawn = refl;
  empty_list = refl;
  nothing_searched = refl;
  short_table = refl;
  short_table_spent = refl;
  size_first = refl;
  cells_first = refl;
  cell_first = refl;
  bad_cell = refl;
  spent = refl;
  spent_later = refl;
  full = refl;
  no_room = refl;
  printed_two = refl;
  printed_wide = refl;
  printed_empty = refl;
  printed_spent = refl;
  printed_refused = refl;
}
