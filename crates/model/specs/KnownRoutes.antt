-- The example of document 01 from the bytes of the file to the printed text, with the search between them, by computation: as `routes` prints it,
-- and as `routes_to` does with limits that are spent and one that suffices; and which texts are limits.
use Rattle.std.specs.Prelude.{◌≡◌, refl, [], ◌∷◌, map}
use Rattle.rules.specs.Grid.{cell_of, grid_of, place_at, parity}
use Rattle.rules.specs.Record.{field, record_lines, tabulate}
use Rattle.model.specs.Bounds.{is_size, most_digits}
use Rattle.model.specs.Text.{bytes, comma, line_end}
use Rattle.model.specs.Decimal.{digit_byte, digits_before, decimal}
use Rattle.model.specs.GridFile.{is_digit, is_comma, is_line_end, is_hole_sign, begins_hole, is_allowed, is_zero_alone, blank, hole, no_cells, start, in_header, fields_due, is_complete, field_cell, bad_size, refusal, with_digit, with_hole, begun, after, accepted, declined, read_from, read}
use Rattle.model.specs.Printed.{line_at, right_line, down_line, code_of_pad, code_digits_from, code_digits, summary_line, layout_line, refusal_line, layout_lines, found_text, reading_text, printed}
use Rattle.model.specs.JoinedEnds.{unjoinable, joined_ends, put_end, put_end_at}
use Rattle.model.specs.Board.{fresh, prepared, shut_at, shut, bare, decide, check, after_store, cannot_join, join_ends, check_items, settled, decide_first, degree, undecideds, lines, keep_aparts, around, do_item, do_items, shape_items, barred, set_flag, set_edge, enough}
use Rattle.model.specs.Runs.{scan, fewest}
use Rattle.model.specs.Search.{search, search_from, backtrack, try, degree_so_far, next_pad, board_record}
use Rattle.model.specs.Routes.{found_within, text_within, list_text, routes_text}
use Rattle.model.specs.RoutesTo.{all_digits, value_after, is_limit, boards, no_limit, limit_of, limit_line, routes_to_text}

-- the lines `2,2` `5,` `,5`
pub document_example : routes_text (bytes "2,2\n5,\n,5\n") ≡ bytes "1,2,2,0\n1,2,2010\n"
unfolding list_text text_within found_within is_size most_digits bytes is_digit is_comma is_line_end is_hole_sign begins_hole is_allowed is_zero_alone blank hole no_cells start in_header fields_due is_complete field_cell bad_size refusal with_digit with_hole begun after accepted declined read_from read digit_byte digits_before decimal line_at right_line down_line code_of_pad code_digits_from code_digits comma line_end summary_line layout_line refusal_line layout_lines found_text reading_text printed grid_of cell_of field record_lines tabulate place_at parity scan search search_from fewest backtrack try degree_so_far next_pad board_record fresh prepared shut_at shut bare decide check after_store cannot_join unjoinable join_ends check_items settled decide_first degree undecideds lines keep_aparts around do_item do_items shape_items barred joined_ends put_end put_end_at set_flag set_edge enough
document_example = refl

-- the same lines with a limit: two boards are visited
pub limited_example : map (λ argument. routes_to_text (bytes argument) (bytes "2,2\n5,\n,5\n")) ("0" ∷ "1" ∷ "2" ∷ "3" ∷ "two" ∷ [])
    ≡ bytes "0,0,481,1\n" ∷ bytes "0,1,481,1\n" ∷ bytes "1,2,2,0\n1,2,2010\n" ∷ bytes "1,2,2,0\n1,2,2010\n"
    ∷ bytes "refused: the limit must be a number from 0 to 18446744073709551615 (routes_to LIMIT < GRID-FILE)\n" ∷ []
unfolding routes_to_text limit_of is_limit all_digits value_after limit_line list_text text_within found_within is_size most_digits bytes is_digit is_comma is_line_end is_hole_sign begins_hole is_allowed is_zero_alone blank hole no_cells start in_header fields_due is_complete field_cell bad_size refusal with_digit with_hole begun after accepted declined read_from read digit_byte digits_before decimal line_at right_line down_line code_of_pad code_digits_from code_digits comma line_end summary_line layout_line refusal_line layout_lines found_text reading_text printed grid_of cell_of field record_lines tabulate place_at parity scan search search_from fewest backtrack try degree_so_far next_pad board_record fresh prepared shut_at shut bare decide check after_store cannot_join unjoinable join_ends check_items settled decide_first degree undecideds lines keep_aparts around do_item do_items shape_items barred joined_ends put_end put_end_at set_flag set_edge enough
limited_example = refl

-- 0 and the largest number of 64 bits are limits, and leading zeros are filling; one more, another byte anywhere, a 21st digit and no digit are none
pub known_limits : map (λ text. limit_of (bytes text))
    ("0" ∷ "7" ∷ "007" ∷ "1000000" ∷ "18446744073709551615" ∷ "00000000000000000007"
    ∷ "18446744073709551616" ∷ "99999999999999999999" ∷ "000000000000000000007" ∷ "" ∷ "-1" ∷ "+1" ∷ " 1" ∷ "1 " ∷ "1,0" ∷ "1e6" ∷ "0x1F" ∷ "1O" ∷ [])
    ≡ boards 0 ∷ boards 7 ∷ boards 7 ∷ boards 1000000 ∷ boards 18446744073709551615 ∷ boards 7
    ∷ no_limit ∷ no_limit ∷ no_limit ∷ no_limit ∷ no_limit ∷ no_limit ∷ no_limit ∷ no_limit ∷ no_limit ∷ no_limit ∷ no_limit ∷ no_limit ∷ []
unfolding bytes limit_of is_limit all_digits value_after is_digit
known_limits = refl
