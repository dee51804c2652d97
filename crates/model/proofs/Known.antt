-- What is proved of the definitions in specs/Known.antt.
use Rattle.std.specs.Prelude.{refl}
use Rattle.rules.specs.Grid.{cell_of, grid_of, place_at, parity}
use Rattle.rules.specs.Record.{codes, drawing_of, field, record_lines, tabulate}
use Rattle.model.specs.JoinedEnds.{end_number, unjoinable, joined_ends, put_end, put_end_at}
use Rattle.model.specs.Board.{fresh, prepared, shut_at, shut, bare, decide, check, after_store, cannot_join, join_ends, check_items, settled, decide_first, degree, undecideds, lines, keep_aparts, around, do_item, do_items, shape_items, barred, set_flag, set_edge, enough}
use Rattle.model.specs.KnownFiles.{known_files}
use Rattle.model.specs.Bounds.{is_size}
use Rattle.model.specs.Refusals.{grid_refusal, is_cell, first_bad_cell}
use Rattle.model.specs.Records.{has_record, record_length, record_at}
use Rattle.model.specs.Runs.{listed_by, concat, scan, fewest}
use Rattle.model.specs.Search.{solve, search, search_from, backtrack, try, degree_so_far, next_pad, board_record}
use Rattle.model.specs.Known.{known, KnownGrids}

pub known_grids : KnownGrids
unfolding known solve listed_by concat grid_refusal is_size is_cell first_bad_cell has_record record_length record_at grid_of cell_of codes drawing_of field record_lines tabulate place_at parity scan search search_from fewest backtrack try degree_so_far next_pad board_record fresh prepared shut_at shut bare end_number decide check after_store cannot_join unjoinable join_ends check_items settled decide_first degree undecideds lines keep_aparts around do_item do_items shape_items barred joined_ends put_end put_end_at set_flag set_edge enough
known_grids = record { K1 = refl; K2 = refl; K3 = refl; K4 = refl; K5 = refl; K6 = refl; K7 = refl; K8 = refl; K1Spent = refl; K1Full = refl; K9 = (refl, refl); K10 = known_files.0; K11 = known_files.1; K12 = known_files.2 }
