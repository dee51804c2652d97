-- Known answers of the slow walk, by computation: every number of the answer and every byte of the buffer. They were worked out by a walk
-- written apart from this project's definitions, which tests drawings by counting the lines at each pad and following each chain. The last
-- facts are of one full drawing: a ring around a hole keeps every rule but that no loop is closed.
use Rattle.std.specs.Prelude.{ℕ, ◌≡◌, refl, true, false, List, [], ◌∷◌, ◌++◌, replicate, pos, negsuc}
use Rattle.rules.specs.Grid.{cell_of, blank_cell, hole_cell, Grid, grid_of, place_at, parity}
use Rattle.rules.specs.Drawing.{Drawing}
use Rattle.rules.specs.Record.{record_of, drawing_of, field, record_lines, tabulate}
use Rattle.rules.specs.Tests.{all_below}
use Rattle.rules.specs.CheckedListed.{has_corner, diagonal, not_blank, squares_checked, corners_checked}
use Rattle.model.specs.JoinedEnds.{unjoinable, joined_ends, put_end, put_end_at}
use Rattle.model.specs.Bounds.{is_size}
use Rattle.model.specs.Refusals.{grid_refusal, is_cell, first_bad_cell}
use Rattle.model.specs.Runs.{layout, Solved, declined_search, listed_by, concat, scan, fewest}
use Rattle.model.specs.Judge.{after_line, after_edge, after_place, followed, is_ordinary_record, has_listed_shape, verdict}
use Rattle.model.specs.Walk.{no_lines, with_code, may_give, tested, give, walk_on, every_code, walk}

abbrev pub walked_as : (outcome layouts tried fewest : ℕ) → List ℕ → Solved
walked_as outcome layouts tried fewest buffer =
    record { number = 0; index = 0; outcome = outcome; layouts = layouts; visited = tried; fewest_lines = fewest; buffer = buffer }

-- a blank field of 3 by 3 pads with a hole in its middle, and the ring of lines around the hole
abbrev pub holed : Grid
holed = grid_of 3 3 (replicate 4 blank_cell ++ (hole_cell ∷ replicate 4 blank_cell))

unfoldable pub ring : Drawing
unfolding with_code
ring = with_code (with_code (with_code (with_code (with_code (with_code (with_code no_lines 0 true true) 1 true false) 2 false true) 3 false true) 5 false true) 6 true false) 7 true false

pub record KnownWalks : Type 0 where
  -- `,/,`: the drawing with no line is the first of all
  pub K1Walked : walk 2 2 (blank_cell ∷ blank_cell ∷ blank_cell ∷ blank_cell ∷ []) 44 (replicate 10 7) ≡ walked_as 0 1 44 0 (0 ∷ 2 ∷ 0 ∷ 2 ∷ 0 ∷ 2 ∷ 0 ∷ 2 ∷ 0 ∷ replicate 1 7)
  -- `5,/,5`
  pub K3Walked : walk 2 2 (pos 5 ∷ blank_cell ∷ blank_cell ∷ pos 5 ∷ []) 100 (replicate 9 7) ≡ walked_as 0 1 44 2 (0 ∷ 2 ∷ 0 ∷ 1 ∷ 0 ∷ 2 ∷ 0 ∷ 1 ∷ 0 ∷ [])
  -- `5,5/5,5`: the two layouts ascend, 1010 before 2200
  pub K5Walked : walk 2 2 (pos 5 ∷ pos 5 ∷ pos 5 ∷ pos 5 ∷ []) 1000000 (replicate 20 7) ≡ walked_as 0 2 44 2 (0 ∷ 1 ∷ 0 ∷ 2 ∷ 0 ∷ 2 ∷ 0 ∷ 1 ∷ 0 ∷ 0 ∷ 2 ∷ 0 ∷ 1 ∷ 0 ∷ 1 ∷ 0 ∷ 2 ∷ 0 ∷ replicate 2 7)
  -- `5,/,6`: nothing is listed, and every code was tried
  pub K6Walked : walk 2 2 (pos 5 ∷ blank_cell ∷ blank_cell ∷ pos 6 ∷ []) 44 (replicate 9 7) ≡ walked_as 0 0 44 481 (replicate 9 7)
  -- limit 0: the first code would pass it
  pub no_code_given : walk 2 2 (blank_cell ∷ blank_cell ∷ blank_cell ∷ blank_cell ∷ []) 0 (replicate 9 7) ≡ walked_as 1 0 0 481 (replicate 9 7)
  -- limit 3: three pads have a code
  pub spent_before_full_drawing : walk 2 2 (blank_cell ∷ blank_cell ∷ blank_cell ∷ blank_cell ∷ []) 3 (replicate 9 7) ≡ walked_as 1 0 3 481 (replicate 9 7)
  -- limit 4: the first drawing is full, and the next code would pass the limit
  pub spent_after_first : walk 2 2 (blank_cell ∷ blank_cell ∷ blank_cell ∷ blank_cell ∷ []) 4 (replicate 9 7) ≡ walked_as 1 1 4 0 (0 ∷ 2 ∷ 0 ∷ 2 ∷ 0 ∷ 2 ∷ 0 ∷ 2 ∷ 0 ∷ [])
  -- limit 43, one less than there are codes
  pub spent_at_the_last_code : walk 2 2 (blank_cell ∷ blank_cell ∷ blank_cell ∷ blank_cell ∷ []) 43 (replicate 9 7) ≡ walked_as 1 1 43 0 (0 ∷ 2 ∷ 0 ∷ 2 ∷ 0 ∷ 2 ∷ 0 ∷ 2 ∷ 0 ∷ [])
  -- 8 bytes: the first layout finds no room, when four codes were tried
  pub full_at_first : walk 2 2 (blank_cell ∷ blank_cell ∷ blank_cell ∷ blank_cell ∷ []) 1000000 (replicate 8 7) ≡ walked_as 2 0 4 481 (replicate 8 7)
  -- 17 bytes: the second layout finds no room
  pub full_at_second : walk 2 2 (pos 5 ∷ pos 5 ∷ pos 5 ∷ pos 5 ∷ []) 1000000 (replicate 17 7) ≡ walked_as 2 1 31 2 (0 ∷ 1 ∷ 0 ∷ 2 ∷ 0 ∷ 2 ∷ 0 ∷ 1 ∷ 0 ∷ replicate 8 7)
  -- `5,#/,5`: around a hole
  pub around_a_hole : walk 2 2 (pos 5 ∷ hole_cell ∷ blank_cell ∷ pos 5 ∷ []) 1000000 (replicate 9 7) ≡ walked_as 0 1 44 2 (0 ∷ 2 ∷ 0 ∷ 1 ∷ 0 ∷ 2 ∷ 0 ∷ 1 ∷ 0 ∷ [])
  -- `5,,6/5,#,6`: 372 codes at 2 by 3 pads
  pub two_by_three : walk 2 3 (pos 5 ∷ blank_cell ∷ pos 6 ∷ pos 5 ∷ hole_cell ∷ pos 6 ∷ []) 1000000 (replicate 15 7) ≡ walked_as 0 1 372 2 (0 ∷ 2 ∷ 0 ∷ 2 ∷ 0 ∷ 1 ∷ 0 ∷ 2 ∷ 0 ∷ 1 ∷ 0 ∷ 2 ∷ 0 ∷ 2 ∷ 0 ∷ [])
  -- `5,/,#/5,`: 364 codes at 3 by 2 pads
  pub three_by_two : walk 3 2 (pos 5 ∷ blank_cell ∷ blank_cell ∷ hole_cell ∷ pos 5 ∷ blank_cell ∷ []) 1000000 (replicate 15 7) ≡ walked_as 0 1 364 2 (0 ∷ 2 ∷ 0 ∷ 1 ∷ 0 ∷ 2 ∷ 0 ∷ 2 ∷ 0 ∷ 1 ∷ 0 ∷ 2 ∷ 0 ∷ 2 ∷ 0 ∷ [])
  -- the grid's refusals come first, and no byte changes
  pub one_row : walk 1 2 (blank_cell ∷ blank_cell ∷ []) 1000000 (replicate 3 7) ≡ declined_search 7 0 (replicate 3 7)
  pub a_cell_too_few : walk 2 2 (blank_cell ∷ blank_cell ∷ blank_cell ∷ []) 1000000 (replicate 9 7) ≡ declined_search 8 0 (replicate 9 7)
  pub no_such_cell : walk 2 2 (blank_cell ∷ blank_cell ∷ negsuc 2 ∷ pos 4294967296 ∷ []) 0 (replicate 9 7) ≡ declined_search 9 2 (replicate 9 7)
  -- the ring has the shape of a listed drawing, and only its closed loop is against it; with no line the field is listed
  pub ring_has_the_shape : has_listed_shape holed (record_of holed ring) ≡ true
  pub ring_is_no_layout : tested holed ring ≡ []
  pub nothing_drawn : tested holed no_lines ≡ layout (record_of holed no_lines) ∷ []

pub known_walks : KnownWalks
unfolding walk every_code walk_on give may_give with_code tested ring listed_by scan concat fewest grid_refusal is_size is_cell first_bad_cell all_below drawing_of field record_of record_lines tabulate place_at parity grid_of cell_of has_corner diagonal not_blank squares_checked corners_checked unjoinable joined_ends put_end put_end_at after_line after_edge after_place followed is_ordinary_record has_listed_shape verdict
known_walks = record { K1Walked = refl; K3Walked = refl; K5Walked = refl; K6Walked = refl; no_code_given = refl; spent_before_full_drawing = refl; spent_after_first = refl; spent_at_the_last_code = refl; full_at_first = refl; full_at_second = refl; around_a_hole = refl; two_by_three = refl; three_by_two = refl; one_row = refl; a_cell_too_few = refl; no_such_cell = refl; ring_has_the_shape = refl; ring_is_no_layout = refl; nothing_drawn = refl }
