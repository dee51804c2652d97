-- The known grids K1 to K12 of the documents, of the definitions of the search, the ends and the grid file. They are proved together as one
-- fact, by computation: `known_grids`, proofs/Known.antt.
use Rattle.std.specs.Prelude.{ℕ, ◌*◌, ◌≡◌, List, [], ◌∷◌, replicate, ℤ, pos, negsuc}
use Rattle.rules.specs.Grid.{blank_cell, grid_of, places}
use Rattle.rules.specs.Record.{codes, drawing_of, tabulate}
use Rattle.model.specs.JoinedEnds.{end_number}
use Rattle.model.specs.Board.{fresh}
use Rattle.model.specs.KnownFiles.{K10 as LargestCodeRead, K11 as LetterRefused, K12 as OneRowRefused}
use Rattle.model.specs.Records.{record_at}
use Rattle.model.specs.Runs.{Solved, fewest}
use Rattle.model.specs.Search.{solve}

-- what the documents tell of a grid: layouts, visited, fewest, and the codes of each layout
pub record Known : Type 0 where
  pub layouts : ℕ
  pub visited : ℕ
  pub fewest_lines : ℕ
  pub layout_codes : List (List ℕ)

-- solved with a limit that is not reached and room for four records
unfoldable pub known : ℕ → ℕ → List ℤ → Known
known height width cells =
    let g = grid_of height width cells in
    let s = solve height width cells 1000000 (replicate (4 * places height width) 7) in
    record {
      layouts = s.layouts;
      visited = s.visited;
      fewest_lines = s.fewest_lines;
      layout_codes = tabulate (λ k. codes g (drawing_of width (record_at height width s.layouts k s.buffer))) 0 s.layouts;
    }

abbrev solved_as : (outcome layouts visited fewest : ℕ) → List ℕ → Solved
solved_as outcome layouts visited fewest buffer =
    record { number = 0; index = 0; outcome = outcome; layouts = layouts; visited = visited; fewest_lines = fewest; buffer = buffer }

pub record KnownGrids : Type 0 where
  -- `,/,`
  pub K1 : known 2 2 (blank_cell ∷ blank_cell ∷ blank_cell ∷ blank_cell ∷ []) ≡ record { layouts = 1; visited = 2; fewest_lines = 0; layout_codes = (0 ∷ 0 ∷ 0 ∷ 0 ∷ []) ∷ [] }
  -- `5,5/,`
  pub K2 : known 2 2 ((pos 5) ∷ (pos 5) ∷ blank_cell ∷ blank_cell ∷ []) ≡ record { layouts = 1; visited = 2; fewest_lines = 1; layout_codes = (1 ∷ 0 ∷ 0 ∷ 0 ∷ []) ∷ [] }
  -- `5,/,5`
  pub K3 : known 2 2 ((pos 5) ∷ blank_cell ∷ blank_cell ∷ (pos 5) ∷ []) ≡ record { layouts = 1; visited = 2; fewest_lines = 2; layout_codes = (2 ∷ 0 ∷ 1 ∷ 0 ∷ []) ∷ [] }
  -- `,5/5,`
  pub K4 : known 2 2 (blank_cell ∷ (pos 5) ∷ (pos 5) ∷ blank_cell ∷ []) ≡ record { layouts = 1; visited = 2; fewest_lines = 2; layout_codes = (0 ∷ 2 ∷ 1 ∷ 0 ∷ []) ∷ [] }
  -- `5,5/5,5`
  pub K5 : known 2 2 ((pos 5) ∷ (pos 5) ∷ (pos 5) ∷ (pos 5) ∷ []) ≡ record { layouts = 2; visited = 3; fewest_lines = 2; layout_codes = (1 ∷ 0 ∷ 1 ∷ 0 ∷ []) ∷ (2 ∷ 2 ∷ 0 ∷ 0 ∷ []) ∷ [] }
  -- `5,/,6`
  pub K6 : known 2 2 ((pos 5) ∷ blank_cell ∷ blank_cell ∷ (pos 6) ∷ []) ≡ record { layouts = 0; visited = 1; fewest_lines = 481; layout_codes = [] }
  -- `5,/,`
  pub K7 : known 2 2 ((pos 5) ∷ blank_cell ∷ blank_cell ∷ blank_cell ∷ []) ≡ record { layouts = 0; visited = 1; fewest_lines = 481; layout_codes = [] }
  -- `,5,/5,6,/,,6`
  pub K8 : known 3 3 (blank_cell ∷ (pos 5) ∷ blank_cell ∷ (pos 5) ∷ (pos 6) ∷ blank_cell ∷ blank_cell ∷ blank_cell ∷ (pos 6) ∷ []) ≡ record { layouts = 1; visited = 3; fewest_lines = 4; layout_codes = (3 ∷ 0 ∷ 0 ∷ 0 ∷ 2 ∷ 0 ∷ 0 ∷ 1 ∷ 0 ∷ []) ∷ [] }
  -- limit 1 on K1 gives outcome 1, visited 1; 8 bytes on K1 give outcome 2, visited 2; neither writes a byte
  pub K1Spent : solve 2 2 (replicate 4 blank_cell) 1 (replicate 9 7) ≡ solved_as 1 0 1 481 (replicate 9 7)
  pub K1Full : solve 2 2 (replicate 4 blank_cell) 1000000 (replicate 8 7) ≡ solved_as 2 0 2 481 (replicate 8 7)
  -- clue 0 is end -2, clue 4294967295 is end -4294967297
  pub K9 : (end_number ((fresh (grid_of 2 2 (pos 0 ∷ pos 4294967295 ∷ blank_cell ∷ blank_cell ∷ []))).end 0) ≡ negsuc 1)
      × (end_number ((fresh (grid_of 2 2 (pos 0 ∷ pos 4294967295 ∷ blank_cell ∷ blank_cell ∷ []))).end 1) ≡ negsuc 4294967296)
  -- field 4294967295 is read, 4294967296 gives 3
  pub K10 : LargestCodeRead
  -- `1O` first in line 2 gives 13, line 2, field 1
  pub K11 : LetterRefused
  -- header `1,2` gives 5, line 1, field 1
  pub K12 : OneRowRefused
