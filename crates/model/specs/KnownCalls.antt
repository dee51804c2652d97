-- Known answers of the grid's refusals and of the record calls, by computation, each by `refl`.
use Rattle.std.specs.Prelude.{ℕ, ◌≡◌, refl, List, [], ◌∷◌, ◌++◌, replicate, pos, negsuc}
use Rattle.model.specs.Bounds.{is_size}
use Rattle.model.specs.GridFile.{blank, hole}
use Rattle.model.specs.Refusals.{is_cell, first_bad_cell, grid_refusal}
use Rattle.rules.specs.Record.{record_lines}
use Rattle.model.specs.Records.{record_length, has_record, record_at, shorter}

-- sizes first, then the number of cells, then the first bad cell; codes 0 and 4294967295 are sound, and so is a hole; 4294967296, -3 and
-- the ends of what a cell can hold are bad
abbrev pub Grids : Type 0
Grids =
    (grid_refusal 2 2 (replicate 4 blank) ≡ (0, 0))
    × (grid_refusal 16 16 (replicate 256 blank) ≡ (0, 0))
    × (grid_refusal 17 16 (replicate 272 blank) ≡ (7, 0))
    × (grid_refusal 2 1 (pos 4294967296 ∷ []) ≡ (7, 0))
    × (grid_refusal 2 2 (pos 4294967296 ∷ []) ≡ (8, 0))
    × (grid_refusal 2 3 (pos 0 ∷ pos 2147483646 ∷ pos 2147483647 ∷ pos 2147483648 ∷ pos 4294967294 ∷ pos 4294967295 ∷ []) ≡ (0, 0))
    × (grid_refusal 2 2 (hole ∷ hole ∷ pos 0 ∷ hole ∷ []) ≡ (0, 0))
    × (grid_refusal 2 2 (blank ∷ pos 4294967296 ∷ negsuc 2 ∷ blank ∷ []) ≡ (9, 1))
    × (grid_refusal 2 2 (blank ∷ hole ∷ blank ∷ negsuc 2 ∷ []) ≡ (9, 3))
    × (grid_refusal 2 2 (pos 5 ∷ blank ∷ pos 9999999999 ∷ blank ∷ []) ≡ (9, 2))
    × (grid_refusal 2 2 (pos 5 ∷ negsuc 9223372036854775807 ∷ blank ∷ blank ∷ []) ≡ (9, 1))
    × (grid_refusal 2 2 (pos 5 ∷ hole ∷ blank ∷ pos 9223372036854775807 ∷ []) ≡ (9, 3))

pub known_grids : Grids
unfolding is_size blank hole is_cell first_bad_cell grid_refusal
known_grids = (refl, refl, refl, refl, refl, refl, refl, refl, refl, refl, refl, refl)

-- two records of the 2 by 2 board and one byte more
unfoldable pub two_records : List ℕ
two_records = replicate 9 1 ++ replicate 9 2 ++ (7 ∷ [])

-- record k, and the empty part where there is none
abbrev pub Parts : Type 0
Parts =
    (record_at 2 2 2 0 two_records ≡ replicate 9 1)
    × (record_at 2 2 2 1 two_records ≡ replicate 9 2)
    × (record_at 2 2 3 2 two_records ≡ [])
    × (record_at 2 2 1 1 two_records ≡ [])
    × (record_at 1 2 2 0 two_records ≡ [])
    × (record_at 2 17 2 0 two_records ≡ [])

-- fewer lines, on a tie the first, and the empty part where the lengths differ or are 0
abbrev pub ShorterOfTwo : Type 0
ShorterOfTwo =
    (shorter (1 ∷ 1 ∷ []) (1 ∷ 2 ∷ []) ≡ 1 ∷ 2 ∷ [])
    × (shorter (1 ∷ 2 ∷ []) (1 ∷ 1 ∷ []) ≡ 1 ∷ 2 ∷ [])
    × (shorter (1 ∷ 2 ∷ []) (2 ∷ 1 ∷ []) ≡ 1 ∷ 2 ∷ [])
    × (shorter (1 ∷ []) (1 ∷ 2 ∷ []) ≡ [])
    × (shorter [] [] ≡ [])

pub known_records : Parts × ShorterOfTwo
unfolding two_records is_size record_length record_lines has_record record_at shorter
known_records = ((refl, refl, refl, refl, refl, refl), (refl, refl, refl, refl, refl))
