-- Known grids and what the writer leaves for them, by computation: the file of document 01, blank pads and floor 0, room that is just
-- enough and one short, later bytes that keep their values, each refusal, and the longest text. The statements come first;
-- `known_writes` proves them all, each by `refl`.
use Rattle.std.specs.Prelude.{ℕ, ◌≡◌, refl, List, [], ◌∷◌, ◌++◌, length, replicate, ℤ, pos, negsuc}
use Rattle.model.specs.Bounds.{is_size}
use Rattle.model.specs.Text.{bytes, comma, line_end, hole_sign}
use Rattle.model.specs.Decimal.{digit_byte, digits_before, decimal}
use Rattle.model.specs.GridFile.{blank, hole}
use Rattle.model.specs.Refusals.{is_cell, first_bad_cell, grid_refusal}
use Rattle.model.specs.Writing.{Writing, cell_text, rows_text, grid_text, turned_away, written, write}

-- a buffer of so many bytes, each of them 7
abbrev pub sevens : ℕ → List ℕ
sevens room = replicate room 7

-- what is left: number, index, length, and the buffer
abbrev pub leaves : ℕ → ℕ → ℕ → List ℕ → Writing
leaves number index length buffer = record { number = number; index = index; length = length; buffer = buffer }

abbrev pub example_cells : List ℤ
example_cells = pos 5 ∷ blank ∷ blank ∷ pos 5 ∷ []

-- the file of document 01 comes out byte for byte; later bytes keep their values; one byte short is 14, with nothing written
abbrev pub ExampleWritten : Type 0
ExampleWritten =
    (write 2 2 example_cells (sevens 10) ≡ leaves 0 0 10 (bytes "2,2\n5,\n,5\n"))
    × (write 2 2 example_cells (sevens 13) ≡ leaves 0 0 10 (bytes "2,2\n5,\n,5\n" ++ sevens 3))
    × (write 2 2 example_cells (sevens 9) ≡ leaves 14 0 0 (sevens 9))
    × (write 2 2 example_cells [] ≡ leaves 14 0 0 [])

-- a row has a comma between its fields and none at its end; a blank pad is an empty field, a hole is `#`, floor 0 is neither; digits from the highest on
abbrev pub FieldsWritten : Type 0
FieldsWritten =
    (grid_text 2 3 (pos 0 ∷ blank ∷ pos 10 ∷ blank ∷ blank ∷ pos 4294967295 ∷ []) ≡ bytes "2,3\n0,,10\n,,4294967295\n")
    × (grid_text 2 3 (hole ∷ blank ∷ pos 0 ∷ pos 5 ∷ hole ∷ hole ∷ []) ≡ bytes "2,3\n#,,0\n5,#,#\n")
    × (grid_text 3 2 (replicate 6 blank) ≡ bytes "3,2\n,\n,\n,\n")
    × (grid_text 2 2 (pos 9 ∷ pos 12 ∷ pos 100 ∷ pos 1000000001 ∷ []) ≡ bytes "2,2\n9,12\n100,1000000001\n")

-- the longest text
abbrev pub LongestWritten : Type 0
LongestWritten = length (grid_text 16 16 (replicate 256 (pos 4294967295))) ≡ 2822

-- the grid's numbers, whether there is room or not
abbrev pub Refused789 : Type 0
Refused789 =
    (write 1 2 (blank ∷ blank ∷ []) (sevens 20) ≡ leaves 7 0 0 (sevens 20))
    × (write 2 17 (replicate 34 blank) [] ≡ leaves 7 0 0 [])
    × (write 2 2 (blank ∷ blank ∷ blank ∷ []) (sevens 20) ≡ leaves 8 0 0 (sevens 20))
    × (write 2 2 (blank ∷ hole ∷ negsuc 2 ∷ pos 4294967296 ∷ []) (sevens 20) ≡ leaves 9 2 0 (sevens 20))
    × (write 2 2 (blank ∷ pos 4294967296 ∷ blank ∷ blank ∷ []) (sevens 1) ≡ leaves 9 1 0 (sevens 1))

pub known_writes : ExampleWritten × FieldsWritten × LongestWritten × Refused789
unfolding is_size bytes comma line_end hole_sign digit_byte digits_before decimal blank hole is_cell first_bad_cell grid_refusal cell_text rows_text grid_text turned_away written write
known_writes = ((refl, refl, refl, refl), (refl, refl, refl, refl), refl, (refl, refl, refl, refl, refl))
