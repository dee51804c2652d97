-- Slices of packed decimal and grid files, held together: a slice and a file of the same codes and no holes give the same grid. For every
-- accepted slice the file that `write` makes of its grid is read as the slice is; for every accepted file without holes the slice of its
-- codes is read as the file is. What is proved of them stands in proofs/SlicesAndFiles.antt; that no two accepted slices have one grid in
-- proofs/OneSlice.antt.
use Rattle.std.specs.Prelude.{◌≡◌, List, ℕ, take}
use Rattle.model.specs.GridFile.{read}
use Rattle.model.specs.Writing.{Writing, grid_text, write}
use Rattle.model.specs.Packed.{read_packed, grid_slice}
use Rattle.reading.specs.WrittenBack.{pads_read}

-- ## From a slice to a file

-- the text of a slice's grid, and what `write` leaves of it in a buffer
abbrev pub slice_text : List ℕ → List ℕ
slice_text slice = grid_text (read_packed slice).height (read_packed slice).width (pads_read (read_packed slice))

abbrev pub slice_written : List ℕ → List ℕ → Writing
slice_written slice buffer = write (read_packed slice).height (read_packed slice).width (pads_read (read_packed slice)) buffer

-- the grid is written, and what was written reads as the slice does
pub record WrittenAndRead (slice buffer : List ℕ) : Type 0 where
  pub is_written : (slice_written slice buffer).number ≡ 0
  pub same_grid : read (take (slice_written slice buffer).length (slice_written slice buffer).buffer) ≡ read_packed slice

-- ## From a file to a slice

-- the slice of a file's codes
abbrev pub slice_of_file : List ℕ → List ℕ
slice_of_file file = grid_slice (read file).height (read file).width (pads_read (read file))
