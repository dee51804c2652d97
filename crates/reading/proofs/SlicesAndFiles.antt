-- What is proved of the definitions in specs/SlicesAndFiles.antt.
use Rattle.std.specs.Prelude.{◌≡◌, List, ℕ, ◌*◌, ◌-◌, ◌≤◌, length, replicate}
use Rattle.std.proofs.Common.{sym, ◌∙◌, le_trans, take_at}
use Rattle.std.proofs.Math.Path.{ap}
use Rattle.rules.specs.Grid.{Accepted}
use Rattle.model.specs.GridFile.{blank, grid_reading, read}
use Rattle.model.specs.Writing.{Writing, written}
use Rattle.model.specs.Packed.{read_packed, grid_slice}
use Rattle.reading.specs.ReadingLaws.{read_sound}
use Rattle.reading.specs.ReadBack.{text_is_read, longest_text}
use Rattle.reading.specs.WrittenBack.{pads_read, text_is_file}
use Rattle.reading.proofs.WriteRead.{has_room, written_is_read}
use Rattle.reading.specs.PackedSlices.{NoHoles, InBytes, SliceOfGrid}
use Rattle.reading.proofs.PackedSlices.{slice_is_read, slice_in_bytes, accepted_is_slice, packed_sound}
use Rattle.reading.specs.SlicesAndFiles.{slice_text, slice_written, WrittenAndRead, slice_of_file}

module _ (slice : List ℕ) (accepted : (read_packed slice).number ≡ 0) where
  its_grid : SliceOfGrid slice
  its_grid = accepted_is_slice slice accepted

  its_cells : pads_read (grid_reading its_grid.height its_grid.width its_grid.cells) ≡ its_grid.cells
  its_cells = take_at its_grid.cells (replicate (256 - length its_grid.cells) blank) (its_grid.height * its_grid.width) its_grid.in_range.one_cell_a_pad

  -- the reading is that of its own H, W and cells
  slice_reading : grid_reading (read_packed slice).height (read_packed slice).width (pads_read (read_packed slice)) ≡ read_packed slice
  slice_reading = rw its_grid.reading (ap (grid_reading its_grid.height its_grid.width) its_cells)

  -- for every accepted slice, in every buffer that has room for the text of its grid
  pub slice_to_file : (buffer : List ℕ) → length (slice_text slice) ≤ length buffer → WrittenAndRead slice buffer
  unfolding written
  slice_to_file buffer room = record { is_written = done; same_grid = written_is_read _ _ _ buffer done ∙ slice_reading }
    where
      done : (slice_written slice buffer).number ≡ 0
      done = ap (λ (w : Writing). w.number) (has_room (read_packed slice).height (read_packed slice).width (pads_read (read_packed slice)) buffer ((packed_sound slice).in_range accepted) room)

  -- 2,822 bytes are room for every one
  pub slice_to_any : (buffer : List ℕ) → 2822 ≤ length buffer → WrittenAndRead slice buffer
  slice_to_any buffer room = slice_to_file buffer (le_trans (longest_text _ _ _ ((packed_sound slice).in_range accepted)) room)

  -- it is the slice of its codes, byte for byte, and has no hole
  pub slice_is_own : grid_slice (read_packed slice).height (read_packed slice).width (pads_read (read_packed slice)) ≡ slice
  slice_is_own = rw its_grid.reading (ap (grid_slice its_grid.height its_grid.width) its_cells ∙ its_grid.bytes)

  pub slice_has_no_hole : NoHoles (pads_read (read_packed slice))
  slice_has_no_hole = rw (its_grid.reading, its_cells) its_grid.no_holes

-- it is made of bytes, so that it can be lent
pub slice_can_be_lent : (file : List ℕ) → (read file).number ≡ 0 → InBytes (slice_of_file file)
slice_can_be_lent file accepted = slice_in_bytes (read file).height (read file).width (pads_read (read file)) ((read_sound file).in_range accepted)

-- for every accepted file without holes: the slice of its codes reads as the file does
pub file_to_slice : (file : List ℕ) → (read file).number ≡ 0 → NoHoles (pads_read (read file)) → read_packed (slice_of_file file) ≡ read file
file_to_slice file accepted none =
    slice_is_read (read file).height (read file).width (pads_read (read file)) in_range none
    ∙ sym (text_is_read (read file).height (read file).width (pads_read (read file)) in_range)
    ∙ ap read (text_is_file file accepted)
  where
    in_range : Accepted (read file).height (read file).width (pads_read (read file))
    in_range = (read_sound file).in_range accepted
