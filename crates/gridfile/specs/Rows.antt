-- How far the rows of a file have been read. Assumes nothing.
use Rattle.std.specs.Prelude.{ℕ, ◌+◌, ◌≤◌, ◌≡◌, List, ℤ, length, drop}
use Rattle.model.specs.GridFile.{Reading, read_from}
use Rattle.reading.specs.FieldSteps.{field_start}

-- the field of a row's column begins at a place, with these cells stored: reading on from there gives the answer of the whole
pub record Reached (bytes : List ℕ) (height width row column : ℕ) (cells : List ℤ) (at : ℕ) (answer : Reading) : Type 0 where
  pub inside : at ≤ length bytes
  pub same : read_from (field_start (row + 2) (column + 1) height width cells) (drop at bytes) ≡ answer
