-- Slices of packed decimal as wholes: an accepted slice is the slice of its grid, byte for byte, and the slice of a grid without holes is
-- made of bytes, accepted, and gives the grid; a fault of a pad is told of the first pad that has one. It rests on what one pad gives (PackedPads.antt).
-- What is proved of them stands in proofs/PackedSlices.antt.
use Rattle.std.specs.Prelude.{◌≡◌, ◌⊎◌, get_or, take, drop, ℤ}
use mathlib.Core.List.{List, ◌∷◌, ◌++◌}
use Prim.Native.Nat.{ℕ, suc, ◌+◌, ◌*◌, ◌-◌, ◌≤◌, ◌<◌}
use Rattle.std.proofs.Math.ListN.{length}
use Rattle.rules.specs.Grid.{blank_cell, hole_cell, Accepted}
use Rattle.model.specs.GridFile.{grid_reading, declined_reading}
use Rattle.model.specs.Packed.{refused, packed_pad, declined_pad, read_pads, read_packed, packed_cells, grid_slice}
use Rattle.reading.specs.PackedPads.{Packable}

-- ## The pads

-- the five bytes of the pad at an index
abbrev pub pad_at : List ℕ → ℕ → List ℕ
pad_at bytes index = take 5 (drop (index * 5) bytes)

-- every cell is one that a slice can hold
abbrev pub AllPackable : List ℤ → Type 0
AllPackable cells = (v : ℕ) → v < length cells → Packable (get_or cells v blank_cell)

-- the first pad that is refused, with its number
pub record FirstRefused (bytes : List ℕ) (index number : ℕ) : Type 0 where
  pub here : packed_pad (pad_at bytes index) ≡ refused number
  pub none_before : (before : ℕ) → before < index → (other : ℕ) → packed_pad (pad_at bytes before) ≡ refused other → ⊥

-- how reading the pads that are left goes: they are the bytes of cells, or one is the first that is refused
pub data PadsGo (height width left : ℕ) (cells : List ℤ) (bytes : List ℕ) : Type 0 where
  all_read : (rest : List ℤ) → length rest ≡ left → AllPackable rest → packed_cells rest ≡ bytes
      → read_pads height width left cells bytes ≡ grid_reading height width (cells ++ rest) → PadsGo height width left cells bytes
  one_refused : (index number : ℕ) → index < left → FirstRefused bytes index number
      → read_pads height width left cells bytes ≡ declined_pad number width (length cells + index) → PadsGo height width left cells bytes

-- ## From a grid to its slice

-- no cell is a hole
abbrev pub NoHoles : List ℤ → Type 0
NoHoles cells = (v : ℕ) → v < length cells → get_or cells v blank_cell ≡ hole_cell → ⊥

-- it is made of bytes: every number in it is one
abbrev pub IsByte : ℕ → Type 0
IsByte number = number < 256

abbrev pub InBytes : List ℕ → Type 0
InBytes numbers = (place : ℕ) → IsByte (get_or numbers place 0)

-- ## From a slice to its grid

-- a slice that is that of an accepted grid without holes, and is read as this grid
pub record SliceOfGrid (slice : List ℕ) : Type 0 where
  pub height : ℕ
  pub width : ℕ
  pub cells : List ℤ
  pub in_range : Accepted height width cells
  pub no_holes : NoHoles cells
  pub bytes : grid_slice height width cells ≡ slice
  pub reading : read_packed slice ≡ grid_reading height width cells

-- a pad for which a slice is turned away: the first that is refused, with 17 or 3
pub record RefusedPad (height width : ℕ) (bytes : List ℕ) : Type 0 where
  pub index : ℕ
  pub number : ℕ
  pub inside : index < height * width
  pub first : FirstRefused bytes index number
  pub told : (number ≡ 17) ⊎ (number ≡ 3)
  pub answer : read_packed (height ∷ width ∷ bytes) ≡ declined_pad number width index

-- every slice is turned away with a number, or is that of a grid
pub data SliceGoes (slice : List ℕ) : Type 0 where
  is_turned_away : (number line field : ℕ) → read_packed slice ≡ declined_reading (suc number) line field → SliceGoes slice
  is_read : SliceOfGrid slice → SliceGoes slice

-- ## The pad that a refusal names

-- the first pad that is not whole
pub record FirstNotWhole (bytes : List ℕ) (index : ℕ) : Type 0 where
  pub cut : length bytes < index * 5 + 5
  pub whole_before : (before : ℕ) → before < index → before * 5 + 5 ≤ length bytes

-- the line and the field at which a file has the pad with this index
pub record LineAndField (width index line field : ℕ) : Type 0 where
  pub a_row : 2 ≤ line
  pub from_1 : 1 ≤ field
  pub within : field ≤ width
  pub its_pad : (line - 2) * width + (field - 1) ≡ index
