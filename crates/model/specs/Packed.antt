-- Reading packed decimal, as controller memories hold it: from the bytes of a slice to a refusal with its line and field, or to H, W and
-- 256 cells. A slice is one byte H and one byte W, both plain numbers, then five bytes for each pad in index order: ten digits, two to a
-- byte, or five bytes FF hexadecimal for a blank pad. `read_packed` has the order's tests in their order. At the end stands the slice of
-- a grid. Assumes nothing.
use Rattle.std.specs.Prelude.{if◌then◌else◌}
use Rattle.std.specs.Prelude.{ℕ, zero, suc, ◌+◌, ◌*◌, ◌/◌, ◌%◌, Bool, true, false, not, ◌&&◌, ◌||◌, List, [], ◌∷◌, ◌++◌, length, take, drop, replicate, ℤ, pos, negsuc, eqb, ltb}
use Rattle.rules.specs.Grid.{largest_code}
use Rattle.model.specs.Bounds.{is_size}
use Rattle.model.specs.GridFile.{Reading, blank, grid_reading, declined_reading}

-- ## A pad

-- the half bytes of some bytes, two to a byte, the high half first
unfoldable pub half_bytes : List ℕ → List ℕ
half_bytes [] = []
half_bytes (byte ∷ bytes) = byte / 16 ∷ byte % 16 ∷ half_bytes bytes

-- is every byte FF hexadecimal?
unfoldable pub all_FF : List ℕ → Bool
all_FF [] = true
all_FF (byte ∷ bytes) = eqb byte 255 && all_FF bytes

-- is one of the half bytes above 9, and so no digit?
unfoldable pub some_above_9 : List ℕ → Bool
some_above_9 [] = false
some_above_9 (half ∷ halves) = ltb 9 half || some_above_9 halves

-- the value of digits behind those that have a value so far; leading zeros are filling
unfoldable pub digits_value : ℕ → List ℕ → ℕ
digits_value value [] = value
digits_value value (digit ∷ digits) = digits_value (value * 10 + digit) digits

-- what a pad gives: its cell, or the number of its refusal
pub data PackedPad : Type 0 where
  cell : ℤ → PackedPad
  refused : ℕ → PackedPad

-- what the five bytes of a pad give: five bytes FF are a blank; else the first number that applies
--   17 a half byte is above 9
--   3 the value exceeds the largest code
-- and where none does, the code
unfoldable pub packed_pad : List ℕ → PackedPad
packed_pad five =
    if all_FF five then cell blank
    else if some_above_9 (half_bytes five) then refused 17
    else if ltb largest_code (digits_value 0 (half_bytes five)) then refused 3
    else cell (pos (digits_value 0 (half_bytes five)))

-- ## The slice

-- a refusal at a pad names its line and field as if it were a file: the rows begin with line 2, and fields are counted from 1
unfoldable pub declined_pad : ℕ → ℕ → ℕ → Reading
declined_pad number width index = declined_reading number (2 + index / width) (1 + index % width)

-- the pads that are left, in index order, after those whose cells have been read: the first refusal, or the grid
unfoldable pub read_pads : ℕ → ℕ → ℕ → List ℤ → List ℕ → Reading
read_pads height width zero cells bytes = grid_reading height width cells
read_pads height width (suc left) cells bytes =
    elim (packed_pad (take 5 bytes)) [
      | cell c ↦ read_pads height width left (cells ++ (c ∷ [])) (drop 5 bytes)
      | refused number ↦ declined_pad number width (length cells)
    ]

-- the bytes after H and W: sizes, then the whole length, then the pads
--   5 H or W is out of bounds, the first bad one
--   6 a pad is not whole, the first such one; or a byte comes after the last pad, at field 1 of the line after the last row
unfoldable pub read_sized : ℕ → ℕ → List ℕ → Reading
read_sized height width bytes =
    if not (is_size height) then declined_reading 5 1 1
    else if not (is_size width) then declined_reading 5 1 2
    else if ltb (length bytes) (height * width * 5) then declined_pad 6 width (length bytes / 5)
    else if ltb (height * width * 5) (length bytes) then declined_reading 6 (height + 2) 1
    else read_pads height width (height * width) [] bytes

-- the whole slice; below two bytes it is 6 at line 1, field 1
unfoldable pub read_packed : List ℕ → Reading
read_packed [] = declined_reading 6 1 1
read_packed (height ∷ []) = declined_reading 6 1 1
read_packed (height ∷ width ∷ bytes) = read_sized height width bytes

-- ## The slice of a grid

-- a number in so many bytes, two digits to a byte, with zeros as filling
unfoldable pub packed_number : ℕ → ℕ → List ℕ
packed_number zero number = []
packed_number (suc more) number = packed_number more (number / 100) ++ ((number / 10 % 10 * 16 + number % 10) ∷ [])

-- the five bytes of a pad that is blank or carries a code; packed decimal has no hole
unfoldable pub packed_cell : ℤ → List ℕ
packed_cell (pos code) = packed_number 5 code
packed_cell (negsuc below) = replicate 5 255

unfoldable pub packed_cells : List ℤ → List ℕ
packed_cells [] = []
packed_cells (z ∷ cells) = packed_cell z ++ packed_cells cells

-- H, W, and the pads in index order
unfoldable pub grid_slice : ℕ → ℕ → List ℤ → List ℕ
grid_slice height width cells = height ∷ width ∷ packed_cells cells
