-- Known slices of packed decimal and how they are read, by computation: grids with blank pads, floor 0, leading zeros and the largest
-- code, and each refusal at its boundaries. Slices are written as hexadecimal texts, the pads parted by spaces. The statements come first;
-- `known_packed` proves them all, each by `refl`.
use Rattle.std.specs.Prelude.{if◌then◌else◌}
use Rattle.std.specs.Prelude.{ℕ, ◌+◌, ◌-◌, ◌*◌, ◌≡◌, refl, true, false, List, [], ◌∷◌, ◌++◌, replicate, pos, eqb, ltb}
use Prim.Native.String.{String}
use Rattle.model.specs.Bounds.{is_size, most_digits}
use Rattle.model.specs.Text.{bytes}
use Rattle.model.specs.GridFile.{is_digit, is_comma, is_line_end, is_hole_sign, begins_hole, is_allowed, disallowed_number, is_zero_alone, blank, hole, no_cells, start, in_header, fields_due, is_complete, field_cell, bad_size, refusal, with_digit, with_hole, begun, after, accepted, grid_reading, declined_reading, declined, read_from, read}
use Rattle.model.specs.Packed.{half_bytes, all_FF, some_above_9, digits_value, packed_pad, declined_pad, read_pads, read_sized, read_packed}

-- ## Hexadecimal texts

-- the value of a hexadecimal digit, 0 to 9 or A to F
unfoldable pub half_of : ℕ → ℕ
half_of character = if ltb character 58 then character - 48 else character - 55

unfoldable pub without_spaces : List ℕ → List ℕ
without_spaces [] = []
without_spaces (character ∷ rest) = elim (eqb character 32) [ true ↦ without_spaces rest | false ↦ character ∷ without_spaces rest ]

-- two digits to a byte, the higher first
unfoldable pub two_by_two : List ℕ → List ℕ
two_by_two [] = []
two_by_two (high ∷ []) = []
two_by_two (high ∷ low ∷ rest) = (half_of high * 16 + half_of low) ∷ two_by_two rest

unfoldable pub hexadecimal : String → List ℕ
hexadecimal text = two_by_two (without_spaces (bytes text))

-- ## Grids

-- a slice and a file of the same codes give the same grid
abbrev pub SameGrid : Type 0
SameGrid =
    (read_packed (hexadecimal "0202 0000000005 FFFFFFFFFF FFFFFFFFFF 0000000005") ≡ grid_reading 2 2 (pos 5 ∷ blank ∷ blank ∷ pos 5 ∷ []))
    × (read (bytes "2,2\n5,\n,5\n") ≡ grid_reading 2 2 (pos 5 ∷ blank ∷ blank ∷ pos 5 ∷ []))
    × (read_packed (hexadecimal "0203 0000000007 0000000070 FFFFFFFFFF 3100000012 0000000000 4294967295") ≡ read (bytes "2,3\n7,70,\n3100000012,0,4294967295\n"))
    × (read_packed (hexadecimal "0302 1234567890 FFFFFFFFFF FFFFFFFFFF 0000000010 0000000001 FFFFFFFFFF") ≡ read (bytes "3,2\n1234567890,\n,10\n1,\n"))
    × (read_packed (16 ∷ 16 ∷ replicate 1280 255) ≡ grid_reading 16 16 (replicate 256 blank))

-- ## Refusals

-- below two bytes; a short slice at the first pad that is not whole; a long one at the line after the last row
abbrev pub Refused6 : Type 0
Refused6 =
    (read_packed [] ≡ declined_reading 6 1 1)
    × (read_packed (hexadecimal "02") ≡ declined_reading 6 1 1)
    × (read_packed (hexadecimal "0202") ≡ declined_reading 6 2 1)
    × (read_packed (hexadecimal "0202 FFFFFFFF") ≡ declined_reading 6 2 1)
    × (read_packed (hexadecimal "0202 FFFFFFFFFF") ≡ declined_reading 6 2 2)
    × (read_packed (hexadecimal "0302 FFFFFFFFFF FFFFFFFFFF FFFFFFFFFF FFFF") ≡ declined_reading 6 3 2)
    × (read_packed (hexadecimal "0203 FFFFFFFFFF FFFFFFFFFF FFFFFFFFFF FFFF") ≡ declined_reading 6 3 1)
    × (read_packed (hexadecimal "0202 0000000005 FFFFFFFFFF FFFFFFFFFF 00000000") ≡ declined_reading 6 3 2)
    × (read_packed (hexadecimal "0202 0000000005 FFFFFFFFFF FFFFFFFFFF 0000000005 00") ≡ declined_reading 6 4 1)
    × (read_packed (hexadecimal "0203" ++ replicate 35 255) ≡ declined_reading 6 4 1)

-- a size out of bounds, the first bad one, whatever the length is
abbrev pub Refused5 : Type 0
Refused5 =
    (read_packed (hexadecimal "0002") ≡ declined_reading 5 1 1)
    × (read_packed (hexadecimal "0200") ≡ declined_reading 5 1 2)
    × (read_packed (hexadecimal "0102 FFFFFFFFFF FFFFFFFFFF") ≡ declined_reading 5 1 1)
    × (read_packed (hexadecimal "0201 FFFFFFFFFF FFFFFFFFFF") ≡ declined_reading 5 1 2)
    × (read_packed (hexadecimal "1102") ≡ declined_reading 5 1 1)
    × (read_packed (hexadecimal "0211") ≡ declined_reading 5 1 2)
    × (read_packed (hexadecimal "FFFF 00") ≡ declined_reading 5 1 1)
    × (read_packed (hexadecimal "0001") ≡ declined_reading 5 1 1)

-- a half byte above 9 in a pad that is no blank, high or low, also where only a part of the pad is FF; before 3 at one pad
abbrev pub Refused17 : Type 0
Refused17 =
    (read_packed (hexadecimal "0202 000000000A FFFFFFFFFF FFFFFFFFFF 0000000005") ≡ declined_reading 17 2 1)
    × (read_packed (hexadecimal "0202 0000000005 FFFFFFFF0A FFFFFFFFFF 0000000005") ≡ declined_reading 17 2 2)
    × (read_packed (hexadecimal "0202 0000000005 FFFFFFFFFF FFFFFFFFFE 0000000005") ≡ declined_reading 17 3 1)
    × (read_packed (hexadecimal "0202 0000000005 FFFFFFFFFF FFFFFFFFFF 00FFFFFFFF") ≡ declined_reading 17 3 2)
    × (read_packed (hexadecimal "0202 A000000000 FFFFFFFFFF 9999999999 0000000005") ≡ declined_reading 17 2 1)
    × (read_packed (hexadecimal "0202 999999999A FFFFFFFFFF FFFFFFFFFF 0000000005") ≡ declined_reading 17 2 1)
    × (read_packed (hexadecimal "0203 FFFFFFFFFF FFFFFFFFFF FFFFFFFFFF FFFFFFFFFF 0F00000000 FFFFFFFFFF") ≡ declined_reading 17 3 2)

-- a value above the largest code; the first pad with a fault is named, whatever its number
abbrev pub Refused3 : Type 0
Refused3 =
    (read_packed (hexadecimal "0202 4294967296 FFFFFFFFFF FFFFFFFFFF 0000000005") ≡ declined_reading 3 2 1)
    × (read_packed (hexadecimal "0202 9999999999 FFFFFFFF9A FFFFFFFFFF 0000000005") ≡ declined_reading 3 2 1)
    × (read_packed (hexadecimal "0302 FFFFFFFFFF FFFFFFFFFF FFFFFFFFFF FFFFFFFFFF FFFFFFFFFF 9999999999") ≡ declined_reading 3 4 2)

pub known_packed : SameGrid × Refused6 × Refused5 × Refused17 × Refused3
unfolding half_of without_spaces two_by_two hexadecimal is_size most_digits bytes is_digit is_comma is_line_end is_hole_sign begins_hole is_allowed disallowed_number is_zero_alone blank hole no_cells start in_header fields_due is_complete field_cell bad_size refusal with_digit with_hole begun after accepted declined read_from read half_bytes all_FF some_above_9 digits_value packed_pad declined_pad read_pads read_sized read_packed
known_packed = (
  (refl, refl, refl, refl, refl),
  (refl, refl, refl, refl, refl, refl, refl, refl, refl, refl),
  (refl, refl, refl, refl, refl, refl, refl, refl),
  (refl, refl, refl, refl, refl, refl, refl),
  (refl, refl, refl),
)
