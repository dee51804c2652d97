-- Reading a grid file: from its bytes to a refusal with its line and field, or to H, W and 256 cells.
-- The file is read byte by byte. `refusal` has the documents' numbers in the order in which they are tested at one byte,
-- `after` says what an accepted byte does, and `read` stops at the first byte where a number applies. Assumes nothing.
use Rattle.std.specs.Prelude.{if◌then◌else◌}
use Rattle.std.specs.Prelude.{ℕ, zero, suc, ◌+◌, ◌*◌, ◌-◌, Bool, true, false, not, ◌&&◌, ◌||◌, List, [], ◌∷◌, ◌++◌, length, set, replicate, ℤ, pos, negsuc, eqb, ltb, leb}
use Rattle.rules.specs.Grid.{largest_code}
use Rattle.model.specs.Bounds.{is_size, most_digits}

-- ## Bytes and cells

-- decimal digits
unfoldable pub is_digit : ℕ → Bool
is_digit byte = leb 48 byte && leb byte 57

-- fields are parted by commas
unfoldable pub is_comma : ℕ → Bool
is_comma byte = eqb byte 44

-- each line is ended by byte 0A hexadecimal, and by nothing else
unfoldable pub is_line_end : ℕ → Bool
is_line_end byte = eqb byte 10

-- a hole is the sign `#`
unfoldable pub is_hole_sign : ℕ → Bool
is_hole_sign byte = eqb byte 35

-- the number of a disallowed byte in a field that has so many digits before it: 1 at the field's start (a leading space
-- or quote mark), 13 after a digit (a letter typed for a digit, a return in front of the 0A)
unfoldable pub disallowed_number : ℕ → ℕ
disallowed_number digits = if eqb digits 0 then 1 else 13

-- whether a field of so many digits with this value is `0` alone: it is floor 0, and no digit may come after it, since 07 and 7 are two doors
unfoldable pub is_zero_alone : ℕ → ℕ → Bool
is_zero_alone digits value = eqb digits 1 && eqb value 0

-- a cell is -1 for blank, -2 for a hole, else its code
unfoldable pub blank : ℤ
blank = negsuc 0

unfoldable pub hole : ℤ
hole = negsuc 1

unfoldable pub no_cells : List ℤ
no_cells = replicate 256 blank

-- ## Where the reading stands before a byte

pub record Standing : Type 0 where
  -- the line and the field being read, both from 1
  pub line : ℕ
  pub field : ℕ
  -- how many digits the field has so far, and their value
  pub digits : ℕ
  pub value : ℕ
  -- whether the field is a hole: its `#` has been read
  pub drilled : Bool
  -- H and W, each once its field has ended
  pub height : ℕ
  pub width : ℕ
  -- the 256 cells, blank where no field has ended
  pub cells : List ℤ

unfoldable pub start : Standing
start = record { line = 1; field = 1; digits = 0; value = 0; drilled = false; height = 0; width = 0; cells = no_cells }

-- line 1 is the header
unfoldable pub in_header : Standing → Bool
in_header s = eqb s.line 1

-- the header is `H,W`; then there are H lines of W fields
unfoldable pub fields_due : Standing → ℕ
fields_due s = if in_header s then 2 else s.width

unfoldable pub is_complete : Standing → Bool
is_complete s = not (in_header s) && eqb s.line (s.height + 2)

-- what the field says if it ends here: `#` for a hole, empty for blank, else its value
unfoldable pub field_cell : Standing → ℤ
field_cell s = if s.drilled then hole else if eqb s.digits 0 then blank else pos s.value

-- the first of H and W that is empty or out of bounds if the header ends here, 0 if both are sound;
-- an empty field has the value 0, which is out of bounds
unfoldable pub bad_size : Standing → ℕ
bad_size s = if not (is_size s.height) then 1 else if not (is_size s.value) then 2 else 0

-- ## What a byte does

-- `#` is allowed as the first byte of a field of a row
unfoldable pub begins_hole : Standing → ℕ → Bool
begins_hole s byte = is_hole_sign byte && not (in_header s) && eqb s.digits 0 && not s.drilled

-- commas and 0A are allowed everywhere, digits where no `#` was read, and a `#` that begins a hole; any other byte is disallowed
unfoldable pub is_allowed : Standing → ℕ → Bool
is_allowed s byte = is_comma byte || is_line_end byte || (is_digit byte && not s.drilled) || begins_hole s byte

-- the number that applies at a byte, 0 if none does: the first of these that holds
--   6 a byte after the last row (tested before 1)
--   1 a disallowed byte, or 13 if it comes after a digit of its field
--   15 a second digit after a leading 0
--   2 an eleventh digit
--   3 the ended field exceeds the largest code
--   4 too few fields at a line's end, or a comma after the last
--   5 header end with H or W empty or out of bounds
unfoldable pub refusal : Standing → ℕ → ℕ
refusal s byte =
    if is_complete s then 6
    else if not (is_allowed s byte) then disallowed_number s.digits
    else if is_digit byte && is_zero_alone s.digits s.value then 15
    else if is_digit byte && eqb s.digits most_digits then 2
    else if not (is_digit byte) && ltb largest_code s.value then 3
    else if is_line_end byte && ltb s.field (fields_due s) then 4
    else if is_comma byte && eqb s.field (fields_due s) then 4
    else if is_line_end byte && in_header s && ltb 0 (bad_size s) then 5
    else 0

-- a digit goes to the field being read
unfoldable pub with_digit : Standing → ℕ → Standing
with_digit s byte =
    record {
      line = s.line;
      field = s.field;
      digits = s.digits + 1;
      value = s.value * 10 + (byte - 48);
      drilled = s.drilled;
      height = s.height;
      width = s.width;
      cells = s.cells;
    }

-- the field being read is a hole
unfoldable pub with_hole : Standing → Standing
with_hole s =
    record {
      line = s.line;
      field = s.field;
      digits = s.digits;
      value = s.value;
      drilled = true;
      height = s.height;
      width = s.width;
      cells = s.cells;
    }

-- the field ends, its value is stored, and another field is begun: H is the header's first field and W its second,
-- any other is the cell of the pad in row line - 2 and column field - 1
unfoldable pub begun : Standing → ℕ → ℕ → Standing
begun s next_line next_field =
    record {
      line = next_line;
      field = next_field;
      digits = 0;
      value = 0;
      drilled = false;
      height = if in_header s && eqb s.field 1 then s.value else s.height;
      width = if in_header s && eqb s.field 2 then s.value else s.width;
      cells =
          if in_header s then s.cells
          else set s.cells ((s.line - 2) * s.width + (s.field - 1)) (field_cell s);
    }

-- where the reading stands after an accepted byte
unfoldable pub after : Standing → ℕ → Standing
after s byte =
    if is_digit byte then with_digit s byte
    else if is_hole_sign byte then with_hole s
    else if is_comma byte then begun s s.line (s.field + 1)
    else begun s (s.line + 1) 1

-- ## The answer

pub record Reading : Type 0 where
  -- 0 if accepted; the line and field that a refusal names, from 1, and 0 if accepted
  pub number : ℕ
  pub line : ℕ
  pub field : ℕ
  -- H, W and 256 cells, blank past HW; a declined grid is 0, 0, all blank
  pub height : ℕ
  pub width : ℕ
  pub cells : List ℤ

unfoldable pub accepted : Standing → Reading
accepted s =
    record { number = 0; line = 0; field = 0; height = s.height; width = s.width; cells = s.cells }

-- a grid: H, W, its cells, and blank past them
abbrev pub grid_reading : ℕ → ℕ → List ℤ → Reading
grid_reading height width cells =
    record { number = 0; line = 0; field = 0; height = height; width = width; cells = cells ++ replicate (256 - length cells) blank }

-- a refusal at a line and a field
abbrev pub declined_reading : ℕ → ℕ → ℕ → Reading
declined_reading number line field =
    record { number = number; line = line; field = field; height = 0; width = 0; cells = no_cells }

-- a refusal names the field being read or ended, and 5 the first bad one of the header
unfoldable pub declined : ℕ → Standing → Reading
declined number s = declined_reading number s.line (if eqb number 5 then bad_size s else s.field)

-- 6 also where the file ends before the last row does
unfoldable pub read_from : Standing → List ℕ → Reading
read_from s [] = elim (is_complete s) [ true ↦ accepted s | false ↦ declined 6 s ]
read_from s (byte ∷ bytes) =
    elim (refusal s byte) [ zero ↦ read_from (after s byte) bytes | suc n ↦ declined (suc n) s ]

unfoldable pub read : List ℕ → Reading
read bytes = read_from start bytes
