-- What one field of a grid file gives, from its first byte on: its value and the place of the byte that ends it, or why it is
-- refused. These are the documents' refusals that a field can have by itself: 1, 13, 15, 2, 3, and 6 where the
-- file ends in it. A field of the header has digits only, a field of a row may be a hole. Assumes nothing.
use Rattle.std.specs.Prelude.{if◌then◌else◌}
use Rattle.std.specs.Prelude.{ℕ, ◌+◌, ◌*◌, ◌-◌, Bool, true, false, not, ◌&&◌, List, [], ◌∷◌, get_or, drop, eqb, ltb, Result, Ok, Err}
use Rattle.rules.specs.Grid.{largest_code}
use Rattle.model.specs.Bounds.{most_digits}
use Rattle.model.specs.GridFile.{is_digit, is_comma, is_line_end, is_hole_sign, is_zero_alone}
use Rattle.reading.specs.FieldSteps.{Part, some_digits, hole_alone}
use Rattle.gridfile.specs.declared.Field.{Field}
use Rattle.gridfile.specs.declared.Fault.{Fault}
use Rattle.gridfile.specs.declared.Declined.{Declined}
use Rattle.gridfile.specs.declared.Fault.TheVariants.{StrayByte, EleventhDigit, LargeCode, FieldCount, BadSize, FileEnd, ByteAfterDigit, LeadingZero, HalfByte}

-- the documents' number
abbrev pub fault_number : Fault → ℕ
fault_number StrayByte = 1
fault_number EleventhDigit = 2
fault_number LargeCode = 3
fault_number FieldCount = 4
fault_number BadSize = 5
fault_number FileEnd = 6
fault_number ByteAfterDigit = 13
fault_number LeadingZero = 15
fault_number HalfByte = 17

-- a disallowed byte in a field that has so many digits before it; its number is the model's `disallowed_number`
unfoldable pub disallowed : ℕ → Fault
disallowed digits = if eqb digits 0 then StrayByte else ByteAfterDigit

-- at a byte that does not go on with the field, after some digits with a value: 1 or 13 if it is disallowed, 3 if the value is
-- too large, else the field has ended
unfoldable pub ended_field : ℕ → ℕ → ℕ → ℕ → Result Field Fault
ended_field byte digits value at =
    if not (is_comma byte) && not (is_line_end byte) then Err (disallowed digits)
    else if ltb largest_code value then Err LargeCode
    else Ok (record { value = value; end = at })

-- the field from a place on, after some digits with a value
unfoldable pub field_from : List ℕ → ℕ → ℕ → ℕ → Result Field Fault
field_from [] at digits value = Err FileEnd
field_from (byte ∷ bytes) at digits value =
    if not (is_digit byte) then ended_field byte digits value at
    else if is_zero_alone digits value then Err LeadingZero
    else if eqb digits most_digits then Err EleventhDigit
    else field_from bytes (at + 1) (digits + 1) (value * 10 + (byte - 48))

-- the field of digits that begins at a place of the file
unfoldable pub field_at : List ℕ → ℕ → Result Field Fault
field_at bytes from = field_from (drop from bytes) from 0 0

-- the field from a place on, after the sign of a hole
unfoldable pub hole_from : List ℕ → ℕ → Result Field Fault
hole_from [] at = Err FileEnd
hole_from (byte ∷ bytes) at = ended_field byte 0 0 at

-- the field of a row that begins at a place of the file
unfoldable pub row_field_at : List ℕ → ℕ → Result Field Fault
row_field_at bytes from =
    if is_hole_sign (get_or bytes from 0) then hole_from (drop (from + 1) bytes) (from + 1) else field_at bytes from

-- a field with the line and the field at which the file is declined where it is refused
abbrev pub located : Result Field Fault → ℕ → ℕ → Result Field Declined
located (Ok found) line field = Ok found
located (Err fault) line field = Err (record { fault = fault; line = line; field = field })

-- what an ended field is, by whether it begins with the sign of a hole: the sign alone, or digits with their value
abbrev pub part_of : Bool → ℕ → ℕ → Part
part_of true digits value = hole_alone
part_of false digits value = some_digits digits value
