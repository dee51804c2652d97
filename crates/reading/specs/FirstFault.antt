-- Where the reading of a file stops, and what it tells there. A byte can have a fault by itself: it is disallowed, which is 1 or 13, or it is
-- a second digit after a leading 0, which is 15. Which fault a byte has, and in which line and field it stands, is said of the bytes alone.
-- The reading stops at the first byte with a fault and tells its number, unless another number applies at that byte or before it; it names
-- the line and the field of the byte where it stops. So an accepted file has no byte with a fault. The proof says of what the reading
-- keeps (line, field, digits, value, whether a `#` was read) what it means for the bytes read so far.
-- What is proved of them stands in proofs/FirstFault.antt.
use Rattle.std.specs.Prelude.{if◌then◌else◌}
use Rattle.std.specs.Prelude.{◌≡◌, Bool, false, not, ◌&&◌, ◌||◌, List, ℕ, zero, suc, ◌+◌, ◌≤◌, ◌<◌, length, get_or, take, eqb}
use Rattle.model.specs.GridFile.{Reading, is_digit, is_comma, is_line_end, is_hole_sign, read}

-- ## The line and the field of a byte

-- Both are counted from 1. A byte that ends a field belongs to it; after a comma comes the next field, after a 0A field 1 of the next line.
unfoldable pub line_after : ℕ → ℕ → ℕ
line_after line byte = if is_line_end byte then line + 1 else line

unfoldable pub field_after : ℕ → ℕ → ℕ
field_after field byte = if is_line_end byte then 1 else if is_comma byte then field + 1 else field

-- the line and the field of the byte at a place of a file, or of the one that would come where the file ends
unfoldable pub line_of_byte : List ℕ → ℕ → ℕ
line_of_byte file zero = 1
line_of_byte file (suc place) = line_after (line_of_byte file place) (get_or file place 0)

unfoldable pub field_of_byte : List ℕ → ℕ → ℕ
field_of_byte file zero = 1
field_of_byte file (suc place) = field_after (field_of_byte file place) (get_or file place 0)

-- ## The fault that a byte has by itself

-- the byte right before a place of a file; before its first byte there is none, told as 0
unfoldable pub byte_before : List ℕ → ℕ → ℕ
byte_before file zero = 0
byte_before file (suc place) = get_or file place 0

-- Commas and 0A are allowed everywhere; a digit, but not right after a `#`; and a `#` that begins a field of a row: right after a comma or
-- 0A, and not in line 1, the header. Any other byte is disallowed.
unfoldable pub allowed_after : ℕ → ℕ → ℕ → Bool
allowed_after line before byte =
    is_comma byte || is_line_end byte
    || (is_digit byte && not (is_hole_sign before))
    || (is_hole_sign byte && not (eqb line 1) && (is_comma before || is_line_end before))

unfoldable pub allowed_at : List ℕ → ℕ → Bool
allowed_at file place = allowed_after (line_of_byte file place) (byte_before file place) (get_or file place 0)

-- whether a 0 that begins a field stands right before a place: a 0 with no digit right before it
unfoldable pub zero_before : List ℕ → ℕ → Bool
zero_before file zero = false
zero_before file (suc place) = eqb (get_or file place 0) 48 && not (is_digit (byte_before file place))

-- the number of the fault of the byte at a place, 0 if it has none: 13 for a disallowed byte right after a digit, 1 for another disallowed
-- byte, 15 for a second digit after a leading 0
unfoldable pub fault_at : List ℕ → ℕ → ℕ
fault_at file place =
    if not (allowed_at file place) then if is_digit (byte_before file place) then 13 else 1
    else if is_digit (get_or file place 0) && zero_before file place then 15
    else 0

-- ## Where the reading stops

-- what a number says of the place where the reading stops
pub data Why (file : List ℕ) (place number : ℕ) : Type 0 where
  -- the file is accepted, and read to its end
  all_read : number ≡ 0 → place ≡ length file → Why file place number
  -- the file ends there, before the last row does
  ends_early : number ≡ 6 → place ≡ length file → Why file place number
  -- the file goes on there, and what comes before is an accepted file by itself
  goes_on : number ≡ 6 → place < length file → (read (take place file)).number ≡ 0 → Why file place number
  -- the number is that of the byte's own fault
  own_fault : place < length file → fault_at file place ≡ number → 1 ≤ number → Why file place number
  -- another number: the byte has no fault by itself
  other_fault : place < length file → fault_at file place ≡ 0 → 2 ≤ number → number ≤ 5 → Why file place number

-- No byte before that place has a fault. A refusal names the line of that place and, unless it is 5, the field; which field of the header 5
-- names is said by `bad_size` of the model.
pub record Stops (file : List ℕ) (reading : Reading) : Type 0 where
  pub place : ℕ
  pub none_before : (i : ℕ) → i < place → fault_at file i ≡ 0
  pub why : Why file place reading.number
  pub line_named : 1 ≤ reading.number → reading.line ≡ line_of_byte file place
  pub field_named : 1 ≤ reading.number → (reading.number ≡ 5 → ⊥) → reading.field ≡ field_of_byte file place

-- ## What follows

-- a reading tells the number of the first byte with a fault, and its line and field
pub record FirstFault (file : List ℕ) (reading : Reading) : Type 0 where
  pub place : ℕ
  pub inside : place < length file
  pub fault : fault_at file place ≡ reading.number
  pub line_named : reading.line ≡ line_of_byte file place
  pub field_named : reading.field ≡ field_of_byte file place
  pub none_before : (i : ℕ) → i < place → fault_at file i ≡ 0
