-- Known grid files and what is printed for them, by computation: K10, K11 and K12 of the documents, accepted files, each
-- refusal at its place, and the texts that the documents show. The statements come first; `known_files` and
-- `known_texts` prove them all, each by `refl`.
use Rattle.std.specs.Prelude.{ℕ, zero, suc, ◌≡◌, refl, List, [], ◌∷◌, ◌++◌, length, replicate, get_or, ℤ, pos, negsuc}
use Rattle.model.specs.Bounds.{is_size, most_digits}
use Rattle.model.specs.Text.{bytes, comma, line_end}
use Rattle.model.specs.Decimal.{digit_byte, digits_before, decimal}
use Rattle.model.specs.GridFile.{is_digit, is_comma, is_line_end, is_hole_sign, begins_hole, is_allowed, disallowed_number, is_zero_alone, blank, hole, no_cells, start, in_header, fields_due, is_complete, field_cell, bad_size, refusal, with_digit, with_hole, begun, after, accepted, declined, read_from, read}
use Rattle.rules.specs.Record.{record_lines}
use Rattle.model.specs.Printed.{line_at, right_line, down_line, code_of_pad, code_digits_from, code_digits, summary_line, layout_line, refusal_line, Found, layout_lines, found_text, reading_text, printed}

-- number, line and field of a file's answer
pub record Answer : Type 0 where
  pub number : ℕ
  pub line : ℕ
  pub field : ℕ

unfoldable pub answer : List ℕ → Answer
answer file = record { number = (read file).number; line = (read file).line; field = (read file).field }

abbrev pub names : ℕ → ℕ → ℕ → Answer
names number line field = record { number = number; line = line; field = field }

-- the cell that a file gives a pad
unfoldable pub cell : List ℕ → ℕ → ℤ
cell file index = get_or (read file).cells index blank

-- ## K10, K11 and K12

-- field 4294967295 is read, 4294967296 gives 3
abbrev pub K10 : Type 0
K10 =
    (answer (bytes "2,2\n4294967295,\n,\n") ≡ names 0 0 0)
    × (cell (bytes "2,2\n4294967295,\n,\n") 0 ≡ pos 4294967295)
    × (answer (bytes "2,2\n4294967296,\n,\n") ≡ names 3 2 1)

-- `1O` first in line 2 gives 13, line 2, field 1
abbrev pub K11 : Type 0
K11 = answer (bytes "2,2\n1O,\n,1O\n") ≡ names 13 2 1

-- header `1,2` gives 5, line 1, field 1
abbrev pub K12 : Type 0
K12 = answer (bytes "1,2\n") ≡ names 5 1 1

-- ## Accepted files

-- the file of document 01
abbrev pub ExampleRead : Type 0
ExampleRead =
    read (bytes "2,2\n5,\n,5\n")
    ≡ record { number = 0; line = 0; field = 0; height = 2; width = 2; cells = pos 5 ∷ blank ∷ blank ∷ pos 5 ∷ replicate 252 blank }

-- `0` alone is floor 0, in every field too; zeros that do not lead are digits like others
abbrev pub ZerosRead : Type 0
ZerosRead =
    (read (bytes "2,2\n0,\n,0\n")
    ≡ record { number = 0; line = 0; field = 0; height = 2; width = 2; cells = pos 0 ∷ blank ∷ blank ∷ pos 0 ∷ replicate 252 blank })
    × (read (bytes "2,2\n0,0\n0,0\n")
    ≡ record { number = 0; line = 0; field = 0; height = 2; width = 2; cells = pos 0 ∷ pos 0 ∷ pos 0 ∷ pos 0 ∷ replicate 252 blank })
    × (read (bytes "2,2\n10,100\n2020,1000000000\n")
    ≡ record { number = 0; line = 0; field = 0; height = 2; width = 2; cells = pos 10 ∷ pos 100 ∷ pos 2020 ∷ pos 1000000000 ∷ replicate 252 blank })

-- codes on both sides of the largest signed number of 32 bits, and the two whose 32 bits would be those of a hole and of a blank pad
abbrev pub WideCodesRead : Type 0
WideCodesRead =
    (read (bytes "2,3\n2147483646,2147483647,2147483648\n4294967294,4294967295,3100000012\n")
    ≡ record { number = 0; line = 0; field = 0; height = 2; width = 3; cells = pos 2147483646 ∷ pos 2147483647 ∷ pos 2147483648 ∷ pos 4294967294 ∷ pos 4294967295 ∷ pos 3100000012 ∷ replicate 250 blank })

-- `#` alone in a field of a row is a hole, -2: beside blank pads and codes, in every field, in the last one
abbrev pub HolesRead : Type 0
HolesRead =
    (read (bytes "2,3\n5,,#\n#,0,5\n")
    ≡ record { number = 0; line = 0; field = 0; height = 2; width = 3; cells = pos 5 ∷ blank ∷ negsuc 1 ∷ negsuc 1 ∷ pos 0 ∷ pos 5 ∷ replicate 250 blank })
    × (read (bytes "2,2\n#,#\n#,#\n")
    ≡ record { number = 0; line = 0; field = 0; height = 2; width = 2; cells = negsuc 1 ∷ negsuc 1 ∷ negsuc 1 ∷ negsuc 1 ∷ replicate 252 blank })
    × (cell (bytes "2,2\n#,\n,\n") 0 ≡ negsuc 1)
    × (cell (bytes "2,2\n,\n,#\n") 3 ≡ negsuc 1)

-- the longest file: ten digits in each of 16 rows of 16 fields
unfoldable pub longest_row : ℕ → List ℕ
longest_row zero = bytes "4294967295\n"
longest_row (suc more) = bytes "4294967295," ++ longest_row more

unfoldable pub longest_rows : ℕ → List ℕ
longest_rows zero = []
longest_rows (suc more) = longest_row 15 ++ longest_rows more

unfoldable pub longest_file : List ℕ
longest_file = bytes "16,16\n" ++ longest_rows 16

abbrev pub LongestRead : Type 0
LongestRead =
    (length longest_file ≡ 2822)
    × (read longest_file
    ≡ record { number = 0; line = 0; field = 0; height = 16; width = 16; cells = replicate 256 (pos 4294967295) })

-- ## Refused files

-- 1: a disallowed byte with no digit of its field before it: in the header, in a row, in the last field, also where the field
-- before has a digit; a `#` in the header; a digit, a second `#`, a space or a return (0D) after the `#` of a hole
abbrev pub Refused1 : Type 0
Refused1 =
    (answer (bytes " 2,2\n") ≡ names 1 1 1)
    × (answer (bytes "2,x2\n") ≡ names 1 1 2)
    × (answer (bytes "2,2\nx,\n,\n") ≡ names 1 2 1)
    × (answer (bytes "2,2\nO1,\n,O1\n") ≡ names 1 2 1)
    × (answer (bytes "2,2\n5,\n5,\"5\"\n") ≡ names 1 3 2)
    × (answer (0 ∷ []) ≡ names 1 1 1)
    × (answer (bytes "#,2\n") ≡ names 1 1 1)
    × (answer (bytes "2,#\n") ≡ names 1 1 2)
    × (answer (bytes "2,2\n#5,\n,\n") ≡ names 1 2 1)
    × (answer (bytes "2,2\n##,\n,\n") ≡ names 1 2 1)
    × (answer (bytes "2,2\n# ,\n,\n") ≡ names 1 2 1)
    × (answer (bytes "2,2\n5,\n5,#\r\n") ≡ names 1 3 2)

-- 13: a disallowed byte after a digit of its field: in the header, in a row, in the last field; after a 0, which has no value
-- yet, and after ten digits; a return (0D) is no line end; a `#` after a digit, in the header too
abbrev pub Refused13 : Type 0
Refused13 =
    (answer (bytes "2x,2\n") ≡ names 13 1 1)
    × (answer (bytes "2,2\r\n") ≡ names 13 1 2)
    × (answer (bytes "2,1234567890x\n") ≡ names 13 1 2)
    × (answer (bytes "2,2\n1x,\n,\n") ≡ names 13 2 1)
    × (answer (bytes "2,2\n,\n,1O\n") ≡ names 13 3 2)
    × (answer (bytes "2,2\n0x,\n,\n") ≡ names 13 2 1)
    × (answer (bytes "2,2\n1234567890x,\n,\n") ≡ names 13 2 1)
    × (answer (bytes "2,2\n,\n5" ++ 255 ∷ []) ≡ names 13 3 1)
    × (answer (bytes "2#,2\n") ≡ names 13 1 1)
    × (answer (bytes "2,2\n5#,\n,\n") ≡ names 13 2 1)
    × (answer (bytes "2,2\n0#,\n,\n") ≡ names 13 2 1)
    × (answer (bytes "2,2\n,\n,1234567890#\n") ≡ names 13 3 2)

-- 15: a second digit after a leading 0: in the header, in a row, in the last field; a file that has 07 for the rear door and 7 for the
-- front; a second 0 too; also where an eleventh digit, the end of the file, a letter or a hole's sign comes later
abbrev pub Refused15 : Type 0
Refused15 =
    (answer (bytes "02,2\n") ≡ names 15 1 1)
    × (answer (bytes "2,02\n") ≡ names 15 1 2)
    × (answer (bytes "2,0000000002\n") ≡ names 15 1 2)
    × (answer (bytes "2,2\n07,\n,7\n") ≡ names 15 2 1)
    × (answer (bytes "2,2\n7,\n,07\n") ≡ names 15 3 2)
    × (answer (bytes "2,2\n00,\n,\n") ≡ names 15 2 1)
    × (answer (bytes "2,2\n0,00\n,\n") ≡ names 15 2 2)
    × (answer (bytes "2,2\n00000000000,\n,\n") ≡ names 15 2 1)
    × (answer (bytes "2,2\n,\n,05") ≡ names 15 3 2)
    × (answer (bytes "2,2\n00x,\n,\n") ≡ names 15 2 1)
    × (answer (bytes "2,2\n07#,\n,\n") ≡ names 15 2 1)
    × (answer (replicate 4096 48) ≡ names 15 1 1)

-- 2: an eleventh digit, also where a letter comes after it
abbrev pub Refused2 : Type 0
Refused2 =
    (answer (bytes "2,10000000002\n") ≡ names 2 1 2)
    × (answer (bytes "12345678901x,2\n") ≡ names 2 1 1)
    × (answer (bytes "2,2\n10000000000,\n,\n") ≡ names 2 2 1)
    × (answer (bytes "2,2\n12345678901x,\n,\n") ≡ names 2 2 1)
    × (answer (replicate 4096 49) ≡ names 2 1 1)

-- 3: the ended field exceeds 4294967295, also where 4 or 5 would apply
abbrev pub Refused3 : Type 0
Refused3 =
    (answer (bytes "1,4294967296\n") ≡ names 3 1 2)
    × (answer (bytes "4294967296\n") ≡ names 3 1 1)
    × (answer (bytes "4294967295\n") ≡ names 4 1 1)
    × (answer (bytes "2,2\n4294967295,4294967298\n") ≡ names 3 2 2)
    × (answer (bytes "2,2\n,\n,9999999999\n") ≡ names 3 3 2)

-- 4: too few fields, or a comma after the last, also where 5 would apply, and after a hole
abbrev pub Refused4 : Type 0
Refused4 =
    (answer (bytes "17\n") ≡ names 4 1 1)
    × (answer (bytes "2,2,") ≡ names 4 1 2)
    × (answer (bytes "17,17,") ≡ names 4 1 2)
    × (answer (bytes "2,2\n5\n") ≡ names 4 2 1)
    × (answer (bytes "2,3\n,,\n,,,\n") ≡ names 4 3 3)
    × (answer (bytes "2,2\n#\n,\n") ≡ names 4 2 1)
    × (answer (bytes "2,2\n#,#,\n") ≡ names 4 2 2)

-- 5: H or W empty or outside 2..16, 0 too, the first bad one
abbrev pub Refused5 : Type 0
Refused5 =
    (answer (bytes ",2\n") ≡ names 5 1 1)
    × (answer (bytes "0,2\n") ≡ names 5 1 1)
    × (answer (bytes "2,\n") ≡ names 5 1 2)
    × (answer (bytes "2,1\n") ≡ names 5 1 2)
    × (answer (bytes "17,17\n") ≡ names 5 1 1)
    × (answer (bytes "16,17\n") ≡ names 5 1 2)

-- 6: the file ends before the last row does, right after a `#` too, or has a byte after it, whatever byte that is
abbrev pub Refused6 : Type 0
Refused6 =
    (answer [] ≡ names 6 1 1)
    × (answer (bytes "2,2") ≡ names 6 1 2)
    × (answer (bytes "2,2\n") ≡ names 6 2 1)
    × (answer (bytes "2,2\n5,\n,5") ≡ names 6 3 2)
    × (answer (bytes "2,2\n5,\n,5\n\n") ≡ names 6 4 1)
    × (answer (bytes "2,2\n5,\n,5\nx") ≡ names 6 4 1)
    × (answer (bytes "2,2\n#") ≡ names 6 2 1)
    × (answer (bytes "2,2\n,\n,#") ≡ names 6 3 2)
    × (answer (bytes "2,2\n,\n,0") ≡ names 6 3 2)
    × (answer (bytes "2,2\n,\n,0\n00") ≡ names 6 4 1)
    × (answer (bytes "2,2\n,\n,#\n#") ≡ names 6 4 1)

-- a declined grid is 0, 0, all blank
abbrev pub DeclinedRead : Type 0
DeclinedRead =
    read (bytes "2,2\n5,\n,5")
    ≡ record { number = 6; line = 3; field = 2; height = 0; width = 0; cells = replicate 256 blank }

pub known_files :
    K10 × K11 × K12 × ExampleRead × ZerosRead × WideCodesRead × HolesRead × LongestRead
    × Refused1 × Refused13 × Refused15 × Refused2 × Refused3 × Refused4 × Refused5 × Refused6 × DeclinedRead
unfolding is_size most_digits bytes is_digit is_comma is_line_end is_hole_sign begins_hole is_allowed disallowed_number is_zero_alone blank hole no_cells start in_header fields_due is_complete field_cell bad_size refusal with_digit with_hole begun after accepted declined read_from read answer cell longest_row longest_rows longest_file
known_files = (
  (refl, refl, refl),
  refl,
  refl,
  refl,
  (refl, refl, refl),
  refl,
  (refl, refl, refl, refl),
  (refl, refl),
  (refl, refl, refl, refl, refl, refl, refl, refl, refl, refl, refl, refl),
  (refl, refl, refl, refl, refl, refl, refl, refl, refl, refl, refl, refl),
  (refl, refl, refl, refl, refl, refl, refl, refl, refl, refl, refl, refl),
  (refl, refl, refl, refl, refl),
  (refl, refl, refl, refl, refl),
  (refl, refl, refl, refl, refl, refl, refl),
  (refl, refl, refl, refl, refl, refl),
  (refl, refl, refl, refl, refl, refl, refl, refl, refl, refl, refl),
  refl,
)

-- ## Printed texts

-- the one layout of document 01's file: down from its first pad, then right to its last
unfoldable pub example_found : Found
example_found =
    record {
      outcome = 0;
      layouts = 1;
      visited = 2;
      fewest = 2;
      records = (0 ∷ 2 ∷ 0 ∷ 1 ∷ 0 ∷ 2 ∷ 0 ∷ 1 ∷ 0 ∷ []) ∷ [];
    }

abbrev pub ExamplePrinted : Type 0
ExamplePrinted =
    printed (λ height width cells. found_text height width example_found) (bytes "2,2\n5,\n,5\n") ≡ bytes "1,2,2,0\n1,2,2010\n"

abbrev pub RefusedPrinted : Type 0
RefusedPrinted =
    (printed (λ height width cells. found_text height width example_found) (bytes "2,2\n1O,\n,1O\n") ≡ bytes "refused,13,2,1\n")
    × (printed (λ height width cells. found_text height width example_found) (bytes "2,2\n 10,\n,10\n") ≡ bytes "refused,1,2,1\n")

-- numbers in shortest digits, up to the largest of 64 bits
abbrev pub Decimals : Type 0
Decimals =
    (decimal 0 ≡ bytes "0")
    × (decimal 9 ≡ bytes "9")
    × (decimal 10 ≡ bytes "10")
    × (decimal 481 ≡ bytes "481")
    × (decimal 1000000 ≡ bytes "1000000")
    × (decimal 18446744073709551615 ≡ bytes "18446744073709551615")

pub known_texts : ExamplePrinted × RefusedPrinted × Decimals
unfolding example_found is_size most_digits bytes is_digit is_comma is_line_end is_hole_sign begins_hole is_allowed disallowed_number is_zero_alone blank hole no_cells start in_header fields_due is_complete field_cell bad_size refusal with_digit with_hole begun after accepted declined read_from read record_lines digit_byte digits_before decimal line_at right_line down_line code_of_pad code_digits_from code_digits comma line_end summary_line layout_line refusal_line layout_lines found_text reading_text printed
known_texts = (refl, (refl, refl), (refl, refl, refl, refl, refl, refl))
