-- What the program `judge` prints for a grid file on its standard input and the codes of a drawing as its argument, written as `routes` prints
-- them: one digit from 0 to 3 for each pad in index order. It puts Judge.antt between reading and printing; it rests on GridFile.antt and
-- Printed.antt.
use Rattle.std.specs.Prelude.{if◌then◌else◌}
use Rattle.std.specs.Prelude.{ℕ, ◌+◌, ◌*◌, ◌-◌, ◌%◌, Bool, ◌&&◌, ◌||◌, not, List, [], ◌++◌, eqb, ltb, leb, get_or, length, take}
use Rattle.rules.specs.Grid.{Edge, right, down}
use Rattle.rules.specs.Record.{byte_of, field}
use Rattle.rules.specs.Tests.{all_below}
use Rattle.model.specs.Text.{bytes, comma, line_end}
use Rattle.model.specs.Decimal.{decimal}
use Rattle.model.specs.GridFile.{Reading, read}
use Rattle.model.specs.Printed.{reading_text}
use Rattle.model.specs.Judge.{Judged, judge}

-- THE CODE of a pad by its digit, right + 2 × down: what stands past the digits is none
abbrev pub zero_digit : ℕ
zero_digit = 48

abbrev pub digit_at : List ℕ → ℕ → ℕ
digit_at digits v = get_or digits v zero_digit

abbrev pub code_at : List ℕ → ℕ → ℕ
code_at digits v = digit_at digits v - zero_digit

abbrev pub coded : List ℕ → Edge → Bool
coded digits (right v) = eqb (code_at digits v % 2) 1
coded digits (down v) = leb 2 (code_at digits v)

-- a digit from 0 to 3, with no line off the board
unfoldable pub digit_fits : ℕ → ℕ → List ℕ → ℕ → Bool
digit_fits height width digits v =
    leb zero_digit (digit_at digits v) && (leb (digit_at digits v) (zero_digit + 3)
    && ((not (coded digits (right v)) || ltb (v % width + 1) width)
    && (not (coded digits (down v)) || ltb (v + width) (height * width))))

-- one for each pad, each fitting
unfoldable pub codes_fit : ℕ → ℕ → List ℕ → Bool
codes_fit height width digits = eqb (length digits) (height * width) && all_below (digit_fits height width digits) (height * width)

-- THE RECORD of codes; codes that do not fit have the empty record, which is no layout's
abbrev pub coded_bytes : List ℕ → Edge → ℕ
coded_bytes digits e = byte_of (coded digits e)

unfoldable pub record_of_codes : ℕ → ℕ → List ℕ → List ℕ
record_of_codes height width digits = if codes_fit height width digits then field height width (coded_bytes digits) else []

-- THE LINE that is printed: verdict and lines
unfoldable pub judged_line : Judged → List ℕ
judged_line said = decimal said.verdict ++ comma ++ decimal said.lines ++ line_end

-- a refused file prints its line as `routes` does
unfoldable pub judged_text : List ℕ → Reading → List ℕ
judged_text digits reading =
    reading_text (λ height width cells. judged_line (judge height width cells (record_of_codes height width digits))) reading

-- WHAT `judge` PRINTS for its one argument; of the bytes of standard input the first 4,096 are read
unfoldable pub judge_text : List ℕ → List ℕ → List ℕ
judge_text digits input = judged_text digits (read (take 4096 input))

-- and for no argument, or more than one: how it is called
unfoldable pub usage_line : List ℕ
usage_line = bytes "judge CODES < GRID-FILE: CODES are the digits of the pads, as routes prints them\n"
