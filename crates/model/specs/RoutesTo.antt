-- What the program `routes_to` prints for its one argument, the limit of visited boards, and the bytes of its standard input: what `routes` prints,
-- with that limit and a larger answer buffer. An argument that is no limit is refused with a line that says so. And what it says on standard
-- error after each of its runs. It rests on Routes.antt.
use Rattle.std.specs.Prelude.{ℕ, ◌+◌, ◌*◌, ◌-◌, Bool, true, ◌&&◌, List, [], ◌∷◌, ◌++◌, leb, length}
use Rattle.std.specs.Prelude.{if◌then◌else◌}
use Rattle.model.specs.Text.{bytes, line_end}
use Rattle.model.specs.Decimal.{decimal}
use Rattle.model.specs.GridFile.{is_digit}
use Rattle.model.specs.Routes.{list_text}

-- ## The limit

-- the largest number of 64 bits, which has 20 digits
abbrev pub largest_limit : ℕ
largest_limit = 18446744073709551615

abbrev pub most_limit_digits : ℕ
most_limit_digits = 20

unfoldable pub all_digits : List ℕ → Bool
all_digits [] = true
all_digits (byte ∷ text) = is_digit byte && all_digits text

-- the value of digits that come after digits of some value
unfoldable pub value_after : ℕ → List ℕ → ℕ
value_after value [] = value
value_after value (byte ∷ text) = value_after (value * 10 + (byte - 48)) text

-- a text is a limit where it is 1 to 20 digits, whose value has 64 bits
unfoldable pub is_limit : List ℕ → Bool
is_limit text = leb 1 (length text) && (leb (length text) most_limit_digits && (all_digits text && leb (value_after 0 text) largest_limit))

pub data Limit : Type 0 where
  boards : ℕ → Limit
  no_limit : Limit

unfoldable pub limit_of : List ℕ → Limit
limit_of text = if is_limit text then boards (value_after 0 text) else no_limit

-- the line for any other text, and for no argument or more than one
unfoldable pub limit_line : List ℕ
limit_line = bytes "refused: the limit must be a number from 0 to 18446744073709551615 (routes_to LIMIT < GRID-FILE)\n"

-- ## What is printed

-- 4,096 records of the largest board
abbrev pub routes_to_room : ℕ
routes_to_room = 3936256

unfoldable pub routes_to_text : List ℕ → List ℕ → List ℕ
routes_to_text argument input =
    elim (limit_of argument) [
      | boards limit ↦ list_text limit routes_to_room input
      | no_limit ↦ limit_line
    ]

-- what is said of each run
unfoldable pub progress_line : (visited layouts : ℕ) → List ℕ
progress_line visited layouts = bytes "visited " ++ decimal visited ++ bytes " boards, layouts " ++ decimal layouts ++ line_end
