-- What the program `routes` prints for the bytes of its standard input: the search of the grid that it reads, with a limit of 1000000
-- visited boards and an answer buffer of 61,504 bytes; and the same for any limit and any length of the buffer. It puts Search.antt into
-- Printed.antt.
use Rattle.std.specs.Prelude.{ℕ, List, length, ℤ}
use Rattle.rules.specs.Grid.{grid_of, places}
use Rattle.model.specs.Runs.{scan, fewest}
use Rattle.model.specs.Search.{search}
use Rattle.model.specs.Printed.{Found, found_text, printed}

-- ## For a limit, and an answer buffer of so many bytes

-- what the search of a grid finds
unfoldable pub found_within : (limit room : ℕ) → ℕ → ℕ → List ℤ → Found
found_within limit room height width cells =
    let run = scan limit (places height width) 0 room (search (grid_of height width cells)) in
    record { outcome = run.outcome; layouts = length run.records; visited = run.visited; fewest = fewest run.records; records = run.records }

-- the text of what it finds
unfoldable pub text_within : (limit room : ℕ) → ℕ → ℕ → List ℤ → List ℕ
text_within limit room height width cells = found_text height width (found_within limit room height width cells)

-- what is printed for the bytes of standard input
unfoldable pub list_text : (limit room : ℕ) → List ℕ → List ℕ
list_text limit room input = printed (text_within limit room) input

-- ## The program `routes`

abbrev pub routes_limit : ℕ
routes_limit = 1000000

-- 64 records of the largest board
abbrev pub routes_room : ℕ
routes_room = 61504

abbrev pub routes_found : ℕ → ℕ → List ℤ → Found
routes_found = found_within routes_limit routes_room

abbrev pub routes_text : List ℕ → List ℕ
routes_text = list_text routes_limit routes_room
