-- The records of an answer buffer: how long one is, record k, and the shorter of two. It rests on the rules' Record.antt.
use Rattle.std.specs.Prelude.{if◌then◌else◌}
use Rattle.std.specs.Prelude.{ℕ, ◌+◌, ◌*◌, Bool, not, ◌&&◌, List, [], length, take, drop, eqb, ltb, leb}
use Rattle.rules.specs.Grid.{places}
use Rattle.rules.specs.Record.{record_lines}
use Rattle.model.specs.Bounds.{is_size}

-- a record is the field of 2H-1 by 2W-1 places, row by row
unfoldable pub record_length : ℕ → ℕ → ℕ
record_length height width = places height width

-- is there a record k in a buffer of so many bytes: sound sizes, k below the given count, and a buffer that does not end too soon?
unfoldable pub has_record : ℕ → ℕ → ℕ → ℕ → ℕ → Bool
has_record height width count k room =
    is_size height && is_size width && ltb k count
    && leb (k * record_length height width + record_length height width) room

-- record k as a part of the buffer, empty where there is none
unfoldable pub record_at : ℕ → ℕ → ℕ → ℕ → List ℕ → List ℕ
record_at height width count k buffer =
    if has_record height width count k (length buffer)
    then take (record_length height width) (drop (k * record_length height width) buffer)
    else []

-- of two records the one with fewer lines, on a tie the first; empty where the lengths differ (or are 0)
unfoldable pub shorter : List ℕ → List ℕ → List ℕ
shorter first second =
    if not (eqb (length first) (length second)) then []
    else if ltb (record_lines second) (record_lines first) then second
    else first
