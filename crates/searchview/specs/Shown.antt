-- What the lent arrays show of the search: whether an m is tried, which pad comes next, and when they are as before. The contracts of the
-- search's small functions cite these; laws about them stand in ShownLaws.antt. Nothing is proved here.
use Rattle.std.specs.Prelude.{ℕ, ◌+◌, ◌*◌, ◌-◌, ◌≤◌, ◌<◌, ◌≡◌, Bool, false, ◌||◌, List, eqb, get_or, length, pos}
use Rattle.rules.specs.Grid.{Grid}
use Rattle.rules.specs.Drawing.{num}
use Rattle.model.specs.Board.{State}
use Rattle.model.specs.Search.{degree_so_far}
use Rattle.boardview.specs.declared.Arrays.{Arrays}
use Rattle.boardview.specs.View.{slot_on, logged}

-- what is true of the edges of every board: as READY of the board says it
pub record EdgesReady (g : Grid) (edges : List ℕ) : Type 0 where
  pub long : length edges ≡ 1024
  pub bytes : (n : ℕ) → get_or edges n 2 ≤ 2
  pub rim : (n : ℕ) → n < 1024 → slot_on g n ≡ false → get_or edges n 0 ≡ 2

-- an m is tried where clue + lines is 0 or 2
unfoldable pub is_tried : Grid → ℕ → State → Bool → Bool → Bool
is_tried g v S go_right go_down = let degree = degree_so_far g v S + num go_right + num go_down in eqb degree 0 || eqb degree 2

-- the first pad of the last row
abbrev pub last_row : Grid → ℕ
last_row g = (g.height - 1) * g.width

-- from a pad on, the first one above the last row with its right edge undecided, else the first of the last row
pub record NextPad (edges : List ℕ) (last from r : ℕ) : Type 0 where
  pub above : r ≤ last
  pub later : from ≤ r
  pub passed : (k : ℕ) → from ≤ k → k < r → get_or edges (32 + 2 * k) 0 ≡ 0 → ⊥
  pub found : r < last → get_or edges (32 + 2 * r) 0 ≡ 0

-- RESTORED: edges and ends are as before, and so is the log up to its length
pub record Restored (s s' : Arrays) : Type 0 where
  pub edges_back : s'.edges ≡ s.edges
  pub ends_back : s'.ends ≡ s.ends
  pub log_kept : (i : ℕ) → i < 3 * logged s → get_or s'.log i (pos 0) ≡ get_or s.log i (pos 0)
  pub log_long : length s'.log ≡ length s.log
