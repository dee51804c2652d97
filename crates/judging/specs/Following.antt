-- What the functions that follow a record promise of the array of the ends: what it shows after a line, an edge, a place and a stretch of the
-- record, and that every pad which an end names has its number in the array; and of the lines that they count on the way. It rests on the
-- model's Judge.antt and on boardview's View.antt. Nothing is proved in this file.
use Rattle.std.specs.Prelude.{ℕ, ◌<◌, ◌≡◌, Bool, true, false, List, get_or, length, take, ℤ, Option, IfSome, is_some}
use Rattle.rules.specs.Grid.{cell_of, blank_cell, Grid}
use Rattle.rules.specs.Record.{record_lines}
use Rattle.model.specs.JoinedEnds.{End, at_pad}
use Rattle.model.specs.Judge as model
use Rattle.model.specs.Judge.{wrong, so_far, followed, finished}
use Rattle.boardview.specs.View.{end_at}

-- WHAT A FUNCTION TELLS: true and the ends, or false where a byte or a line was wrong
abbrev pub told : Bool → List ℤ → model.Followed
told true ends = so_far (λ v. end_at ends v)
told false ends = wrong

-- IN USE: the array has 512 ends, and each pad that an end names is below 512
pub record InUse (ends : List ℤ) : Type 0 where
  pub long : length ends ≡ 512
  pub near : (v w : ℕ) → v < 512 → end_at ends v ≡ at_pad w → w < 512

-- A STEP was followed, from one array to the next
pub record Stepped (step : (ℕ → End) → model.Followed) (before : List ℤ) (r : Bool) (after : List ℤ) : Type 0 where
  pub says : told r after ≡ step (λ v. end_at before v)
  pub in_use : InUse after

-- THE LINES of a record's first n bytes
abbrev pub lines_in : List ℕ → ℕ → ℕ
lines_in bytes n = record_lines (take n bytes)

-- A STRETCH OF A RECORD was followed, from place number `from` up to `upto`, whatever the cells of the grid are, and its lines were counted
-- with those before it; none where a byte or a line was wrong
pub record FollowedOn (width : ℕ) (bytes : List ℕ) (from upto : ℕ) (before : List ℤ) (r : Option ℕ) (after : List ℤ) : Type 0 where
  pub says : (g : Grid) → g.width ≡ width → followed g bytes from ≡ told true before → followed g bytes upto ≡ told (is_some r) after
  pub in_use : InUse after
  pub tells : IfSome r (λ lines. lines ≡ lines_in bytes upto)

-- whether a pad is finished, by the list of cells and the array of ends
unfoldable pub finished_at : List ℤ → List ℤ → ℕ → Bool
finished_at cells ends v = finished (cell_of (get_or cells v blank_cell)) v (end_at ends v)
