-- The judge of a drawing: given a grid and a record of edge bytes, 0 for no layout, 1 for an ordinary one that is not listed, 2 for a listed
-- one, with its lines. The test of the rules computes on the record: it follows the field place by place and joins the ends of the pads line
-- by line, so that unequal codes and closed loops show; then it looks at every pad. That it says what the rules say is proved in the crate
-- `ruletest`. It rests on JoinedEnds.antt and knows nothing of boards and searches.
use Rattle.std.specs.Prelude.{if◌then◌else◌}
use Rattle.std.specs.Prelude.{ℕ, zero, suc, ◌%◌, ◌/◌, Bool, false, ◌&&◌, ◌||◌, List, eqb, get_or, length, ℤ}
use Rattle.rules.specs.Grid.{first, second, Place, edge, no_edge, place_at, field_side, places, Cell, blank, clue, hole, Grid, grid_of, pads}
use Rattle.rules.specs.Drawing.{on_left, on_right}
use Rattle.rules.specs.Record.{undecided_byte, line_byte, none_byte, drawing_of, record_lines}
use Rattle.rules.specs.Tests.{all_below}
use Rattle.rules.specs.CheckedListed.{squares_checked, corners_checked}
use Rattle.model.specs.Refusals.{grid_refusal}
use Rattle.model.specs.JoinedEnds.{End, is_through, is_pad, bare_end, unjoinable, joined_ends}

-- FOLLOWED: the ends of the pads after some places of a record, as long as no byte and no line was wrong
pub data Followed : Type 0 where
  wrong : Followed
  so_far : (ℕ → End) → Followed

-- a line between pads u and v
unfoldable pub after_line : ℕ → ℕ → (ℕ → End) → Followed
after_line u v ends = if unjoinable (ends u) (ends v) v then wrong else so_far (joined_ends ends u v (ends u) (ends v))

-- the byte of an edge between them is 1, a line, or 2, none
unfoldable pub after_edge : ℕ → ℕ → ℕ → (ℕ → End) → Followed
after_edge u v byte ends =
    if eqb byte line_byte then after_line u v ends
    else if eqb byte none_byte then so_far ends
    else wrong

-- and between the edges the bytes are 0
unfoldable pub after_place : ℕ → Place → ℕ → (ℕ → End) → Followed
after_place width (edge e) byte ends = after_edge (first e) (second width e) byte ends
after_place width no_edge byte ends = if eqb byte undecided_byte then so_far ends else wrong

-- a pad is finished: a clue has its line, a blank pad two or none, a hole none
abbrev pub finished : Cell → ℕ → End → Bool
finished blank v end = is_through end || is_pad end v
finished (clue code) v end = is_through end
finished hole v end = is_pad end v

abbrev pub all_finished : Grid → Followed → Bool
all_finished g wrong = false
all_finished g (so_far ends) = all_below (λ v. finished (g.cell v) v (ends v)) (pads g)

abbrev pub and_then : Followed → ((ℕ → End) → Followed) → Followed
and_then wrong next = wrong
and_then (so_far ends) next = next ends

module _ (g : Grid) (bytes : List ℕ) where
  -- after the first n places of the field, row by row
  unfoldable pub followed : ℕ → Followed
  followed zero = so_far (λ v. bare_end v (g.cell v))
  followed (suc n) = and_then (followed n)
      (after_place g.width (place_at g.width (n / field_side g.width) (n % field_side g.width)) (get_or bytes n undecided_byte))

  -- THE TEST OF THE RULES: the record of an ordinary drawing,
  unfoldable pub is_ordinary_record : Bool
  is_ordinary_record = eqb (length bytes) (places g.height g.width) && all_finished g (followed (places g.height g.width))

  -- and what more is asked of a listed one: at most two lines in each unit square, and the corner rule on both sides
  unfoldable pub has_listed_shape : Bool
  has_listed_shape =
      let D = drawing_of g.width bytes in
      squares_checked g D && (corners_checked on_left g D && corners_checked on_right g D)

  unfoldable pub verdict : ℕ
  verdict = if is_ordinary_record then (if has_listed_shape then 2 else 1) else 0

-- JUDGE: the grid's refusals beside a 0, or the verdict; every 0 has lines 0
pub record Judged : Type 0 where
  pub number : ℕ
  pub index : ℕ
  pub verdict : ℕ
  pub lines : ℕ

unfoldable pub judge : ℕ → ℕ → List ℤ → List ℕ → Judged
judge height width cells bytes =
    let refusal = grid_refusal height width cells in
    let said = verdict (grid_of height width cells) bytes in
    if eqb refusal.0 0
    then record { number = 0; index = 0; verdict = said; lines = if eqb said 0 then 0 else record_lines bytes }
    else record { number = refusal.0; index = refusal.1; verdict = 0; lines = 0 }
