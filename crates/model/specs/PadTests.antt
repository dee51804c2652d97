-- Tests of a pad: whether it is blank, a clue or a hole, and which neighbours it has; and whether an edge is on the board. Document 01, 'The
-- grid', as tests that compute. They rest on the rules' Grid.antt and know nothing of boards and searches.
use Rattle.std.specs.Prelude.{ℕ, ◌+◌, ◌%◌, Bool, true, false, ◌&&◌, ltb, leb}
use Rattle.rules.specs.Grid.{Edge, right, down, Cell, blank, clue, hole, Grid, pads}

-- A PAD is blank, a clue or a hole. Blank is what corners and bars ask; clue is what the degree asks.
abbrev pub is_blank : Cell → Bool
is_blank blank = true
is_blank (clue c) = false
is_blank hole = false

abbrev pub is_clue : Cell → Bool
is_clue blank = false
is_clue (clue c) = true
is_clue hole = false

abbrev pub is_hole : Cell → Bool
is_hole blank = false
is_hole (clue c) = false
is_hole hole = true

module _ (g : Grid) where
  -- WHICH NEIGHBOURS a pad has
  abbrev pub has_right : ℕ → Bool
  has_right v = ltb (v % g.width + 1) g.width

  abbrev pub has_left : ℕ → Bool
  has_left v = ltb 0 (v % g.width)

  abbrev pub has_down : ℕ → Bool
  has_down v = ltb (v + g.width) (pads g)

  abbrev pub has_up : ℕ → Bool
  has_up v = leb g.width v

  abbrev pub on_board : Edge → Bool
  on_board (right v) = has_right v && ltb v (pads g)
  on_board (down v) = has_down v
