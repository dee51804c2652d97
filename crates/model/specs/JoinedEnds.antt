-- The end of a pad, and how a line joins the ends of its two pads: what step c of a decision does, and what the judge of a drawing does line
-- by line. It rests on the rules' cells, and knows nothing of boards.
use Rattle.std.specs.Prelude.{ℕ, suc, Bool, true, false, ◌||◌, not, eqb, ℤ, pos, negsuc}
use Rattle.rules.specs.Grid.{Cell, blank, clue, hole}

-- THE END of a pad: a line passes through it, or the other end of its chain is this pad, or a clue of this code.
pub data End : Type 0 where
  through : End
  at_pad : ℕ → End
  at_clue : ℕ → End

-- document 01's end number: -1 through, the index of a pad, -v - 2 for a clue of value v
unfoldable pub end_number : End → ℤ
end_number through = negsuc 0
end_number (at_pad v) = pos v
end_number (at_clue code) = negsuc (suc code)

-- where there is no line yet, a clue's end is at its code, any other pad's at itself
abbrev pub bare_end : ℕ → Cell → End
bare_end v blank = at_pad v
bare_end v (clue c) = at_clue c
bare_end v hole = at_pad v

abbrev pub is_through : End → Bool
is_through through = true
is_through (at_pad a) = false
is_through (at_clue c) = false

-- both end numbers are negative, and they are unequal
abbrev pub unequal_negative : End → End → Bool
unequal_negative through through = false
unequal_negative through (at_pad b) = false
unequal_negative through (at_clue d) = true
unequal_negative (at_pad a) B = false
unequal_negative (at_clue c) through = true
unequal_negative (at_clue c) (at_pad b) = false
unequal_negative (at_clue c) (at_clue d) = not (eqb c d)

abbrev pub is_pad : End → ℕ → Bool
is_pad through v = false
is_pad (at_pad a) v = eqb a v
is_pad (at_clue c) v = false

-- A LINE CANNOT BE between two pads, by their ends A and B and the second pad's index: one of them can take no line more, two codes would
-- meet, or the chain would close
unfoldable pub unjoinable : End → End → ℕ → Bool
unjoinable A B v = is_through A || (is_through B || (unequal_negative A B || is_pad A v))

-- one end changed
abbrev pub pick_end : Bool → End → End → End
pick_end true a b = a
pick_end false a b = b

unfoldable pub put_end : (ℕ → End) → ℕ → End → ℕ → End
put_end ends v e u = pick_end (eqb u v) e (ends u)

-- the end of the pad that `at` names, if it names one
unfoldable pub put_end_at : (ℕ → End) → End → End → ℕ → End
put_end_at ends through e = ends
put_end_at ends (at_clue c) e = ends
put_end_at ends (at_pad v) e = put_end ends v e

-- JOINED: both pads get -1, then pad A (if there is one) gets B and pad B gets A
unfoldable pub joined_ends : (ℕ → End) → ℕ → ℕ → End → End → ℕ → End
joined_ends ends u v A B = put_end_at (put_end_at (put_end (put_end ends u through) v through) A B) B A
