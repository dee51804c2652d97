-- Every accepted grid has an alike one with small codes: each code is lowered to the index of the first pad that carries it, and codes are
-- equal after that exactly where they were before. A grid has at most 256 pads, so every code is then below 256, and `solve`, `common`, the
-- board calls and `judge` answer the same. It rests on AlikeSearch.antt, AlikeCalls.antt and AlikeJudge.antt.
-- What is proved of them stands in proofs/Lowered.antt.
use Rattle.std.specs.Prelude.{ℕ, suc, Bool, false, List, [], ◌∷◌, map, eqb, ℤ, pos, negsuc}
use Rattle.std.specs.Prelude.{if◌then◌else◌}

-- does the cell carry this code?
abbrev pub carries : ℕ → ℤ → Bool
carries code (pos other) = eqb code other
carries code (negsuc below) = false

-- the index of the first cell that carries the code; the number of cells if none does
unfoldable pub first_pad : ℕ → List ℤ → ℕ
first_pad code [] = 0
first_pad code (cell ∷ cells) = if carries code cell then 0 else suc (first_pad code cells)

-- LOWERED: each code is that index, blank pads and holes stay
abbrev pub lowered_cell : List ℤ → ℤ → ℤ
lowered_cell cells (pos code) = pos (first_pad code cells)
lowered_cell cells (negsuc below) = negsuc below

unfoldable pub lowered : List ℤ → List ℤ
lowered cells = map (lowered_cell cells) cells
