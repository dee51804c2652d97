-- THE SLOW WALK through every code: a second engine, which shares none of the pruning. It gives each pad every code in index order, decides
-- nothing by propagation, and tests the listed rules on full drawings only, by the judge's test. Document 02, order 11. It rests on Judge.antt, and
-- on Runs.antt for what a run is; it knows nothing of boards and of the search.
use Rattle.std.specs.Prelude.{ℕ, zero, suc, ◌+◌, Bool, true, false, ◌&&◌, ◌||◌, not, List, [], ◌∷◌, ◌++◌, eqb, ℤ}
use Rattle.rules.specs.Grid.{Grid, pads}
use Rattle.rules.specs.Drawing.{Drawing}
use Rattle.rules.specs.Record.{record_of}
use Rattle.std.specs.Prelude.{if◌then◌else◌}
use Rattle.model.specs.PadTests.{has_right, has_down}
use Rattle.model.specs.Runs.{Event, visit, layout, Solved, listed_by}
use Rattle.model.specs.Judge.{verdict}

-- a drawing with no line
abbrev pub no_lines : Drawing
no_lines = record { right = λ u. false; down = λ u. false }

-- pad v is given a code: a line to the right or none, a line downward or none. The other pads keep theirs.
unfoldable pub with_code : Drawing → ℕ → Bool → Bool → Drawing
with_code D v go_right go_down = record {
  right = λ u. if eqb u v then go_right else D.right u;
  down = λ u. if eqb u v then go_down else D.down u;
}

module _ (g : Grid) where
  -- a code with a line off the board is not tried
  unfoldable pub may_give : ℕ → Bool → Bool → Bool
  may_give v go_right go_down = (not go_right || has_right g v) && (not go_down || has_down g v)

  -- a full drawing is a layout where the test of the rules marks it 2, listed
  unfoldable pub tested : Drawing → List Event
  tested D = elim (eqb (verdict g (record_of g D)) 2) [ true ↦ layout (record_of g D) ∷ [] | false ↦ [] ]

  -- one code at pad v: it is counted, and then the walk goes on with it
  unfoldable pub give : (Drawing → List Event) → ℕ → Drawing → Bool → Bool → List Event
  give continue v D go_right go_down = elim (may_give v go_right go_down) [ true ↦ visit ∷ continue (with_code D v go_right go_down) | false ↦ [] ]

  -- the codes 0 to 3, right = m mod 2, down = m div 2, at each of n pads from v on; then the drawing is full
  unfoldable pub walk_on : ℕ → ℕ → Drawing → List Event
  walk_on zero v D = tested D
  walk_on (suc n) v D = give (λ E. walk_on n (v + 1) E) v D false false ++ (give (λ E. walk_on n (v + 1) E) v D true false
      ++ (give (λ E. walk_on n (v + 1) E) v D false true ++ give (λ E. walk_on n (v + 1) E) v D true true))

  -- every code at every pad
  unfoldable pub every_code : List Event
  every_code = walk_on (pads g) 0 no_lines

-- WALK: the grid's refusals, or outcome, layouts, tried codes (in the place of visited boards), fewest; and the answer buffer after it
unfoldable pub walk : ℕ → ℕ → List ℤ → ℕ → List ℕ → Solved
walk height width cells limit buffer = listed_by (λ g. every_code g) height width cells limit buffer
