-- What a board with a clear flag keeps, as objects: a rule at each line for each of its items of steps d and e, rest at each pad, what the
-- ends say of the chains, and lines on the board only. One induction (Kept.antt) shows of all objects at once that what held before a call
-- holds after it, and that it holds of what the call has brought about.
use Rattle.std.specs.Prelude.{ℕ, ◌≤◌, ◌≡◌, refl, ◌≢◌, ◌⊎◌, Bool, true}
use mathlib.Core.List.{List, [], ◌∷◌, Memᴰ}
use Rattle.rules.specs.Grid.{Edge, first, second, Grid, right}
use Rattle.model.specs.PadTests.{is_blank, on_board}
use Rattle.model.specs.Board.{State, Item, lines, undecideds, shape_items, around, degree, line, none, detour, corner, bar, check_pad, keep_apart, settle}
use Rattle.ends.specs.Ends.{Ends}
use Rattle.propagation.specs.Edges.{board_lines}

-- A PAD AT REST: nothing undecided and degree 0 or 2; or at least two edges undecided and degree at most 1
unfoldable pub AtRest : Grid → State → ℕ → Type 0
AtRest g S v = ((undecideds S (around g v) ≡ 0) × ((degree g S v ≡ 0) ⊎ (degree g S v ≡ 2))) ⊎ ((2 ≤ undecideds S (around g v)) × (degree g S v ≤ 1))

-- WHAT AN ITEM BRINGS ABOUT
unfoldable pub Achieved : Grid → State → Item → Type 0
Achieved g S (detour a b c) = S.edge a ≡ line → (S.edge b ≡ none) × (S.edge c ≡ none)
Achieved g S (corner q a exist b c) = is_blank (g.cell q) ≡ true → S.edge a ≡ line → (exist ≡ true) × (S.edge b ≡ line) × (S.edge c ≡ line)
Achieved g S (bar barred a) = Unit {0}
Achieved g S (check_pad v) = AtRest g S v
Achieved g S (keep_apart code e u) = Unit {0}
Achieved g S (settle v) = AtRest g S v

-- OBJECTS, and that they hold
pub data Object (g : Grid) : Type 0 where
  rule : (x : Edge) (it : Item) → Memᴰ it (shape_items g x) → Object g
  pad : ℕ → Object g
  chains : Object g
  board : Object g

unfoldable pub Holds : (g : Grid) → State → Object g → Type 0
Holds g S (rule x it m) = S.edge x ≡ line → Achieved g S it
Holds g S (pad v) = AtRest g S v
Holds g S chains = Ends g.cell (board_lines g S) S.end
Holds g S board = (e : Edge) → S.edge e ≡ line → on_board g e ≡ true

abbrev pub AllHold : Grid → State → Type 0
AllHold g S = (o : Object g) → Holds g S o

-- the edge that an item of steps d and e asks to be a line
unfoldable pub guard : Item → Edge
guard (detour a b c) = a
guard (corner q a exist b c) = a
guard (bar barred a) = a
guard (check_pad v) = right v
guard (keep_apart code e u) = e
guard (settle v) = right v

-- the kinds of item that stand in `shape_items`
pub data Plain : Item → Type 0 where
  is_detour : {a b c : Edge} → Plain (detour a b c)
  is_corner : {q : ℕ} {a : Edge} {exist : Bool} {b c : Edge} → Plain (corner q a exist b c)
  is_bar : {barred : Bool} {a : Edge} → Plain (bar barred a)

-- WHAT THE INDUCTION ASKS OF THE GEOMETRY; Squares.antt has it for every grid of at least two columns
pub record Geometry (g : Grid) : Type 0 where
  pub apart : (e : Edge) → first e ≢ second g.width e
  pub one_edge : (a e : Edge) → ((first e ≡ first a) × (second g.width e ≡ second g.width a)) ⊎ ((first e ≡ second g.width a) × (second g.width e ≡ first a)) → a ≡ e
  pub near : (v : ℕ) (p : Edge × ℕ) → Memᴰ p (around g v) → (first p.0 ≡ v) ⊎ (second g.width p.0 ≡ v)
  pub plain : (x : Edge) (it : Item) → Memᴰ it (shape_items g x) → Plain it
  -- a rule can be read from the other of its two lines
  pub detour_turned : (x a b c : Edge) → Memᴰ (detour a b c) (shape_items g x)
      → Memᴰ (detour x b c) (shape_items g a) ⊎ Memᴰ (detour x c b) (shape_items g a)
  pub corner_turned : (x : Edge) (q : ℕ) (a : Edge) (exist : Bool) (b c : Edge) → Memᴰ (corner q a exist b c) (shape_items g x)
      → Memᴰ (corner q x exist b c) (shape_items g a)

-- A PAD WHOSE EDGES ARE AS BEFORE is at rest as before
same_undecideds : (S T : State) (l : List (Edge × ℕ)) → ((p : Edge × ℕ) → Memᴰ p l → T.edge p.0 ≡ S.edge p.0) → undecideds T l ≡ undecideds S l
unfolding undecideds
same_undecideds S T [] h = refl
same_undecideds S T (p ∷ l) h = rw (h p (Memᴰ.head refl), same_undecideds S T l (λ q m. h q (Memᴰ.tail m)))

same_lines : (S T : State) (l : List (Edge × ℕ)) → ((p : Edge × ℕ) → Memᴰ p l → T.edge p.0 ≡ S.edge p.0) → lines T l ≡ lines S l
unfolding lines
same_lines S T [] h = refl
same_lines S T (p ∷ l) h = rw (h p (Memᴰ.head refl), same_lines S T l (λ q m. h q (Memᴰ.tail m)))

pub same_rest : (g : Grid) (S T : State) (v : ℕ) → ((p : Edge × ℕ) → Memᴰ p (around g v) → T.edge p.0 ≡ S.edge p.0) → AtRest g S v → AtRest g T v
unfolding AtRest degree
same_rest g S T v h q = rw (same_undecideds S T (around g v) h, same_lines S T (around g v) h) q
