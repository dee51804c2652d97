-- The search asks of a grid only its sizes and whether each pad is blank, a clue or a hole: two grids that agree in these, and so in their
-- decisions, have the same events. So the code may hold bits for each pad and no code. It rests on boardview's SameKinds.antt.
use Prim.Native.Nat.{ℕ, zero, suc, ◌+◌, ◌-◌}
use Rattle.std.specs.Prelude.{◌≡◌, Bool, ◌&&◌, ◌||◌}
use Rattle.std.proofs.Math.Path.{refl, ap}
use Rattle.std.proofs.Common.{◌∙◌, true≢false}
use Rattle.std.proofs.Math.Bool.{true, false}
use Rattle.std.proofs.lemmas.Bool.{false≢true}
use mathlib.Core.List.{List, ◌∷◌, ◌++◌}
use Rattle.std.proofs.Math.Dec.{eqb}
use Rattle.rules.specs.Grid.{right, down, Grid, pads}
use Rattle.rules.specs.Drawing.{num}
use Rattle.model.specs.PadTests.{has_right, has_left, has_down, has_up}
use Rattle.model.specs.Board.{State, is_undecided, is_line, line_or_none, decide, enough}
use Rattle.model.specs.Runs.{Event, visit}
use Rattle.model.specs.Search.{board_record, degree_so_far, next_pad, try, backtrack, search_from}
use Rattle.boardview.specs.declared.kinds.Kinds.{Kinds}
use Rattle.boardview.specs.View.{grid_in}
use Rattle.boardview.specs.SameKinds.{plain, same_clue, plain_decides, Shows, shown_plain}

-- a choice, from equal tests and equal parts
if_same : {A : Type 0} (a b : Bool) → a ≡ b → {x y z w : A} → x ≡ y → z ≡ w
    → ◌≡◌ {A = A} (elim a [ true ↦ x | false ↦ z ]) (elim b [ true ↦ y | false ↦ w ])
if_same true true e p q = p
if_same false false e p q = q
if_same true false e p q = absurd (true≢false e)
if_same false true e p q = absurd (false≢true e)

-- the grid g and the same with every clue's code 0
module _ (g : Grid) where
  abbrev p : Grid
  p = plain g

  next_pad_same : (n v : ℕ) (S : State) → next_pad p n v S ≡ next_pad g n v S
  unfolding next_pad plain
  next_pad_same zero v S = refl
  next_pad_same (suc n) v S = if_same (has_down p v) (has_down g v) refl
      (if_same (has_right p v && is_undecided (S.edge (right v))) (has_right g v && is_undecided (S.edge (right v))) refl refl (next_pad_same n (v + 1) S)) refl

  degree_so_far_same : (v : ℕ) (S : State) → degree_so_far p v S ≡ degree_so_far g v S
  unfolding degree_so_far plain
  degree_so_far_same v S = ap (λ (b : Bool). num b + num (has_left g v && is_line (S.edge (right (v - 1)))) + num (has_up g v && is_line (S.edge (down (v - g.width))))) (same_clue g v)

  abbrev decided : ℕ → Bool → Bool → State → State
  decided v go_right go_down S = decide g (enough g) (down v) (line_or_none go_down) (decide g (enough g) (right v) (line_or_none go_right) S)

  decisions_same : (v : ℕ) (go_right go_down : Bool) (S : State)
      → decide p (enough p) (down v) (line_or_none go_down) (decide p (enough p) (right v) (line_or_none go_right) S) ≡ decided v go_right go_down S
  unfolding enough plain
  decisions_same v go_right go_down S = plain_decides g (enough g) (down v) (line_or_none go_down) (decide p (enough p) (right v) (line_or_none go_right) S)
      ∙ ap (λ (T : State). decide g (enough g) (down v) (line_or_none go_down) T) (plain_decides g (enough g) (right v) (line_or_none go_right) S)

  try_same : (continue continue' : ℕ → State → List Event) → ((u : ℕ) (T : State) → continue u T ≡ continue' u T) → (v : ℕ) (S : State) (go_right go_down : Bool)
      → try p continue v S go_right go_down ≡ try g continue' v S go_right go_down
  unfolding try plain
  try_same continue continue' same v S go_right go_down =
      if_same _ _ (ap (λ (d : ℕ). eqb (d + num go_right + num go_down) 0 || eqb (d + num go_right + num go_down) 2) (degree_so_far_same v S))
      (if_same _ _ (ap (λ (T : State). T.flag) (decisions_same v go_right go_down S)) refl
      (same _ _ ∙ ap (λ (T : State). continue' (next_pad p (pads p) v T) T) (decisions_same v go_right go_down S) ∙ ap (λ (u : ℕ). continue' u (decided v go_right go_down S)) (next_pad_same (pads p) v (decided v go_right go_down S))))
      refl

  entry_same : (n v : ℕ) (S : State) → ((u : ℕ) (T : State) → backtrack p n u T ≡ backtrack g n u T) → backtrack p (suc n) v S ≡ backtrack g (suc n) v S
  unfolding backtrack board_record plain
  entry_same n v S below = ap (λ (l : List Event). visit ∷ l) (if_same (has_down p v) (has_down g v) refl
      (append_same (one false false) (append_same (one true false) (append_same (one false true) (one true true)))) refl)
    where
      append_same : {a b c d : List Event} → a ≡ b → c ≡ d → a ++ c ≡ b ++ d
      append_same p q = cc

      one : (go_right go_down : Bool) → try p (λ u T. backtrack p n u T) v S go_right go_down ≡ try g (λ u T. backtrack g n u T) v S go_right go_down
      one go_right go_down = try_same (λ u T. backtrack p n u T) (λ u T. backtrack g n u T) below v S go_right go_down

  backtrack_same : (n v : ℕ) (S : State) → backtrack p n v S ≡ backtrack g n v S
  unfolding backtrack
  backtrack_same zero v S = refl
  backtrack_same (suc n) v S = entry_same n v S (λ u T. backtrack_same n u T)

  search_from_same : (S : State) → search_from p S ≡ search_from g S
  unfolding search_from plain
  search_from_same S = if_same S.flag S.flag refl refl
      (backtrack_same (pads g) (next_pad p (pads g) 0 S) S ∙ ap (λ (u : ℕ). backtrack g (pads g) u S) (next_pad_same (pads g) 0 S))

-- THE EVENTS of the grid that the kinds tell of are the grid's own
module _ {g : Grid} {kinds : Kinds} (told : Shows g kinds) where
  pub shown_searches : (S : State) → search_from (grid_in kinds) S ≡ search_from g S
  shown_searches S = ap (λ (k : Grid). search_from k S) (shown_plain told) ∙ search_from_same g S
