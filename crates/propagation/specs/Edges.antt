-- The edges of a board's state: two edges are the same or not, setting one leaves the others, and the lines of a state are a drawing.
use Rattle.std.specs.Prelude.{ℕ, ◌≡◌, ◌≢◌, ◌⊎◌, Bool, true, false}
use Rattle.std.proofs.Math.Path.{refl}
use Rattle.std.proofs.Common.{sym, ◌∙◌, ap, inl, inr, eq-eqb, eqb-true}
use Rattle.rules.specs.Grid.{Edge, first, second, Grid, right, down}
use Rattle.rules.specs.Drawing.{Drawing, drawn, Relation, Line}
use Rattle.rules.specs.Places.{zero≢one}
use Rattle.rules.specs.Tests.{conflict}
use Rattle.model.specs.Board.{EdgeState, is_line, is_undecided, same_state, same_edge, State, set_edge, line_or_none, undecided, line, none}
use Rattle.propagation.specs.Undecided.{DecidedStay}
use Rattle.rules.proofs.Chains.{edge_of_line, line_forward, line_of_edge}

same_edge-true : (x e : Edge) → same_edge x e ≡ true → x ≡ e
same_edge-true (right a) (right b) h = ap right (eqb-true a b h)
same_edge-true (right a) (down b) h = zero≢one (cc)
same_edge-true (down a) (right b) h = zero≢one (cc)
same_edge-true (down a) (down b) h = ap down (eqb-true a b h)

itself : (e : Edge) → same_edge e e ≡ true
itself (right a) = eq-eqb a a refl
itself (down a) = eq-eqb a a refl

pub same_or_not : (x e : Edge) → (x ≡ e) ⊎ (x ≢ e)
same_or_not x e = go (same_edge x e) refl
  where
    go : (b : Bool) → same_edge x e ≡ b → (x ≡ e) ⊎ (x ≢ e)
    go true h = inl (same_edge-true x e h)
    go false h = inr (λ p. conflict (ap (λ y. same_edge y e) p ∙ itself e) h)

-- SETTING AN EDGE
pub set_here : (S : State) (e : Edge) (m : EdgeState) → (set_edge S e m).edge e ≡ m
unfolding set_edge
set_here S e m = rw (itself e, set_edge)

pub set_elsewhere : (S : State) (e : Edge) (m : EdgeState) (x : Edge) → x ≢ e → (set_edge S e m).edge x ≡ S.edge x
unfolding set_edge
set_elsewhere S e m x n = go (same_edge x e) refl
  where
    go : (b : Bool) → same_edge x e ≡ b → (set_edge S e m).edge x ≡ S.edge x
    go true h = absurd (n (same_edge-true x e h))
    go false h = rw (h, set_edge)

-- an undecided edge that is set: what was decided is elsewhere
pub decided_elsewhere : (S : State) (e x : Edge) → is_undecided (S.edge e) ≡ true → is_undecided (S.edge x) ≡ false → x ≢ e
decided_elsewhere S e x o h p = let k = ap (λ y. is_undecided (S.edge y)) p in conflict o (sym k ∙ h)

pub set_stays : (S : State) (e : Edge) (m : EdgeState) → is_undecided (S.edge e) ≡ true → DecidedStay S (set_edge S e m)
set_stays S e m o x h = set_elsewhere S e m x (decided_elsewhere S e x o h)

-- STATES OF AN EDGE
pub is_line-true : (m : EdgeState) → is_line m ≡ true → m ≡ line
is_line-true line h = refl
is_line-true undecided h = zero≢one (cc)
is_line-true none h = zero≢one (cc)

pub is_undecided-true : (m : EdgeState) → is_undecided m ≡ true → m ≡ undecided
is_undecided-true undecided h = refl
is_undecided-true line h = zero≢one (cc)
is_undecided-true none h = zero≢one (cc)

pub same_state-true : (a m : EdgeState) → same_state a m ≡ true → a ≡ m
same_state-true undecided m h = sym (is_undecided-true m h)
same_state-true line m h = sym (is_line-true m h)
same_state-true none undecided h = zero≢one (cc)
same_state-true none line h = zero≢one (cc)
same_state-true none none h = refl

pub line_or_none_decided : (way : Bool) → is_undecided (line_or_none way) ≡ false
line_or_none_decided true = refl
line_or_none_decided false = refl

pub is_way : (way : Bool) → way ≡ is_line (line_or_none way)
is_way true = refl
is_way false = refl

-- THE LINES OF A STATE as a drawing, and between pads
unfoldable pub drawing : State → Drawing
drawing S = record { right = λ v. is_line (S.edge (right v)); down = λ v. is_line (S.edge (down v)) }

pub same_drawing : (S T : State) → ((x : Edge) → is_line (T.edge x) ≡ is_line (S.edge x)) → drawing T ≡ drawing S
unfolding drawing
same_drawing S T h = λ i. record { right = λ v. h (right v) i; down = λ v. h (down v) i }

module _ (g : Grid) where
  abbrev pub board_lines : State → Relation
  board_lines S = Line g.width (drawing S)

  -- a line between two pads is an edge that is a line, read forward or backward
  pub record Along (S : State) (x y : ℕ) : Type 0 where
    pub edge : Edge
    pub is : S.edge edge ≡ line
    pub ends : ((x ≡ first edge) × (y ≡ second g.width edge)) ⊎ ((x ≡ second g.width edge) × (y ≡ first edge))

  drawn_line : (S : State) (e : Edge) → drawn (drawing S) e ≡ is_line (S.edge e)
  unfolding drawing
  drawn_line S (right v) = refl
  drawn_line S (down v) = refl

  pub edge_of : (S : State) (x y : ℕ) → board_lines S x y → Along S x y
  edge_of S x y l = let t = edge_of_line g.width (drawing S) x y l in
      record { edge = t.edge; is = is_line-true _ (sym (drawn_line S t.edge) ∙ t.is); ends = t.ends }

  pub forward : (S : State) (e : Edge) → S.edge e ≡ line → board_lines S (first e) (second g.width e)
  forward S e h = line_forward g.width (drawing S) e (drawn_line S e ∙ ap is_line h)

  pub line_of : (S : State) (x y : ℕ) → Along S x y → board_lines S x y
  line_of S x y t = line_of_edge g.width (drawing S) x y (record { edge = t.edge; is = drawn_line S t.edge ∙ ap is_line t.is; ends = t.ends })
