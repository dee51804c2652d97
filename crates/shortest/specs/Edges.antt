-- A line between two pads is a drawn edge that joins them, and two pads are joined by one edge at most. One edge of a drawing is set to
-- line or none and the others stay. With these laws nothing later goes by cases of right and down. It rests on the rules.
use Rattle.std.specs.Prelude.{ℕ, ◌≤◌, ◌≡◌, refl, ◌≢◌, ◌⊎◌, Bool, true}
use Rattle.std.proofs.Common.{sym, ◌∙◌, ap, inl, inr, arith}
use Rattle.std.proofs.Math.Logic.{ite, if_pos, if_neg}
use Rattle.std.proofs.Math.Decide.{ℕ_discrete}
use Rattle.rules.specs.Grid.{Edge, right, down, first, second, Grid}
use Rattle.rules.specs.Drawing.{Drawing, drawn, Line, rightward, leftward, downward, upward}
use Rattle.rules.specs.Places.{zero≢one}
use Rattle.rules.proofs.Places.{edge_of_pads, no_edge_back}
use Rattle.shortest.specs.Shortcut.{Pair}

-- edge e joins the pads x and y: x is its first pad and y its second, or the other way round
pub data Joins (width : ℕ) (e : Edge) (x y : ℕ) : Type 0 where
  forth : x ≡ first e → y ≡ second width e → Joins width e x y
  back : x ≡ second width e → y ≡ first e → Joins width e x y

pub joins_back : {width : ℕ} {e : Edge} {x y : ℕ} → Joins width e x y → Joins width e y x
joins_back (forth p q) = back q p
joins_back (back p q) = forth q p

-- a line is a drawn edge, and a drawn edge is a line
pub line_edge : {width : ℕ} {D : Drawing} {x y : ℕ} → Line width D x y → (e : Edge) × Joins width e x y × (drawn D e ≡ true)
line_edge {x} {y} (rightward p h) = (right x, forth refl p, h)
line_edge {x} {y} (leftward p h) = (right y, back p refl, h)
line_edge {x} {y} (downward p h) = (down x, forth refl p, h)
line_edge {x} {y} (upward p h) = (down y, back p refl, h)

pub edge_line : (width : ℕ) (D : Drawing) (x y : ℕ) (e : Edge) → Joins width e x y → drawn D e ≡ true → Line width D x y
edge_line width D x y (right v) (forth p q) h = rightward (omega arith) (rw p h)
edge_line width D x y (right v) (back p q) h = leftward (omega arith) (rw q h)
edge_line width D x y (down v) (forth p q) h = downward (omega arith) (rw p h)
edge_line width D x y (down v) (back p q) h = upward (omega arith) (rw q h)

-- an edge that joins p to q is another than one that joins x and y, neither of which is p
pub other_edge : {width : ℕ} {e f : Edge} {x y p q : ℕ} → Joins width e x y → Joins width f p q → x ≢ p → y ≢ p → e ≢ f
other_edge (forth ex ey) (forth fp fq) xp yp e = xp (cc)
other_edge (forth ex ey) (back fp fq) xp yp e = yp (cc)
other_edge (back ex ey) (forth fp fq) xp yp e = yp (cc)
other_edge (back ex ey) (back fp fq) xp yp e = xp (cc)

-- the pad at the other end of an edge
pub other_end : {width : ℕ} {e : Edge} {p x y : ℕ} → Joins width e p x → Joins width e p y → p ≢ y → x ≡ y
other_end (forth ep ex) (forth fp fy) n = cc
other_end (forth ep ex) (back fp fy) n = absurd (n (cc))
other_end (back ep ex) (forth fp fy) n = absurd (n (cc))
other_end (back ep ex) (back fp fy) n = cc

-- the pads that an edge joins are told by it
pub same_pads : {width : ℕ} {e : Edge} {x y p q : ℕ} → Joins width e x y → Joins width e p q → Pair p q x y
same_pads (forth ex ey) (forth fp fq) = inl ((cc), (cc))
same_pads (forth ex ey) (back fp fq) = inr ((cc), (cc))
same_pads (back ex ey) (forth fp fq) = inr ((cc), (cc))
same_pads (back ex ey) (back fp fq) = inl ((cc), (cc))

-- the first pad of an edge is the lower one
pub first_is_lower : (width : ℕ) (e : Edge) {x y : ℕ} → Joins width e x y → first e ≤ x
first_is_lower width (right v) (forth p q) = omega arith
first_is_lower width (right v) (back p q) = omega arith
first_is_lower width (down v) (forth p q) = omega arith
first_is_lower width (down v) (back p q) = omega arith

-- where the width is at least 2, the two pads tell the edge
pub same_edge : (g : Grid) → 2 ≤ g.width → {x y : ℕ} (e f : Edge) → Joins g.width e x y → Joins g.width f x y → e ≡ f
same_edge g wide e f (forth p q) (forth r s) = edge_of_pads g wide e f (sym p ∙ r) (sym q ∙ s)
same_edge g wide e f (back p q) (back r s) = edge_of_pads g wide e f (sym q ∙ s) (sym p ∙ r)
same_edge g wide e f (forth p q) (back r s) = absurd (no_edge_back g wide e f (sym p ∙ r) (sym q ∙ s))
same_edge g wide e f (back p q) (forth r s) = absurd (no_edge_back g wide e f (sym q ∙ s) (sym p ∙ r))

-- are two edges the same
unfoldable pub edge_discrete : (e f : Edge) → Dec (e ≡ f)
edge_discrete (right u) (right v) = elim (ℕ_discrete u v) [ yes e ↦ yes (ap right e) | no n ↦ no (λ e. n (cc)) ]
edge_discrete (down u) (down v) = elim (ℕ_discrete u v) [ yes e ↦ yes (ap down e) | no n ↦ no (λ e. n (cc)) ]
edge_discrete (right u) (down v) = no (λ e. zero≢one (cc))
edge_discrete (down u) (right v) = no (λ e. zero≢one (cc))

-- the drawing D with edge e set to line or none
unfoldable pub set_edge : Drawing → Edge → Bool → Drawing
set_edge D e line = record
    { right = λ v. ite (edge_discrete (right v) e) line (D.right v); down = λ v. ite (edge_discrete (down v) e) line (D.down v) }

set_edge_at : (D : Drawing) (e : Edge) (line : Bool) (f : Edge) → drawn (set_edge D e line) f ≡ ite (edge_discrete f e) line (drawn D f)
unfolding set_edge
set_edge_at D e line (right v) = refl
set_edge_at D e line (down v) = refl

pub set_same : (D : Drawing) (e : Edge) (line : Bool) → drawn (set_edge D e line) e ≡ line
set_same D e line = set_edge_at D e line e ∙ if_pos (edge_discrete e e) refl line (drawn D e)

pub set_other : (D : Drawing) (e : Edge) (line : Bool) (f : Edge) → f ≢ e → drawn (set_edge D e line) f ≡ drawn D f
set_other D e line f n = set_edge_at D e line f ∙ if_neg (edge_discrete f e) n line (drawn D f)

pub set_origin : (D : Drawing) (e : Edge) (line : Bool) (f : Edge) → drawn (set_edge D e line) f ≡ true
    → ((f ≡ e) × (line ≡ true)) ⊎ ((f ≢ e) × (drawn D f ≡ true))
set_origin D e line f h = elim (edge_discrete f e) [
  | yes q ↦ inl (q, sym (set_same D e line) ∙ ap (drawn (set_edge D e line)) (sym q) ∙ h)
  | no n ↦ inr (n, sym (set_other D e line f n) ∙ h)
]
