-- Chains of lines, whatever the lines are: set end to end, turned round, carried over to more lines; and the lines of a drawing, which
-- lead both ways and are the edges that it draws. Small laws that the definitions of Drawing.antt leave unsaid.
-- What is proved of them stands in proofs/Chains.antt.
use Rattle.std.specs.Prelude.{ℕ, ◌≡◌, refl, ◌≢◌, ◌⊎◌, true}
use Rattle.std.proofs.Math.Decide.{ℕ_discrete}
use Rattle.rules.specs.Grid.{Edge, first, second}
use Rattle.rules.specs.Drawing.{Drawing, drawn, Relation, Line, Joined, rightward, leftward, downward, upward, here, more}

-- lines lead both ways
abbrev pub Symmetric : Relation → Type 0
Symmetric L = (a b : ℕ) → L a b → L b a

pub join_trans : {L : Relation} {a b c : ℕ} → Joined L a b → Joined L b c → Joined L a c
join_trans here q = q
join_trans (more l p) q = more l (join_trans p q)

pub join_sym : {L : Relation} {a b : ℕ} → Symmetric L → Joined L a b → Joined L b a
join_sym s here = here
join_sym s (more {a = a} {b = b} l p) = join_trans (join_sym s p) (more (s a b l) here)

pub join_mono : {L M : Relation} {a b : ℕ} → ((x y : ℕ) → L x y → M x y) → Joined L a b → Joined M a b
join_mono f here = here
join_mono f (more {a = a} {b = b} l p) = more (f a b l) (join_mono f p)

-- a chain to another pad begins with a line
pub first_line : {L : Relation} {u : ℕ} (x : ℕ) → x ≢ u → Joined L u x → (y : ℕ) × L u y
first_line x n here = absurd (n refl)
first_line x n (more {b = b} l p) = (b, l)

-- by cases: is x the pad p, the pad q, or neither
pub by_pad : {X : Type 0} (p q x : ℕ) → (x ≡ p → X) → (x ≡ q → X) → (x ≢ p → x ≢ q → X) → X
by_pad p q x f g h = elim (ℕ_discrete x p) [ yes a ↦ f a | no n ↦ elim (ℕ_discrete x q) [ yes b ↦ g b | no m ↦ h n m ] ]

pub line_back : (width : ℕ) (D : Drawing) → Symmetric (Line width D)
line_back width D a b (rightward e h) = leftward e h
line_back width D a b (leftward e h) = rightward e h
line_back width D a b (downward e h) = upward e h
line_back width D a b (upward e h) = downward e h

-- A LINE BETWEEN TWO PADS is an edge that is drawn, read forward or backward
module _ (width : ℕ) (D : Drawing) where
  pub record Along (x y : ℕ) : Type 0 where
    pub edge : Edge
    pub is : drawn D edge ≡ true
    pub ends : ((x ≡ first edge) × (y ≡ second width edge)) ⊎ ((x ≡ second width edge) × (y ≡ first edge))
