-- Laws of the edges' bytes: what a byte's tests say of its state, where an edge's byte stands, how the number of undecided edges falls,
-- and what the view shows after a byte is stored. It rests on View.antt.
use Rattle.std.specs.Prelude.{ℕ, zero, suc, ◌+◌, ◌*◌, ◌-◌, ◌%◌, ◌/◌, ◌≤◌, ◌<◌, ◌≡◌, refl, Bool, true, false, List, [], ◌∷◌, eqb, leb, get_or, set, length, ℤ}
use Rattle.std.proofs.Common.{sym, ap, ◌∙◌, not-suc-le-zero, le_of_suc-le-suc, arith, get_or-set_same, get_or-set_other, eq-eqb, ne_eqb, eqb-true, le-leb, leb-true}
use Rattle.std.proofs.lemmas.Bool.{eqb-false, leb-false}
use Rattle.rules.specs.Grid.{Edge, right, down, Grid}
use Rattle.rules.specs.Tests.{both}
use Rattle.model.specs.PadTests.{on_board}
use Rattle.model.specs.Board.{undecided, line, none, is_line, is_undecided, same_edge, set_edge}
use Rattle.boardview.specs.declared.Arrays.{Arrays}
use Rattle.boardview.specs.Told.{pick}
use Rattle.boardview.specs.View.{slot, edge_of, slot_on, state_of, view, undecided_in, flag_in, ended_in, flag_in, end_at}

-- THE TEST whether a decision has ended
pub has_ended : (t : Bool) (count : ℕ) → t ≡ ended_in count → t ≡ true → 2048 ≤ count
has_ended t count e h = leb-true 2048 count (sym e ∙ h)

pub goes_on : (t : Bool) (count : ℕ) → t ≡ ended_in count → t ≡ false → count < 2048
goes_on t count e h = leb-false 2048 count (sym e ∙ h)

-- and whether the flag is set
pub is_flagged : (t : Bool) (count : ℕ) → t ≡ flag_in count → t ≡ true → 1024 ≤ count
is_flagged t count e h = leb-true 1024 count (sym e ∙ h)

pub is_clear : (t : Bool) (count : ℕ) → t ≡ flag_in count → t ≡ false → count < 1024
is_clear t count e h = leb-false 1024 count (sym e ∙ h)

-- BYTES
pub undecided_byte_test : (b : ℕ) → is_undecided (state_of b) ≡ eqb b 0
unfolding state_of
undecided_byte_test b = go (eqb b 0) (eqb b 1)
  where
    go : (x y : Bool) → is_undecided (pick x undecided (pick y line none)) ≡ x
    go true y = refl
    go false true = refl
    go false false = refl

pub line_byte_test : (b : ℕ) → is_line (state_of b) ≡ eqb b 1
unfolding state_of
line_byte_test b = go (eqb b 0) refl (eqb b 1) refl
  where
    go : (x : Bool) → eqb b 0 ≡ x → (y : Bool) → eqb b 1 ≡ y → is_line (pick x undecided (pick y line none)) ≡ y
    go true p true q = absurd (omega (arith, eqb-true b 0 p, eqb-true b 1 q))
    go true p false q = refl
    go false p true q = refl
    go false p false q = refl

-- SLOTS
pub slot_of_edge : (s : ℕ) → 32 ≤ s → slot (edge_of s) ≡ s
unfolding edge_of
slot_of_edge s h = go (eqb (s % 2) 0) refl
  where
    go : (b : Bool) → eqb (s % 2) 0 ≡ b → slot (pick b (right (s / 2 - 16)) (down (s / 2 - 16))) ≡ s
    go true p = omega (arith, eqb-true (s % 2) 0 p)
    go false p = omega (arith, eqb-false (s % 2) 0 p)

pub right_slot : (v : ℕ) → edge_of (32 + 2 * v) ≡ right v
unfolding edge_of
right_slot v = rw (eq-eqb ((32 + 2 * v) % 2) 0 (omega arith)) (ap right (omega arith))

pub down_slot : (v : ℕ) → edge_of (33 + 2 * v) ≡ down v
unfolding edge_of
down_slot v = rw (ne_eqb ((33 + 2 * v) % 2) 0 (omega arith)) (ap down (omega arith))

pub slots_apart : (x e : Edge) → eqb (slot x) (slot e) ≡ same_edge x e
slots_apart (right a) (right b) = go (eqb a b) refl
  where
    go : (t : Bool) → eqb a b ≡ t → eqb (32 + 2 * a) (32 + 2 * b) ≡ t
    go true p = eq-eqb (32 + 2 * a) (32 + 2 * b) (omega (arith, eqb-true a b p))
    go false p = ne_eqb (32 + 2 * a) (32 + 2 * b) (omega (arith, eqb-false a b p))
slots_apart (right a) (down b) = ne_eqb (32 + 2 * a) (33 + 2 * b) (omega arith)
slots_apart (down a) (right b) = ne_eqb (33 + 2 * a) (32 + 2 * b) (omega arith)
slots_apart (down a) (down b) = go (eqb a b) refl
  where
    go : (t : Bool) → eqb a b ≡ t → eqb (33 + 2 * a) (33 + 2 * b) ≡ t
    go true p = eq-eqb (33 + 2 * a) (33 + 2 * b) (omega (arith, eqb-true a b p))
    go false p = ne_eqb (33 + 2 * a) (33 + 2 * b) (omega (arith, eqb-false a b p))

-- a slot of an edge of the board
pub edge_on : (g : Grid) (e : Edge) → slot_on g (slot e) ≡ on_board g e
unfolding slot_on
edge_on g (right v) = rw (right_slot v, le-leb 32 (32 + 2 * v) (omega arith)) refl
edge_on g (down v) = rw (down_slot v, le-leb 32 (33 + 2 * v) (omega arith)) refl

pub on_slot : (g : Grid) (s : ℕ) → slot_on g s ≡ true → (32 ≤ s) × (on_board g (edge_of s) ≡ true)
unfolding slot_on
on_slot g s h = let b = both (leb 32 s) (on_board g (edge_of s)) h in (leb-true 32 s b.0, b.1)

-- THE NUMBER OF UNDECIDED EDGES
pub one_fewer : (l : List ℕ) (p v : ℕ) → p < length l → get_or l p 0 ≡ 0 → 0 < v → undecided_in (set l p v) + 1 ≡ undecided_in l
unfolding undecided_in
one_fewer [] p v h z q = absurd (not-suc-le-zero h)
one_fewer (x ∷ xs) zero v h z q = simp (eq-eqb x 0 z, ne_eqb v 0 (omega arith)) (omega arith)
one_fewer (x ∷ xs) (suc p) v h z q = split (eqb x 0) (one_fewer xs p v (le_of_suc-le-suc h) z q)
  where
    split : (b : Bool) → undecided_in (set xs p v) + 1 ≡ undecided_in xs
        → (pick b (suc (undecided_in (set xs p v))) (undecided_in (set xs p v))) + 1 ≡ pick b (suc (undecided_in xs)) (undecided_in xs)
    split true e = omega arith
    split false e = e

pub some_undecided : (l : List ℕ) (p : ℕ) → p < length l → get_or l p 0 ≡ 0 → 0 < undecided_in l
some_undecided l p h z = omega (arith, one_fewer l p 1 h z (omega arith))

-- THE VIEW after a byte is stored
pub byte_stored : (l : List ℕ) (p v x : ℕ) → p < length l → state_of (get_or (set l p v) x 2) ≡ pick (eqb x p) (state_of v) (state_of (get_or l x 2))
byte_stored l p v x h = go (eqb x p) refl
  where
    go : (b : Bool) → eqb x p ≡ b → state_of (get_or (set l p v) x 2) ≡ pick b (state_of v) (state_of (get_or l x 2))
    go true q = rw (eqb-true x p q, get_or-set_same l p v 2 h) refl
    go false q = rw (get_or-set_other l p x v 2 (eqb-false x p q)) refl

-- the model chooses by `elim`
pub as_elim : {A : Type 0} (b : Bool) (x y : A) → pick b x y ≡ elim b [ true ↦ x | false ↦ y ]
as_elim true x y = refl
as_elim false x y = refl

pub elim_true : {A : Type 0} (b : Bool) (x y : A) → b ≡ true → elim b [ true ↦ x | false ↦ y ] ≡ x
elim_true b x y h = sym (as_elim b x y) ∙ rw h refl

pub elim_false : {A : Type 0} (b : Bool) (x y : A) → b ≡ false → elim b [ true ↦ x | false ↦ y ] ≡ y
elim_false b x y h = sym (as_elim b x y) ∙ rw h refl

module _ (edges : List ℕ) (e : Edge) (v : ℕ) (h : slot e < length edges) where
  pub edge_stored : (x : Edge) → state_of (get_or (set edges (slot e) v) (slot x) 2) ≡ elim (same_edge x e) [ true ↦ state_of v | false ↦ state_of (get_or edges (slot x) 2) ]
  edge_stored x = byte_stored edges (slot e) v (slot x) h ∙ (ap (λ (t : Bool). pick t (state_of v) (state_of (get_or edges (slot x) 2))) (slots_apart x e) ∙ as_elim (same_edge x e) (state_of v) (state_of (get_or edges (slot x) 2)))

pub view_stored : (s : Arrays) (e : Edge) (v : ℕ) (log : List ℤ) (count : ℕ) → slot e < length s.edges → flag_in count ≡ flag_in s.count
    → view (record { edges = set s.edges (slot e) v; ends = s.ends; log = log; count = count }) ≡ set_edge (view s) e (state_of v)
unfolding view set_edge
view_stored s e v log count h k = λ i. record { edge = λ x. edge_stored s.edges e v h x i; end = λ u. end_at s.ends u; flag = k i }
