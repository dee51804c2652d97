-- Small laws of the tests of a pad and of the ends: a pad is blank, a clue or a hole; an edge of the board passes its test, and no
-- other does; the next pad of a row has one to its left; what the tests of an end say, and that it names at most one pad; and an end that is
-- put stands at its pad and nowhere else. They rest on PadTests.antt and JoinedEnds.antt.
use Rattle.std.specs.Prelude.{ℕ, ◌+◌, ◌%◌, ◌<◌, ◌≡◌, refl, ◌≢◌, true, false, ltb}
use Rattle.std.proofs.Common.{sym, ap, arith, eq-eqb, eqb-true, ne_eqb, lt-ltb, ltb-true}
use Rattle.std.proofs.Math.Decide.{ℕ_discrete}
use Rattle.rules.specs.Grid.{Edge, right, down, Cell, blank, clue, hole, Grid, pads, OnBoard}
use Rattle.rules.specs.Tests.{both, both_on, conflict}
use Rattle.rules.specs.Places.{zero≢one, next_column}
use Rattle.model.specs.JoinedEnds.{End, through, at_pad, at_clue, is_through, is_pad, put_end, put_end_at}
use Rattle.model.specs.PadTests.{is_blank, is_clue, is_hole, has_left, has_right, on_board}

-- WHAT A PAD IS
pub blank_of : (C : Cell) → is_blank C ≡ true → C ≡ blank
blank_of blank h = refl
blank_of (clue c) h = conflict h refl
blank_of hole h = conflict h refl

pub hole_of : (C : Cell) → is_hole C ≡ true → C ≡ hole
hole_of blank h = conflict h refl
hole_of (clue c) h = conflict h refl
hole_of hole h = refl

pub clue_is_clue : {C : Cell} {c : ℕ} {A : Type 0} → is_clue C ≡ false → C ≡ clue c → A
clue_is_clue none e = conflict (ap is_clue e) none

pub on_board_test : (g : Grid) (e : Edge) → OnBoard g e → on_board g e ≡ true
unfolding OnBoard
on_board_test g (right v) (below, inside) = both_on (lt-ltb (v % g.width + 1) g.width inside) (lt-ltb v (pads g) below)
on_board_test g (down v) below = lt-ltb (v + g.width) (pads g) below

pub on_board_of_test : (g : Grid) (e : Edge) → on_board g e ≡ true → OnBoard g e
unfolding OnBoard
on_board_of_test g (right v) h = let (inside, below) = both (has_right g v) (ltb v (pads g)) h in
    (ltb-true v (pads g) below, ltb-true (v % g.width + 1) g.width inside)
on_board_of_test g (down v) h = ltb-true (v + g.width) (pads g) h

pub left_of_next : (g : Grid) (v : ℕ) → v % g.width + 1 < g.width → has_left g (v + 1) ≡ true
left_of_next g v h = lt-ltb 0 ((v + 1) % g.width) (omega (arith, next_column g.width v h))

-- THE PAD THAT AN END NAMES
pub same_pad : {a b : ℕ} → at_pad a ≡ at_pad b → a ≡ b
same_pad e = cc

pub is_pad_end : (A : End) (x : ℕ) → Dec (A ≡ at_pad x)
is_pad_end through x = no (λ e. zero≢one (cc))
is_pad_end (at_clue c) x = no (λ e. zero≢one (cc))
is_pad_end (at_pad a) x = elim (ℕ_discrete a x) [ yes e ↦ yes (ap at_pad e) | no n ↦ no (λ e. n (cc)) ]

-- what its tests say
pub is_through-true : (A : End) → is_through A ≡ true → A ≡ through
is_through-true through h = refl
is_through-true (at_pad a) h = zero≢one (cc)
is_through-true (at_clue c) h = zero≢one (cc)

pub is_pad-true : (A : End) (v : ℕ) → is_pad A v ≡ true → A ≡ at_pad v
is_pad-true through v h = zero≢one (cc)
is_pad-true (at_clue c) v h = zero≢one (cc)
is_pad-true (at_pad a) v h = ap at_pad (eqb-true a v h)

-- AN END THAT IS PUT
pub put_same : (f : ℕ → End) (x : ℕ) (e : End) (y : ℕ) → y ≡ x → put_end f x e y ≡ e
unfolding put_end
put_same f x e y h = rw (eq-eqb y x h)

pub put_other : (f : ℕ → End) (x : ℕ) (e : End) (y : ℕ) → y ≢ x → put_end f x e y ≡ f y
unfolding put_end
put_other f x e y n = rw (ne_eqb y x n)

pub put_at_same : (f : ℕ → End) (A e : End) (a : ℕ) → A ≡ at_pad a → put_end_at f A e a ≡ e
unfolding put_end_at
put_at_same f A e a p = rw p (put_same f a e a refl)

pub put_at_other : (f : ℕ → End) (A e : End) (y : ℕ) → A ≢ at_pad y → put_end_at f A e y ≡ f y
unfolding put_end_at
put_at_other f through e y n = refl
put_at_other f (at_clue c) e y n = refl
put_at_other f (at_pad a) e y n = put_other f a e y (λ p. n (ap at_pad (sym p)))
