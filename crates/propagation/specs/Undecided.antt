-- The number of undecided edges of the board: it never grows, it falls with each decision, and `enough` exceeds twice of it. This is
-- what makes decisions and checks end.
use Rattle.std.specs.Prelude.{ℕ, zero, suc, ◌+◌, ◌*◌, ◌≤◌, ◌<◌, ◌≡◌, refl, Bool, true, false, ltb}
use Rattle.std.proofs.Common.{ap, ◌∙◌, ltb-true}
use native.Mathlib.Omega.{arith}
use Rattle.std.proofs.Math.Decide.{ℕ_discrete}
use Rattle.rules.specs.Grid.{Edge, first, Grid, pads, right, down}
use Rattle.rules.specs.Drawing.{num, count}
use Rattle.rules.specs.Tests.{both, conflict, is_so, num_small}
use Rattle.model.specs.PadTests.{has_right, on_board}
use Rattle.model.specs.Board.{is_undecided, State, enough}

count_small : (f : ℕ → Bool) (n : ℕ) → count f n ≤ n
unfolding count
count_small f zero = omega arith
count_small f (suc n) = let k = count_small f n in let j = num_small (f n) in omega arith

num_follows : (a b : Bool) → (a ≡ true → b ≡ true) → num a ≤ num b
num_follows false b k = omega arith
num_follows true b k = rw (k refl) (omega arith)

-- a test that holds only where another does holds no more often, and less often if it fails at one number where the other holds
count_no_more : (f h : ℕ → Bool) (n : ℕ) → ((x : ℕ) → f x ≡ true → h x ≡ true) → count f n ≤ count h n
unfolding count
count_no_more f h zero k = omega arith
count_no_more f h (suc n) k = let r = count_no_more f h n k in let s = num_follows (f n) (h n) (k n) in omega arith

count_less : (f h : ℕ → Bool) (n i : ℕ) → ((x : ℕ) → f x ≡ true → h x ≡ true) → i < n → f i ≡ false → h i ≡ true → count f n < count h n
unfolding count
count_less f h zero i k l a b = absurd (omega arith)
count_less f h (suc n) i k l a b = elim (ℕ_discrete i n) [
  | yes e ↦ let r = count_no_more f h n k in let p : num (f n) ≡ 0 = rw (← e, a) refl in let q : num (h n) ≡ 1 = rw (← e, b) refl in omega arith
  | no ne ↦ let r = count_less f h n i k (omega arith) a b in let s = num_follows (f n) (h n) (k n) in omega arith
]

-- every edge that is decided in S holds the same in T
abbrev pub DecidedStay : State → State → Type 0
DecidedStay S T = (x : Edge) → is_undecided (S.edge x) ≡ false → T.edge x ≡ S.edge x

still_undecided : (S T : State) → DecidedStay S T → (x : Edge) → is_undecided (T.edge x) ≡ true → is_undecided (S.edge x) ≡ true
still_undecided S T h x k = is_so (is_undecided (S.edge x)) (λ e. conflict k (ap is_undecided (h x e) ∙ e))

module _ (g : Grid) where
  unfoldable pub undecided_edges : State → ℕ
  undecided_edges S = count (λ v. is_undecided (S.edge (right v))) (pads g) + count (λ v. is_undecided (S.edge (down v))) (pads g)

  -- the first pad of an edge of the board is a pad
  first_in : (e : Edge) → on_board g e ≡ true → first e < pads g
  first_in (right v) h = ltb-true v (pads g) (both (has_right g v) (ltb v (pads g)) h).1
  first_in (down v) h = let k = ltb-true (v + g.width) (pads g) h in omega arith

  pub undecided_no_more : (S T : State) → DecidedStay S T → undecided_edges T ≤ undecided_edges S
  unfolding undecided_edges
  undecided_no_more S T h =
      let p = count_no_more (λ v. is_undecided (T.edge (right v))) (λ v. is_undecided (S.edge (right v))) (pads g) (λ x k. still_undecided S T h (right x) k) in
      let q = count_no_more (λ v. is_undecided (T.edge (down v))) (λ v. is_undecided (S.edge (down v))) (pads g) (λ x k. still_undecided S T h (down x) k) in
      omega arith

  pub undecided_less : (S T : State) (e : Edge) → on_board g e ≡ true → is_undecided (S.edge e) ≡ true → is_undecided (T.edge e) ≡ false
      → DecidedStay S T → undecided_edges T < undecided_edges S
  unfolding undecided_edges
  undecided_less S T (right v) o a b h =
      let p = count_less (λ v. is_undecided (T.edge (right v))) (λ v. is_undecided (S.edge (right v))) (pads g) v (λ x k. still_undecided S T h (right x) k) (first_in (right v) o) b a in
      let q = count_no_more (λ v. is_undecided (T.edge (down v))) (λ v. is_undecided (S.edge (down v))) (pads g) (λ x k. still_undecided S T h (down x) k) in
      omega arith
  undecided_less S T (down v) o a b h =
      let p = count_no_more (λ v. is_undecided (T.edge (right v))) (λ v. is_undecided (S.edge (right v))) (pads g) (λ x k. still_undecided S T h (right x) k) in
      let q = count_less (λ v. is_undecided (T.edge (down v))) (λ v. is_undecided (S.edge (down v))) (pads g) v (λ x k. still_undecided S T h (down x) k) (first_in (down v) o) b a in
      omega arith

  pub enough_is_more : (S : State) → 2 * undecided_edges S + 2 ≤ enough g
  unfolding undecided_edges enough
  enough_is_more S =
      let p = count_small (λ v. is_undecided (S.edge (right v))) (pads g) in
      let q = count_small (λ v. is_undecided (S.edge (down v))) (pads g) in
      omega arith
