-- One call of a list: which of the model's calls it is, that a state above a byte is declined like undecided, that the grid stays, and that
-- the answer is small. Assumes nothing.
use Prim.Native.Nat.{ℕ, ◌≤◌, ◌<◌}
use mathlib.Core.Path.{◌≡◌, refl, ap, ◌∙◌, subst}
use mathlib.Core.Bool.{Bool, true, false}
use native.Mathlib.Omega.{arith}
use lib.Dec.{ltb}
use borrow.Author.Tests.{ne_eqb, lt-ltb, le-ltb, ltb-false}
use Rattle.rules.specs.Grid.{Place, edge, no_edge}
use Rattle.model.specs.Calls.{Board, Answer, decide_edge, decide_at, edge_at}
use Rattle.board.specs.Held.{Says}
use Rattle.board.specs.declared.Answer as code
use Rattle.hunekowha.specs.Replay.{Given, fresh_answer, state_asked, called}

-- A STATE above a byte
large_declined : (b : Board) (p : Place) (state : ℕ) → 256 ≤ state → decide_at b p 0 ≡ decide_at b p state
large_declined b no_edge state large = refl
large_declined b (edge e) state large = rw (ne_eqb state 1 (λ is. omega arith), ne_eqb state 2 (λ is. omega arith), decide_at) refl

pub asked_byte : (state : ℕ) → state < 256 → state ≡ state_asked state
unfolding state_asked
asked_byte state small = rw (lt-ltb state 256 small) refl

pub asked_large : (state : ℕ) → 256 ≤ state → 0 ≡ state_asked state
unfolding state_asked
asked_large state large = rw (le-ltb state 256 large) refl

pub asked_same : (b : Board) (row column state : ℕ) → decide_edge b row column (state_asked state) ≡ decide_edge b row column state
unfolding state_asked decide_edge
asked_same b row column state = go (ltb state 256) refl
  where
    go : (t : Bool) → ltb state 256 ≡ t → decide_edge b row column (state_asked state) ≡ decide_edge b row column state
    go true small = rw small refl
    go false large = rw large (large_declined b (edge_at b.grid row column) state (ltb-false state 256 large))

-- WHAT THE CODE'S CALL SAYS
pub says_decision : (b : Board) (row column state : ℕ) {r : code.Answer} {byte : ℕ} → byte ≡ state_asked state → Says r (decide_edge b row column byte) → Says r (decide_edge b row column state)
says_decision b row column state {r} byte says = subst (λ (A : Answer). Says r A) (ap (decide_edge b row column) byte ∙ asked_same b row column state) says

pub is_fresh : (g : Given) (b : Board) (kind row column state : ℕ) → (kind ≡ 1 → ⊥) → (kind ≡ 2 → ⊥) → (kind ≡ 3 → ⊥) → (kind ≡ 4 → ⊥) → fresh_answer g ≡ called g b kind row column state
unfolding called
is_fresh g b kind row column state not_1 not_2 not_3 not_4 = rw (ne_eqb kind 1 not_1, ne_eqb kind 2 not_2, ne_eqb kind 3 not_3, ne_eqb kind 4 not_4) refl
