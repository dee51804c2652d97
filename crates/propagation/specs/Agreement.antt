-- A drawing agrees with a board: a line where the board has one, none where the board has none. Then the drawing's lines at a pad are the
-- board's and some of the undecided edges, and this tells what the first undecided edge of a pad must be.
use Prim.Native.Nat.{ℕ, ◌+◌, ◌≤◌}
use Rattle.std.specs.Prelude.{◌≡◌, ◌≢◌, ◌⊎◌, Bool, ◌&&◌, eqb}
use Rattle.std.proofs.Math.Path.{refl}
use Rattle.std.proofs.Common.{sym, ◌∙◌, zero-add, eqb-true}
use Rattle.std.proofs.Math.Logic.{⊎_elim}
use Rattle.std.proofs.Math.Bool.{true, false}
use mathlib.Core.List.Memᴰ
use mathlib.Core.List.{List, [], ◌∷◌, Memᴰ}
use native.Mathlib.Omega.{arith}
use Rattle.std.proofs.lemmas.Bool.{eqb-false}
use Rattle.rules.specs.Grid.{Edge, Grid}
use Rattle.rules.specs.Drawing.{Drawing, drawn, num}
use Rattle.rules.specs.Tests.{num_small, num_none}
use Rattle.model.specs.PadTests.{is_clue}
use Rattle.model.specs.Board.{EdgeState, is_line, is_undecided, State, lines, undecideds, around, degree, undecided, line, none}
use Rattle.propagation.specs.Counting.{among, undecideds_among, some_among}

pub record Agrees (D : Drawing) (S : State) : Type 0 where
  pub where_line : (e : Edge) → S.edge e ≡ line → drawn D e ≡ true
  pub where_none : (e : Edge) → S.edge e ≡ none → drawn D e ≡ false

module _ (D : Drawing) where
  -- the drawing's lines among the undecided edges
  unfoldable hidden : State → List (Edge × ℕ) → ℕ
  hidden S [] = 0
  hidden S (p ∷ l) = num (is_undecided (S.edge p.0) && drawn D p.0) + hidden S l

  at_edge : (S : State) → Agrees D S → (e : Edge) → num (drawn D e) ≡ num (is_line (S.edge e)) + num (is_undecided (S.edge e) && drawn D e)
  at_edge S a e = go (S.edge e) refl
    where
      go : (m : EdgeState) → S.edge e ≡ m → num (drawn D e) ≡ num (is_line (S.edge e)) + num (is_undecided (S.edge e) && drawn D e)
      go line h = rw (h, a.where_line e h)
      go none h = rw (h, a.where_none e h)
      go undecided h = rw h (sym (zero-add (num (drawn D e))))

  lines_and_hidden : (S : State) → Agrees D S → (l : List (Edge × ℕ)) → among (drawn D) l ≡ lines S l + hidden S l
  unfolding among hidden lines
  lines_and_hidden S a [] = refl
  lines_and_hidden S a (p ∷ l) = let h = at_edge S a p.0 in let k = lines_and_hidden S a l in omega arith

  hidden_undecided : (S : State) (l : List (Edge × ℕ)) → hidden S l ≤ undecideds S l
  unfolding hidden undecideds
  hidden_undecided S [] = omega arith
  hidden_undecided S (p ∷ l) = let k = hidden_undecided S l in let h = small (is_undecided (S.edge p.0)) (drawn D p.0) in omega arith
    where
      small : (a b : Bool) → num (a && b) ≤ num a
      small true true = omega arith
      small true false = omega arith
      small false b = omega arith

  undecided_counts : (S : State) (l : List (Edge × ℕ)) (p : Edge × ℕ) → Memᴰ p l → is_undecided (S.edge p.0) ≡ true → 1 ≤ undecideds S l
  undecided_counts S l p m h = rw (undecideds_among S l) (some_among (λ e. is_undecided (S.edge e)) l p m h)

  hidden_counts : (S : State) (l : List (Edge × ℕ)) (p : Edge × ℕ) → Memᴰ p l → is_undecided (S.edge p.0) ≡ true → num (drawn D p.0) ≤ hidden S l
  unfolding hidden
  hidden_counts S [] p m h = elim m [ ]
  hidden_counts S (q ∷ l) p m h = ⊎_elim
      (λ e. let k : num (is_undecided (S.edge q.0) && drawn D q.0) ≡ num (drawn D p.0) = rw (← e, h) refl in omega arith)
      (λ w. let k = hidden_counts S l p w h in omega arith) (Memᴰ.cases_cons m)

  only_hidden : (S : State) (l : List (Edge × ℕ)) (p : Edge × ℕ) → Memᴰ p l → is_undecided (S.edge p.0) ≡ true → undecideds S l ≡ 1 → hidden S l ≡ num (drawn D p.0)
  unfolding hidden undecideds
  only_hidden S [] p m h n = elim m [ ]
  only_hidden S (q ∷ l) p m h n = ⊎_elim
      (λ e. let k : num (is_undecided (S.edge q.0) && drawn D q.0) ≡ num (drawn D p.0) = rw (← e, h) refl in
      let j : num (is_undecided (S.edge q.0)) ≡ 1 = rw (← e, h) refl in let i = hidden_undecided S l in omega arith)
      (λ w. go w (is_undecided (S.edge q.0)) refl (only_hidden S l p w h)) (Memᴰ.cases_cons m)
    where
      go : Memᴰ p l → (b : Bool) → is_undecided (S.edge q.0) ≡ b → (undecideds S l ≡ 1 → hidden S l ≡ num (drawn D p.0))
          → num (is_undecided (S.edge q.0) && drawn D q.0) + hidden S l ≡ num (drawn D p.0)
      go w true k r = let a = undecided_counts S l p w h in let j : num (is_undecided (S.edge q.0)) ≡ 1 = rw k refl in absurd (omega arith)
      go w false k r = let j : num (is_undecided (S.edge q.0)) ≡ 0 = rw k refl in let i : num (is_undecided (S.edge q.0) && drawn D q.0) ≡ 0 = rw k refl in
          let t = r (omega arith) in omega arith

  num_line : (b : Bool) → num b ≡ 1 → b ≡ true
  num_line true h = refl
  num_line false h = absurd (omega arith)

  -- THE DEGREE OF THE DRAWING at a pad: its lines, plus 1 for a clue
  abbrev pub drawn_degree : Grid → ℕ → ℕ
  drawn_degree g v = num (is_clue (g.cell v)) + among (drawn D) (around g v)

  abbrev pub NoneOrTwo : ℕ → Type 0
  NoneOrTwo n = (n ≡ 0) ⊎ (n ≡ 2)

  -- the board's degree is no more, and at most as much less as there are undecided edges
  pub record DegreeLeft (g : Grid) (S : State) (v : ℕ) : Type 0 where
    pub no_more : degree g S v ≤ drawn_degree g v
    pub no_less : drawn_degree g v ≤ degree g S v + undecideds S (around g v)

  pub degree_left : (g : Grid) (S : State) → Agrees D S → (v : ℕ) → DegreeLeft g S v
  unfolding degree
  degree_left g S a v = let k = lines_and_hidden S a (around g v) in let h = hidden_undecided S (around g v) in
      record { no_more = omega (arith, k, h); no_less = omega (arith, k, h) }

  -- WHAT THE FIRST UNDECIDED EDGE MUST BE, where the pad check decides it: a line if the degree is 1, else none
  pub must_be : (g : Grid) (S : State) → Agrees D S → (v : ℕ) → NoneOrTwo (drawn_degree g v) → (p : Edge × ℕ) → Memᴰ p (around g v)
      → is_undecided (S.edge p.0) ≡ true → (undecideds S (around g v) ≡ 1) ⊎ (2 ≤ degree g S v) → drawn D p.0 ≡ eqb (degree g S v) 1
  unfolding degree
  must_be g S a v degrees p m o why = go (eqb d 1) refl
    where
      d : ℕ
      d = num (is_clue (g.cell v)) + lines S (around g v)

      total : num (is_clue (g.cell v)) + among (drawn D) (around g v) ≡ d + hidden S (around g v)
      total = let k = lines_and_hidden S a (around g v) in omega arith

      go : (b : Bool) → eqb d 1 ≡ b → drawn D p.0 ≡ eqb d 1
      go true h = let e : d ≡ 1 = eqb-true d 1 h in
          num_line (drawn D p.0) (⊎_elim
          (λ n. let k = only_hidden S (around g v) p m o n in let w = num_small (drawn D p.0) in ⊎_elim (λ y. absurd (omega (arith, total))) (λ y. omega (arith, total)) degrees)
          (λ n. absurd (omega arith)) why) ∙ sym h
      go false h = let e : d ≢ 1 = eqb-false d 1 h in
          num_none (drawn D p.0) (⊎_elim
          (λ n. let k = only_hidden S (around g v) p m o n in let w = num_small (drawn D p.0) in ⊎_elim (λ y. omega (arith, total)) (λ y. omega (arith, total)) degrees)
          (λ n. let k = hidden_counts S (around g v) p m o in ⊎_elim (λ y. absurd (omega (arith, total))) (λ y. omega (arith, total)) degrees) why) ∙ sym h
