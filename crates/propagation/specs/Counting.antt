-- How many of the edges around a pad have a property: lines, undecided edges, lines of a drawing. The edges lead to different pads, so
-- that a bound on the pads that they lead to bounds their number.
use Rattle.std.specs.Prelude.{ℕ, ◌+◌, ◌-◌, ◌%◌, ◌≤◌, ◌<◌, ◌≡◌, ◌≢◌, ◌⊎◌, Bool}
use Rattle.std.proofs.Math.Path.{refl, sym}
use Rattle.std.proofs.Common.{◌∙◌, ap, le-leb, lt-ltb}
use Rattle.std.proofs.Math.Logic.{⊎_elim}
use Rattle.std.proofs.Math.Bool.{true, false}
use mathlib.Core.List.Memᴰ
use mathlib.Core.List.{List, [], ◌∷◌, Memᴰ}
use native.Mathlib.Omega.{arith}
use Rattle.rules.specs.Grid.{Edge, Grid, pads, OnBoard, right, down}
use Rattle.rules.specs.Drawing.{Drawing, drawn, Placed, Line, num, rightward, leftward, downward, upward}
use Rattle.rules.specs.Places.{next_column}
use Rattle.model.specs.PadTests.{has_right, has_left, has_down, has_up}
use Rattle.model.specs.Board.{is_line, is_undecided, State, with_edge, lines, undecideds, around}
use Rattle.propagation.specs.Squares.{mem_with_edge, Neighbour, neighbour, one_before, row_before, to_left, to_right, to_above, to_below}

-- how many edges of the list have the property
unfoldable pub among : (Edge → Bool) → List (Edge × ℕ) → ℕ
among has [] = 0
among has (p ∷ l) = num (has p.0) + among has l

pub lines_among : (S : State) (l : List (Edge × ℕ)) → lines S l ≡ among (λ e. is_line (S.edge e)) l
unfolding lines among
lines_among S [] = refl
lines_among S (p ∷ l) = rw (lines_among S l) refl

pub undecideds_among : (S : State) (l : List (Edge × ℕ)) → undecideds S l ≡ among (λ e. is_undecided (S.edge e)) l
unfolding undecideds among
undecideds_among S [] = refl
undecideds_among S (p ∷ l) = rw (undecideds_among S l) refl

-- the edges of the list lead to different pads
unfoldable pub Apart : List (Edge × ℕ) → Type 0
Apart [] = Unit {0}
Apart (p ∷ l) = ((q : Edge × ℕ) → Memᴰ q l → q.1 ≢ p.1) × Apart l

module _ (has : Edge → Bool) where
  by_test : {X : Type 0} (e : Edge) → (has e ≡ true → X) → (has e ≡ false → X) → X
  by_test {X} e f h = go (has e) refl
    where
      go : (b : Bool) → has e ≡ b → X
      go true k = f k
      go false k = h k

  pub none_among : (l : List (Edge × ℕ)) → ((p : Edge × ℕ) → Memᴰ p l → has p.0 ≡ true → ⊥) → among has l ≡ 0
  unfolding among
  none_among [] h = refl
  none_among (p ∷ l) h = by_test p.0 (λ t. absurd (h p (Memᴰ.head refl) t)) (λ f. rw (f, none_among l (λ q m. h q (Memᴰ.tail m))))

  -- at most one, where any two lead to one pad
  pub one_among : (l : List (Edge × ℕ)) → Apart l
      → ((p q : Edge × ℕ) → Memᴰ p l → Memᴰ q l → has p.0 ≡ true → has q.0 ≡ true → p.1 ≡ q.1) → among has l ≤ 1
  unfolding among Apart
  one_among [] d h = omega arith
  one_among (p ∷ l) d h = by_test p.0
      (λ t. rw (t, none_among l (λ q m k. d.0 q m (sym (h p q (Memᴰ.head refl) (Memᴰ.tail m) t k)))) (omega arith))
      (λ f. let k = one_among l d.1 (λ a b m n. h a b (Memᴰ.tail m) (Memᴰ.tail n)) in rw f (omega arith))

  pub one_to : (l : List (Edge × ℕ)) (a : ℕ) → Apart l → ((p : Edge × ℕ) → Memᴰ p l → has p.0 ≡ true → p.1 ≡ a) → among has l ≤ 1
  one_to l a d h = one_among l d (λ p q m n s t. h p m s ∙ sym (h q n t))

  -- at most two, where each leads to one of two pads
  pub two_to : (l : List (Edge × ℕ)) (a b : ℕ) → Apart l → ((p : Edge × ℕ) → Memᴰ p l → has p.0 ≡ true → (p.1 ≡ a) ⊎ (p.1 ≡ b)) → among has l ≤ 2
  unfolding among Apart
  two_to [] a b d h = omega arith
  two_to (p ∷ l) a b d h = by_test p.0
      (λ t. let k = ⊎_elim
      (λ ea. one_to l b d.1 (λ q m y. ⊎_elim (λ e. absurd (d.0 q m (e ∙ sym ea))) (λ e. e) (h q (Memᴰ.tail m) y)))
      (λ eb. one_to l a d.1 (λ q m y. ⊎_elim (λ e. e) (λ e. absurd (d.0 q m (e ∙ sym eb))) (h q (Memᴰ.tail m) y)))
      (h p (Memᴰ.head refl) t) in rw t (omega arith))
      (λ f. let k = two_to l a b d.1 (λ q m. h q (Memᴰ.tail m)) in rw f (omega arith))

  pub some_among : (l : List (Edge × ℕ)) (p : Edge × ℕ) → Memᴰ p l → has p.0 ≡ true → 1 ≤ among has l
  unfolding among
  some_among [] p m h = absurd (Memᴰ.not-nil m)
  some_among (q ∷ l) p m h = ⊎_elim
      (λ (e : p ≡ q). let k : has q.0 ≡ true = rw (← e) h in rw k (omega arith))
      (λ w. let k = some_among l p w h in omega arith) (Memᴰ.cases_cons m)

  pub two_among : (l : List (Edge × ℕ)) (p q : Edge × ℕ) → Memᴰ p l → Memᴰ q l → has p.0 ≡ true → has q.0 ≡ true → p.1 ≢ q.1 → 2 ≤ among has l
  unfolding among
  two_among [] p q m n h k ne = absurd (Memᴰ.not-nil m)
  two_among (r ∷ l) p q m n h k ne = ⊎_elim
      (λ (e : p ≡ r). ⊎_elim (λ (e' : q ≡ r). absurd (ne (ap (λ (x : Edge × ℕ). x.1) (e ∙ sym e'))))
      (λ w. let y : has r.0 ≡ true = rw (← e) h in let z = some_among l q w k in rw y (omega arith)) (Memᴰ.cases_cons n))
      (λ w. ⊎_elim (λ (e : q ≡ r). let y : has r.0 ≡ true = rw (← e) k in let z = some_among l p w h in rw y (omega arith))
      (λ w'. let z = two_among l p q w w' h k ne in omega arith) (Memᴰ.cases_cons n)) (Memᴰ.cases_cons m)

in_list : (b : Bool) (e : Edge) (u : ℕ) (l : List (Edge × ℕ)) → b ≡ true → Memᴰ (e, u) (with_edge b e u l)
in_list b e u l h = rw h (Memᴰ.head refl)

in_rest : (b : Bool) (e : Edge) (u : ℕ) (l : List (Edge × ℕ)) (p : Edge × ℕ) → Memᴰ p l → Memᴰ p (with_edge b e u l)
in_rest true e u l p m = Memᴰ.tail m
in_rest false e u l p m = m

module _ (g : Grid) (wide : 2 ≤ g.width) where
  abbrev W : ℕ
  W = g.width

  -- each neighbour of a pad is in the list
  pub left_around : (v : ℕ) → has_left g v ≡ true → Memᴰ (right (v - 1), v - 1) (around g v)
  unfolding around
  left_around v h = in_list (has_left g v) _ _ _ h

  pub right_around : (v : ℕ) → has_right g v ≡ true → Memᴰ (right v, v + 1) (around g v)
  unfolding around
  right_around v h = in_rest (has_left g v) (right (v - 1)) (v - 1) _ _ (in_list (has_right g v) _ _ _ h)

  pub up_around : (v : ℕ) → has_up g v ≡ true → Memᴰ (down (v - W), v - W) (around g v)
  unfolding around
  up_around v h = in_rest (has_left g v) (right (v - 1)) (v - 1) _ _ (in_rest (has_right g v) (right v) (v + 1) _ _ (in_list (has_up g v) _ _ _ h))

  pub down_around : (v : ℕ) → has_down g v ≡ true → Memᴰ (down v, v + W) (around g v)
  unfolding around
  down_around v h = in_rest (has_left g v) (right (v - 1)) (v - 1) _ _ (in_rest (has_right g v) (right v) (v + 1) _ _
      (in_rest (has_up g v) (down (v - W)) (v - W) _ _ (in_list (has_down g v) _ _ _ h)))

  -- and they are different pads
  pub around_apart : (v : ℕ) → Apart (around g v)
  unfolding Apart around
  around_apart v = from_left (has_left g v) refl (has_right g v) (has_up g v) refl (has_down g v)
    where
      from_down : (d : Bool) → Apart (with_edge d (down v) (v + W) [])
      from_down true = ((λ q m. absurd (Memᴰ.not-nil m)), tt)
      from_down false = tt

      from_up : (u : Bool) → has_up g v ≡ u → (d : Bool) → Apart (with_edge u (down (v - W)) (v - W) (with_edge d (down v) (v + W) []))
      from_up false h d = from_down d
      from_up true h d = let k = row_before g wide v h in
          ((λ q m. ⊎_elim (λ (b, e). rw e (omega arith)) (λ n. absurd (Memᴰ.not-nil n)) (mem_with_edge g wide d (down v) (v + W) [] q m)), from_down d)

      from_right : (r u : Bool) → has_up g v ≡ u → (d : Bool) → Apart (with_edge r (right v) (v + 1) (with_edge u (down (v - W)) (v - W) (with_edge d (down v) (v + W) [])))
      from_right false u h d = from_up u h d
      from_right true u h d = (
        (λ q m. ⊎_elim (λ (b, e). rw e (omega arith)) (λ m. ⊎_elim (λ (b, e). rw e (omega arith)) (λ n. absurd (Memᴰ.not-nil n))
            (mem_with_edge g wide d (down v) (v + W) [] q m)) (mem_with_edge g wide u (down (v - W)) (v - W) _ q m)),
        from_up u h d,
      )

      from_left : (l : Bool) → has_left g v ≡ l → (r u : Bool) → has_up g v ≡ u → (d : Bool)
          → Apart (with_edge l (right (v - 1)) (v - 1) (with_edge r (right v) (v + 1) (with_edge u (down (v - W)) (v - W) (with_edge d (down v) (v + W) []))))
      from_left false k r u h d = from_right r u h d
      from_left true k r u h d = let j = one_before g wide v k in (
        (λ q m. ⊎_elim (λ (b, e). rw e (omega arith))
            (λ m. ⊎_elim (λ (b, e). rw e (let z = row_before g wide v (h ∙ b) in omega arith))
            (λ m. ⊎_elim (λ (b, e). rw e (omega arith)) (λ n. absurd (Memᴰ.not-nil n)) (mem_with_edge g wide d (down v) (v + W) [] q m))
            (mem_with_edge g wide u (down (v - W)) (v - W) _ q m)) (mem_with_edge g wide r (right v) (v + 1) _ q m)),
        from_right r u h d,
      )

  -- THE LINES OF A DRAWING at a pad are those of its edges around the pad that are lines
  module _ (D : Drawing) (placed : Placed g D) where
    pub right_column : (v : ℕ) → D.right v ≡ true → v % W + 1 < W
    unfolding OnBoard
    right_column v h = (placed (right v) h).1

    pub right_in : (v : ℕ) → D.right v ≡ true → v < pads g
    unfolding OnBoard
    right_in v h = (placed (right v) h).0

    pub down_in : (v : ℕ) → D.down v ≡ true → v + W < pads g
    unfolding OnBoard
    down_in v h = placed (down v) h

    pub record Beside (v y : ℕ) : Type 0 where
      pub at : Edge × ℕ
      pub member : Memᴰ at (around g v)
      pub leads_to : at.1 ≡ y
      pub lined : drawn D at.0 ≡ true

    pub beside : (v y : ℕ) → Line W D v y → Beside v y
    beside v y (leftward e h) = let q : v - 1 ≡ y = omega arith in
        record { at = (right (v - 1), v - 1); member = left_around v (lt-ltb 0 (v % W) (rw (e, next_column W y (right_column y h)) (omega arith))); leads_to = q; lined = ap D.right q ∙ h }
    beside v y (rightward e h) =
        record { at = (right v, v + 1); member = right_around v (lt-ltb (v % W + 1) W (right_column v h)); leads_to = sym e; lined = h }
    beside v y (upward e h) = let q : v - W ≡ y = omega arith in
        record { at = (down (v - W), v - W); member = up_around v (le-leb W v (omega arith)); leads_to = q; lined = ap D.down q ∙ h }
    beside v y (downward e h) =
        record { at = (down v, v + W); member = down_around v (lt-ltb (v + W) (pads g) (down_in v h)); leads_to = sym e; lined = h }

    pub leads : (v : ℕ) (p : Edge × ℕ) → Memᴰ p (around g v) → drawn D p.0 ≡ true → Line W D v p.1
    leads v p m h = go (neighbour g wide v p m)
      where
        go : Neighbour g wide v p → Line W D v p.1
        go (to_left b e) = rw e (leftward (one_before g wide v b) (rw e at h))
        go (to_right b e) = rw e (rightward refl (rw e at h))
        go (to_above b e) = rw e (upward (row_before g wide v b) (rw e at h))
        go (to_below b e) = rw e (downward refl (rw e at h))
