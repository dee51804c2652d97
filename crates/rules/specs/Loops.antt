-- A closed loop told by the family of its pads (Drawing.antt) is a closed loop told by a list: a closed list of at least three different
-- pads, each with a line to the next and the last to the first, gives such a family; and on a drawing of a grid every such family gives
-- such a list. So the rules neither let a loop through nor rule out a sound drawing. It rests on Drawing.antt and on lists by index.
use Rattle.std.specs.Prelude.{ℕ, zero, suc, ◌+◌, ◌-◌, ◌≤◌, ◌<◌, ◌≡◌, refl, ◌≢◌, ◌⊎◌, ◌↔◌, List, get_or, length}
use Rattle.std.proofs.Common.{sym, ◌∙◌, ap, inl, inr, ⊎_elim, arith}
use Rattle.std.proofs.Math.Logic.{ite, if_pos, if_neg}
use Rattle.std.proofs.Math.Decide.{ℕ_discrete, dec_lt}
use Rattle.rules.specs.Chains.{line_back}
use Rattle.rules.specs.Grid.{right, down, Grid, pads, OnBoard}
use Rattle.rules.specs.Drawing.{Drawing, Placed, Relation, Line, rightward, leftward, downward, upward, Loop}
use Rattle.rules.specs.Record.{tabulate}
use Rattle.rules.specs.RecordLaws.{length_tabulate, get_d_tabulate}

-- A CLOSED LIST of pads
pub record ClosedList (L : Relation) (list : List ℕ) : Type 0 where
  pub three : 3 ≤ length list
  pub different : (i j : ℕ) → i < j → j < length list → get_or list i 0 ≢ get_or list j 0
  pub next : (i : ℕ) → i + 1 < length list → L (get_or list i 0) (get_or list (i + 1) 0)
  pub last : L (get_or list (length list - 1) 0) (get_or list 0 0)

-- the family of the list's pads
abbrev pub OnList : List ℕ → ℕ → Type 0
OnList list v = (i : ℕ) × (i < length list) × (get_or list i 0 ≡ v)

-- FROM THE LIST TO THE FAMILY: each pad has lines to the one before and the one after
module _ {L : Relation} (symmetric : (a b : ℕ) → L a b → L b a) (list : List ℕ) (closed : ClosedList L list) where
  two_of : (i : ℕ) → i < length list
      → (a : ℕ) × (b : ℕ) × (a ≢ b) × OnList list a × OnList list b × L (get_or list i 0) a × L (get_or list i 0) b
  two_of zero inside = let n = closed.three in (
    get_or list 1 0,
    get_or list (length list - 1) 0,
    closed.different 1 (length list - 1) (omega arith) (omega arith),
    (1, omega arith, refl),
    (length list - 1, omega arith, refl),
    closed.next 0 (omega arith),
    symmetric _ _ closed.last,
  )
  two_of (suc i) inside =
      let n = closed.three in
      let one : i + 1 ≡ suc i = omega arith in
      let before : L (get_or list (suc i) 0) (get_or list i 0) = symmetric _ _ (rw one at (closed.next i (omega arith))) in
      elim (dec_lt (suc i + 1) (length list)) [
        | yes more ↦ (
          get_or list i 0,
          get_or list (suc i + 1) 0,
          closed.different i (suc i + 1) (omega arith) more,
          (i, omega arith, refl),
          (suc i + 1, more, refl),
          before,
          closed.next (suc i) more,
        )
        | no none ↦ let ends : length list - 1 ≡ suc i = omega arith in (
          get_or list i 0,
          get_or list 0 0,
          (λ e. closed.different 0 i (omega arith) (omega arith) (sym e)),
          (i, omega arith, refl),
          (0, omega arith, refl),
          before,
          rw ends at closed.last,
        )
      ]

  pub list_gives_family : Loop L (OnList list)
  list_gives_family = record
      { pad = get_or list 0 0; inside = (0, omega (arith, closed.three), refl); two = λ v (i, l, e). rw e at (two_of i l) }

-- FROM THE FAMILY TO THE LIST: walk along the lines of the family without turning back; the board is finite, so a pad comes again, and
-- the walk between its first two visits is a closed list. How many lines a pad has does not matter here.

-- more than n different numbers are not all below n: with the largest left out, and the last value in its place, there is one fewer
abbrev without : (ℕ → ℕ) → ℕ → ℕ → ℕ
without f n i = ite (ℕ_discrete (f i) n) (f (suc n)) (f i)

without_at : (f : ℕ → ℕ) (n i : ℕ) → ((f i ≡ n) × (without f n i ≡ f (suc n))) ⊎ ((f i ≢ n) × (without f n i ≡ f i))
without_at f n i = elim (ℕ_discrete (f i) n)
    [ yes e ↦ inl (e, if_pos (ℕ_discrete (f i) n) e (f (suc n)) (f i)) | no ne ↦ inr (ne, if_neg (ℕ_discrete (f i) n) ne (f (suc n)) (f i)) ]

not_all_different : (n : ℕ) (f : ℕ → ℕ) → ((i : ℕ) → i < suc n → f i < n) → ((i j : ℕ) → i < j → j < suc n → f i ≢ f j) → ⊥
not_all_different zero f low different = omega (arith, low 0 (omega arith))
not_all_different (suc n) f low different = not_all_different n (without f n)
    (λ i l. low' i l (without_at f n i)) (λ i j l k e. different' i j l k (without_at f n i) (without_at f n j) e)
  where
    low' : (i : ℕ) → i < suc n → ((f i ≡ n) × (without f n i ≡ f (suc n))) ⊎ ((f i ≢ n) × (without f n i ≡ f i)) → without f n i < n
    low' i l (inl (e, q)) = rw q (omega (arith, low (suc n) (omega arith), different i (suc n) (omega arith) (omega arith)))
    low' i l (inr (ne, q)) = rw q (omega (arith, low i (omega arith)))

    different' : (i j : ℕ) → i < j → j < suc n → ((f i ≡ n) × (without f n i ≡ f (suc n))) ⊎ ((f i ≢ n) × (without f n i ≡ f i))
        → ((f j ≡ n) × (without f n j ≡ f (suc n))) ⊎ ((f j ≢ n) × (without f n j ≡ f j)) → without f n i ≢ without f n j
    different' i j l k (inl (e, q)) (inl (d, r)) same = different i j l (omega arith) (e ∙ sym d)
    different' i j l k (inl (e, q)) (inr (d, r)) same = different j (suc n) k (omega arith) (sym r ∙ sym same ∙ q)
    different' i j l k (inr (e, q)) (inl (d, r)) same = different i (suc n) (omega arith) (omega arith) (sym q ∙ same ∙ r)
    different' i j l k (inr (e, q)) (inr (d, r)) same = different i j l (omega arith) (sym q ∙ same ∙ r)

-- a sequence of numbers below n: one comes again, and before its second visit all are different
pub record Again (f : ℕ → ℕ) : Type 0 where
  pub start : ℕ
  pub later : ℕ
  pub after : start < later
  pub same : f start ≡ f later
  pub different : (i j : ℕ) → i < j → j < later → f i ≢ f j

comes_again : (f : ℕ → ℕ) (n m : ℕ) → ((i : ℕ) → i < m → f i ≢ f n) ⊎ ((i : ℕ) × (i < m) × (f i ≡ f n))
comes_again f n zero = inl (λ i l. absurd (omega arith))
comes_again f n (suc m) = elim (ℕ_discrete (f m) (f n)) [
  | yes e ↦ inr (m, omega arith, e)
  | no ne ↦ ⊎_elim (λ none. inl (λ i l. elim (ℕ_discrete i m) [ yes q ↦ rw q ne | no nq ↦ none i (omega arith) ]))
      (λ (i, l, e). inr (i, omega arith, e)) (comes_again f n m)
]

first_again : (f : ℕ → ℕ) (n : ℕ) → ((i j : ℕ) → i < j → j < n → f i ≢ f j) ⊎ Again f
first_again f zero = inl (λ i j l k. absurd (omega arith))
first_again f (suc n) = ⊎_elim
    (λ different. ⊎_elim
    (λ none. inl (λ i j l k. elim (ℕ_discrete j n) [ yes q ↦ rw q (none i (omega arith)) | no nq ↦ different i j l (omega arith) ]))
    (λ (i, l, e). inr (record { start = i; later = n; after = l; same = e; different = different })) (comes_again f n n))
    (λ again. inr again) (first_again f n)

pub again : (f : ℕ → ℕ) (n : ℕ) → ((i : ℕ) → f i < n) → Again f
again f n low = ⊎_elim (λ different. absurd (not_all_different n f (λ i l. low i) different)) (λ found. found) (first_again f (suc n))

-- the walk
module _ {L : Relation} {Family : ℕ → Type 0} (loop : Loop L Family) where
  record Step : Type 0 where
    before : ℕ
    here : ℕ
    inside : Family here
    line : L before here

  -- go on to a pad that is not the one before
  on : (s : Step) → (next : Step) × (next.before ≡ s.here) × (next.here ≢ s.before)
  on s = let (a, b, a≢b, in_a, in_b, la, lb) = loop.two s.here s.inside in
      elim (ℕ_discrete a s.before) [
        | yes e ↦ (record { before = s.here; here = b; inside = in_b; line = lb }, refl, (λ q. a≢b (e ∙ sym q)))
        | no ne ↦ (record { before = s.here; here = a; inside = in_a; line = la }, refl, ne)
      ]

  walk : ℕ → Step
  walk zero = let (a, b, a≢b, in_a, in_b, la, lb) = loop.two loop.pad loop.inside in
      record { before = loop.pad; here = a; inside = in_a; line = la }
  walk (suc n) = (on (walk n)).0

  visit : ℕ → ℕ
  visit n = (walk n).before

  visit_line : (n : ℕ) → L (visit n) (visit (suc n))
  unfolding visit walk
  visit_line n = rw (on (walk n)).1 (walk n).line

  no_turn : (n : ℕ) → visit (suc (suc n)) ≢ visit n
  unfolding visit walk
  no_turn n e = (on (walk n)).2 (sym (on (on (walk n)).0).1 ∙ e)

  -- on a finite board, where no pad has a line to itself
  module _ (bound : ℕ) (low : (a b : ℕ) → L a b → a < bound) (not_itself : (a : ℕ) → L a a → ⊥) where
    pub family_gives_list : (list : List ℕ) × ClosedList L list
    family_gives_list = (
      list,
      record {
        three = rw size at_least_three;
        different = λ i j l k. different i j l (rw size at k);
        next = λ i l. at_next i (rw size at l);
        last = rw size at_last;
      },
    )
      where
        found : Again visit
        found = again visit bound (λ i. low (visit i) (visit (suc i)) (visit_line i))

        n : ℕ
        n = found.later - found.start

        list : List ℕ
        list = tabulate visit found.start n

        size : length list ≡ n
        size = length_tabulate visit found.start n

        at : (i : ℕ) → i < n → get_or list i 0 ≡ visit (found.start + i)
        at i l = get_d_tabulate visit found.start n i 0 l

        at_least_three : 3 ≤ n
        at_least_three = elim (ℕ_discrete found.later (suc found.start)) [
          | yes e ↦ absurd (not_itself (visit found.start) (rw (sym (found.same ∙ ap visit e)) at (visit_line found.start)))
          | no one ↦ elim (ℕ_discrete found.later (suc (suc found.start)))
              [ yes e ↦ absurd (no_turn found.start (sym (found.same ∙ ap visit e))) | no two ↦ omega (arith, found.after) ]
        ]

        different : (i j : ℕ) → i < j → j < n → get_or list i 0 ≢ get_or list j 0
        different i j l k e = found.different (found.start + i) (found.start + j) (omega arith) (omega arith)
            (sym (at i (omega arith)) ∙ e ∙ at j k)

        at_next : (i : ℕ) → i + 1 < n → L (get_or list i 0) (get_or list (i + 1) 0)
        at_next i l = let one : found.start + (i + 1) ≡ suc (found.start + i) = omega arith in
            rw (at i (omega arith), at (i + 1) l, one) (visit_line (found.start + i))

        at_last : L (get_or list (n - 1) 0) (get_or list 0 0)
        at_last =
            let h = at_least_three in
            let ends : suc (found.start + (n - 1)) ≡ found.later = omega arith in
            let begins : found.start + 0 ≡ found.start = omega arith in
            rw (at (n - 1) (omega arith), at 0 (omega arith), begins, found.same) (rw ends at (visit_line (found.start + (n - 1))))

-- THE LINES OF A DRAWING lead both ways (Chains.antt), never from a pad to itself, and stay on the board
line_not_itself : (width : ℕ) (D : Drawing) → 1 ≤ width → (a : ℕ) → Line width D a a → ⊥
line_not_itself width D wide a (rightward e h) = omega arith
line_not_itself width D wide a (leftward e h) = omega arith
line_not_itself width D wide a (downward e h) = omega arith
line_not_itself width D wide a (upward e h) = omega arith

line_on_board : (g : Grid) (D : Drawing) → Placed g D → (a b : ℕ) → Line g.width D a b → a < pads g + 1
unfolding OnBoard
line_on_board g D placed a b (rightward e h) = omega (arith, (placed (right a) h).0)
line_on_board g D placed a b (leftward e h) = omega (arith, (placed (right b) h).0)
line_on_board g D placed a b (downward e h) = let below : a + g.width < pads g = placed (down a) h in omega arith
line_on_board g D placed a b (upward e h) = let below : b + g.width < pads g = placed (down b) h in omega arith

-- SO ON A DRAWING OF A GRID THE TWO WAYS OF TELLING A CLOSED LOOP AGREE
pub loop_of_list : (g : Grid) (D : Drawing) (list : List ℕ) → ClosedList (Line g.width D) list → Loop (Line g.width D) (OnList list)
loop_of_list g D list closed = list_gives_family (line_back g.width D) list closed

pub list_of_loop : (g : Grid) → 1 ≤ g.width → (D : Drawing) → Placed g D → (Family : ℕ → Type 0) → Loop (Line g.width D) Family
    → (list : List ℕ) × ClosedList (Line g.width D) list
list_of_loop g wide D placed Family loop =
    family_gives_list loop (pads g + 1) (line_on_board g D placed) (line_not_itself g.width D wide)

-- so 'no closed loop' may be read either way
pub no_loop_exactly : (g : Grid) → 1 ≤ g.width → (D : Drawing) → Placed g D
    → ((Family : ℕ → Type 0) → Loop (Line g.width D) Family → ⊥) ↔ ((list : List ℕ) → ClosedList (Line g.width D) list → ⊥)
no_loop_exactly g wide D placed = (
  (λ none list closed. none (OnList list) (loop_of_list g D list closed)),
  (λ none Family loop. let (list, closed) = list_of_loop g wide D placed Family loop in none list closed),
)
