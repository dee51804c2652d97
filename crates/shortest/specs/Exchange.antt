-- Two blank pads change places: where the lines M are the lines L with pads p and q exchanged, M is wired as well as L and joins the same
-- clue pads. This is why a corner may be flipped onto the bare pad diagonally below it. It rests on Chains.antt.
use Rattle.std.specs.Prelude.{ℕ, ◌≡◌, refl, ◌≢◌}
use Rattle.std.proofs.Common.{sym, ◌∙◌}
use Rattle.std.proofs.Math.Logic.{⊎_map, ite, if_pos, if_neg}
use Rattle.std.proofs.Math.Decide.{ℕ_discrete}
use Rattle.rules.specs.Grid.{Cell, blank}
use Rattle.rules.specs.Drawing.{Relation, Joined, here, more, NoLine, Loop, Wired}
use Rattle.rules.specs.Chains.{Symmetric, by_pad}
use Rattle.shortest.specs.Chains.{ClueAt, JoinSame, clue_not_blank, hole_not_blank, other_than_blank, carry_none, carry_one, carry_two, still_apart, LinesRenamed}

-- the exchange of p and q
unfoldable pub swap : ℕ → ℕ → ℕ → ℕ
swap p q x = ite (ℕ_discrete x p) q (ite (ℕ_discrete x q) p x)

pub swap_first : (p q : ℕ) → swap p q p ≡ q
unfolding swap
swap_first p q = if_pos (ℕ_discrete p p) refl q _

pub swap_second : (p q : ℕ) → swap p q q ≡ p
unfolding swap
swap_second p q = elim (ℕ_discrete q p) [
  | yes e ↦ if_pos (ℕ_discrete q p) e q _ ∙ e
  | no n ↦ if_neg (ℕ_discrete q p) n q _ ∙ if_pos (ℕ_discrete q q) refl p q
]

pub swap_else : (p q x : ℕ) → x ≢ p → x ≢ q → swap p q x ≡ x
unfolding swap
swap_else p q x n m = if_neg (ℕ_discrete x p) n q _ ∙ if_neg (ℕ_discrete x q) m p x

pub swap_twice : (p q x : ℕ) → swap p q (swap p q x) ≡ x
swap_twice p q x = by_pad p q x
    (λ e. rw (e, swap_first, swap_second))
    (λ e. rw (e, swap_second, swap_first))
    (λ n m. rw (swap_else p q x n m) (swap_else p q x n m))

swap_comm : (p q x : ℕ) → swap p q x ≡ swap q p x
swap_comm p q x = by_pad p q x
    (λ e. rw (e, swap_first, swap_second)) (λ e. rw (e, swap_first, swap_second))
    (λ n m. swap_else p q x n m ∙ sym (swap_else q p x m n))

-- Renaming the pads by an involution that leaves in place every pad that is not blank keeps the rules and the pairs.
module _ (cell : ℕ → Cell) {L M : Relation} (rename : ℕ → ℕ) (twice : (v : ℕ) → rename (rename v) ≡ v)
    (stays : (v : ℕ) → cell v ≢ blank → rename v ≡ v) (blank_stays : (v : ℕ) → cell v ≡ blank → cell (rename v) ≡ blank)
    (to_old : (a b : ℕ) → M a b → L (rename a) (rename b)) (to_new : (a b : ℕ) → L a b → M (rename a) (rename b)) where
  at_pad : (v : ℕ) → LinesRenamed L M v (rename v)
  at_pad v = record { rename = rename; twice = twice; to_old = to_old v; to_new = λ b l. rw twice at (to_new (rename v) b l) }

  line_old : (v b : ℕ) → M (rename v) b → L v (rename b)
  line_old v b l = rw twice at (to_old (rename v) b l)

  chain : {K N : Relation} {a b : ℕ} → ((x y : ℕ) → K x y → N (rename x) (rename y)) → Joined K a b → Joined N (rename a) (rename b)
  chain f here = here
  chain f (more {a = a} {b = b} l p) = more (f a b l) (chain f p)

  loop : (Family : ℕ → Type 0) → Loop M Family → Loop L (λ x. Family (rename x))
  unfolding at_pad
  loop Family l = record {
    pad = rename l.pad;
    inside = rw twice l.inside;
    two = λ v h.
        let (a, b, n, in_a, in_b, la, lb) = l.two (rename v) h in (
          rename a,
          rename b,
          still_apart (at_pad v) a b n,
          (rw twice in_a),
          (rw twice in_b),
          line_old v a la,
          line_old v b lb,
        );
  }

  clue_chain : {K N : Relation} → ((x y : ℕ) → K x y → N (rename x) (rename y))
      → (u v : ℕ) → ClueAt cell u → ClueAt cell v → Joined K u v → Joined N u v
  clue_chain {N} f u v cu cv j = rw (stays u (clue_not_blank cu), stays v (clue_not_blank cv)) at (chain {N = N} f j)

  pub renamed : Wired cell L → Wired cell M
  renamed o = record {
    clue_one = λ v c e. carry_one (at_pad v) (rw (stays v (clue_not_blank (c, e))) (o.clue_one v c e));
    blank_none_or_two = λ v e. ⊎_map
        (carry_none (at_pad v))
        (carry_two (at_pad v)) (o.blank_none_or_two (rename v) (blank_stays v e));
    hole_none = λ v e. carry_none (at_pad v) (rw (stays v (hole_not_blank e)) (o.hole_none v e));
    no_loop = λ Family l. o.no_loop (λ x. Family (rename x)) (loop Family l);
    equal_codes = λ u v c d e f j. o.equal_codes u v c d e f (clue_chain to_old u v (c, e) (d, f) j);
  }

  pub renamed_join_same : JoinSame cell L M
  renamed_join_same u v cu cv = (clue_chain to_new u v cu cv, clue_chain to_old u v cu cv)

-- M has at q the lines that L has at p, none at p, and elsewhere the lines of L; L has none at q
pub record Exchange (L M : Relation) (p q : ℕ) : Type 0 where
  pub symmetric_old : Symmetric L
  pub symmetric_new : Symmetric M
  pub none_old : NoLine L q
  pub none_new : NoLine M p
  pub moved : (y : ℕ) → L p y → M q y
  pub moved_back : (y : ℕ) → M q y → L p y
  pub kept : (x y : ℕ) → x ≢ p → x ≢ q → y ≢ p → y ≢ q → L x y → M x y
  pub kept_back : (x y : ℕ) → x ≢ p → x ≢ q → y ≢ p → y ≢ q → M x y → L x y

exchange_back : {L M : Relation} {p q : ℕ} → Exchange L M p q → Exchange M L q p
exchange_back e = record {
  symmetric_old = e.symmetric_new;
  symmetric_new = e.symmetric_old;
  none_old = e.none_new;
  none_new = e.none_old;
  moved = e.moved_back;
  moved_back = e.moved;
  kept = λ x y a b c d m. e.kept_back x y b a d c m;
  kept_back = λ x y a b c d m. e.kept x y b a d c m;
}

exchange_old : {L M : Relation} {p q : ℕ} → Exchange L M p q → (a b : ℕ) → M a b → L (swap p q a) (swap p q b)
exchange_old {L} {M} {p} {q} e a b m = by_pad p q a
    (λ f. absurd (e.none_new b (rw f at m)))
    (λ f. rw f (rw swap_second (at_q b (rw f at m))))
    (λ n1 n2. by_pad p q b
    (λ f. absurd (e.none_new a (e.symmetric_new a p (rw f at m))))
    (λ f. e.symmetric_old _ _ (rw f (rw swap_second (at_q a (e.symmetric_new a q (rw f at m))))))
    (λ n3 n4. rw (swap_else p q a n1 n2, swap_else p q b n3 n4) (e.kept_back a b n1 n2 n3 n4 m)))
  where
    at_q : (y : ℕ) → M q y → L p (swap p q y)
    at_q y k = rw (swap_else p q y
        (λ f. e.none_new q (e.symmetric_new q p (rw f at k)))
        (λ f. e.none_old p (e.symmetric_old p q (rw f at (e.moved_back y k))))) (e.moved_back y k)

exchange_new : {L M : Relation} {p q : ℕ} → Exchange L M p q → (a b : ℕ) → L a b → M (swap p q a) (swap p q b)
exchange_new {L} {M} {p} {q} e a b l = rw (swap_comm p q a, swap_comm p q b) (exchange_old (exchange_back e) a b l)

-- so an exchange of two blank pads keeps the rules and the pairs
module _ (cell : ℕ → Cell) {L M : Relation} {p q : ℕ} (p_blank : cell p ≡ blank) (q_blank : cell q ≡ blank) (e : Exchange L M p q) where
  stays : (v : ℕ) → cell v ≢ blank → swap p q v ≡ v
  stays v n = swap_else p q v (other_than_blank cell v p n p_blank) (other_than_blank cell v q n q_blank)

  blank_stays : (v : ℕ) → cell v ≡ blank → cell (swap p q v) ≡ blank
  blank_stays v h = by_pad p q v
      (λ f. rw (f, swap_first) q_blank) (λ f. rw (f, swap_second) p_blank) (λ n m. rw (swap_else p q v n m) h)

  pub exchanged : Wired cell L → Wired cell M
  exchanged = renamed cell (swap p q) (swap_twice p q) stays blank_stays (exchange_old e) (exchange_new e)

  pub exchanged_join_same : JoinSame cell L M
  exchanged_join_same = renamed_join_same cell (swap p q) (swap_twice p q) stays blank_stays (exchange_old e) (exchange_new e)
