-- The ends as the model stores them: the functions of step c do what EndsKept.antt asks of the new ends, so where nothing is against a line
-- the joined ends say what they should; and so do the ends where there is no line, each clue at its code and each other pad its own end.
use Rattle.std.specs.Prelude.{ℕ, ◌≡◌, refl, ◌≢◌, ◌⊎◌, false, not, eqb}
use Rattle.std.proofs.Common.{sym, ◌∙◌, ap, inl, inr, ⊎_elim, eqb-true}
use Rattle.std.proofs.lemmas.Bool.{eqb-false, not-false}
use Rattle.rules.specs.Grid.{Cell, blank, clue, hole}
use Rattle.rules.specs.Drawing.{Relation, Joined, here, more}
use Rattle.rules.specs.Places.{zero≢one}
use Rattle.rules.specs.Tests.{neither}
use Rattle.rules.specs.Chains.{Symmetric}
use Rattle.model.specs.JoinedEnds.{End, is_through, unequal_negative, is_pad, unjoinable, put_end, put_end_at, joined_ends, through, at_pad, at_clue}
use Rattle.model.specs.PadTests.{is_clue}
use Rattle.model.specs.BoardLaws.{same_pad, put_same, put_other, put_at_same, put_at_other}
use Rattle.ends.specs.Ends.{Ends, Added, Stored, other_room, clue_room}
use Rattle.ends.specs.EndsKept.{stored_ends}

pub stored : (end : ℕ → End) (u v : ℕ) (A B : End) → u ≢ v → A ≢ at_pad v → B ≢ at_pad u
    → ((x : ℕ) → A ≡ at_pad x → B ≡ at_pad x → ⊥) → Stored end (joined_ends end u v A B) u v A B
unfolding joined_ends
stored end u v A B ne na nb both = record {
  pad_a = λ a e. put_at_other g B A a (both a e) ∙ put_at_same h A B a e;
  pad_b = λ b e. put_at_same g B A b e;
  pad_u = λ n. put_at_other g B A u nb ∙ put_at_other h A B u n ∙ put_other k v through u ne ∙ put_same end u through u refl;
  pad_v = λ n. put_at_other g B A v n ∙ put_at_other h A B v na ∙ put_same k v through v refl;
  others = λ x p q f f'. put_at_other g B A x f' ∙ put_at_other h A B x f ∙ put_other k v through x q ∙ put_other end u through x p;
}
  where
    k : ℕ → End
    k = put_end end u through

    h : ℕ → End
    h = put_end k v through

    g : ℕ → End
    g = put_end_at h A B

-- where nothing is against a line between u and v, the joined ends say what they should
module _ {cell : ℕ → Cell} {L M : Relation} {end : ℕ → End} (u v : ℕ) (both_ways : Symmetric L) (ends : Ends cell L end) (added : Added L M u v)
    (apart : u ≢ v) (no_line_yet : L u v → ⊥) (joinable : unjoinable (end u) (end v) v ≡ false) where
  record Joinable : Type 0 where
    not_through_a : is_through (end u) ≡ false
    not_through_b : is_through (end v) ≡ false
    equal_codes : unequal_negative (end u) (end v) ≡ false
    not_closing : is_pad (end u) v ≡ false

  tests : Joinable
  unfolding unjoinable
  tests = let (a, b) = neither _ _ joinable in let (c, d) = neither _ _ b in let (x, y) = neither _ _ d in
      record { not_through_a = a; not_through_b = c; equal_codes = x; not_closing = y }

  not_through : (X : End) → is_through X ≡ false → X ≢ through
  not_through X h p = let k = ap is_through p in zero≢one (cc)

  not_that_pad : (X : End) (w : ℕ) → is_pad X w ≡ false → X ≢ at_pad w
  not_that_pad X w h p = let k : eqb w w ≡ false = sym (ap (λ Y. is_pad Y w) p) ∙ h in eqb-false w w k refl

  one_code : (X Y : End) → unequal_negative X Y ≡ false → (c d : ℕ) → X ≡ at_clue c → Y ≡ at_clue d → c ≡ d
  one_code X Y h c d p q = let k : not (eqb c d) ≡ false = rw (p, q) at h in eqb-true c d (not-false (eqb c d) k)

  pub joined_say : Ends cell M (joined_ends end u v (end u) (end v))
  joined_say = stored_ends (record {
    both_ways = both_ways;
    ends = ends;
    added = added;
    stored = stored end u v (end u) (end v) apart not_b
        (λ p. not_b (ends.pad_end _ _ p).back) (λ x p q. apart (same_pad (sym (ends.pad_end _ _ p).back ∙ (ends.pad_end _ _ q).back)));
    at_u = refl;
    at_v = refl;
    a_not_through = not_through (end u) tests.not_through_a;
    b_not_through = not_through (end v) tests.not_through_b;
    apart = apart;
    no_line_yet = no_line_yet;
    not_closing = not_b;
    one_code = one_code (end u) (end v) tests.equal_codes;
  })
    where
      not_b : end u ≢ at_pad v
      not_b = not_that_pad (end u) v tests.not_closing

view : (C : Cell) → (is_clue C ≡ false) ⊎ ((c : ℕ) × (C ≡ clue c))
view blank = inl refl
view hole = inl refl
view (clue c) = inr (c, refl)

-- no line yet: each clue's end is its code, each other pad is its own end
module _ (cell : ℕ → Cell) (M : Relation) (empty : (x y : ℕ) → M x y → ⊥) (end : ℕ → End)
    (eb : (v : ℕ) → is_clue (cell v) ≡ false → end v ≡ at_pad v) (ec : (v c : ℕ) → cell v ≡ clue c → end v ≡ at_clue c) where
  nowhere : {a b : ℕ} → Joined M a b → b ≡ a
  nowhere here = refl
  nowhere (more {a = a} {b = b} l j) = absurd (empty a b l)

  pub bare_ends : Ends cell M end
  bare_ends = record {
    through_full = λ v e. ⊎_elim (λ b. let h = eb v b in zero≢one (cc)) (λ (c, b). let h = ec v c b in zero≢one (cc)) (view (cell v));
    else_room = λ v n. ⊎_elim (λ b. other_room b (λ x y l. absurd (empty v x l))) (λ (c, b). clue_room c b (λ x l. empty v x l)) (view (cell v));
    alone = λ v e a l. empty v a l;
    pad_end = λ v w e. ⊎_elim
        (λ b. let h : w ≡ v = same_pad (sym e ∙ eb v b) in record
        { joined = rw h here; back = rw h (eb v b); no_clue = λ x j. ap (λ u. is_clue (cell u)) (nowhere j) ∙ b; others_passed = λ x j. inl (nowhere j) })
        (λ (c, b). let h = ec v c b in zero≢one (cc)) (view (cell v));
    clue_end = λ v c e. ⊎_elim
        (λ b. let h = eb v b in zero≢one (cc))
        (λ (d, b). let h = ec v d b in record
        { pad = v; joined = here; clue_at = let g : d ≡ c = cc in b ∙ ap clue g; others_passed = λ x j. inl (nowhere j) }) (view (cell v));
    loose_pad = λ v. record { pad = v; joined = here; short = λ a b l. absurd (empty v a l) };
    equal_codes = λ u v c d e f j. let h = nowhere j in cc;
  }
