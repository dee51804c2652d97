-- What the ends rule out, for a drawing wired by the ordinary rules that has all the lines joined so far: where step c would find something
-- against a line, the drawing does not have it. And what they give where every pad is finished: the lines are wired by the ordinary rules.
use Rattle.std.specs.Prelude.{ℕ, ◌≡◌, ◌≢◌, ◌⊎◌, true, false, not, eqb}
use Rattle.std.proofs.Math.Path.{refl}
use Rattle.std.proofs.Common.{sym, ◌∙◌, inl, inr, ⊎_elim, eq-eqb}
use Rattle.std.proofs.Math.Logic.{⊎_map}
use Rattle.std.proofs.Math.Decide.{ℕ_discrete}
use Rattle.rules.specs.Grid.{Cell, blank, clue, hole}
use Rattle.rules.specs.Drawing.{Relation, NoLine, OneLine, TwoLines, Joined, Loop, Wired, here, more}
use Rattle.rules.specs.Places.{zero≢one}
use Rattle.rules.specs.Tests.{not_so}
use Rattle.model.specs.JoinedEnds.{End, is_through, unequal_negative, is_pad, unjoinable, through, at_pad, at_clue}
use Rattle.model.specs.PadTests.{is_clue}
use Rattle.model.specs.BoardLaws.{clue_is_clue, is_through-true, is_pad-true}
use Rattle.rules.specs.Chains.{Symmetric, join_trans, join_sym, join_mono, first_line}
use Rattle.ends.specs.Ends.{Full, PadEnd, Ends, two_lines, one_line}

-- three pads of two are not distinct
pub two_of_three : {a b p q r : ℕ} → (p ≡ a) ⊎ (p ≡ b) → (q ≡ a) ⊎ (q ≡ b) → (r ≡ a) ⊎ (r ≡ b) → p ≢ q → (r ≢ p) → (r ≢ q) → ⊥
two_of_three (inl x) (inl y) z n m k = n (x ∙ sym y)
two_of_three (inr x) (inr y) z n m k = n (x ∙ sym y)
two_of_three (inl x) (inr y) (inl z) n m k = m (z ∙ sym x)
two_of_three (inl x) (inr y) (inr z) n m k = k (z ∙ sym y)
two_of_three (inr x) (inl y) (inl z) n m k = k (z ∙ sym y)
two_of_three (inr x) (inl y) (inr z) n m k = m (z ∙ sym x)

module _ {cell : ℕ → Cell} {L D : Relation} {end : ℕ → End}
    (symm : Symmetric L) (ends : Ends cell L end) (ord : Wired cell D) (sub : (x y : ℕ) → L x y → D x y) (symD : Symmetric D) where
  -- a pad that is no clue has no line or two
  none_or_two : (u : ℕ) → is_clue (cell u) ≡ false → NoLine D u ⊎ TwoLines D u
  none_or_two u no_clue = go (cell u) refl
    where
      go : (C : Cell) → cell u ≡ C → NoLine D u ⊎ TwoLines D u
      go blank e = ord.blank_none_or_two u e
      go hole e = inl (ord.hole_none u e)
      go (clue c) e = clue_is_clue no_clue e

  -- a passed pad takes no line more
  pub no_third : (u v : ℕ) → end u ≡ through → (L u v → ⊥) → D u v → ⊥
  no_third u v t n d = go (ends.through_full u t)
    where
      go : Full cell L u → ⊥
      go (two_lines e w) = ⊎_elim (λ z. z v d)
          (λ (o : TwoLines D u). two_of_three (o.only w.to (sub u w.to w.line)) (o.only w.also_to (sub u w.also_to w.also_line)) (o.only v d)
          w.apart (λ e. n (rw e w.line)) (λ e. n (rw e w.also_line)))
          (none_or_two u e)
      go (one_line c e w) = let o = ord.clue_one u c e in n (rw (o.only v d ∙ sym (o.only w.to (sub u w.to w.line))) w.line)

  -- chains of two codes are not joined
  pub no_clash : (u v c d : ℕ) → end u ≡ at_clue c → end v ≡ at_clue d → c ≢ d → D u v → ⊥
  no_clash u v c d e f n l = let p = ends.clue_end u c e in let q = ends.clue_end v d f in
      n (ord.equal_codes p.pad q.pad c d p.clue_at q.clue_at
      (join_trans (join_mono sub (join_sym symm p.joined)) (more l (join_mono sub q.joined))))

  -- a chain is not closed
  pub no_ring : (u v : ℕ) → u ≢ v → end u ≡ at_pad v → (L u v → ⊥) → D u v → ⊥
  no_ring u v ne e n l = ord.no_loop (Joined L u) (record { pad = u; inside = here; two = λ x j. inner x j (f.others_passed x j) })
    where
      f : PadEnd cell L end u v
      f = ends.pad_end u v e

      inner : (x : ℕ) → Joined L u x → (x ≡ u) ⊎ (x ≡ v) ⊎ (end x ≡ through)
          → (a : ℕ) × (b : ℕ) × (a ≢ b) × Joined L u a × Joined L u b × D x a × D x b
      inner x j (inl p) = let (y, k) = first_line v (λ q. ne (sym q)) f.joined in
          (y, v, (λ q. n (rw q at k)), more k here, f.joined, (rw p (sub u y k)), (rw p l))
      inner x j (inr (inl p)) = let (y, k) = first_line u ne (join_sym symm f.joined) in
          (y, u, (λ q. n (symm v u (rw q at k))), join_trans f.joined (more k here), here, (rw p (sub v y k)), (rw p (symD u v l)))
      inner x j (inr (inr t)) = go (ends.through_full x t)
        where
          go : Full cell L x → (a : ℕ) × (b : ℕ) × (a ≢ b) × Joined L u a × Joined L u b × D x a × D x b
          go (two_lines e w) = (
            w.to,
            w.also_to,
            w.apart,
            join_trans j (more w.line here),
            join_trans j (more w.also_line here),
            sub x w.to w.line,
            sub x w.also_to w.also_line,
          )
          go (one_line c g w) = clue_is_clue (f.no_clue x j) g

  -- so nothing is against a line of the drawing
  module _ (u v : ℕ) (ne : u ≢ v) (n : L u v → ⊥) (d : D u v) where
    not_through_a : end u ≡ through → ⊥
    not_through_a h = no_third u v h n d

    not_through_b : end v ≡ through → ⊥
    not_through_b h = no_third v u h (λ l. n (symm v u l)) (symD u v d)

    not_unequal : (X Y : End) → end u ≡ X → end v ≡ Y → unequal_negative X Y ≡ true → ⊥
    not_unequal through Y p q h = not_through_a p
    not_unequal (at_pad a) Y p q h = zero≢one (cc)
    not_unequal (at_clue c) through p q h = not_through_b q
    not_unequal (at_clue c) (at_pad b) p q h = zero≢one (cc)
    not_unequal (at_clue c) (at_clue x) p q h =
        no_clash u v c x p q (λ y. let k = eq-eqb c x y in let j : not (eqb c x) ≡ false = rw k refl in zero≢one (cc)) d

    not_closing : is_pad (end u) v ≡ true → ⊥
    not_closing h = no_ring u v ne (is_pad-true (end u) v h) n d

    pub nothing_against : unjoinable (end u) (end v) v ≡ false
    unfolding unjoinable
    nothing_against = rw (
      not_so (is_through (end u)) (λ h. not_through_a (is_through-true (end u) h)),
      not_so (is_through (end v)) (λ h. not_through_b (is_through-true (end v) h)),
      not_so (unequal_negative (end u) (end v)) (not_unequal (end u) (end v) refl refl),
      not_so (is_pad (end u) v) not_closing,
    ) refl

-- every pad finished, and no line at a hole: the lines are an ordinary drawing
module _ {cell : ℕ → Cell} {L : Relation} {end : ℕ → End} (ends : Ends cell L end)
    (done : (v : ℕ) → (end v ≡ through) ⊎ ((is_clue (cell v) ≡ false) × NoLine L v)) (no_line_at_holes : (v : ℕ) → cell v ≡ hole → NoLine L v) where
  finished : (v : ℕ) → Full cell L v ⊎ ((is_clue (cell v) ≡ false) × NoLine L v)
  finished v = ⊎_map (ends.through_full v) (λ p. p) (done v)

  module _ (P : ℕ → Type 0) (l : Loop L P) where
    closed : (v y : ℕ) → P v → L v y → P y
    closed v y p k = let (a, b, n, pa, pb, la, lb) = l.two v p in go a b n pa pb la lb (finished v)
      where
        go : (a b : ℕ) → a ≢ b → P a → P b → L v a → L v b → Full cell L v ⊎ ((is_clue (cell v) ≡ false) × NoLine L v) → P y
        go a b n pa pb la lb (inr (e, z)) = absurd (z y k)
        go a b n pa pb la lb (inl (one_line c e o)) = absurd (n (o.only a la ∙ sym (o.only b lb)))
        go a b n pa pb la lb (inl (two_lines e o)) = elim (ℕ_discrete y a) [
          | yes q ↦ rw q pa
          | no q ↦ elim (ℕ_discrete y b)
              [ yes r ↦ rw r pb | no r ↦ absurd (two_of_three (o.only a la) (o.only b lb) (o.only y k) n q r) ]
        ]

    chain : {v y : ℕ} → Joined L v y → P v → P y
    chain here p = p
    chain (more {a = a} {b = b} k j) p = chain j (closed a b p k)

    never : ⊥
    never = let o = ends.loose_pad l.pad in
        let (a, b, n, pa, pb, la, lb) = l.two o.pad (chain o.joined l.inside) in n (o.short a b la lb)

  pub finished_wired : Wired cell L
  finished_wired = record {
    clue_one = λ v c e. ones v c e (finished v);
    blank_none_or_two = λ v e. twos v e (finished v);
    hole_none = no_line_at_holes;
    no_loop = λ P l. never P l;
    equal_codes = ends.equal_codes;
  }
    where
      ones : (v c : ℕ) → cell v ≡ clue c → Full cell L v ⊎ ((is_clue (cell v) ≡ false) × NoLine L v) → OneLine L v
      ones v c e (inl (one_line d f o)) = o
      ones v c e (inl (two_lines f o)) = clue_is_clue f e
      ones v c e (inr (f, z)) = clue_is_clue f e

      twos : (v : ℕ) → cell v ≡ blank → Full cell L v ⊎ ((is_clue (cell v) ≡ false) × NoLine L v) → NoLine L v ⊎ TwoLines L v
      twos v e (inl (one_line d f o)) = zero≢one (cc)
      twos v e (inl (two_lines f o)) = inr o
      twos v e (inr (f, z)) = inl z
