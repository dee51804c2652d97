-- The last act of a pad check: it sets the flag, or decides the first undecided edge, or leaves a pad that is at rest already. In each case
-- the pad is at rest afterwards, if the flag is clear.
use Prim.Native.Nat.{ℕ, ◌≤◌, ◌<◌}
use Rattle.std.specs.Prelude.{◌≡◌, ◌≢◌, ◌⊎◌, Bool, true, false, ◌&&◌, ◌||◌, ltb}
use Rattle.std.proofs.Math.Path.{refl}
use Rattle.std.proofs.Common.{inl, inr, ⊎_elim, arith, eq-eqb, eqb-true, leb-false, leb-true, ltb-false}
use mathlib.Core.List.{List, [], ◌∷◌, Memᴰ}
use Rattle.std.proofs.Math.Decide.{ℕ_discrete}
use Rattle.std.proofs.lemmas.Bool.{eqb-false}
use Rattle.std.proofs.Math.Dec.{eqb, leb}
use Rattle.rules.specs.Grid.{Edge, first, second, Grid}
use Rattle.rules.specs.Places.{zero≢one}
use Rattle.rules.specs.Tests.{second_off, either, neither}
use Rattle.model.specs.Board.{EdgeState, is_undecided, State, set_flag, undecideds, Decide, decide_first, line_or_none, around, degree, settled}
use Rattle.propagation.specs.Edges.{line_or_none_decided}
use Rattle.propagation.specs.Objects.{AtRest, Geometry}
use Rattle.propagation.specs.Items.{Onward, onward_refl, onward_flag}

one_and_none : (d n : ℕ) → (eqb d 1 && eqb n 0) ≡ false → n ≡ 0 → d ≢ 1
one_and_none d n h e f = eqb-false n 0 (second_off (eqb d 1) (eqb n 0) h (eq-eqb d 1 f)) e

-- neither test of the model applies: at rest
untouched : (d n : ℕ) → (ltb 2 d || (eqb d 1 && eqb n 0)) ≡ false → (eqb n 1 || leb 2 d) ≡ false
    → ((n ≡ 0) × ((d ≡ 0) ⊎ (d ≡ 2))) ⊎ ((2 ≤ n) × (d ≤ 1))
untouched d n h k =
    let (k1, k2) = neither (eqb n 1) (leb 2 d) k in
    let n1 : n ≢ 1 = eqb-false n 1 k1 in
    let d2 : d < 2 = leb-false 2 d k2 in
    elim (ℕ_discrete n 0) [
      | yes e ↦ inl (e, inl (let m = one_and_none d n (neither (ltb 2 d) (eqb d 1 && eqb n 0) h).1 e in omega arith))
      | no ne ↦ inr ((omega arith), (omega arith))
    ]

-- nothing is undecided though the second test applies: the degree is 2
nothing_left : (d n : ℕ) → (ltb 2 d || (eqb d 1 && eqb n 0)) ≡ false → (eqb n 1 || leb 2 d) ≡ true → n ≡ 0 → d ≡ 2
nothing_left d n h k e =
    let h1 : d ≤ 2 = ltb-false 2 d (neither (ltb 2 d) (eqb d 1 && eqb n 0) h).0 in
    ⊎_elim (λ t. let q : n ≡ 1 = eqb-true n 1 t in absurd (omega arith))
    (λ t. let q : 2 ≤ d = leb-true 2 d t in omega arith) (either (eqb n 1) (leb 2 d) k)

-- THE FIRST UNDECIDED EDGE of a list, if there is one
pub record FirstUndecided (dec : Decide) (m : EdgeState) (l : List (Edge × ℕ)) (S : State) : Type 0 where
  pub at : Edge × ℕ
  pub member : Memᴰ at l
  pub undecided_there : is_undecided (S.edge at.0) ≡ true
  pub decides_it : decide_first dec m l S ≡ dec at.0 m S

pub find_first : (dec : Decide) (m : EdgeState) (l : List (Edge × ℕ)) (S : State)
    → FirstUndecided dec m l S ⊎ ((undecideds S l ≡ 0) × (decide_first dec m l S ≡ S))
unfolding decide_first undecideds
find_first dec m [] S = inr (refl, refl)
find_first dec m (p ∷ l) S = go (is_undecided (S.edge p.0)) refl (find_first dec m l S)
  where
    go : (b : Bool) → is_undecided (S.edge p.0) ≡ b → FirstUndecided dec m l S ⊎ ((undecideds S l ≡ 0) × (decide_first dec m l S ≡ S))
        → FirstUndecided dec m (p ∷ l) S ⊎ ((undecideds S (p ∷ l) ≡ 0) × (decide_first dec m (p ∷ l) S ≡ S))
    go true h r = inl (record { at = p; member = Memᴰ.head refl; undecided_there = h; decides_it = rw (h, decide_first) })
    go false h (inl o) = inl (record { at = o.at; member = Memᴰ.tail o.member; undecided_there = o.undecided_there; decides_it = rw (h, decide_first) o.decides_it })
    go false h (inr (n, e)) = inr ((rw (h, undecideds) (omega arith)), (rw (h, decide_first) e))

-- WHAT A DECISION KEEPS AND MAKES
abbrev pub PadOf : Grid → Edge → ℕ → Type 0
PadOf g e v = (first e ≡ v) ⊎ (second g.width e ≡ v)

pub record DecideKeeps (g : Grid) (dec : Decide) : Type 0 where
  pub goes_onward : (e : Edge) (m : EdgeState) (S : State) → is_undecided m ≡ false → Onward g S (dec e m S)
  pub sets : (e : Edge) (m : EdgeState) (S : State) → is_undecided m ≡ false → (dec e m S).flag ≡ false → (dec e m S).edge e ≡ m
  -- both pads of an edge that was undecided are at rest after it
  pub pads_rest : (e : Edge) (m : EdgeState) (S : State) (v : ℕ) → is_undecided m ≡ false → is_undecided (S.edge e) ≡ true → PadOf g e v → (dec e m S).flag ≡ false → AtRest g (dec e m S) v

module _ (g : Grid) (geo : Geometry g) (dec : Decide) (keeps : DecideKeeps g dec) where
  abbrev Settled : ℕ → State → State → Type 0
  Settled v S R = Onward g S R × (R.flag ≡ false → AtRest g R v)

  rest_of : (S : State) (v d n : ℕ) → degree g S v ≡ d → undecideds S (around g v) ≡ n → ((n ≡ 0) × ((d ≡ 0) ⊎ (d ≡ 2))) ⊎ ((2 ≤ n) × (d ≤ 1)) → AtRest g S v
  unfolding AtRest
  rest_of S v d n e f q = rw (e, f) q

  pub settle_keeps : (v : ℕ) (S : State) → Settled v S (settled g dec v S)
  unfolding settled set_flag
  settle_keeps v S = go (ltb 2 d || (eqb d 1 && eqb n 0)) refl (eqb n 1 || leb 2 d) refl
    where
      d : ℕ
      d = degree g S v

      n : ℕ
      n = undecideds S (around g v)

      go : (a : Bool) → (ltb 2 d || (eqb d 1 && eqb n 0)) ≡ a → (b : Bool) → (eqb n 1 || leb 2 d) ≡ b → Settled v S (settled g dec v S)
      go true h b k = rw (h, settled) (onward_flag g S, λ z. zero≢one (cc))
      go false h false k = rw (h, settled) (rw k (onward_refl g S, λ z. rest_of S v d n refl refl (untouched d n h k)))
      go false h true k = rw (h, settled) (rw k (⊎_elim
          (λ (o : FirstUndecided dec (line_or_none (eqb d 1)) (around g v) S). rw o.decides_it (
            keeps.goes_onward o.at.0 (line_or_none (eqb d 1)) S (line_or_none_decided (eqb d 1)),
            keeps.pads_rest o.at.0 (line_or_none (eqb d 1)) S v (line_or_none_decided (eqb d 1)) o.undecided_there (geo.near v o.at o.member),
          ))
          (λ (z, e). rw e (onward_refl g S, λ y. rest_of S v d n refl refl (inl (z, inr (nothing_left d n h k z)))))
          (find_first dec (line_or_none (eqb d 1)) (around g v) S)))
