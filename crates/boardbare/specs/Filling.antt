-- How a list is filled from its end: one law, for every loop that goes down. It rests on BareArrays.antt.
use Rattle.std.specs.Prelude.{ℕ, suc, ◌+◌, ◌-◌, ◌≤◌, ◌<◌, ◌≡◌, refl, Bool, true, false, List, eqb, get_or, set, replicate}
use Rattle.std.proofs.Common.{◌∙◌, arith, length-set, get_or-set_same, get_or-set_other, eqb-true}
use Rattle.std.proofs.lemmas.List.{length-replicate, get_or-replicate}
use Rattle.std.proofs.lemmas.Bool.{eqb-false}
use Rattle.boardbare.specs.BareArrays.{Filled}

pub zero_left : (n : ℕ) → n ≤ 0 → n ≡ 0
zero_left n h = omega arith

pub one_more : (n : ℕ) → 0 < n → n ≡ suc (n - 1)
one_more n h = omega arith

pub one_back : (n : ℕ) → 0 < n → n - 1 + 1 ≡ n
one_back n h = omega arith

-- one more is filled
pub filled_more : {A : Type 0} {f : ℕ → A} {rest : A} {long size : ℕ} (after start : ℕ) {l : List A} {a : A} → start + 1 ≡ after → start < long → a ≡ f start
    → Filled f rest long size after l → Filled f rest long size start (set l start a)
filled_more {f = f} {rest = rest} {size = size} after start {l = l} {a = a} next h same filled = record {
  as_long = length-set l start a ∙ filled.as_long;
  holds = λ i low high. go i low high (eqb i start) refl;
}
  where
    go : (i : ℕ) → start ≤ i → i < size → (b : Bool) → eqb i start ≡ b → get_or (set l start a) i rest ≡ f i
    go i low high true e = rw (eqb-true i start e) (get_or-set_same l start a rest (omega (arith, filled.as_long)) ∙ same)
    go i low high false e = get_or-set_other l start i a rest (eqb-false i start e) ∙ filled.holds i (omega (arith, eqb-false i start e)) high

-- all the same, where f says so from there on
pub filled_same : {A : Type 0} (f : ℕ → A) (rest : A) (long size start : ℕ) → size ≤ long → ((i : ℕ) → start ≤ i → i < size → rest ≡ f i)
    → Filled f rest long size start (replicate long rest)
filled_same f rest long size start h same = record {
  as_long = length-replicate long rest;
  holds = λ i low high. get_or-replicate long i rest rest (omega arith) ∙ same i low high;
}
