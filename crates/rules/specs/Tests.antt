-- Small laws of tests: what `and` and `or` tell of their parts and what the parts tell of them, that no test is both true and false, and a
-- test of every number below a bound; and the number of a test. It rests on the library and on `num` of Drawing.antt.
use Rattle.std.specs.Prelude.{ℕ, zero, suc, ◌≤◌, ◌<◌, ◌≡◌, refl, ◌⊎◌, Bool, true, false, ◌&&◌, ◌||◌}
use Rattle.std.proofs.Common.{sym, ◌∙◌, inl, inr, true≢false, arith}
use Rattle.std.proofs.lemmas.Bool.{false≢true}
use Rattle.std.proofs.Math.Decide.{ℕ_discrete}
use Rattle.rules.specs.Drawing.{num}

-- both of two tests
pub both : (a b : Bool) → a && b ≡ true → (a ≡ true) × (b ≡ true)
both true b h = (refl, h)
both false b h = absurd (false≢true h)

pub both_on : {a b : Bool} → a ≡ true → b ≡ true → a && b ≡ true
both_on h k = rw (h, k) refl

pub both_off : (a b : Bool) → b ≡ false → a && b ≡ false
both_off true b h = h
both_off false b h = refl

pub second_off : (a b : Bool) → a && b ≡ false → a ≡ true → b ≡ false
second_off true b h k = h
second_off false b h k = absurd (false≢true k)

-- one of two tests, and neither
pub either : (a b : Bool) → a || b ≡ true → (a ≡ true) ⊎ (b ≡ true)
either true b h = inl refl
either false b h = inr h

pub either_on : (a b : Bool) → (a ≡ true) ⊎ (b ≡ true) → a || b ≡ true
either_on true b h = refl
either_on false b (inl h) = absurd (false≢true h)
either_on false b (inr h) = h

pub neither : (a b : Bool) → a || b ≡ false → (a ≡ false) × (b ≡ false)
neither true b h = absurd (true≢false h)
neither false b h = (refl, h)

-- a test is not both true and false, and it is one of them
pub conflict : {b : Bool} {A : Type 0} → b ≡ true → b ≡ false → A
conflict h k = absurd (true≢false (sym h ∙ k))

pub not_so : (b : Bool) → (b ≡ true → ⊥) → b ≡ false
not_so true h = absurd (h refl)
not_so false h = refl

pub is_so : (b : Bool) → (b ≡ false → ⊥) → b ≡ true
is_so true h = refl
is_so false h = absurd (h refl)

-- a test of every number below n
unfoldable pub all_below : (ℕ → Bool) → ℕ → Bool
all_below test zero = true
all_below test (suc n) = all_below test n && test n

pub all_below_at : (test : ℕ → Bool) (n : ℕ) → all_below test n ≡ true → (v : ℕ) → v < n → test v ≡ true
unfolding all_below
all_below_at test zero h v l = absurd (omega arith)
all_below_at test (suc n) h v l = elim (ℕ_discrete v n)
    [ yes e ↦ rw e (both (all_below test n) (test n) h).1 | no ne ↦ all_below_at test n (both (all_below test n) (test n) h).0 v (omega arith) ]

pub all_below_so : (test : ℕ → Bool) (n : ℕ) → ((v : ℕ) → v < n → test v ≡ true) → all_below test n ≡ true
unfolding all_below
all_below_so test zero so = refl
all_below_so test (suc n) so = both_on (all_below_so test n (λ v l. so v (omega arith))) (so n (omega arith))

-- the number of a test is 0 or 1, and 0 only where it fails
pub num_small : (b : Bool) → num b ≤ 1
num_small true = omega arith
num_small false = omega arith

pub num_none : (b : Bool) → num b ≡ 0 → b ≡ false
num_none true h = absurd (omega arith)
num_none false h = refl
