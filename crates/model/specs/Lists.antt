-- Laws of lists that the library does not have.
use Rattle.std.specs.Prelude.{◌≡◌, refl, List, [], ◌∷◌, ℕ, zero, suc, ◌-◌, ◌<◌, get_or, length, drop, replicate}
use Rattle.std.proofs.Common.{sym, ap, ◌∙◌, not-suc-le-zero, le_of_suc-le-suc}
use Rattle.std.proofs.Math.Nat.{sub-zero, zero-sub, suc-sub-suc}

pub drop_replicate : {A : Type 0} (x : A) (n size : ℕ) → drop n (replicate size x) ≡ replicate (size - n) x
drop_replicate x zero size = ap (λ (k : ℕ). replicate k x) (sym (sub-zero size))
drop_replicate x (suc n) zero = ap (λ (k : ℕ). replicate k x) (sym (zero-sub (suc n)))
drop_replicate x (suc n) (suc size) = drop_replicate x n size ∙ ap (λ (k : ℕ). replicate k x) (sym (suc-sub-suc size n))

-- what stands in a list is the same, whatever would stand past its end
pub default_free : {A : Type 0} (l : List A) (i : ℕ) (a b : A) → i < length l → get_or l i a ≡ get_or l i b
default_free [] i a b h = absurd (not-suc-le-zero h)
default_free (x ∷ xs) zero a b h = refl
default_free (x ∷ xs) (suc i) a b h = default_free xs i a b (le_of_suc-le-suc h)
