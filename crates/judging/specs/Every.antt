-- A test of every number below a bound, as a chain over the numbers makes it, is the rules' `all_below`. It rests on the rules' Tests.antt.
use Rattle.std.specs.Prelude.{ℕ, zero, suc, ◌+◌, ◌≤◌, ◌<◌, ◌≡◌, refl, Bool, true, false}
use Rattle.std.proofs.Common.{sym, arith}
use Rattle.std.proofs.Math.Decide.{ℕ_discrete}
use Rattle.std.specs.List.{list_all, range_with_len}
use Rattle.rules.specs.Tests.{both, both_on, all_below, all_below_at, all_below_so}

-- two tests that follow from each other are one
pub same_truth : (a b : Bool) → (a ≡ true → b ≡ true) → (b ≡ true → a ≡ true) → a ≡ b
same_truth true b to from = sym (to refl)
same_truth false true to from = from refl
same_truth false false to from = refl

module _ (test : ℕ → Bool) where
  each : (a n : ℕ) → list_all test (range_with_len a n) ≡ true → (i : ℕ) → a ≤ i → i < a + n → test i ≡ true
  each a zero h i low high = absurd (omega arith)
  each a (suc n) h i low high = elim (ℕ_discrete i a)
      [ yes e ↦ rw e (both (test a) _ h).0 | no ne ↦ each (a + 1) n (both (test a) _ h).1 i (omega arith) (omega arith) ]

  so_all : (a n : ℕ) → ((i : ℕ) → a ≤ i → i < a + n → test i ≡ true) → list_all test (range_with_len a n) ≡ true
  so_all a zero so = refl
  so_all a (suc n) so = both_on (so a (omega arith) (omega arith)) (so_all (a + 1) n (λ i low high. so i (omega arith) (omega arith)))

  pub every_number : (n : ℕ) → list_all test (range_with_len 0 n) ≡ all_below test n
  every_number n = same_truth _ _ (λ h. all_below_so test n (λ v l. each 0 n h v (omega arith) (omega arith))) (λ h. so_all 0 n (λ i low high. all_below_at test n h i (omega arith)))
