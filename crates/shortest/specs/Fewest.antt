-- The fewest lines of some things, and when two kinds of things have the same fewest: where each of the one kind has one of the other
-- kind with as many lines, and each of the other kind one of the first with no more.
use Rattle.std.specs.Prelude.{ℕ, ◌≤◌, ◌≡◌, ◌↔◌}
use Rattle.std.proofs.Common.{◌∙◌, arith}

-- n is the fewest lines of the things among which it is asked for: one of them has n, and none has fewer
pub record Fewest {ℓ} {A : Type 0} (lines : A → ℕ) (Among : A → Type ℓ) (n : ℕ) : Type ℓ where
  pub one : A
  pub among : Among one
  pub attained : lines one ≡ n
  pub least : (other : A) → Among other → n ≤ lines other

module _ {A B : Type 0} (lines_a : A → ℕ) (AmongA : A → Type 0) (lines_b : B → ℕ) (AmongB : B → Type 1)
    (as_many : (a : A) → AmongA a → (b : B) × AmongB b × (lines_b b ≡ lines_a a))
    (no_more : (b : B) → AmongB b → (a : A) × AmongA a × (lines_a a ≤ lines_b b)) where
  pub same_fewest : (n : ℕ) → Fewest lines_a AmongA n ↔ Fewest lines_b AmongB n
  same_fewest n = (to_b, to_a)
    where
      to_b : Fewest lines_a AmongA n → Fewest lines_b AmongB n
      to_b f = let (b, in_b, e) = as_many f.one f.among in record {
        one = b;
        among = in_b;
        attained = e ∙ f.attained;
        least = λ other in_other. let (a, in_a, l) = no_more other in_other in omega (arith, l, f.least a in_a);
      }

      to_a : Fewest lines_b AmongB n → Fewest lines_a AmongA n
      to_a f = let (a, in_a, l) = no_more f.one f.among in let (b, in_b, e) = as_many a in_a in record {
        one = a;
        among = in_a;
        attained = omega (arith, l, e, f.attained, f.least b in_b);
        least = λ other in_other. let (b, in_b, e) = as_many other in_other in omega (arith, e, f.least b in_b);
      }
