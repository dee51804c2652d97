-- Laws of the bytes of two buffers that are the same, and of a test that tells a fact. Assumes nothing.
use Rattle.std.specs.Prelude.{ℕ, ◌≤◌, ◌<◌, ◌≡◌, refl, Bool, true, false, ◌↔◌, List, length, take, get_or}
use Rattle.std.proofs.Common.{arith, sym, ap, ◌∙◌, length-take-le, get_or-take, ext_get_or}
use Rattle.engines.specs.Equal.{SameBytes}

-- ## A test that tells a fact

pub never : false ≡ true → ⊥
never e = let z : ◌≡◌ {A = ℕ} 0 1 = cc in omega arith

pub confirmed : {P : Type 0} → P → (true ≡ true) ↔ P
confirmed p = ((λ e. p), (λ q. refl))

pub refuted : {P : Type 0} → (P → ⊥) → (false ≡ true) ↔ P
refuted n = ((λ e. absurd (never e)), (λ p. absurd (n p)))

pub told_false : {P : Type 0} {test : Bool} → (test ≡ true) ↔ P → test ≡ false → P → ⊥
told_false tells is_false p = never (sym is_false ∙ tells.1 p)

pub told_true : {P : Type 0} {test : Bool} → (test ≡ true) ↔ P → test ≡ true → P
told_true tells is_true = tells.0 is_true

-- ## Bytes

pub first_too_short : {count : ℕ} {first second : List ℕ} → length first < count → SameBytes count first second → ⊥
first_too_short short s = omega (arith, s.in_first)

pub second_too_short : {count : ℕ} {first second : List ℕ} → length second < count → SameBytes count first second → ⊥
second_too_short short s = omega (arith, s.in_second)

-- two bytes differ
pub byte_differs : {count : ℕ} {first second : List ℕ} (i : ℕ) → i < count → (get_or first i 0 ≡ get_or second i 0 → ⊥) → SameBytes count first second → ⊥
byte_differs {count} {first} {second} i below differ s =
    differ (sym (get_or-take count first i 0 below) ∙ ap (λ (l : List ℕ). get_or l i 0) s.same ∙ get_or-take count second i 0 below)

-- all are the same
pub bytes_same : (count : ℕ) (first second : List ℕ) → count ≤ length first → count ≤ length second
    → ((i : ℕ) → i < count → get_or first i 0 ≡ get_or second i 0) → SameBytes count first second
bytes_same count first second in_first in_second same = record {
  in_first = in_first;
  in_second = in_second;
  same = ext_get_or 0 (take count first) (take count second) (length-take-le count first in_first ∙ sym (length-take-le count second in_second))
      (λ i inside. let below : i < count = (let k = length-take-le count first in_first in omega arith) in
      get_or-take count first i 0 below ∙ same i below ∙ sym (get_or-take count second i 0 below));
}
