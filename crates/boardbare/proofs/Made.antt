-- Of `array::from_fn`: where each call of the closure keeps what it has captured and gives the value of its index, the array holds at each
-- index the value of that index. It rests on the kit's account of arrays.
use Rattle.std.specs.Prelude.{ℕ, zero, suc, ◌+◌, ◌≤◌, ◌<◌, ◌≡◌, refl, Bool, true, false, List, eqb, get_or}
use Rattle.std.proofs.Common.{◌∙◌, arith, eqb-true}
use Rattle.std.proofs.lemmas.Bool.{eqb-false}
use Rattle.std.specs.Array.{IsFromFnResult, IsFromFnResultFrom}
use denote.Param.Members.{Mut, Called}

module _ {F B : Type 0} {g : Mut F (ℕ × Unit {0}) B} (Keeps : F → Type 0) (value : ℕ → B)
    (call : (p q : F) (i : ℕ) (y : B) → Keeps p → Called g p (i, tt) y q → (y ≡ value i) × Keeps q) where
  from : (ys : List B) (d : B) (f : F) (i n k : ℕ) → Keeps f → IsFromFnResultFrom g f ys i n → i ≤ k → k < i + n → get_or ys k d ≡ value k
  from ys d f i zero k kept made low high = absurd (omega arith)
  from ys d f i (suc n) k kept (q, y, here, called, rest) low high = go (eqb k i) refl (λ (l : i + 1 ≤ k). from ys d q (i + 1) n k one.1 rest l (omega arith))
    where
      one : (y ≡ value i) × Keeps q
      one = call f q i y kept called

      go : (b : Bool) → eqb k i ≡ b → (i + 1 ≤ k → get_or ys k d ≡ value k) → get_or ys k d ≡ value k
      go true e more = rw (eqb-true k i e) (here.1 d ∙ one.0)
      go false e more = more (omega (arith, eqb-false k i e))

pub made_by : {F B : Type 0} {g : Mut F (ℕ × Unit {0}) B} {f : F} {ys : List B} {n : ℕ} → IsFromFnResult g f ys n → (Keeps : F → Type 0) (value : ℕ → B) → Keeps f
    → ((p q : F) (i : ℕ) (y : B) → Keeps p → Called g p (i, tt) y q → (y ≡ value i) × Keeps q)
    → (k : ℕ) (d : B) → k < n → get_or ys k d ≡ value k
made_by {f = f} {ys = ys} {n = n} made Keeps value kept call k d h = from Keeps value call ys d f 0 n k kept made.each (omega arith) (omega arith)
