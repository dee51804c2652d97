-- What is said of an engine, any call that counts into a tally and writes into a buffer, where both are lent to it. What it asks and what it
-- says are its own, and left open here. Assumes nothing.
use Rattle.std.specs.Prelude.{ℕ, ◌≡◌, List, Result}
use Rattle.std.specs.Fn.{Once}
use denote.Ref.{MutBor}
use Rattle.tally.specs.declared.Stop.{Stop}
use Rattle.tally.specs.declared.Tally.{Tally}

-- what an engine takes, and what it gives back: how its run ended, and the two loans
abbrev pub Loans : Type 0
Loans = MutBor Tally × (MutBor (List ℕ) × Unit {0})

abbrev pub Engine : Type 0 → Type 1
Engine F = Once F Loans (Result Unit Stop × Loans)

-- it may be run over this tally and this buffer
abbrev pub Asks : {F : Type 0} → Engine F → F → Tally → List ℕ → Type 0
Asks g f t buffer = (tally : MutBor Tally) (bytes : MutBor (List ℕ)) → tally.now ≡ t → bytes.now ≡ buffer → g.pre f (tally, (bytes, tt))

-- run over this tally and this buffer, it may end with this outcome, and leave these
pub record Says {F : Type 0} (g : Engine F) (f : F) (t : Tally) (buffer : List ℕ) (outcome : Result Unit Stop) (t' : Tally) (buffer' : List ℕ) : Type 0 where
  pub lent : Loans
  pub lends : (lent.0.now ≡ t) × (lent.1.0.now ≡ buffer)
  pub left : Loans
  pub met : g.post f lent (outcome, left)
  pub leaves : (left.0.now ≡ t') × (left.1.0.now ≡ buffer')
