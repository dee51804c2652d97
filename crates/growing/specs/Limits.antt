-- The limits of the runs: the first is that of `routes`, each next one is four times as large, and none is larger than the last, which is reached in the end.
-- And what a text says, as the model's limit (RoutesTo.antt there).
use Rattle.std.specs.Prelude.{Option, Some, None, ℕ, ◌*◌, ◌≤◌, ◌<◌, ◌≡◌, refl}
use Rattle.std.proofs.Common.{arith, le-leb}
use Rattle.std.proofs.Math.Decide.{dec_le}
use Rattle.std.proofs.lemmas.Bool.{lt-leb}
use Rattle.model.specs.Runs.{least}
use Rattle.model.specs.RoutesTo as model
use Rattle.model.specs.Routes.{routes_limit}

-- what a text says
abbrev pub says : Option ℕ → model.Limit
says (Some limit) = model.boards limit
says None = model.no_limit

-- ## The limits of the runs

abbrev pub first_limit : ℕ → ℕ
first_limit limit = least routes_limit limit

abbrev pub times : ℕ
times = 4

abbrev pub next_limit : (reached limit : ℕ) → ℕ
next_limit reached limit = least (reached * times) limit

-- the smaller of two numbers is within the second, and where it is below the second it is the first
smaller : (a b : ℕ) → (least a b ≤ b) × (least a b < b → least a b ≡ a)
smaller a b = elim (dec_le a b) [
  | yes h ↦ rw (le-leb a b h, least) (h, λ below. refl)
  | no h ↦ rw (lt-leb a b (omega (arith, h)), least) (omega arith, λ below. absurd (omega (arith, below)))
]

-- a limit that has been reached: it is the last one, or has at least the boards of the first
pub record Reached (reached limit : ℕ) : Type 0 where
  pub within : reached ≤ limit
  pub some : reached < limit → routes_limit ≤ reached

pub first_reached : (limit : ℕ) → Reached (first_limit limit) limit
first_reached limit = let (within, own) = smaller routes_limit limit in record { within = within; some = λ below. omega (arith, own below) }

-- the next one is larger, as long as the last is not reached
pub next_reached : (reached limit : ℕ) → Reached reached limit → reached < limit → (reached < next_limit reached limit) × Reached (next_limit reached limit) limit
next_reached reached limit so_far below =
    let (within, own) = smaller (reached * times) limit in
    let many = so_far.some below in
    (grind (arith, within, own, many), record { within = within; some = λ below'. omega (arith, own below', many) })
