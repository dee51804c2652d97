-- What the walk promises: what it begins with, and how far it has come when it returns. The contracts of `give` and `walk_on` cite these. Nothing is
-- proved here.
use Rattle.std.specs.Prelude.{ℕ, ◌+◌, ◌*◌, ◌-◌, ◌%◌, ◌/◌, ◌≤◌, ◌≡◌, Bool, List, eqb, length}
use Rattle.rules.specs.Grid.{Grid, pads, places}
use Rattle.rules.specs.Drawing.{Drawing}
use Rattle.model.specs.Runs.{Event}
use Rattle.model.specs.Walk.{give, walk_on}
use Rattle.runs.specs.Progress.{Progress, advance}
use Rattle.runs.specs.Turns.{turns_left}
use Rattle.walking.specs.Given.{Shows}

-- a record of a grid's size, and room for the layouts so far
pub record Begun (height width : ℕ) (bytes : List ℕ) (layouts : ℕ) (buffer : List ℕ) : Type 0 where
  pub long : length bytes ≡ places height width
  pub inside : layouts * places height width ≤ length buffer

-- WALKED: for every drawing whose codes before v the record showed, the progress has advanced over these events, and the record still shows them
pub record Walked (g : Grid) (limit v : ℕ) (events : Drawing → List Event) (bytes : List ℕ) (P : Progress) (bytes' : List ℕ) (P' : Progress) : Type 0 where
  pub advanced : (D : Drawing) → Shows g D v bytes → P' ≡ advance limit (places g.height g.width) P (events D)
  pub still_shown : (D : Drawing) → Shows g D v bytes → Shows g D v bytes'
  pub same_size : length bytes' ≡ length bytes
  pub inside : P'.used ≤ length P'.buffer
  pub same_length : length P'.buffer ≡ length P.buffer

-- what follows a code at pad v: the walk from the next pad on
abbrev pub from_next : Grid → ℕ → Drawing → List Event
from_next g v D = walk_on g (pads g - (v + 1)) (v + 1) D

-- one code at a pad
abbrev pub Gave : Grid → ℕ → ℕ → Bool → Bool → List ℕ → Progress → List ℕ → Progress → Type 0
Gave g limit v go_right go_down = Walked g limit v (λ D. give g (from_next g v) v D go_right go_down)

-- all of a pad
abbrev pub WalkedOn : Grid → ℕ → ℕ → List ℕ → Progress → List ℕ → Progress → Type 0
WalkedOn g limit v = Walked g limit v (λ D. walk_on g (pads g - v) v D)

-- the events of so many codes m from one on: right = m mod 2, down = m div 2
abbrev pub codes_left : Grid → ℕ → Drawing → ℕ → ℕ → List Event
codes_left g v D more m = turns_left (λ k. give g (from_next g v) v D (eqb (k % 2) 1) (eqb (k / 2) 1)) more m

-- within a pad: so many codes have been tried since the progress was P, it is now Q, and these are left
pub record Going (g : Grid) (limit v : ℕ) (more m : ℕ) (bytes : List ℕ) (P : Progress) (bytes' : List ℕ) (Q : Progress) : Type 0 where
  pub so_far : (D : Drawing) → Shows g D v bytes
      → advance limit (places g.height g.width) P (codes_left g v D 4 0) ≡ advance limit (places g.height g.width) Q (codes_left g v D more m)
  pub still_shown : (D : Drawing) → Shows g D v bytes → Shows g D v bytes'
  pub same_size : length bytes' ≡ length bytes
  pub inside : Q.used ≤ length Q.buffer
  pub same_length : length Q.buffer ≡ length P.buffer
  pub clear : Q.outcome ≡ 0
