-- What the search promises: where it may be entered, and how far it has come when it returns. The contracts of `attempt` and `backtrack`
-- cite these. Nothing is proved here.
use Rattle.std.specs.Prelude.{ℕ, ◌+◌, ◌-◌, ◌%◌, ◌/◌, ◌≤◌, ◌<◌, ◌≡◌, Bool, true, List, eqb, length, ℤ}
use Rattle.rules.specs.Grid.{Grid, pads, places}
use Rattle.model.specs.PadTests.{has_right}
use Rattle.model.specs.Board.{State}
use Rattle.model.specs.Runs.{Event}
use Rattle.model.specs.Search.{try, backtrack}
use Rattle.boardview.specs.declared.Arrays.{Arrays}
use Rattle.boardview.specs.View.{view, Ready}
use Rattle.runs.specs.Progress.{Progress, advance}
use Rattle.runs.specs.Turns.{turns_left}
use Rattle.runs.specs.Layouts.{progress}
use Rattle.searchview.specs.Shown.{last_row, Restored}

abbrev pub arrays : List ℕ → List ℤ → List ℤ → ℕ → Arrays
arrays edges ends log count = record { edges = edges; ends = ends; log = log; count = count }

-- how far the search of a grid has come
abbrev pub reached : Grid → (outcome visited layouts fewest_lines : ℕ) → List ℕ → Progress
reached g outcome visited layouts fewest_lines buffer = progress (places g.height g.width) outcome visited layouts fewest_lines buffer

-- a board with a clear flag, and room for the layouts so far
pub record Begun (g : Grid) (s : Arrays) (P : Progress) : Type 0 where
  pub ready : Ready g s
  pub clear : s.count < 1024
  pub inside : P.used ≤ length P.buffer

-- a pad above the last row with an edge to the right
pub record Above (g : Grid) (v : ℕ) : Type 0 where
  pub low : v < last_row g
  pub has_next : has_right g v ≡ true

-- such a pad, or the first one of the last row
pub record Entered (g : Grid) (v : ℕ) : Type 0 where
  pub low : v ≤ last_row g
  pub has_next : v < last_row g → has_right g v ≡ true

-- SEARCHED: the progress has advanced over these events, and edges, ends and log are as before. The events are those of the model with
-- any number that bounds the pads left.
pub record Searched (g : Grid) (limit left : ℕ) (events : ℕ → List Event) (s : Arrays) (P : Progress) (s' : Arrays) (P' : Progress) : Type 0 where
  pub advanced : (n : ℕ) → left ≤ n → P' ≡ advance limit (places g.height g.width) P (events n)
  pub restored : Restored s s'
  pub inside : P'.used ≤ length P'.buffer
  pub same_length : length P'.buffer ≡ length P.buffer

-- one m at a pad
abbrev pub Attempted : Grid → ℕ → ℕ → Bool → Bool → Arrays → Progress → Arrays → Progress → Type 0
Attempted g limit v go_right go_down s P s' P' =
    Searched g limit (pads g - (v + 1)) (λ n. try g (λ u T. backtrack g n u T) v (view s) go_right go_down) s P s' P'

-- all of a pad
abbrev pub Backtracked : Grid → ℕ → ℕ → Arrays → Progress → Arrays → Progress → Type 0
Backtracked g limit v s P s' P' = Searched g limit (pads g - v) (λ n. backtrack g n v (view s)) s P s' P'

-- the events of so many m from one on: right = m mod 2, down = m div 2. The last number bounds the pads left.
abbrev pub events_left : Grid → ℕ → State → ℕ → ℕ → ℕ → List Event
events_left g v S more m n = turns_left (λ k. try g (λ u T. backtrack g n u T) v S (eqb (k % 2) 1) (eqb (k / 2) 1)) more m

-- within a pad: so many m have been tried since the progress was P, it is now Q, and these events are left
pub record Going (g : Grid) (limit v : ℕ) (s : Arrays) (P : Progress) (rest : ℕ → List Event) (s' : Arrays) (Q : Progress) : Type 0 where
  pub so_far : (n : ℕ) → pads g - (v + 1) ≤ n
      → advance limit (places g.height g.width) P (events_left g v (view s) 4 0 n) ≡ advance limit (places g.height g.width) Q (rest n)
  pub restored : Restored s s'
  pub inside : Q.used ≤ length Q.buffer
  pub same_length : length Q.buffer ≡ length P.buffer
  pub clear : Q.outcome ≡ 0
