-- What an engine counts into a tally: what the counts and the buffer may be when it begins, and what they are when it has gone through the events
-- of the whole grid; and that from an empty tally they are the model's run. It rests on runs' Progress.antt and Layouts.antt.
use Rattle.std.specs.Prelude.{ℕ, ◌*◌, ◌≤◌, ◌≡◌, List, length, ℤ, Result, Ok}
use Rattle.std.proofs.Common.{ap, ◌∙◌, arith, zero-mul}
use Rattle.rules.specs.Grid.{Grid, grid_of, places, Accepted}
use Rattle.model.specs.Runs.{Event, scan, solved}
use Rattle.runs.specs.Progress.{Progress, advance, Sized, start, result_of, advance_solved}
use Rattle.runs.specs.Layouts.{progress, Added}
use Rattle.tally.specs.declared.Stop.{Stop}
use Rattle.tally.specs.declared.Tally.{Tally}
use Rattle.tally.specs.declared.Solved.{Solved}
use Rattle.tally.specs.Outcomes.{outcome_number}
use Rattle.tally.specs.Empty.{empty}

-- how far an engine has come: whether it was stopped, its tally, and the buffer
abbrev pub progress_of : (size : ℕ) → Result Unit Stop → Tally → List ℕ → Progress
progress_of size outcome t buffer = progress size (outcome_number outcome) t.visited t.layouts t.fewest buffer

abbrev pub tally_says : ℕ → ℕ → Solved → List ℕ → Progress
tally_says height width s buffer = progress_of (places height width) s.outcome s.tally buffer

-- the tally and the buffer after events that are layouts only
pub record AddedTo (size : ℕ) (events : List Event) (t : Tally) (buffer : List ℕ) (outcome : Result Unit Stop) (t' : Tally) (buffer' : List ℕ) : Type 0 where
  pub added : Added size events t.layouts t.fewest buffer (outcome_number outcome) t'.layouts t'.fewest buffer'
  pub none_visited : t'.visited ≡ t.visited

-- when it begins: each layout so far has its record in the buffer
pub record Ready (height width : ℕ) (cells : List ℤ) (t : Tally) (buffer : List ℕ) : Type 0 where
  pub accepted : Accepted height width cells
  pub inside : t.layouts * places height width ≤ length buffer

-- with nothing counted an accepted grid is all that is asked
pub from_empty : (height width : ℕ) (cells : List ℤ) (buffer : List ℕ) → Accepted height width cells → Ready height width cells empty buffer
from_empty height width cells buffer accepted = record { accepted = accepted; inside = rw zero-mul (omega arith) }

module _ (events : Grid → List Event) where
  -- when it has gone through the events of the whole grid
  pub record Counted (height width : ℕ) (cells : List ℤ) (limit : ℕ) (t : Tally) (buffer : List ℕ) (s : Solved) (buffer' : List ℕ) : Type 0 where
    pub advanced : tally_says height width s buffer' ≡ advance limit (places height width) (progress_of (places height width) (Ok tt) t buffer) (events (grid_of height width cells))
    pub same_length : length buffer' ≡ length buffer

  -- from an empty tally it is the model's run
  pub counted_run : (height width : ℕ) (cells : List ℤ) (limit : ℕ) (buffer : List ℕ) → Sized (places height width) (events (grid_of height width cells))
      → (s : Solved) (buffer' : List ℕ) → Counted height width cells limit empty buffer s buffer'
      → result_of (tally_says height width s buffer') ≡ solved (scan limit (places height width) 0 (length buffer) (events (grid_of height width cells))) buffer
  counted_run height width cells limit buffer sized s buffer' counted =
      ap result_of (counted.advanced ∙ ap (λ (P : Progress). advance limit (places height width) P (events (grid_of height width cells))) from_start)
      ∙ advance_solved limit (places height width) (events (grid_of height width cells)) buffer sized
    where
      from_start : progress_of (places height width) (Ok tt) empty buffer ≡ start buffer
      from_start = ap (λ (n : ℕ). record { outcome = 0; visited = 0; layouts = 0; fewest_lines = 481; used = n; buffer = buffer }) (zero-mul (places height width))
