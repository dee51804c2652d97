-- The buffer that a search has left holds exactly the records of its run: what runs' HeldRecords.antt says of every engine, for `solve`.
use Rattle.std.specs.Prelude.{ℕ, ◌≡◌, ◌↔◌, length, ℤ}
use mathlib.Core.List.{List, Memᴰ}
use Rattle.rules.specs.Grid.{grid_of, places, Accepted}
use Rattle.rules.specs.ProperGrid.{accepted_proper}
use Rattle.rules.specs.Record.{tabulate}
use Rattle.model.specs.Records.{record_at}
use Rattle.model.specs.Runs.{Run, scan, Solved}
use Rattle.model.specs.Search.{search, solve}
use Rattle.runs.specs.Events.{layouts_of}
use Rattle.runs.specs.ExactLists.{Exact}
use Rattle.runs.proofs.HeldRecords as held
use Rattle.runs.specs.HeldRecords.{Holds}
use Rattle.exact.specs.Exact.{exact}

-- A SEARCH of an accepted grid, with any limit and any buffer
module _ (height width : ℕ) (cells : List ℤ) (accepted : Accepted height width cells) (limit : ℕ) (buffer : List ℕ) where
  abbrev run : Run
  run = scan limit (places height width) 0 (length buffer) (search (grid_of height width cells))

  abbrev left_by : Solved
  left_by = solve height width cells limit buffer

  whole : Exact (grid_of height width cells) (layouts_of (search (grid_of height width cells)))
  whole = exact (grid_of height width cells) (accepted_proper height width cells accepted)

  -- each of its records is as long as the field has places
  pub records_long : (r : List ℕ) → Memᴰ r run.records → length r ≡ places height width
  records_long = held.records_long (λ g. search g) height width cells accepted whole limit buffer

  -- the records of its buffer, one by one, are those of its run
  pub records_left : tabulate (λ k. record_at height width left_by.layouts k left_by.buffer) 0 left_by.layouts ≡ run.records
  unfolding solve
  records_left = held.records_left (λ g. search g) height width cells accepted whole limit buffer

  -- so it holds exactly these
  pub held_exactly : (bytes : List ℕ) → Holds height width left_by bytes ↔ Memᴰ bytes run.records
  unfolding solve
  held_exactly = held.held_exactly (λ g. search g) height width cells accepted whole limit buffer
