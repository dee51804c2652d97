-- Where the layouts of an engine are exact, the records of the buffer that its call has left, one by one, are the records of the run, whatever
-- limit, buffer and outcome were; so it holds exactly these. It rests on the model's HasRecord.antt and on ExactLists.antt.
use Prim.Native.Nat.{ℕ, zero, suc, ◌+◌, ◌≤◌, ◌<◌}
use Rattle.std.specs.Prelude.{◌≡◌, ◌↔◌, ℤ}
use Rattle.std.proofs.Math.Path.{sym, ap}
use Rattle.std.proofs.Common.{subst, ◌∙◌}
use Rattle.std.proofs.Math.Logic.{⊎_elim}
use mathlib.Core.List.Memᴰ
use mathlib.Core.List.{List, [], Memᴰ}
use native.Mathlib.Omega.{arith}
use Rattle.std.proofs.Math.Decide.{ℕ_discrete}
use Rattle.std.proofs.Math.ListN.{length}
use Rattle.rules.specs.Grid.{Grid, grid_of, places, Accepted}
use Rattle.rules.specs.Drawing.{drawn}
use Rattle.rules.specs.Record.{tabulate, byte_of, record_of}
use Rattle.rules.specs.RecordLaws.{length_field}
use Rattle.model.specs.RefusalLaws.{test_of_size}
use Rattle.model.specs.Records.{record_at}
use Rattle.model.proofs.HasRecord.{records_there}
use Rattle.model.specs.Runs.{Event, Run, scan, Solved, listed_by}
use Rattle.runs.specs.Events.{layouts_of}
use Rattle.runs.specs.ExactLists.{Exact, call_is_run}
use Rattle.runs.proofs.ExactLists.{exact_run}
use Rattle.runs.specs.HeldRecords.{Holds}

-- what is in a list of values is the value at some index, and the value at each index is in it
module _ {A : Type 0} (f : ℕ → A) where
  index_of : (start n : ℕ) (x : A) → Memᴰ x (tabulate f start n) → (k : ℕ) × (k < start + n) × (f k ≡ x)
  unfolding tabulate
  index_of start zero x m = absurd (Memᴰ.not-nil m)
  index_of start (suc n) x m = ⊎_elim (λ e. (start, omega arith, sym e)) (λ later. let (k, below, is) = index_of (start + 1) n x later in (k, omega arith, is)) (Memᴰ.cases_cons m)

  value_in : (start n k : ℕ) → start ≤ k → k < start + n → Memᴰ (f k) (tabulate f start n)
  unfolding tabulate
  value_in start zero k low high = absurd (omega arith)
  value_in start (suc n) k low high = elim (ℕ_discrete k start) [
    | yes e ↦ Memᴰ.head (ap f e)
    | no n' ↦ Memᴰ.tail (value_in (start + 1) n k (omega arith) (omega arith))
  ]

-- A CALL for an accepted grid, with any limit and any buffer
module _ (events : Grid → List Event) (height width : ℕ) (cells : List ℤ) (accepted : Accepted height width cells)
    (whole : Exact (grid_of height width cells) (layouts_of (events (grid_of height width cells)))) (limit : ℕ) (buffer : List ℕ) where
  abbrev run : Run
  run = scan limit (places height width) 0 (length buffer) (events (grid_of height width cells))

  abbrev left_by : Solved
  left_by = listed_by events height width cells limit buffer

  -- each of its records is as long as the field has places
  pub records_long : (r : List ℕ) → Memᴰ r run.records → length r ≡ places height width
  unfolding record_of grid_of
  records_long r m = let l = (exact_run height width cells accepted (events (grid_of height width cells)) whole limit (length buffer)).nothing_added r m in
      ap length l.shown ∙ length_field height width (λ e. byte_of (drawn l.drawing e))

  -- record k of its buffer
  abbrev left : ℕ → List ℕ
  left k = record_at height width left_by.layouts k left_by.buffer

  -- the records of its buffer, one by one, are those of its run
  pub records_left : tabulate (λ k. record_at height width left_by.layouts k left_by.buffer) 0 left_by.layouts ≡ run.records
  records_left = rw (call_is_run events height width cells accepted limit buffer)
      (records_there height width (length run.records) (test_of_size height accepted.height_in_range) (test_of_size width accepted.width_in_range)
      run.records records_long [] _ 0 (omega arith) (omega arith))

  -- so it holds exactly these
  pub held_exactly : (bytes : List ℕ) → Holds height width left_by bytes ↔ Memᴰ bytes run.records
  held_exactly bytes = (
    (λ h. subst (Memᴰ bytes) records_left (Memᴰ.cast (sym h.there) (value_in left 0 left_by.layouts h.k (omega arith) (omega (arith, h.below))))),
    λ m. let (k, below, there) = index_of left 0 left_by.layouts bytes (subst (Memᴰ bytes) (sym records_left) m) in
        record { k = k; below = omega arith; there = there },
  )
