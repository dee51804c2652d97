-- From the walk over a record to the model's result: a record of zeros has no code yet, and the progress from nothing is the model's result. It
-- rests on the files beside it, on exactness (everycode's EveryCode.antt) and on runs' Progress.antt.
use Prim.Native.Nat.{ℕ, ◌*◌, ◌-◌, ◌≤◌}
use mathlib.Core.Path.{◌≡◌, sym, ap, ◌∙◌}
use mathlib.Core.List.{List}
use native.Mathlib.Omega.{arith}
use native.Mathlib.Decide.{dec_lt}
use lib.ListN.{length, get_or, take, replicate, get_or-replicate, get_or-eq_default, length-replicate}
use lib.Seq.{get_or-take, length-take-le}
use lib.IntN.{ℤ}
use Rattle.rules.specs.Grid.{grid_of, places, Accepted}
use Rattle.rules.specs.Places.{few_places}
use Rattle.rules.specs.ProperGrid.{accepted_proper}
use Rattle.rules.specs.Record.{undecided_byte}
use Rattle.model.specs.Refusals.{grid_refusal}
use Rattle.model.specs.RefusalLaws.{not_refused}
use Rattle.model.specs.Runs as runs
use Rattle.model.specs.Walk as model
use Rattle.runs.specs.Progress.{advance, result_of}
use Rattle.std.specs.Prelude.{Ok, Err}
use Rattle.grid.specs.declared.Refusal.{Refusal}
use Rattle.grid.specs.Answers.{refusal_says, some_number}
use Rattle.grid.specs.AsGrid.{as_grid}
use Rattle.grid.specs.declared.accepted.Grid.{Grid}
use Rattle.tally.specs.declared.Tally.{Tally}
use Rattle.tally.specs.declared.Solved.{Solved}
use Rattle.tally.specs.Counts.{progress_of, tally_says, counted_run}
use Rattle.tally.specs.Empty.{empty}
use Rattle.everycode.specs.EveryCode.{every_code_exact, every_code_sized, walk_is_run, walk_is_declined}
use Rattle.promises.specs.Contract.{promise}
use Rattle.walking.specs.Given.{Shows}
use Rattle.walking.specs.GivenLaws.{none_shown}
use Rattle.walking.specs.Walked.{Begun, WalkedOn}
use Rattle.walking.specs.Answers.{run_of, Walks, Counted}

-- A RECORD OF ZEROS
abbrev pub zeros : ℕ → List ℕ
zeros n = take n (replicate 961 0)

zero_in : (m i : ℕ) → get_or (replicate m 0) i undecided_byte ≡ undecided_byte
zero_in m i = elim (dec_lt i m) [
  | yes inside ↦ get_or-replicate m i 0 undecided_byte inside
  | no past ↦ get_or-eq_default (replicate m 0) undecided_byte {n = i} (rw (length-replicate {A = ℕ} m 0) (omega arith))
]

pub zeros_long : (n : ℕ) → n ≤ 961 → length (zeros n) ≡ n
zeros_long n small = length-take-le n (replicate 961 0) (rw (length-replicate {A = ℕ} 961 0) small)

zero_at : (n : ℕ) → n ≤ 961 → (i : ℕ) → get_or (zeros n) i undecided_byte ≡ undecided_byte
zero_at n small i = elim (dec_lt i n) [
  | yes inside ↦ get_or-take n (replicate 961 0) i undecided_byte inside ∙ zero_in 961 i
  | no past ↦ get_or-eq_default (zeros n) undecided_byte {n = i} (rw (zeros_long n small) (omega arith))
]

-- THE WHOLE WALK over it, from any tally whose layouts have their records in the buffer
module _ (grid : Grid) (t : Tally) (buffer : List ℕ) (inside : t.layouts * places grid.height grid.width ≤ length buffer) {size : ℕ} (is : size ≡ places grid.height grid.width) where
  abbrev height : ℕ
  height = grid.height

  abbrev width : ℕ
  width = grid.width

  abbrev cells : List ℤ
  cells = grid.cells.now

  pub few : size ≤ 961
  few = rw is (few_places height width grid.accepted.height_in_range.1 grid.accepted.width_in_range.1)

  pub begun : Begun height width (zeros size) t.layouts buffer
  begun = record { long = zeros_long size few ∙ is; inside = inside }

  pub counted : (limit : ℕ) (s : Solved) (bytes' buffer' : List ℕ)
      → WalkedOn (as_grid grid) limit 0 (zeros size) (progress_of (places height width) (Ok tt) t buffer) bytes' (tally_says height width s buffer')
      → Counted height width cells limit t buffer s buffer'
  unfolding grid_of model.every_code
  counted limit s bytes' buffer' walked = record {
    advanced = walked.advanced model.no_lines nothing
        ∙ ap (λ (n : ℕ). advance limit (places height width) (progress_of (places height width) (Ok tt) t buffer) (model.walk_on (grid_of height width cells) n 0 model.no_lines)) all_pads;
    same_length = walked.same_length;
  }
    where
      all_pads : height * width - 0 ≡ height * width
      all_pads = omega arith

      nothing : Shows (grid_of height width cells) model.no_lines 0 (zeros size)
      nothing = none_shown (grid_of height width cells) model.no_lines (zeros size) begun.long (zero_at size few)

-- THE MODEL'S RESULT
module _ (height width : ℕ) (cells : List ℤ) (limit : ℕ) (buffer : List ℕ) where
  -- a refused grid: nothing is tried and no byte changes
  pub walk_refused : (r : Refusal) → refusal_says {A = Grid} (Err r) ≡ grid_refusal height width cells → Walks height width cells limit buffer (Err r) buffer
  walk_refused r is = record {
    equal = (λ i. runs.declined_search (is i).0 (is i).1 buffer) ∙ sym (walk_is_declined height width cells not_zero limit buffer);
    of_run = λ e. absurd (not_zero e);
    promise = λ e. absurd (not_zero e);
  }
    where
      not_zero : (grid_refusal height width cells).0 ≡ 0 → ⊥
      not_zero e = some_number r (ap (λ (p : ℕ × ℕ). p.0) is ∙ e)

  -- an accepted one
  pub walk_accepted : (0, 0) ≡ grid_refusal height width cells → (grid : Grid) → (grid.height ≡ height) × (grid.width ≡ width) × (grid.cells.now ≡ cells)
      → (s : Solved) (buffer' : List ℕ) → Counted grid.height grid.width grid.cells.now limit empty buffer s buffer' → Walks height width cells limit buffer (Ok s) buffer'
  unfolding grid_of
  walk_accepted fine grid (high, wide, same) s buffer' its_counts = record {
    equal = from_run ∙ sym (walk_is_run height width cells accepted limit buffer);
    of_run = λ e. from_run;
    promise = λ e. promise height width cells accepted (model.every_code (grid_of height width cells)) (every_code_exact (grid_of height width cells) (accepted_proper height width cells accepted)) limit (length buffer);
  }
    where
      accepted : Accepted height width cells
      accepted = not_refused height width cells (ap (λ (p : ℕ × ℕ). p.0) (sym fine))

      counted : Counted height width cells limit empty buffer s buffer'
      counted = rw (high, wide, same) at its_counts

      from_run : result_of (tally_says height width s buffer') ≡ runs.solved (run_of height width cells limit buffer) buffer
      from_run = counted_run (λ g. model.every_code g) height width cells limit buffer (every_code_sized (grid_of height width cells)) s buffer' counted
