-- From the search over the fresh arrays to the model's run: the kinds tell of the same blank pads, clues and holes, so the events are the
-- grid's own, and the progress from nothing is the model's result. It rests on the laws of the files beside it.
use Rattle.std.specs.Prelude.{ℕ, ◌*◌, ◌≤◌, ◌<◌, ◌≡◌, List, length, ℤ, Result, Ok, Err}
use Rattle.std.proofs.Math.Path.{refl, sym, ap}
use Rattle.std.proofs.Common.{◌∙◌, subst, arith}
use Rattle.rules.specs.Grid.{grid_of, pads, places, Accepted}
use Rattle.rules.specs.ProperGrid.{accepted_proper}
use Rattle.model.specs.Board.{fresh}
use Rattle.model.specs.Refusals.{grid_refusal}
use Rattle.model.specs.Runs as runs
use Rattle.model.specs.Search as model
use Rattle.exact.specs.Exact.{exact, solve_is_run, solve_is_declined}
use Rattle.boardview.specs.declared.Arrays.{Arrays}
use Rattle.boardview.specs.declared.kinds.Kinds.{Kinds}
use Rattle.boardview.specs.View.{view, grid_in}
use Rattle.boardfresh.specs.FreshView.{FreshBoard}
use Rattle.grid.specs.declared.Refusal.{Refusal}
use Rattle.grid.specs.Answers.{number_of, index_of, some_number}
use Rattle.tally.specs.declared.Stop.{Stop}
use Rattle.tally.specs.declared.Tally.{Tally}
use Rattle.tally.specs.declared.Solved.{Solved}
use Rattle.tally.specs.Empty.{empty}
use Rattle.runs.specs.Progress.{advance, result_of}
use Rattle.searchview.specs.Sizes.{search_sized}
use Rattle.searchview.specs.Shown.{last_row, NextPad}
use Rattle.searchview.specs.Searched.{arrays, Begun, Entered, Backtracked}
use Rattle.searchview.specs.NextPad.{last_below_pads}
use Rattle.searchview.specs.SameEvents.{shown_searches}
use Rattle.searchview.specs.SearchLaws.{found_entered, search_flagged, search_clear}
use Rattle.promises.specs.Contract.{promise}
use Rattle.tally.specs.Counts.{progress_of, tally_says, counted_run}
use Rattle.solver.specs.Answers.{so_far, run_of, Solves, Counted}

-- THE WHOLE SEARCH over the fresh arrays
module _ (height width : ℕ) (cells : List ℤ) (t : Tally) (buffer : List ℕ) (inside : t.layouts * places height width ≤ length buffer)
    (edges : List ℕ) (ends : List ℤ) (kinds : Kinds) (count : ℕ) (made : FreshBoard (grid_of height width cells) edges ends kinds count) (log : List ℤ) where
  same_size : places (grid_in kinds).height (grid_in kinds).width ≡ places height width
  unfolding grid_of
  same_size = λ i. places (made.told.height i) (made.told.width i)

  -- the kinds are searched as the grid is
  events_same : model.search_from (grid_in kinds) (view (arrays edges ends log count)) ≡ model.search (grid_of height width cells)
  unfolding model.search
  events_same = ap (model.search_from (grid_in kinds)) (made.shows log) ∙ shown_searches made.told (fresh (grid_of height width cells))

  -- a tally and the buffer that have come so far are what is to be counted
  module _ (limit : ℕ) (s : Solved) (buffer' : List ℕ) (same_length : length buffer' ≡ length buffer) where
    abbrev Advanced : ℕ → List runs.Event → Type 0
    Advanced size events = progress_of size s.outcome s.tally buffer' ≡ advance limit size (progress_of size (Ok tt) t buffer) events

    counted : Advanced (places (grid_in kinds).height (grid_in kinds).width) (model.search_from (grid_in kinds) (view (arrays edges ends log count)))
        → Counted height width cells limit t buffer s buffer'
    counted says = record {
      advanced = subst (λ size. Advanced size (model.search (grid_of height width cells))) same_size
          (subst (Advanced (places (grid_in kinds).height (grid_in kinds).width)) events_same says);
      same_length = same_length;
    }

  -- the flag is set: nothing is searched
  module _ (long : length log ≡ 1440) where
    pub counted_none : 1024 ≤ count → (limit : ℕ) → Counted height width cells limit t buffer (record { outcome = Ok tt; tally = t }) buffer
    unfolding advance
    counted_none set limit = counted limit (record { outcome = Ok tt; tally = t }) buffer refl
        (sym (ap (advance limit _ _) (search_flagged (grid_in kinds) (arrays edges ends log count) (made.ready log long) kinds.told.least_height set)))

    -- else it begins at the pad that is found
    pub scan_fits : (last : ℕ) → last ≡ last_row (grid_in kinds) → (0 ≤ last) × (last ≤ 256) × (length edges ≡ 1024)
    scan_fits last is = let ready = made.ready log long in
        (omega arith, omega (arith, is, last_below_pads (grid_in kinds) kinds.told.least_height kinds.told.least_width, ready.few_pads), ready.edges_long)

    module _ (clear : count < 1024) (last : ℕ) (is : last ≡ last_row (grid_in kinds)) (first : ℕ) (scanned : NextPad edges last 0 first) where
      found : NextPad edges (last_row (grid_in kinds)) 0 first
      found = subst (λ l. NextPad edges l 0 first) is scanned

      pub begins_there : Begun (grid_in kinds) (arrays edges ends log count) (so_far (grid_in kinds) (Ok tt) t buffer) × Entered (grid_in kinds) first
      begins_there = (
        record { ready = made.ready log long; clear = clear; inside = rw same_size inside },
        found_entered (grid_in kinds) (arrays edges ends log count) (made.ready log long) kinds.told.least_height found,
      )

      pub counted_all : (limit : ℕ) (s' : Arrays) (outcome : Result Unit Stop) (t' : Tally) (buffer' : List ℕ)
          → Backtracked (grid_in kinds) limit first (arrays edges ends log count) (so_far (grid_in kinds) (Ok tt) t buffer) s' (so_far (grid_in kinds) outcome t' buffer')
          → Counted height width cells limit t buffer (record { outcome = outcome; tally = t' }) buffer'
      counted_all limit s' outcome t' buffer' back = counted limit (record { outcome = outcome; tally = t' }) buffer' back.same_length
          (back.advanced (pads (grid_in kinds)) (omega arith)
          ∙ ap (advance limit (places (grid_in kinds).height (grid_in kinds).width) (so_far (grid_in kinds) (Ok tt) t buffer)) (sym (search_clear (grid_in kinds) (arrays edges ends log count) (made.ready log long) kinds.told.least_height clear first found)))

-- THE MODEL'S RESULT
module _ (height width : ℕ) (cells : List ℤ) (limit : ℕ) (buffer : List ℕ) where
  -- a refused grid: nothing is searched and no byte changes
  pub solve_refused : (refusal : Refusal) → (number_of refusal, index_of refusal) ≡ grid_refusal height width cells → Solves height width cells limit buffer (Err refusal) buffer
  solve_refused refusal is = record {
    equal = (λ i. runs.declined_search (is i).0 (is i).1 buffer) ∙ sym (solve_is_declined height width cells not_zero limit buffer);
    of_run = λ e. absurd (not_zero e);
    promise = λ e. absurd (not_zero e);
  }
    where
      not_zero : (grid_refusal height width cells).0 ≡ 0 → ⊥
      not_zero e = some_number refusal (ap (λ (p : ℕ × ℕ). p.0) is ∙ e)

  -- an accepted one
  pub solve_accepted : Accepted height width cells → (s : Solved) (buffer' : List ℕ)
      → Counted height width cells limit empty buffer s buffer' → Solves height width cells limit buffer (Ok s) buffer'
  unfolding grid_of
  solve_accepted accepted s buffer' counted = record {
    equal = from_run ∙ sym (solve_is_run height width cells accepted limit buffer);
    of_run = λ e. from_run;
    promise = λ e. promise height width cells accepted (model.search (grid_of height width cells)) (exact (grid_of height width cells) (accepted_proper height width cells accepted)) limit (length buffer);
  }
    where
      from_run : result_of (tally_says height width s buffer') ≡ runs.solved (run_of height width cells limit buffer) buffer
      from_run = counted_run (λ g. model.search g) height width cells limit buffer (search_sized (grid_of height width cells)) s buffer' counted
