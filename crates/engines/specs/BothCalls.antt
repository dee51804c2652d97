-- ONE CALL OF EACH ENGINE on one grid, whatever their limits are and their buffers held before: where both end complete they give one list
-- (promises' BothEngines.antt). It follows from the contracts of `walk` and `solve` alone. So `compare` tells that they differ only where one of
-- them did not end complete.
use Rattle.std.specs.Prelude.{ℕ, ◌≡◌, true, ◌↔◌, List, ℤ, Result, Ok, Err, refl}
use Rattle.std.proofs.Common.{sym, ap, ◌∙◌}
use Rattle.model.specs.Runs as runs
use Rattle.promises.specs.BothEngines.{SameList, engines_agree}
use Rattle.grid.specs.declared.Refusal.{Refusal}
use Rattle.tally.specs.declared.Solved.{Solved}
use Rattle.tally.specs.Answers.{answer_says}
use Rattle.walking.specs.Answers.{Walks}
use Rattle.solver.specs.Answers.{Solves}
use Rattle.engines.specs.declared.Compared.{Compared}
use Rattle.engines.specs.Equal.{Equal, Compares}

module _ (height width : ℕ) (cells : List ℤ) (limit limit' : ℕ) (buffer buffer' : List ℕ) where
  -- THE THEOREM for callers
  pub both_calls : (r : Result Solved Refusal) (after : List ℕ) → Walks height width cells limit buffer r after
      → (r' : Result Solved Refusal) (after' : List ℕ) → Solves height width cells limit' buffer' r' after'
      → (answer_says r after).outcome ≡ 0 → (answer_says r' after').outcome ≡ 0
      → SameList height width (answer_says r after) (answer_says r' after')
  both_calls r after walks r' after' solves walk_complete search_complete =
      rw (walks.equal, solves.equal) (engines_agree height width cells limit limit' buffer buffer'
      (sym (ap (λ (s : runs.Solved). s.outcome) walks.equal) ∙ walk_complete)
      (sym (ap (λ (s : runs.Solved). s.outcome) solves.equal) ∙ search_complete))

-- an answer says what its buffer holds
buffer_after : (r : Result Solved Refusal) (buffer : List ℕ) → (answer_says r buffer).buffer ≡ buffer
buffer_after (Ok s) buffer = refl
buffer_after (Err refusal) buffer = refl

-- the answers are equal exactly where both are complete
pub compared_equal : (height width : ℕ) (cells : List ℤ) (r : Compared) → (told : Compares height width cells r)
    → (r.equal ≡ true) ↔ (((answer_says told.walked told.first).outcome ≡ 0) × ((answer_says told.solved told.second).outcome ≡ 0))
compared_equal height width cells r told = (
  (λ e. let equal = told.equal_exactly.0 e in (equal.counts.walk_complete, equal.counts.search_complete)),
  (λ complete. told.equal_exactly.1 (agreed complete.0 complete.1)),
)
  where
    agreed : (answer_says told.walked told.first).outcome ≡ 0 → (answer_says told.solved told.second).outcome ≡ 0 → Equal height width told.walked told.first told.solved told.second
    agreed walk_complete search_complete =
        let same = both_calls height width cells _ _ _ _ told.walked told.first told.walks told.solved told.second told.solves walk_complete search_complete in
        record {
          counts = record {
            walk_complete = walk_complete;
            search_complete = search_complete;
            number = same.number;
            index = same.index;
            layouts = same.layouts;
            fewest = same.fewest_lines;
          };
          records = record {
            in_first = rw (buffer_after told.walked told.first) at same.in_buffers.0;
            in_second = rw (buffer_after told.solved told.second) at same.in_buffers.1;
            same = rw (buffer_after told.walked told.first, buffer_after told.solved told.second) at same.same_bytes;
          };
        }
