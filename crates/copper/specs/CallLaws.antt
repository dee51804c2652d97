-- What `common` has answered and left when it returns is what the model says, test by test. It rests on the model's CommonLaws.antt, on the
-- contract of `solve` and on OverlayLaws.antt.
use Rattle.std.specs.Prelude.{ℕ, ◌≤◌, ◌<◌, ◌≡◌, List, ◌++◌, length, replicate, drop, ℤ, Result, Ok, Err}
use Rattle.std.proofs.Common.{sym, ap, ◌∙◌}
use Rattle.rules.specs.Grid.{places}
use Rattle.model.specs.Refusals.{grid_refusal}
use Rattle.model.specs.RefusalLaws.{not_refused}
use Rattle.model.specs.Runs as runs
use Rattle.model.specs.Common.{with_number, common}
use Rattle.model.specs.CommonLaws.{refused_grid, short_table, stopped_list, complete_list}
use Rattle.grid.specs.declared.Refusal.{Refusal}
use Rattle.grid.specs.Answers.{number_of, index_of, some_number}
use Rattle.tally.specs.declared.Stop.{Stop}
use Rattle.tally.specs.declared.Solved.{Solved}
use Rattle.tally.specs.Outcomes.{outcome_number}
use Rattle.tally.specs.Answers.{answer_says}
use Rattle.solver.specs.Answers.{run_of, Solves}
use Rattle.copper.specs.Overlay.{records_overlaid}
use Rattle.copper.specs.OverlayLaws.{table_left}
use Rattle.copper.specs.Answers.{common_says}
use Rattle.copper.specs.declared.NoTable.TheVariants.{Grid, Short, Incomplete}

module _ (height width : ℕ) (cells : List ℤ) (limit : ℕ) (buffer table : List ℕ) where
  pub refused_says : (refusal : Refusal) → (number_of refusal, index_of refusal) ≡ grid_refusal height width cells
      → common_says (Err (Grid refusal)) buffer table ≡ common height width cells limit buffer table
  refused_says refusal is = (λ i. record { searched = runs.declined_search (is i).0 (is i).1 buffer; table = table })
      ∙ sym (refused_grid height width cells limit buffer table (λ e. some_number refusal (ap (λ (p : ℕ × ℕ). p.0) is ∙ e)))

  module _ (fine : (grid_refusal height width cells).0 ≡ 0) where
    pub short_says : length table < places height width → common_says (Err Short) buffer table ≡ common height width cells limit buffer table
    short_says short = sym (short_table height width cells limit buffer table fine short)

    module _ (room : places height width ≤ length table) (found : Solved) (buffer' : List ℕ) (solves : Solves height width cells limit buffer (Ok found) buffer') where
      its_run : answer_says (Ok found) buffer' ≡ runs.solved (run_of height width cells limit buffer) buffer
      its_run = solves.of_run fine

      pub stopped_says : (outcome_number found.outcome ≡ 0 → ⊥) → common_says (Err (Incomplete found)) buffer' table ≡ common height width cells limit buffer table
      stopped_says stopped = (λ i. record { searched = with_number 16 (its_run i); table = table })
          ∙ sym (stopped_list height width cells limit buffer table fine room (λ e. stopped (ap (λ (s : runs.Solved). s.outcome) its_run ∙ e)))

      pub complete_says : found.outcome ≡ Ok tt → (cleared : List ℕ) → cleared ≡ replicate (places height width) 0 ++ drop (places height width) table
          → (table' : List ℕ) → table' ≡ records_overlaid height width found.tally.layouts buffer' found.tally.layouts 0 cleared
          → common_says (Ok found.tally) buffer' table' ≡ common height width cells limit buffer table
      complete_says complete cleared zeros table' laid = (λ i. record {
        searched = (ap (λ (o : Result Unit Stop). answer_says (Ok (record { outcome = o; tally = found.tally })) buffer') (sym complete) ∙ its_run) i;
        table = (laid ∙ ap (over (answer_says (Ok found) buffer')) zeros ∙ ap (λ (s : runs.Solved). over s start) solves.equal ∙ table_left height width cells (not_refused height width cells fine) limit buffer past) i;
      }) ∙ sym (complete_list height width cells limit buffer table fine room (sym (ap (λ (s : runs.Solved). s.outcome) its_run) ∙ ap outcome_number complete))
        where
          over : runs.Solved → List ℕ → List ℕ
          over s from = records_overlaid height width s.layouts s.buffer s.layouts 0 from

          past : List ℕ
          past = drop (places height width) table

          start : List ℕ
          start = replicate (places height width) 0 ++ past
