-- By its number: whoever `common` has answered 0 has a complete list and its table (specs/CommonCopper.antt).
use Rattle.std.specs.Prelude.{ℕ, suc, ◌≡◌, length, ℤ}
use Rattle.std.proofs.Common.{arith}
use mathlib.Core.List.{List}
use Rattle.std.proofs.Math.Decide.{dec_lt, ℕ_discrete}
use Rattle.rules.specs.Grid.{places, grid_of}
use Rattle.model.specs.Refusals.{grid_refusal}
use Rattle.model.specs.RefusalLaws.{not_refused}
use Rattle.model.specs.Runs.{Run, scan}
use Rattle.model.specs.Search.{search}
use Rattle.model.specs.Common.{common}
use Rattle.model.specs.CommonLaws.{refused_grid, short_table, stopped_list}
use Rattle.exact.specs.Exact.{solve_is_run}
use Rattle.promises.specs.CommonCopper.{CommonSays, common_says}

module _ (height width : ℕ) (cells : List ℤ) (limit : ℕ) (buffer table : List ℕ) where
  abbrev run : Run
  run = scan limit (places height width) 0 (length buffer) (search (grid_of height width cells))

  -- BY THE NUMBER: whoever is answered 0 has a complete list of an accepted grid in the buffer, and its table
  pub common_filled : (common height width cells limit buffer table).searched.number ≡ 0
      → CommonSays height width cells limit buffer table (common height width cells limit buffer table)
  common_filled zero = elim (ℕ_discrete (grid_refusal height width cells).0 0) [
    | no refused ↦ absurd (refused (rw (refused_grid height width cells limit buffer table refused) at zero))
    | yes accepted ↦ elim (dec_lt (length table) (places height width)) [
      | yes short ↦ absurd (no_zero (rw (short_table height width cells limit buffer table accepted short) at zero))
      | no long ↦ elim (ℕ_discrete run.outcome 0) [
        | no stopped ↦ absurd (no_zero (rw (stopped_list height width cells limit buffer table accepted (omega arith) stopped) at zero))
        | yes done ↦ let grid = not_refused height width cells accepted in
            common_says height width cells limit buffer table grid (omega arith) (rw (solve_is_run height width cells grid limit buffer) done)
      ]
    ]
  ]
    where
      no_zero : {n : ℕ} → suc n ≡ 0 → ⊥
      no_zero h = omega arith
