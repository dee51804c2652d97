-- What `common` is, test by test: the grid's own refusal, a table that is too short, a list that did not end complete, and a complete one. So
-- nobody else takes the definition apart.
use Rattle.std.specs.Prelude.{ℕ, ◌≤◌, ◌<◌, ◌≡◌, List, ◌++◌, length, drop, ℤ}
use Rattle.std.proofs.Math.Path.{refl}
use borrow.Author.Tests.{eq-eqb, ne_eqb, lt-ltb, le-ltb}
use Rattle.rules.specs.Grid.{grid_of, places}
use Rattle.model.specs.Refusals.{grid_refusal}
use Rattle.model.specs.Runs.{Run, scan, solved, declined_search}
use Rattle.model.specs.Search.{search}
use Rattle.model.specs.Common.{common_table, with_number, common}

module _ (height width : ℕ) (cells : List ℤ) (limit : ℕ) (buffer table : List ℕ) where
  -- 7, 8, 9
  pub refused_grid : ((grid_refusal height width cells).0 ≡ 0 → ⊥)
      → common height width cells limit buffer table
      ≡ record { searched = declined_search (grid_refusal height width cells).0 (grid_refusal height width cells).1 buffer; table = table }
  unfolding common
  refused_grid refused = rw (ne_eqb _ 0 refused) refl

  module _ (fine : (grid_refusal height width cells).0 ≡ 0) where
    -- 14
    pub short_table : length table < places height width
        → common height width cells limit buffer table ≡ record { searched = declined_search 14 0 buffer; table = table }
    unfolding common
    short_table short = rw (eq-eqb _ 0 fine, lt-ltb _ _ short) refl

    module _ (room : places height width ≤ length table) where
      abbrev run : Run
      run = scan limit (places height width) 0 (length buffer) (search (grid_of height width cells))

      -- 16
      pub stopped_list : (run.outcome ≡ 0 → ⊥)
          → common height width cells limit buffer table ≡ record { searched = with_number 16 (solved run buffer); table = table }
      unfolding common
      stopped_list stopped = rw (eq-eqb _ 0 fine, le-ltb _ _ room, ne_eqb _ 0 stopped) refl

      pub complete_list : run.outcome ≡ 0
          → common height width cells limit buffer table
          ≡ record { searched = solved run buffer; table = common_table height width run.records ++ drop (places height width) table }
      unfolding common
      complete_list complete = rw (eq-eqb _ 0 fine, le-ltb _ _ room, eq-eqb _ 0 complete) refl
