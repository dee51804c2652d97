-- WHAT A CALLER OF `common` KNOWS who is answered 0, from its contract alone: the grid is accepted, the list is complete, and the table tells of
-- every listed drawing of the grid. It rests on promises' CommonCopper.antt.
use Rattle.std.specs.Prelude.{ℕ, ◌≡◌, List, ℤ, Result}
use Rattle.std.proofs.Common.{sym, ap, subst, ◌∙◌}
use Rattle.model.specs.Common.{Common, common}
use Rattle.promises.specs.CommonCopper.{CommonSays}
use Rattle.promises.proofs.CommonCopper.{common_filled}
use Rattle.tally.specs.declared.Tally.{Tally}
use Rattle.copper.specs.declared.NoTable.{NoTable}
use Rattle.copper.specs.Answers.{common_says}

pub answered_0 : (height width : ℕ) (cells : List ℤ) (limit : ℕ) (buffer table : List ℕ) (r : Result Tally NoTable) (buffer' table' : List ℕ)
    → common_says r buffer' table' ≡ common height width cells limit buffer table
    → (common_says r buffer' table').searched.number ≡ 0 → CommonSays height width cells limit buffer table (common_says r buffer' table')
answered_0 height width cells limit buffer table r buffer' table' contract zero = subst (CommonSays height width cells limit buffer table) (sym contract)
    (common_filled height width cells limit buffer table (sym (ap (λ (said : Common). said.searched.number) contract) ∙ zero))
