-- `grid::accept` meets its contract: each return is one line of the definition of the refusals. Assumes nothing.
use native.Mathlib.Omega.{arith}
use Prim.Native.Nat.{ℕ}
use mathlib.Core.Path.{sym, ap, ◌∙◌}
use Rattle.model.specs.RefusalLaws.{not_refused}
use Rattle.grid.proofs.Cells.{not_high, not_wide, product_fits, wrong_count, bad_cell, accepted}
use Rattle.grid.proofs.accept.Goals as goal
use Rattle.grid.proofs.accept.Goals.{then-not-is_size-via-then-not-is_size, then-not-is_size-via-else-not-is_size+then-not-is_size-2}

pub returns-then-not-is_size-clause-says : goal.returns-then-not-is_size-clause-says
returns-then-not-is_size-clause-says c = elim c.then-not-is_size.branch [
  | then-not-is_size-via-then-not-is_size w ↦ not_high _ _ _ (sym c.is_size.ensures ∙ w.if-not-is_size.true)
  | then-not-is_size-via-else-not-is_size+then-not-is_size-2 w ↦ not_wide _ _ _ (sym c.is_size.ensures ∙ w.if-not-is_size.false) (sym w.is_size-else-not-is_size.ensures ∙ w.if-not-is_size-2.true)
]

pub overflow_mul-height : goal.overflow_mul-height
overflow_mul-height c = omega (arith, product_fits _ _ (sym c.if-not-is_size.ensures) (sym c.if-not-is_size-2.ensures))

pub returns-then-cells-height-clause-says : goal.returns-then-cells-height-clause-says
returns-then-cells-height-clause-says c = wrong_count _ _ _ (sym c.if-not-is_size.ensures) (sym c.if-not-is_size-2.ensures) c.if-cells-height.true

pub returns-in-Some-clause-says : goal.returns-in-Some-clause-says
returns-in-Some-clause-says c = bad_cell _ _ _ (sym c.if-not-is_size.ensures) (sym c.if-not-is_size-2.ensures) c.if-cells-height.false _ (sym c.first_bad_cell.ensures ∙ c.in-Some.is)

pub returns-in-None-clause-says : goal.returns-in-None-clause-says
returns-in-None-clause-says c = accepted _ _ _ (sym c.if-not-is_size.ensures) (sym c.if-not-is_size-2.ensures) c.if-cells-height.false (sym c.first_bad_cell.ensures ∙ c.in-None.is)

pub invariant_of-result : goal.invariant_of-result
invariant_of-result c =
    let none = accepted _ _ _ (sym c.if-not-is_size.ensures) (sym c.if-not-is_size-2.ensures) c.if-cells-height.false (sym c.first_bad_cell.ensures ∙ c.in-None.is) in
    record { accepted = not_refused _ _ _ (sym (ap (λ (p : ℕ × ℕ). p.0) none)) }
