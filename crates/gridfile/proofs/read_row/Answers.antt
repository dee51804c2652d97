-- `gridfile::read_row` meets its contract. The loop keeps `RowRead`: reading on from the column is what reading from the row's first
-- column on comes to. Assumes nothing.
use Rattle.gridfile.proofs.RowLaws.{tests_differ, tests_agree, row_declined, index_inside, miscounted, column_read}
use Rattle.gridfile.proofs.ReadLaws.{row_value_ended, found_there}
use Rattle.std.specs.Prelude.{Result, Err}
use Rattle.std.proofs.lemmas.Result.{err_from_is_err_and}
use Rattle.gridfile.specs.Answers.{reading_says}
use Rattle.gridfile.specs.Fields.{located}
use Rattle.gridfile.specs.declared.Declined.{Declined}
use Rattle.gridfile.specs.declared.Field.{Field}
use Rattle.gridfile.specs.declared.Fault.{Fault}
use mathlib.Core.Path.{sym, ap, ◌∙◌}
use Prim.Native.Nat.{◌+◌}
use native.Mathlib.Omega.{arith}
use Rattle.gridfile.proofs.read_row.Goals as goal

pub returns-in_err-value : goal.returns-in_err-value
returns-in_err-value c =
    let p = err_from_is_err_and c.from_residual.result c.from_residual.ensures.1 in
    λ height answer left r. rw (p.1, p.2) (row_declined _ _ _ _ _ _ _ ((c.loop-column.invariant height answer left r).going c.loop-column-test.true) left _ (c.in_err-value.ensures ∙ ap (λ (f : Result Field Fault). located f (c.args.row + 2) (c.loop-column.column + 1)) c.row_field_at.ensures))

pub overflow_sub-end : goal.overflow_sub-end
overflow_sub-end c = (row_value_ended _ _ _ (sym c.row_field_at.ensures ∙ found_there _ _ _ _ c.in_ok-value.ensures)).reached

pub store_cell-requires : goal.store_cell-requires
store_cell-requires c = (index_inside _ _ _ c.requires.0 c.requires.1 c.loop-column-test.true, (row_value_ended _ _ _ (sym c.row_field_at.ensures ∙ found_there _ _ _ _ c.in_ok-value.ensures)).sound)

pub bounds-bytes-end : goal.bounds-bytes-end
bounds-bytes-end c = (row_value_ended _ _ _ (sym c.row_field_at.ensures ∙ found_there _ _ _ _ c.in_ok-value.ensures)).inside

pub overflow_add-at : goal.overflow_add-at
overflow_add-at c = omega (arith, (row_value_ended _ _ _ (sym c.row_field_at.ensures ∙ found_there _ _ _ _ c.in_ok-value.ensures)).inside)

pub returns-then-ends-is_last : goal.returns-then-ends-is_last
returns-then-ends-is_last c = λ height answer left r. ap (λ (d : Declined). reading_says (Err d)) c.at.ensures ∙ miscounted _ _ _ _ _ _ _ ((c.loop-column.invariant height answer left r).going c.loop-column-test.true) left _ (sym c.row_field_at.ensures ∙ found_there _ _ _ _ c.in_ok-value.ensures) c.loop-column-test.true (tests_differ _ _ c.if-ends-is_last.true)

pub loop-column-preserved : goal.loop-column-preserved
loop-column-preserved c = λ height answer left r. column_read _ _ _ _ _ _ _ ((c.loop-column.invariant height answer left r).going c.loop-column-test.true) left _ (sym c.row_field_at.ensures ∙ found_there _ _ _ _ c.in_ok-value.ensures) _ (rw c.is_hole.ensures at c.store_cell.ensures) c.loop-column-test.true (tests_agree _ _ c.if-ends-is_last.false)

pub returns : goal.returns
returns c = λ height answer left r. (c.loop-column.invariant height answer left r).done (omega arith)
