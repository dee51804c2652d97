-- `tabling::row` meets its contract: nothing where there is no row k, else the digits of that part of the table and the line's end.
-- Assumes nothing.
use native.Mathlib.Omega.{arith}
use lib.ListN.{length-take, length-append, length-map}
use Rattle.std.proofs.Common.{sym, ◌∙◌}
use Rattle.model.specs.RefusalLaws.{size_of_test}
use Rattle.tabling.proofs.RowLaws.{its_row, nothing, row_written}
use mathlib.Core.Path.{ap}
use mathlib.Core.Bool.{not}
use Rattle.tabling.proofs.row.Goals as goal

pub returns-then-not-has_row : goal.returns-then-not-has_row
returns-then-not-has_row c = c.new-line.ensures ∙ sym (nothing _ _ _ _ c.has_row.ensures (ap not c.if-not-has_row.true))

pub overflow_mul-side : goal.overflow_mul-side
overflow_mul-side c = omega (arith, (size_of_test _ (its_row _ _ _ _ c.has_row.ensures (ap not c.if-not-has_row.false)).wide).1)

pub overflow_sub-side : goal.overflow_sub-side
overflow_sub-side c = omega (arith, (size_of_test _ (its_row _ _ _ _ c.has_row.ensures (ap not c.if-not-has_row.false)).wide).0)

pub overflow_mul-start : goal.overflow_mul-start
overflow_mul-start c = omega (arith, (its_row _ _ _ _ c.has_row.ensures (ap not c.if-not-has_row.false)).inside)

pub overflow_add-end : goal.overflow_add-end
overflow_add-end c = omega (arith, (its_row _ _ _ _ c.has_row.ensures (ap not c.if-not-has_row.false)).inside)

pub slice_bounds-push_digits-end : goal.slice_bounds-push_digits-end
slice_bounds-push_digits-end c = omega (arith, (its_row _ _ _ _ c.has_row.ensures (ap not c.if-not-has_row.false)).inside)

pub push_digits-requires : goal.push_digits-requires
push_digits-requires c = rw (c.new-line.ensures, length-take) (omega (arith, (size_of_test _ (its_row _ _ _ _ c.has_row.ensures (ap not c.if-not-has_row.false)).wide).1))

pub push_byte-requires : goal.push_byte-requires
push_byte-requires c = (omega arith, rw (c.push_digits.ensures, c.new-line.ensures, length-append, length-map, length-take) (omega (arith, (size_of_test _ (its_row _ _ _ _ c.has_row.ensures (ap not c.if-not-has_row.false)).wide).1)))

pub returns : goal.returns
returns c = row_written _ _ _ _ (its_row _ _ _ _ c.has_row.ensures (ap not c.if-not-has_row.false)) (rw c.new-line.ensures at c.push_digits.ensures) c.push_byte.ensures
