-- `gridfile::text_of` meets its contract: the header's two fields, and the rows. Assumes nothing.
use Rattle.gridfile.proofs.WriteLaws.{none_yet, parts_fit, field_longer}
use native.Mathlib.Omega.{arith}
use Rattle.gridfile.proofs.text_of.Goals as goal

pub push_field-requires : goal.push_field-requires
push_field-requires c = (omega arith, omega (arith, none_yet c.new-text.ensures, parts_fit _ _ _ c.args.grid.now.accepted))

pub push_field-requires-2 : goal.push_field-requires-2
push_field-requires-2 c = (omega arith, omega (arith, none_yet c.new-text.ensures, parts_fit _ _ _ c.args.grid.now.accepted, field_longer _ _ _ c.push_field.ensures))

pub push_rows-requires : goal.push_rows-requires
push_rows-requires c = omega (arith, none_yet c.new-text.ensures, parts_fit _ _ _ c.args.grid.now.accepted, field_longer _ _ _ c.push_field.ensures, field_longer _ _ _ c.push_field-2.ensures)
