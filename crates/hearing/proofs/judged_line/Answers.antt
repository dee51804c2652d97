-- `hearing::judged_line` meets its contract: the line is made of its two numbers. Assumes nothing.
use mathlib.Core.Path.{ap}
use native.Mathlib.Omega.{arith}
use lib.ListN.{length}
use Rattle.printed.specs.Filled.{digits_20, field_21}
use Rattle.hearing.proofs.TextLaws.{judged_parts, first_field}
use Rattle.hearing.proofs.judged_line.Goals as goal

pub push_field-requires : goal.push_field-requires
push_field-requires c = (omega arith, omega (arith, ap length c.new-line.ensures, digits_20 c.from-2.result (record { fits = omega arith })))

pub push_field-requires-2 : goal.push_field-requires-2
push_field-requires-2 c = (
  omega arith,
  omega (arith, first_field _ _ _ c.push_field.ensures c.new-line.ensures (field_21 c.from-2.result 44 (record { fits = omega arith })), digits_20 c.args.said.lines (record { fits = omega arith })),
)

pub returns : goal.returns
returns c = rw (c.push_field-2.ensures, c.push_field.ensures, c.new-line.ensures, c.from-2.ensures, c.from.ensures) (judged_parts _)
