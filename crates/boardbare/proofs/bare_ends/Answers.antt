-- `boardbare::bare_ends` meets its contract. The loop has filled the ends from the pad on; before it each is its pad's own index, which is that of a
-- pad past the cells.
use native.Mathlib.Omega.{arith}
use Rattle.std.proofs.Common.{rules, ◌∙◌, refl, pos}
use lib.ListN.{length}
use mir.Syntax.{w64}
use mir.Val.{to_z}
use mir.ValLaws.{to_z-of_z}
use Rattle.boardbare.specs.Filling.{zero_left, filled_more}
use Rattle.boardbare.proofs.Made.{made_by}
use Rattle.boardbare.proofs.Codes.{past_the_cells}
use Rattle.boardbare.proofs.bare_ends.Goals as goal

pub loop-v-init : goal.loop-v-init
loop-v-init c =
    let made = c.from_fn-ends.ensures.items in (
      omega arith,
      record {
        as_long = made.long;
        holds = λ i low high. made_by made (λ p. Unit {0}) (λ v. to_z w64 v) tt (λ p q i y kept called. (search rules, tt)) i (pos 0) high ∙ past_the_cells c.args.cells.now i (omega (arith, low)) high;
      },
    )

pub loop-v-preserved : goal.loop-v-preserved
loop-v-preserved c = (omega arith, filled_more _ _ (omega arith) (omega arith) (to_z-of_z w64 _ (record { sfits = omega arith }) ∙ c.bare_end.ensures) c.loop-v.invariant.1)

pub returns : goal.returns
returns c = rw (zero_left _ c.loop-v-test.false) at c.loop-v.invariant.1
