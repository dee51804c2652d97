-- `boardbare::undecided_side` meets its contract, by the tests.
use mathlib.Core.Path.{refl}
use native.Mathlib.Omega.{arith}
use borrow.Author.Tests.{eq-eqb, ne_eqb}
use Rattle.boardview.specs.Told.{undecided_side}
use Rattle.boardbare.proofs.undecided_side.Goals as goal

pub returns-then-left-eq-UNDECIDED : goal.returns-then-left-eq-UNDECIDED
unfolding undecided_side
returns-then-left-eq-UNDECIDED c = (rw (eq-eqb _ _ c.if-left-eq-UNDECIDED.true) refl, omega arith)

pub returns-then-right-eq-UNDECIDED : goal.returns-then-right-eq-UNDECIDED
unfolding undecided_side
returns-then-right-eq-UNDECIDED c = (rw (ne_eqb _ _ c.if-left-eq-UNDECIDED.false, eq-eqb _ _ c.if-right-eq-UNDECIDED.true) refl, omega arith)

pub returns-then-up-eq-UNDECIDED : goal.returns-then-up-eq-UNDECIDED
unfolding undecided_side
returns-then-up-eq-UNDECIDED c = (rw (ne_eqb _ _ c.if-left-eq-UNDECIDED.false, ne_eqb _ _ c.if-right-eq-UNDECIDED.false, eq-eqb _ _ c.if-up-eq-UNDECIDED.true) refl, omega arith)

pub returns : goal.returns
unfolding undecided_side
returns c = (rw (ne_eqb _ _ c.if-left-eq-UNDECIDED.false, ne_eqb _ _ c.if-right-eq-UNDECIDED.false, ne_eqb _ _ c.if-up-eq-UNDECIDED.false) refl, omega arith)
