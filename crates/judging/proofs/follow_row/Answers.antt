-- `judging::follow_row` meets its contract. The loop has followed the row's first places and counted their lines. Assumes nothing.
use Prim.Native.Nat.{ℕ, ◌+◌, ◌*◌, ◌≤◌}
use mathlib.Core.Path.{◌≡◌, ap, ◌∙◌}
use native.Mathlib.Omega.{arith}
use Rattle.rules.specs.Grid.{field_side}
use Rattle.judging.proofs.Stretches.{few_lines, as_counted, one_at_most, no_place, place_wrong, place_right}
use mathlib.Core.Bool.{not}
use Rattle.judging.proofs.follow_row.Goals as goal

pub loop-column-init : goal.loop-column-init
loop-column-init c = (omega arith, no_place _ _ _ c.requires.4 c.requires.5)

pub follow_place-requires : goal.follow_place-requires
follow_place-requires c =
    let start = c in
    (start.requires.1, start.requires.2, omega (arith, c.loop-column-test.true, start.requires.1), c.loop-column.invariant.1.in_use)

pub returns-then-not-follow_place : goal.returns-then-not-follow_place
returns-then-not-follow_place c =
    let loop = c.loop-column in
    place_wrong _ _ _ _ c.loop-column-test.true loop.invariant.1 c.follow_place.ensures (ap not c.if-not-follow_place.true)

pub overflow_add-found : goal.overflow_add-found
overflow_add-found c =
    let loop = c.loop-column in
    let start = c in
    let few = few_lines start.args.bytes.now (start.args.row * field_side start.args.width + loop.column) (omega (arith, loop.invariant.0, start.requires.3)) loop.invariant.1.tells in
    let one : c.from-found.result ≤ 1 = one_at_most _ c.from-found.ensures in
    omega arith

pub loop-column-preserved : goal.loop-column-preserved
loop-column-preserved c =
    let loop = c.loop-column in
    let inside = c.loop-column-test.true in (
      omega (arith, inside),
      place_right _ _ _ _ inside loop.invariant.1 c.follow_place.ensures (ap not c.if-not-follow_place.false) c.requires.3
          (ap (λ (n : ℕ). c.loop-column.found + n) (c.from-found.ensures ∙ as_counted _)),
    )

pub returns : goal.returns
returns c =
    let loop = c.loop-column in
    let all : loop.column ≡ field_side c.args.width = omega (arith, loop.invariant.0, c.loop-column-test.false) in
    rw all at loop.invariant.1
