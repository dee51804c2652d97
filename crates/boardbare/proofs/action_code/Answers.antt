-- `boardbare::action_code` meets its contract: each branch is a case of the code.
use native.Mathlib.Omega.{arith}
use Rattle.boardbare.proofs.ActionCode.{too_many, one_alone, all_decided, two_lines, last_line, last_none, several_left}
use Rattle.boardbare.proofs.action_code.Goals as goal

pub overflow_add-degree : goal.overflow_add-degree
overflow_add-degree c = omega (arith, c.bytes_equal.ensures.1)

pub returns-then-degree-gt2 : goal.returns-then-degree-gt2
returns-then-degree-gt2 c = too_many c.args.clue c.args.left c.args.right c.args.up c.args.down (omega (arith, c.if-degree-gt2.true, c.bytes_equal.ensures.0))

pub returns-then-degree-eq1 : goal.returns-then-degree-eq1
returns-then-degree-eq1 c = one_alone c.args.clue c.args.left c.args.right c.args.up c.args.down (omega (arith, c.if-degree-gt2.false, c.bytes_equal.ensures.0)) (omega (arith, c.if-undecided-eq0.true, c.bytes_equal-undecided.ensures.0)) (omega (arith, c.if-degree-eq1.true, c.bytes_equal.ensures.0))

pub returns-then-undecided-eq0 : goal.returns-then-undecided-eq0
returns-then-undecided-eq0 c = all_decided c.args.clue c.args.left c.args.right c.args.up c.args.down (omega (arith, c.if-degree-gt2.false, c.bytes_equal.ensures.0)) (omega (arith, c.if-undecided-eq0.true, c.bytes_equal-undecided.ensures.0)) (λ e. c.if-degree-eq1.false (omega (arith, c.bytes_equal.ensures.0)))

pub overflow_add-result : goal.overflow_add-result
overflow_add-result c = omega (arith, c.undecided_side-side.ensures.1)

pub returns-then-degree-eq2 : goal.returns-then-degree-eq2
returns-then-degree-eq2 c =
    let start = c in
    let bytes-equal-says = c.bytes_equal.ensures in
    two_lines start.args.clue start.args.left start.args.right start.args.up start.args.down (omega (arith, c.if-degree-gt2.false, bytes-equal-says.0)) (λ e. c.if-undecided-eq0.false (omega (arith, c.bytes_equal-undecided.ensures.0))) _ c.undecided_side-side.ensures.0 (omega (arith, c.if-degree-eq2.true, bytes-equal-says.0))

pub overflow_add-result-then-degree-eq1-2 : goal.overflow_add-result-then-degree-eq1-2
overflow_add-result-then-degree-eq1-2 c = omega (arith, c.undecided_side-side.ensures.1)

pub returns-then-degree-eq1-2 : goal.returns-then-degree-eq1-2
returns-then-degree-eq1-2 c =
    let start = c in
    let bytes-equal-says = c.bytes_equal.ensures in
    let bytes-equal2-says = c.bytes_equal-undecided.ensures in
    last_line start.args.clue start.args.left start.args.right start.args.up start.args.down (omega (arith, c.if-degree-gt2.false, bytes-equal-says.0)) (λ e. c.if-undecided-eq0.false (omega (arith, bytes-equal2-says.0))) _ c.undecided_side-side.ensures.0 (λ e. c.if-degree-eq2.false (omega (arith, bytes-equal-says.0))) (omega (arith, c.if-undecided-eq1.true, bytes-equal2-says.0)) (omega (arith, c.if-degree-eq1-2.true, bytes-equal-says.0))

pub overflow_add-result-then-undecided-eq1 : goal.overflow_add-result-then-undecided-eq1
overflow_add-result-then-undecided-eq1 c = omega (arith, c.undecided_side-side.ensures.1)

pub returns-then-undecided-eq1 : goal.returns-then-undecided-eq1
returns-then-undecided-eq1 c =
    let start = c in
    let bytes-equal-says = c.bytes_equal.ensures in
    let bytes-equal2-says = c.bytes_equal-undecided.ensures in
    last_none start.args.clue start.args.left start.args.right start.args.up start.args.down (omega (arith, c.if-degree-gt2.false, bytes-equal-says.0)) (λ e. c.if-undecided-eq0.false (omega (arith, bytes-equal2-says.0))) _ c.undecided_side-side.ensures.0 (λ e. c.if-degree-eq2.false (omega (arith, bytes-equal-says.0))) (omega (arith, c.if-undecided-eq1.true, bytes-equal2-says.0)) (λ e. c.if-degree-eq1-2.false (omega (arith, bytes-equal-says.0)))

pub returns : goal.returns
returns c =
    let start = c in
    let bytes-equal-says = c.bytes_equal.ensures in
    let bytes-equal2-says = c.bytes_equal-undecided.ensures in
    several_left start.args.clue start.args.left start.args.right start.args.up start.args.down (omega (arith, c.if-degree-gt2.false, bytes-equal-says.0)) (λ e. c.if-undecided-eq0.false (omega (arith, bytes-equal2-says.0))) _ c.undecided_side-side.ensures.0 (λ e. c.if-degree-eq2.false (omega (arith, bytes-equal-says.0))) (λ e. c.if-undecided-eq1.false (omega (arith, bytes-equal2-says.0)))
