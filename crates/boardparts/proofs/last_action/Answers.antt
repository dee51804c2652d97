-- `boardparts::last_action` meets its contract: the code that the table holds is read back.
use Prim.Native.Nat.{ℕ, ◌+◌, ◌-◌, ◌≤◌, ◌<◌}
use mathlib.Core.Path.{◌≡◌, refl, ap, ◌∙◌}
use native.Mathlib.Omega.{arith}
use lib.ListN.{get_or}
use borrow.Author.Tests.{lt-ltb, le-ltb}
use Rattle.boardview.specs.View.{slot_around}
use Rattle.boardview.specs.Actions.{decoded, code_read, action_read, open_line, open_none}
use Rattle.boardparts.proofs.last_action.Goals as goal

at_once : (width v code n : ℕ) → code ≡ n → n < 2 → n ≡ decoded width v code
at_once width v code n e h = rw (e, lt-ltb n 2 h) refl

a_line : (width v code slot : ℕ) → 2 ≤ code → code < 6 → slot ≡ slot_around width v (code - 2) → slot ≡ decoded width v code
a_line width v code slot low high e = rw (le-ltb code 2 low, lt-ltb code 6 high) e

no_line : (width v code slot : ℕ) → 6 ≤ code → slot ≡ slot_around width v (code - 6) → slot + 1024 ≡ decoded width v code
no_line width v code slot low e = rw (le-ltb code 2 (omega arith), le-ltb code 6 low) (ap (λ (n : ℕ). n + 1024) e)

pub returns-then-code-eq0-clause-acts : goal.returns-then-code-eq0-clause-acts
returns-then-code-eq0-clause-acts c =
    at_once _ _ _ 0 c.if-code-eq0.true (omega arith)
    ∙ action_read c.args.edges.now c.requires.1 c.args.kinds.now c.args.kinds.now.width c.args.v _ (c.from-code.ensures ∙ ap (λ (n : ℕ). get_or c.args.kinds.now.actions n 0) c.action_index.ensures.0)

pub returns-then-code-eq1-clause-acts : goal.returns-then-code-eq1-clause-acts
returns-then-code-eq1-clause-acts c =
    at_once _ _ _ 1 c.if-code-eq1.true (omega arith)
    ∙ action_read c.args.edges.now c.requires.1 c.args.kinds.now c.args.kinds.now.width c.args.v _ (c.from-code.ensures ∙ ap (λ (n : ℕ). get_or c.args.kinds.now.actions n 0) c.action_index.ensures.0)

pub returns-then-code-lt6-clause-acts : goal.returns-then-code-lt6-clause-acts
returns-then-code-lt6-clause-acts c =
    a_line _ _ _ _ (omega arith) c.if-code-lt6.true c.slot_around.ensures.0
    ∙ action_read c.args.edges.now c.requires.1 c.args.kinds.now c.args.kinds.now.width c.args.v _ (c.from-code.ensures ∙ ap (λ (n : ℕ). get_or c.args.kinds.now.actions n 0) c.action_index.ensures.0)

pub returns-then-code-lt6-clause-at_slot : goal.returns-then-code-lt6-clause-at_slot
returns-then-code-lt6-clause-at_slot c =
    let code_is = code_read c.args.edges.now c.requires.1 c.args.kinds.now c.args.kinds.now.width c.args.v _ (c.from-code.ensures ∙ ap (λ (n : ℕ). get_or c.args.kinds.now.actions n 0) c.action_index.ensures.0) in
    (c.slot_around.ensures.1, ap (λ (n : ℕ). get_or c.args.edges.now n 0) c.slot_around.ensures.0 ∙ open_line c.args.kinds.now.bits c.args.edges.now c.args.kinds.now.width c.args.v _ code_is (omega arith) c.if-code-lt6.true)

pub returns-clause-acts : goal.returns-clause-acts
returns-clause-acts c =
    no_line _ _ _ _ c.if-code-lt6.false c.slot_around-2.ensures.0
    ∙ action_read c.args.edges.now c.requires.1 c.args.kinds.now c.args.kinds.now.width c.args.v _ (c.from-code.ensures ∙ ap (λ (n : ℕ). get_or c.args.kinds.now.actions n 0) c.action_index.ensures.0)

pub returns-clause-at_slot : goal.returns-clause-at_slot
returns-clause-at_slot c =
    let code_is = code_read c.args.edges.now c.requires.1 c.args.kinds.now c.args.kinds.now.width c.args.v _ (c.from-code.ensures ∙ ap (λ (n : ℕ). get_or c.args.kinds.now.actions n 0) c.action_index.ensures.0) in
    (c.slot_around-2.ensures.1, ap (λ (n : ℕ). get_or c.args.edges.now n 0) c.slot_around-2.ensures.0 ∙ open_none c.args.kinds.now.bits c.args.edges.now c.args.kinds.now.width c.args.v _ code_is (omega arith) c.if-code-lt6.false)
