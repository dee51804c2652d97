-- The sum of clue, lines and the two choices, by the law of the degree. Assumes nothing.
use Prim.Native.Nat.{ℕ, ◌+◌}
use mathlib.Core.Path.{◌≡◌, refl, ap, ◌∙◌}
use mathlib.Core.Bool.{true, ◌||◌}
use lib.Dec.{eqb}
use borrow.Author.Tests.{eq-eqb, ne_eqb}
use Rattle.rules.specs.Drawing.{num}
use Rattle.grid.specs.Numbers.{test_number}
use Rattle.searchview.specs.ShownLaws.{tried_as}
use Rattle.searchparts.proofs.tried.Goals as goal

sum : {a b c d e a' b' c' d' e' : ℕ} → a ≡ a' → b ≡ b' → c ≡ c' → d ≡ d' → e ≡ e' → a + b + c + d + e ≡ a' + b' + c' + d' + e'
sum p q r s t = cc

zero_tried : (d : ℕ) → d ≡ 0 → true ≡ (eqb d 0 || eqb d 2)
zero_tried d h = rw (eq-eqb d 0 h) refl

other_tried : (d : ℕ) → (d ≡ 0 → ⊥) → eqb d 2 ≡ (eqb d 0 || eqb d 2)
other_tried d h = rw (ne_eqb d 0 h) refl

pub returns-then-degree-eq0 : goal.returns-then-degree-eq0
returns-then-degree-eq0 c =
    let degree = sum (c.from.ensures ∙ (test_number _ ∙ ap num c.has.ensures)) (c.from-2.ensures ∙ test_number _) (c.from-3.ensures ∙ test_number _) (c.from-4.ensures ∙ test_number _) (c.from-5.ensures ∙ test_number _) in
    rw (eq-eqb _ 0 c.if-degree-eq0.true) (zero_tried _ c.if-degree-eq0.true ∙ tried_as c.args.kinds.now _ c.requires.1 _ c.requires.0 c.args.right c.args.down _ degree)

pub returns-else-degree-eq0 : goal.returns-else-degree-eq0
returns-else-degree-eq0 c =
    let degree = sum (c.from.ensures ∙ (test_number _ ∙ ap num c.has.ensures)) (c.from-2.ensures ∙ test_number _) (c.from-3.ensures ∙ test_number _) (c.from-4.ensures ∙ test_number _) (c.from-5.ensures ∙ test_number _) in
    other_tried _ c.if-degree-eq0.false ∙ tried_as c.args.kinds.now _ c.requires.1 _ c.requires.0 c.args.right c.args.down _ degree
