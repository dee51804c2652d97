-- The pad check's first test, as the code comes to it: four tests one after the other, as long as none holds.
use mathlib.Core.Path.{◌≡◌, refl, ◌∙◌}
use mathlib.Core.Bool.{Bool, true, false}
use mathlib.Core.List.{List}
use Prim.Native.Nat.{ℕ, suc, ◌+◌, ◌-◌, ◌*◌, ◌≤◌}
use lib.IntN.{ℤ}
use native.Mathlib.Omega.{arith}
use Rattle.std.specs.Prelude.{◌||◌}
use borrow.Author.Tests.{ne_eqb}
use Rattle.model.specs.JoinedEnds.{at_clue}
use Rattle.boardview.specs.View.{end_at, code_number, keeps_apart, some_apart, clue_apart}
use Rattle.boardview.specs.Cycle.{beyond_left, beyond_right_side, beyond_up, beyond_down}

-- a test that holds leaves out the next one
pub or_first : (a b x : Bool) → a ≡ true → x ≡ a → x ≡ a || b
or_first a b x h e = rw (e, h) refl

pub or_next : (a b x : Bool) → a ≡ false → x ≡ b → x ≡ a || b
or_next a b x h e = rw (e, h) refl

regroup : (a b c d : Bool) → ((a || b) || c) || d ≡ a || (b || (c || d))
regroup true b c d = refl
regroup false true c d = refl
regroup false false c d = refl

module _ (edges : List ℕ) (ends : List ℤ) (w v code : ℕ) (e : at_clue code ≡ end_at ends v) (b : w ≤ 16) where
  abbrev pub left : Bool
  left = keeps_apart edges ends (suc code) (30 + 2 * v) (15 + v - 16)

  abbrev pub right : Bool
  right = keeps_apart edges ends (suc code) (32 + 2 * v) (17 + v - 16)

  abbrev pub up : Bool
  up = keeps_apart edges ends (suc code) (33 + 2 * v - 2 * w) (16 + v - w - 16)

  abbrev pub down : Bool
  down = keeps_apart edges ends (suc code) (33 + 2 * v) (16 + v + w - 16)

  four : ((left || right) || up) || down ≡ clue_apart edges ends w v
  unfolding clue_apart some_apart code_number
  four = regroup left right up down ∙ rw (← e, ne_eqb (suc code) 0 (omega arith), beyond_left v, beyond_right_side v, beyond_up v w b, beyond_down v w) refl

  pub some_of_four : (x y z : Bool) → x ≡ left || right → y ≡ x || up → z ≡ y || down → z ≡ clue_apart edges ends w v
  some_of_four x y z ex ey ez = ez ∙ (rw (ey, ex) four)
