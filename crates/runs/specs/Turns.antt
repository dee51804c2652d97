-- FOUR TURNS: an engine that tries m = 0 to 3 one after the other. The events of what is left to try, and one turn of the loop. It rests on
-- Progress.antt.
use Prim.Native.Nat.{ℕ, zero, suc, ◌+◌, ◌-◌, ◌<◌}
use Rattle.std.specs.Prelude.{◌≡◌, List, [], ◌++◌}
use Rattle.std.proofs.Math.Path.{refl}
use Rattle.std.proofs.Common.{sym, ap, ◌∙◌, append-nil}
use native.Mathlib.Omega.{arith}
use Rattle.model.specs.Runs.{Event}
use Rattle.runs.specs.Progress.{Progress, advance, goes_on, advance_append}

-- the events of so many m from one on
unfoldable pub turns_left : (ℕ → List Event) → ℕ → ℕ → List Event
turns_left turn zero m = []
turns_left turn (suc more) m = turn m ++ turns_left turn more (m + 1)

pub four_turns : (turn : ℕ → List Event) → turn 0 ++ (turn 1 ++ (turn 2 ++ turn 3)) ≡ turns_left turn 4 0
unfolding turns_left
four_turns turn = ap (λ (l : List Event). turn 0 ++ (turn 1 ++ (turn 2 ++ l))) (sym (append-nil (turn 3)))

-- one turn: from a progress Q with the outcome 0, over which the events of m have gone to Q', what is left is looked at only where Q' has the
-- outcome 0
module _ (limit size : ℕ) (turn : ℕ → List Event) (m : ℕ) (less : m < 4) (P Q Q' : Progress) (clear : Q.outcome ≡ 0)
    (so_far : advance limit size P (turns_left turn 4 0) ≡ advance limit size Q (turns_left turn (4 - m) m)) (turned : Q' ≡ advance limit size Q (turn m)) where
  this_one : turns_left turn (4 - m) m ≡ turn m ++ turns_left turn (4 - (m + 1)) (m + 1)
  unfolding turns_left
  this_one = let next : 4 - m ≡ suc (4 - (m + 1)) = omega arith in rw next refl

  pub one_turn : advance limit size P (turns_left turn 4 0) ≡ goes_on limit size (turns_left turn (4 - (m + 1)) (m + 1)) Q'
  one_turn = so_far ∙ ap (advance limit size Q) this_one
      ∙ advance_append limit size (turn m) (turns_left turn (4 - (m + 1)) (m + 1)) Q clear
      ∙ ap (goes_on limit size (turns_left turn (4 - (m + 1)) (m + 1))) (sym turned)
