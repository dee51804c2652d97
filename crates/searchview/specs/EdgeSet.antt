-- After the two decisions of an m with a clear flag the right edge of the pad is decided, so the next pad comes later. It rests on the
-- theory of a decision: a decision with a clear flag sets its edge, and a decided edge stays.
use Rattle.std.specs.Prelude.{ℕ, ◌≤◌, ◌≡◌, Bool, false}
use Rattle.std.proofs.Common.{ap, ◌∙◌}
use Rattle.rules.specs.Grid.{right, down, Grid}
use Rattle.model.specs.Board.{State, is_undecided, line_or_none, decide, enough}
use Rattle.propagation.specs.Edges.{line_or_none_decided}
use Rattle.propagation.specs.Kept.{calls_keep}
use Rattle.propagation.specs.Squares.{geometry}

module _ (g : Grid) (wide : 2 ≤ g.width) (v : ℕ) (go_right go_down : Bool) (S : State) where
  abbrev after_right : State
  after_right = decide g (enough g) (right v) (line_or_none go_right) S

  abbrev after_both : State
  after_both = decide g (enough g) (down v) (line_or_none go_down) after_right

  pub right_decided : after_both.flag ≡ false → is_undecided (after_both.edge (right v)) ≡ false
  right_decided clear =
      let calls = calls_keep g (geometry g wide) (enough g) in
      let later = calls.decide_onward (down v) (line_or_none go_down) after_right (line_or_none_decided go_down) in
      let set = calls.decide_sets (right v) (line_or_none go_right) S (line_or_none_decided go_right) (later.was_clear clear) in
      let was : is_undecided (after_right.edge (right v)) ≡ false = ap is_undecided set ∙ line_or_none_decided go_right in
      ap is_undecided (later.decided_stay (right v) was) ∙ was
