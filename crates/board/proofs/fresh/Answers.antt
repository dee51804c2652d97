-- `board::fresh` meets its contract: the fresh arrays show the model's fresh board, and no checkpoint stands. Assumes nothing.
use Rattle.board.specs.DecisionLaws.{fresh_holds}
use Rattle.board.proofs.fresh.Goals as goal

pub returns : goal.returns
returns c = fresh_holds _ _ _ _ c.fresh_board-fresh.ensures.0 c.fresh_board-fresh.ensures.1 c.none.ensures

pub invariant_of-result : goal.invariant_of-result
invariant_of-result c = record { held = ∣ (_, fresh_holds _ _ _ _ c.fresh_board-fresh.ensures.0 c.fresh_board-fresh.ensures.1 c.none.ensures) ∣₁ }
