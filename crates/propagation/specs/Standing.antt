-- For any caller's decisions, from the fresh board on: a board with a clear flag is at rest, and its holes are shut. BoardCalls.antt ties the calls
-- to this. That a listed drawing that agrees with the decisions standing agrees with every decided edge of the board, and that a set flag means
-- that no listed drawing agrees with them, is proved in proofs/Standing.antt.
use Rattle.std.specs.Prelude.{◌≡◌, false, List}
use Rattle.std.proofs.Common.{ap, ◌∙◌}
use Rattle.rules.specs.Grid.{Grid}
use Rattle.model.specs.Board.{State, is_undecided, fresh}
use Rattle.propagation.specs.Objects.{AllHold}
use Rattle.rules.specs.ProperGrid.{Proper}
use Rattle.propagation.specs.Decisions.{Decision, After, was_clear, decided_stay, rests_after}
use Rattle.propagation.specs.Preparing.{HolesShut, fresh_rests, fresh_shuts_holes}

-- THE DECISIONS STANDING on a state: none on the fresh one, and each decision adds one
abbrev pub Stands : Grid → State → List Decision → Type 0
Stands g S decisions = After g (fresh g) S decisions

module _ (g : Grid) (proper : Proper g) {S : State} {decisions : List Decision} (stands : Stands g S decisions) where
  pub at_rest : S.flag ≡ false → AllHold g S
  at_rest = rests_after g proper (fresh_rests g proper) stands

  pub holes_shut : S.flag ≡ false → HolesShut g S
  holes_shut clear v hole_is p m =
      let none_there = fresh_shuts_holes g proper (was_clear g proper stands clear) v hole_is p m in
      decided_stay g proper stands p.0 (ap is_undecided none_there) ∙ none_there
