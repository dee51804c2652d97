-- For any caller's decisions, from the fresh board on: a listed drawing that agrees with the decisions standing agrees with every decided edge of
-- the board; and a set flag means that no listed drawing agrees with them.
use Rattle.std.specs.Prelude.{◌≡◌, true, false, List}
use Rattle.rules.specs.Grid.{Grid}
use Rattle.rules.specs.Drawing.{Drawing, Listed}
use Rattle.rules.specs.Tests.{conflict}
use Rattle.model.specs.Board.{State}
use Rattle.propagation.specs.Agreement.{Agrees}
use Rattle.rules.specs.ProperGrid.{Proper}
use Rattle.propagation.proofs.Decisions.{sound_after}
use Rattle.propagation.proofs.Preparing.{agrees_with_fresh}
use Rattle.propagation.specs.Preparing.{fresh_rests}
use Rattle.propagation.specs.Decisions.{Decision, AgreesWith}
use Rattle.propagation.specs.Standing.{Stands}

module _ (g : Grid) (proper : Proper g) {S : State} {decisions : List Decision} (stands : Stands g S decisions) where
  pub decisions_sound : (D : Drawing) → Listed g D → AgreesWith D decisions → (S.flag ≡ false) × Agrees D S
  decisions_sound D listed agrees = sound_after g proper (fresh_rests g proper) stands D listed (agrees_with_fresh g proper D listed) agrees

  pub flag_means_none : S.flag ≡ true → (D : Drawing) → Listed g D → AgreesWith D decisions → ⊥
  flag_means_none set D listed agrees = conflict set (decisions_sound D listed agrees).0
