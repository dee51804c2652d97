-- Every listed drawing agrees with the fresh board.
use Rattle.std.specs.Prelude.{◌≡◌}
use Rattle.std.proofs.Math.Path.{refl}
use Rattle.std.proofs.Math.Bool.{false}
use Rattle.rules.specs.Grid.{Grid}
use Rattle.rules.specs.Drawing.{Drawing, Listed}
use Rattle.model.specs.Board.{bare, fresh}
use Rattle.propagation.specs.Agreement.{Agrees}
use Rattle.rules.specs.ProperGrid.{Proper}
use Rattle.propagation.specs.BareBoard.{agrees_with_bare}
use Rattle.propagation.proofs.Decisions.{sound_after}
use Rattle.propagation.specs.Preparing.{fresh_after, agrees_at_holes, bare_rests}

module _ (g : Grid) (proper : Proper g) where
  pub agrees_with_fresh : (D : Drawing) → Listed g D → ((fresh g).flag ≡ false) × Agrees D (fresh g)
  agrees_with_fresh D listed = sound_after g proper (bare_rests g proper) (fresh_after g proper) D listed
      ((unfold bare in refl), agrees_with_bare g proper.tall proper.wide proper.blank_past D listed) (agrees_at_holes g proper D listed)
