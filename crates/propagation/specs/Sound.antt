-- What a listed drawing asks of a state: a decision that it agrees with keeps it (proofs/Sound.antt).
use Rattle.std.specs.Prelude.{◌≡◌}
use Rattle.std.proofs.Math.Bool.{false}
use Rattle.rules.specs.Grid.{Grid}
use Rattle.rules.specs.Drawing.{Drawing}
use Rattle.model.specs.Board.{State}
use Rattle.ends.specs.Ends.{Ends}
use Rattle.propagation.specs.Edges.{board_lines}
use Rattle.propagation.specs.Agreement.{Agrees}

-- the flag is clear, the drawing agrees, and the ends say what they should
pub record Fits (g : Grid) (D : Drawing) (S : State) : Type 0 where
  pub clear : S.flag ≡ false
  pub agrees : Agrees D S
  pub ends_say : Ends g.cell (board_lines g S) S.end
