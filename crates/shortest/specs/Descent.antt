-- What is found from an ordinary drawing: a listed one that is no worse. proofs/Descent.antt finds it.
use Rattle.std.specs.Prelude.{◌≤◌}
use Rattle.rules.specs.Grid.{Grid}
use Rattle.rules.specs.Drawing.{Drawing, Listed, SamePairs, number_of_lines}

-- a listed drawing that is no worse than D
pub record NoWorse (g : Grid) (D : Drawing) : Type 1 where
  pub drawing : Drawing
  pub listed : Listed g drawing
  pub same_pairs : SamePairs g D drawing
  pub no_more_lines : number_of_lines g drawing ≤ number_of_lines g D
