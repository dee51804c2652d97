-- On alike grids the boards are alike: decisions and pad checks take alike states to alike states, and the fresh boards are alike. Every
-- function of Board.antt has one law here, alike in, alike out. It rests on AlikeEnds.antt and on the model's Board.antt.
-- What is proved of them stands in proofs/AlikeStates.antt.
use Rattle.std.specs.Prelude.{◌≡◌}
use mathlib.Core.List.{List, [], ◌∷◌}
use Rattle.rules.specs.Grid.{Grid}
use Rattle.model.specs.Board.{State}
use Rattle.alike.specs.AlikeEnds.{AlikeEverywhere}

-- ALIKE STATES: the same edges, the same flag, alike ends at every pad
pub record AlikeStates (g h : Grid) (S T : State) : Type 0 where
  pub same_edges : S.edge ≡ T.edge
  pub alike_ends : AlikeEverywhere g h S.end T.end
  pub same_flag : S.flag ≡ T.flag

-- ONE BY ONE: two lists of one length, each element related to the one at its place
pub data OneByOne {A : Type 0} (Related : A → A → Type 0) : List A → List A → Type 0 where
  no_more : OneByOne Related [] []
  one_more : {a b : A} {more others : List A} → Related a b → OneByOne Related more others → OneByOne Related (a ∷ more) (b ∷ others)
