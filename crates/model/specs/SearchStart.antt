-- Where the search of a board starts, by its flag: nowhere, or at the first pad with its right edge undecided, or in the last row. Two laws
-- of `search_from` (Search.antt).
use Rattle.std.specs.Prelude.{◌≡◌, Bool, true, false, List, []}
use Rattle.std.proofs.Math.Path.{ap}
use Rattle.rules.specs.Grid.{Grid, pads}
use Rattle.model.specs.Board.{State}
use Rattle.model.specs.Runs.{Event}
use Rattle.model.specs.Search.{next_pad, backtrack, search_from}

module _ (g : Grid) (S : State) where
  abbrev from : Bool → List Event
  from flag = elim flag [ true ↦ [] | false ↦ backtrack g (pads g) (next_pad g (pads g) 0 S) S ]

  pub flagged_search : S.flag ≡ true → search_from g S ≡ []
  unfolding search_from
  flagged_search set = ap from set

  pub clear_search : S.flag ≡ false → search_from g S ≡ backtrack g (pads g) (next_pad g (pads g) 0 S) S
  unfolding search_from
  clear_search clear = ap from clear
