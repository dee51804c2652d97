-- The tally with nothing counted, as a contract names it: `Tally::EMPTY` in the code.
use Rattle.tally.specs.declared.Tally.{Tally}

abbrev pub empty : Tally
empty = record { visited = 0; layouts = 0; fewest = 481 }
