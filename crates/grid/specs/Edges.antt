-- The named constants of the edge type, for contracts: bytes 0 undecided, 1 line, 2 none. Assumes nothing.
use Rattle.grid.specs.declared.Edge.{Edge}

abbrev pub undecided : Edge
undecided = record { 0 = 0 }

abbrev pub line : Edge
line = record { 0 = 1 }

abbrev pub none : Edge
none = record { 0 = 2 }
