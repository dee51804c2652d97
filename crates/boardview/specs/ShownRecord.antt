-- The record that a board's edges show: what laying out a record promises. It rests on View.antt and the rules' Record.antt. Nothing is
-- proved here; the laws stand in ShownRecordLaws.antt.
use Rattle.std.specs.Prelude.{ℕ, List, []}
use Rattle.rules.specs.Grid.{Edge, Grid}
use Rattle.rules.specs.Record.{field}
use Rattle.model.specs.Board.{State}
use Rattle.model.specs.Calls.{state_byte}
use Rattle.boardview.specs.View.{view}

-- the state that the edges show, with nothing said of ends and flag
unfoldable pub edges_only : List ℕ → State
edges_only edges = view (record { edges = edges; ends = []; log = []; count = 0 })

-- the byte of each edge, and the record of them
abbrev pub bytes_shown : List ℕ → Edge → ℕ
bytes_shown edges e = state_byte ((edges_only edges).edge e)

unfoldable pub record_shown : Grid → List ℕ → List ℕ
record_shown g edges = field g.height g.width (bytes_shown edges)
