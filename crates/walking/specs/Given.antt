-- The codes that pads have been given so far, as a record of bytes shows them: each edge of a pad before v has its byte, and between the edges
-- stands 0. What is written when a pad gets its code, and when the record is full. It rests on the rules' Record.antt and on the model's Judge.antt.
-- Nothing is proved in this file; the laws stand in GivenLaws.antt.
use Rattle.std.specs.Prelude.{ℕ, ◌%◌, ◌/◌, ◌<◌, ◌≡◌, Bool, true, false, List, [], ◌∷◌, eqb, get_or, set, length}
use Rattle.rules.specs.Grid.{Edge, first, no_edge, place_at, field_side, places, Grid, OnBoard}
use Rattle.rules.specs.Drawing.{Drawing, drawn}
use Rattle.rules.specs.Record.{undecided_byte, byte_of, place_number}
use Rattle.std.specs.Prelude.{if◌then◌else◌}
use Rattle.model.specs.PadTests.{on_board}
use Rattle.model.specs.Runs.{Event, layout}
use Rattle.model.specs.Judge.{verdict}

-- SHOWING: the edges of the board that are given have the bytes of the drawing, and between the edges stands 0; any other edge may have any byte
pub record Showing (g : Grid) (D : Drawing) (Given : Edge → Type 0) (bytes : List ℕ) : Type 0 where
  pub long : length bytes ≡ places g.height g.width
  pub given : (e : Edge) → OnBoard g e → Given e → get_or bytes (place_number g.width e) undecided_byte ≡ byte_of (drawn D e)
  pub between : (n : ℕ) → n < places g.height g.width → place_at g.width (n / field_side g.width) (n % field_side g.width) ≡ no_edge
      → get_or bytes n undecided_byte ≡ undecided_byte

-- the codes of the pads before v are shown
abbrev pub Shows : Grid → Drawing → ℕ → List ℕ → Type 0
Shows g D v bytes = Showing g D (λ e. first e < v) bytes

-- an edge is written where it is on the board
unfoldable pub put_edge : Grid → Edge → Bool → List ℕ → List ℕ
put_edge g e line bytes = if on_board g e then set bytes (place_number g.width e) (byte_of line) else bytes

-- the record of a full drawing is a layout where the test of the rules marks it 2
unfoldable pub tested_record : Grid → List ℕ → List Event
tested_record g bytes = elim (eqb (verdict g bytes) 2) [ true ↦ layout bytes ∷ [] | false ↦ [] ]
