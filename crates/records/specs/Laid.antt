-- A record that is laid out by a function that answers a byte at the pads of an edge: where it is asked, what its answers say of the bytes
-- of the edges, and what has been put into a buffer. Definitions only; they rest on the rules' Record.antt, on grid's PadsAt.antt and on the
-- model's PutBytes.antt.
use Rattle.std.specs.Prelude.{ℕ, ◌≤◌, ◌<◌, ◌≡◌, List, length, Some}
use Rattle.rules.specs.Grid.{Edge, Place, field_side, place_at}
use Rattle.rules.specs.Record.{record_lines}
use Rattle.model.specs.PutBytes.{put_bytes}
use Rattle.grid.specs.declared.Pads.{Pads}
use Rattle.grid.specs.PadsAt.{pads_of, edge_of}

-- if a place joins pads, this is so of them
abbrev pub IfPads : ℕ → Place → (Pads → Type 0) → Type 0
IfPads width place So = (pads : Pads) → Some pads ≡ pads_of width place → So pads

-- this is so of the pads of each edge of a row of the field, and of the whole field
abbrev pub EachInRow : ℕ → ℕ → (Pads → Type 0) → Type 0
EachInRow width row So = (column : ℕ) → column < field_side width → IfPads width (place_at width row column) So

abbrev pub EachInField : ℕ → ℕ → (Pads → Type 0) → Type 0
EachInField height width So = (row : ℕ) → row < field_side height → EachInRow width row So

-- whatever is answered at the pads is the byte of their edge
abbrev pub AnswersByte : (Pads → ℕ → Type 0) → (Edge → ℕ) → Pads → Type 0
AnswersByte Answers bytes pads = (byte : ℕ) → Answers pads byte → byte ≡ bytes (edge_of pads)

-- LAID OUT: n bytes have been put into the buffer from an index on and their lines counted; they are those of the text that goes with the
-- bytes of the edges, whatever bytes the answers tell of
pub record Laid (Told : (Edge → ℕ) → Type 0) (text : (Edge → ℕ) → List ℕ) (n at : ℕ) (buffer : List ℕ) (lines : ℕ) (buffer' : List ℕ) : Type 0 where
  pub few : lines ≤ n
  pub same_length : length buffer' ≡ length buffer
  pub written : (bytes : Edge → ℕ) → Told bytes → buffer' ≡ put_bytes at (text bytes) buffer
  pub counted : (bytes : Edge → ℕ) → Told bytes → lines ≡ record_lines (text bytes)
