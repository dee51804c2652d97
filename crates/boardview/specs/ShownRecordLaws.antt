-- Laws of the record that the arrays show: the byte at the slot of an edge, and how long the record is. They rest on ShownRecord.antt.
use Rattle.std.specs.Prelude.{ℕ, zero, suc, ◌≤◌, ◌<◌, ◌≡◌, List, get_or, length}
use Rattle.std.proofs.Math.Path.{refl, sym}
use Rattle.std.proofs.Common.{◌∙◌, arith}
use Rattle.rules.specs.Grid.{Edge, places, Grid}
use Rattle.rules.specs.RecordLaws.{length_field}
use Rattle.model.specs.Calls.{state_byte}
use Rattle.model.specs.Lists.{default_free}
use Rattle.boardview.specs.View.{slot, state_of, view}
use Rattle.boardview.specs.ShownRecord.{edges_only, bytes_shown, record_shown}

-- a byte is that of its state
byte_back : (b : ℕ) → b ≤ 2 → state_byte (state_of b) ≡ b
unfolding state_of
byte_back zero h = refl
byte_back (suc zero) h = refl
byte_back (suc (suc zero)) h = refl
byte_back (suc (suc (suc b))) h = absurd (omega arith)

-- the byte at the slot of an edge
pub edge_byte : (edges : List ℕ) → length edges ≡ 1024 → ((n : ℕ) → get_or edges n 2 ≤ 2) → (e : Edge) → slot e < 1024 → get_or edges (slot e) 0 ≡ bytes_shown edges e
unfolding edges_only view
edge_byte edges long bytes e inside = default_free edges (slot e) 0 2 (omega arith) ∙ sym (byte_back (get_or edges (slot e) 2) (bytes (slot e)))

-- a record is as long as the field has places
pub shown_length : (g : Grid) (edges : List ℕ) → length (record_shown g edges) ≡ places g.height g.width
unfolding record_shown
shown_length g edges = length_field g.height g.width (bytes_shown edges)
