-- The first pad of an edge of the field, and the byte at the slot of an edge. Assumes nothing.
use Prim.Native.Nat.{ℕ, ◌≤◌, ◌<◌}
use mathlib.Core.Path.{◌≡◌, sym}
use mathlib.Core.List.{List}
use native.Mathlib.Omega.{arith}
use lib.ListN.{get_or, length}
use Rattle.std.specs.Prelude.{Some}
use Rattle.rules.specs.Grid.{Size, field_side, place_at}
use Rattle.rules.proofs.Places.{first_small}
use Rattle.grid.specs.Directions.{edge_to, first_to}
use Rattle.grid.specs.declared.Pads.{Pads}
use Rattle.grid.specs.PadsAt.{pads_of, edge_of, place_of, told_place}
use Rattle.boardparts.specs.Sides.{slot_small}
use Rattle.boardview.specs.View.{slot}
use Rattle.boardview.specs.ShownRecord.{bytes_shown}
use Rattle.boardview.specs.ShownRecordLaws.{edge_byte}

pub small_pad : (height width : ℕ) → Size height → Size width → (row column : ℕ) → row < field_side height → column < field_side width
    → {pads : Pads} → Some pads ≡ pads_of width (place_at width row column) → pads.first < 256
unfolding edge_of place_of
small_pad height width tall wide row column below inside {pads} are =
    rw (first_to pads.direction pads.first)
    (first_small width row column wide.1 (omega arith) (omega arith) (edge_of pads) (sym (told_place width (place_at width row column) are)))

pub byte_at_slot : (edges : List ℕ) → length edges ≡ 1024 → ((n : ℕ) → get_or edges n 2 ≤ 2) → (pads : Pads) → pads.first < 256
    → {n : ℕ} → n ≡ slot (edge_to pads.direction pads.first) → get_or edges n 0 ≡ bytes_shown edges (edge_of pads)
unfolding edge_of
byte_at_slot edges long bytes pads small is = rw is (edge_byte edges long bytes (edge_to pads.direction pads.first) (slot_small pads.direction pads.first small))
