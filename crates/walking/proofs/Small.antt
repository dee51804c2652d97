-- An edge of a pad that is put into a record: its place, and what is put there. They rest on the rules' laws of records.
use Prim.Native.Nat.{ℕ, ◌%◌, ◌/◌, ◌<◌}
use mathlib.Core.Path.{◌≡◌, refl, sym, ap, ◌∙◌}
use mathlib.Core.Bool.{Bool, true, false}
use mathlib.Core.List.{List}
use native.Mathlib.Nat.{div-add-mod'}
use lib.ListN.{set}
use lib.IntN.{ℤ}
use Rattle.rules.specs.Grid.{Edge, grid_of, places, pad_index}
use Rattle.rules.specs.Record.{byte_of, place_number}
use Rattle.rules.proofs.RecordLaws.{edge_number_in_field}
use Rattle.model.specs.BoardLaws.{on_board_of_test}
use Rattle.model.specs.PadTests.{on_board}
use Rattle.grid.specs.declared.Direction.{Direction}
use Rattle.grid.specs.declared.accepted.Grid.{Grid as AcceptedGrid}
use Rattle.grid.specs.AsGrid.{as_grid}
use Rattle.grid.specs.Directions.{edge_to}
use Rattle.walking.specs.Given.{put_edge}

-- AN EDGE IS WRITTEN where it is on the board
module _ (grid : AcceptedGrid) (v : ℕ) (d : Direction) where
  abbrev its_edge : Edge
  its_edge = edge_to d v

  its_place : {place : ℕ} → place ≡ place_number grid.width (edge_to d (pad_index grid.width (v / grid.width) (v % grid.width))) → place ≡ place_number grid.width its_edge
  its_place is = is ∙ ap (λ u. place_number grid.width (edge_to d u)) (div-add-mod' v grid.width)

  module _ {there : Bool} (tested : (cells : List ℤ) → there ≡ on_board (grid_of grid.height grid.width cells) its_edge) where
    module _ (on : there ≡ true) {place : ℕ} (at : place ≡ place_number grid.width (edge_to d (pad_index grid.width (v / grid.width) (v % grid.width)))) where
      pub place_inside : place < places grid.height grid.width
      unfolding grid_of
      place_inside = rw (its_place at) (edge_number_in_field (as_grid grid) grid.accepted.width_in_range.0 its_edge (on_board_of_test (as_grid grid) its_edge (sym (tested grid.cells.now) ∙ on)))

      pub edge_written : (line : Bool) (byte : ℕ) → byte ≡ byte_of line → (bytes : List ℕ) → set bytes place byte ≡ put_edge (as_grid grid) its_edge line bytes
      unfolding grid_of put_edge
      edge_written line byte is bytes = rw (sym (tested grid.cells.now) ∙ on, its_place at, is) refl

    pub edge_left_out : there ≡ false → (line : Bool) (bytes : List ℕ) → bytes ≡ put_edge (as_grid grid) its_edge line bytes
    unfolding grid_of put_edge
    edge_left_out off line bytes = rw (sym (tested grid.cells.now) ∙ off) refl
