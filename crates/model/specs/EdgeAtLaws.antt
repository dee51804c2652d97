-- The edge at any row and column: outside the field there is none, inside it stands what the rules find there, and that is on the board.
-- Laws of `edge_at` (Calls.antt); they rest on the rules' Places.antt.
use Rattle.std.specs.Prelude.{ℕ, ◌≤◌, ◌<◌, ◌≡◌, Bool, ◌&&◌}
use Rattle.std.proofs.Math.Path.{refl}
use Rattle.std.proofs.Math.Bool.{true, false}
use Rattle.std.proofs.Math.Dec.{ltb}
use borrow.Author.Tests.{lt-ltb, le-ltb, ltb-true}
use Rattle.rules.specs.Grid.{Edge, edge, no_edge, place_at, field_side, Grid, OnBoard}
use Rattle.rules.specs.Tests.{both}
use Rattle.rules.specs.Places.{zero≢one}
use Rattle.rules.proofs.Places.{edge_of_place}
use Rattle.model.specs.Calls.{edge_at}

module _ (g : Grid) (row column : ℕ) where
  pub row_outside : field_side g.height ≤ row → edge_at g row column ≡ no_edge
  unfolding edge_at
  row_outside off = rw (le-ltb row (field_side g.height) off, edge_at) refl

  module _ (row_in : row < field_side g.height) where
    pub column_outside : field_side g.width ≤ column → edge_at g row column ≡ no_edge
    unfolding edge_at
    column_outside off = rw (lt-ltb row (field_side g.height) row_in, le-ltb column (field_side g.width) off, edge_at) refl

    pub in_field : column < field_side g.width → edge_at g row column ≡ place_at g.width row column
    unfolding edge_at
    in_field column_in = rw (lt-ltb row (field_side g.height) row_in, lt-ltb column (field_side g.width) column_in, edge_at) refl

  pub edge_at_on : 2 ≤ g.width → (e : Edge) → edge_at g row column ≡ edge e → OnBoard g e
  unfolding edge_at
  edge_at_on wide e at = go (ltb row (field_side g.height) && ltb column (field_side g.width)) refl
    where
      go : (b : Bool) → (ltb row (field_side g.height) && ltb column (field_side g.width)) ≡ b → OnBoard g e
      go false h = let k : no_edge ≡ edge e = rw (h, edge_at) at at in zero≢one (cc)
      go true h =
          let (r, c) = both (ltb row (field_side g.height)) (ltb column (field_side g.width)) h in
          let k : place_at g.width row column ≡ edge e = rw (h, edge_at) at at in
          (edge_of_place g wide row column (ltb-true row (field_side g.height) r) (ltb-true column (field_side g.width) c) e k).on_board
