-- The calls on the pads that the code finds at a place: declined where there are none, else the call on the edge between them. It rests on
-- PlaceLaws.antt and DecisionLaws.antt.
use Rattle.std.specs.Prelude.{ℕ, ◌<◌, ◌≡◌, true, false, Some, None, Ok}
use Rattle.std.proofs.Common.{◌∙◌}
use Rattle.std.proofs.Math.Path.{ap}
use Rattle.std.proofs.Math.ListN.{get_or}
use Rattle.rules.specs.Grid.{edge, OnBoard}
use Rattle.model.specs.Board.{line_or_none}
use Rattle.model.specs.Calls as model
use Rattle.grid.specs.Directions.{edge_to}
use Rattle.grid.specs.PadsAt.{pads_of, edge_of}
use Rattle.grid.specs.declared.Pads.{Pads}
use Rattle.boardview.specs.View.{slot, grid_in, view}
use Rattle.boardview.specs.ShownRecord.{edges_only}
use Rattle.boardview.specs.ShownRecordLaws.{edge_byte}
use Rattle.boardparts.specs.Sides.{slot_small}
use Rattle.board.specs.PlaceLaws.{decidable, told_on_board, none_there, one_there}
use Rattle.board.specs.Held.{Held, ready_held, Says, declined_with}
use Rattle.board.specs.declared.Declined.TheVariants.{NoEdge, NoState}
use Rattle.board.specs.DecisionLaws.{no_place_decided, no_place_read, no_state, line_decided, none_decided, edge_read}
use Rattle.board.specs.declared.parts.Board.{Board}
use Rattle.board.specs.declared.Answer.{Answer}

-- the pads that are found at a place
module _ (b : Board) (y x : ℕ) (pads : Pads) (are : Some pads ≡ pads_of (grid_in b.kinds).width (model.edge_at (grid_in b.kinds) y x)) where
  pub on_it : OnBoard (grid_in b.kinds) (edge_of pads)
  on_it = told_on_board (grid_in b.kinds) y x pads are b.kinds.told.least_width

  pub inside_it : pads.first < 256
  inside_it = (decidable (grid_in b.kinds) (ready_held b).few_pads pads on_it).0

  pub slot_inside : (n : ℕ) → n ≡ slot (edge_to pads.direction pads.first) → n < 1024
  slot_inside n is = rw is (slot_small pads.direction pads.first inside_it)

module _ (b : Board) (B : model.Board) (held : Held b B) (y x : ℕ) where
  -- no pads
  module _ (none : None ≡ pads_of (grid_in b.kinds).width (model.edge_at (grid_in b.kinds) y x)) where
    pub declined_decision : (byte : ℕ) → Says (declined_with NoEdge b) (model.decide_edge B y x byte)
    declined_decision byte = no_place_decided b B held y x byte (none_there (grid_in b.kinds) y x none)

    pub declined_reading : Says (declined_with NoEdge b) (model.read_edge B y x)
    declined_reading = no_place_read b B held y x (none_there (grid_in b.kinds) y x none)

  -- some pads
  module _ (pads : Pads) (are : Some pads ≡ pads_of (grid_in b.kinds).width (model.edge_at (grid_in b.kinds) y x)) where
    there : model.edge_at (grid_in b.kinds) y x ≡ edge (edge_of pads)
    there = one_there (grid_in b.kinds) y x pads are

    pub says_line : (byte : ℕ) → byte ≡ 1 → {r : Answer} → Says r (model.decided B (edge_of pads) (line_or_none true)) → Says r (model.decide_edge B y x byte)
    says_line byte one says = line_decided b B held y x (edge_of pads) there byte one says

    pub says_none : (byte : ℕ) → (byte ≡ 1 → ⊥) → byte ≡ 2 → {r : Answer} → Says r (model.decided B (edge_of pads) (line_or_none false)) → Says r (model.decide_edge B y x byte)
    says_none byte not_one two says = none_decided b B held y x (edge_of pads) there byte not_one two says

    pub says_no_state : (byte : ℕ) → (byte ≡ 1 → ⊥) → (byte ≡ 2 → ⊥) → Says (declined_with NoState b) (model.decide_edge B y x byte)
    says_no_state byte not_one not_two = no_state b B held y x (edge_of pads) there byte not_one not_two

    pub says_byte : (n : ℕ) → n ≡ slot (edge_to pads.direction pads.first) → {byte : ℕ} → byte ≡ get_or b.arrays.edges n 0 → Says (record { said = Ok byte; board = b }) (model.read_edge B y x)
    unfolding edges_only view edge_of
    says_byte n is same = let small : n < 1024 = slot_inside b y x pads are n is in edge_read b B held y x (edge_of pads) there
        (same ∙ ap (λ (k : ℕ). get_or b.arrays.edges k 0) is ∙ edge_byte b.arrays.edges held.ready.edges_long held.ready.bytes (edge_of pads) (rw is at small))
