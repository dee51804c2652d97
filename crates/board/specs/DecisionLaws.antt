-- The fresh board, the reading and the decision: why the answers say what the model's do. A decision of the code knows of a grid only its sizes
-- and whether each pad is blank, a clue or a hole, and so does the model's (boardview's SameKinds.antt); the number of undecided edges keeps
-- it from needing more than the model's bound (boardview's Undecided.antt).
use Prim.Native.Nat.{ℕ, ◌+◌, ◌*◌}
use Rattle.std.specs.Prelude.{◌≡◌, refl, true, false, List, [], ◌∷◌, length, ℤ, Ok, Err}
use Rattle.std.proofs.Math.Path.{sym, ap}
use Rattle.std.proofs.Common.{◌∙◌, subst}
use borrow.Author.Tests.{eq-eqb, ne_eqb}
use Rattle.std.proofs.Math.Logic.{∥∥₁_map}
use Rattle.rules.specs.Grid.{Edge, edge, no_edge, blank_cell, Grid, grid_of}
use Rattle.rules.specs.Drawing.{num}
use Rattle.model.specs.Board.{EdgeState, line_or_none, decide, enough}
use Rattle.model.specs.Refusals.{grid_refusal}
use Rattle.model.specs.Calls as model
use Rattle.grid.specs.declared.Refusal.{Refusal}
use Rattle.grid.specs.declared.accepted.Grid as code
use Rattle.grid.specs.Answers.{number_of, refusal_says, some_number}
use Rattle.grid.specs.AsGrid.{as_grid}
use Rattle.boardview.specs.declared.Arrays.{Arrays}
use Rattle.boardview.specs.declared.kinds.Kinds.{Kinds}
use Rattle.boardview.specs.View.{view, flag_in, grid_in, Decided}
use Rattle.boardfresh.specs.FreshView.{FreshBoard}
use Rattle.boardview.specs.SameKinds.{shown_decides}
use Rattle.boardview.specs.Undecided.{enough_here}
use Rattle.board.specs.Past.{past_since, past_fresh}
use Rattle.board.specs.Standing.{marks_in}
use Rattle.board.specs.Holds.{Holds, IsHeld}
use Rattle.board.specs.Held.{Held, Says, declined_with}
use Rattle.board.specs.declared.Declined.TheVariants.{Grid as of_grid, NoEdge, NoState}
use Rattle.board.specs.CallLaws.{declined}
use Rattle.board.specs.declared.parts.Board.{Board}
use Rattle.board.specs.declared.marks.Marks.{Marks}
use Rattle.board.specs.declared.Answer.{Answer}

-- DECISION
module _ (b : Board) (B : model.Board) (held : Held b B) (e : Edge) (m : EdgeState) (s : Arrays) (did : Decided (grid_in b.kinds) b.arrays e m s) where
  same_bound : enough (grid_in b.kinds) ≡ enough B.grid
  unfolding enough
  same_bound = λ i. 4 * (held.told.height i * held.told.width i) + 4

  state_after : view s ≡ decide B.grid (enough B.grid) e m B.state
  state_after = did.same (enough (grid_in b.kinds)) (enough_here (grid_in b.kinds) b.arrays held.ready)
      ∙ ap (λ S. decide (grid_in b.kinds) (enough (grid_in b.kinds)) e m S) held.shows
      ∙ shown_decides held.told (enough (grid_in b.kinds)) e m B.state
      ∙ ap (λ (f : ℕ). decide B.grid f e m B.state) same_bound

  decided_holds : Holds s b.kinds b.fresh b.marks (model.decided B e m).board
  decided_holds = record {
    told = held.told;
    ready = did.ready;
    shows = state_after;
    no_entries = held.no_entries;
    past = past_since (grid_in b.kinds) B.grid held.no_entries b.arrays s did.since did.ready.log_long held.past;
  }

  pub decided_says : (h : ∥ IsHeld s b.kinds b.fresh b.marks ∥₁) {answer : ℕ} → answer ≡ num (flag_in s.count)
      → Says (record { said = Ok answer; board = record { arrays = s; kinds = b.kinds; fresh = b.fresh; marks = b.marks; held = h } }) (model.decided B e m)
  unfolding view
  decided_says h flag = record { number = refl; answer = flag ∙ ap (λ S. num S.flag) state_after; board = decided_holds }

pub decided_held : (b : Board) (e : Edge) (m : EdgeState) (s : Arrays) → Decided (grid_in b.kinds) b.arrays e m s → ∥ IsHeld s b.kinds b.fresh b.marks ∥₁
decided_held b e m s did = ∥∥₁_map b.held (λ h. ((model.decided h.0 e m).board, decided_holds b h.0 h.1 e m s did))

-- NOT A PLACE, and not a state
module _ (b : Board) (B : model.Board) (held : Held b B) (y x : ℕ) where
  same_place : model.edge_at (grid_in b.kinds) y x ≡ model.edge_at B.grid y x
  unfolding model.edge_at
  same_place = λ i. model.edge_at (record { height = held.told.height i; width = held.told.width i; cell = (grid_in b.kinds).cell }) y x

  pub no_place_decided : (byte : ℕ) → model.edge_at (grid_in b.kinds) y x ≡ no_edge → Says (declined_with NoEdge b) (model.decide_edge B y x byte)
  unfolding model.decide_edge
  no_place_decided byte at = let there : model.edge_at B.grid y x ≡ no_edge = sym same_place ∙ at in rw there (declined NoEdge held)

  pub no_place_read : model.edge_at (grid_in b.kinds) y x ≡ no_edge → Says (declined_with NoEdge b) (model.read_edge B y x)
  unfolding model.read_edge
  no_place_read at = let there : model.edge_at B.grid y x ≡ no_edge = sym same_place ∙ at in rw there (declined NoEdge held)

  module _ (e : Edge) (at : model.edge_at (grid_in b.kinds) y x ≡ edge e) where
    there : model.edge_at B.grid y x ≡ edge e
    there = sym same_place ∙ at

    pub no_state : (byte : ℕ) → (byte ≡ 1 → ⊥) → (byte ≡ 2 → ⊥) → Says (declined_with NoState b) (model.decide_edge B y x byte)
    unfolding model.decide_edge
    no_state byte no_line no_none = rw (there, ne_eqb byte 1 no_line, ne_eqb byte 2 no_none, model.decide_at) (declined NoState held)

    pub line_decided : (byte : ℕ) → byte ≡ 1 → {r : Answer} → Says r (model.decided B e (line_or_none true)) → Says r (model.decide_edge B y x byte)
    unfolding model.decide_edge
    line_decided byte is says = rw (there, eq-eqb byte 1 is, model.decide_at) says

    pub none_decided : (byte : ℕ) → (byte ≡ 1 → ⊥) → byte ≡ 2 → {r : Answer} → Says r (model.decided B e (line_or_none false)) → Says r (model.decide_edge B y x byte)
    unfolding model.decide_edge
    none_decided byte no_line is says = rw (there, ne_eqb byte 1 no_line, eq-eqb byte 2 is, model.decide_at) says

    -- READING
    pub edge_read : {byte : ℕ} → byte ≡ model.state_byte ((view b.arrays).edge e) → Says (record { said = Ok byte; board = b }) (model.read_edge B y x)
    unfolding model.read_edge
    edge_read is = rw there (record { number = refl; answer = is ∙ ap (λ S. model.state_byte (S.edge e)) held.shows; board = held })

-- THE FRESH BOARD
pub fresh_holds : (g : Grid) (s : Arrays) (kinds : Kinds) (marks : Marks) → FreshBoard g s.edges s.ends kinds s.count → length s.log ≡ 1440 → marks_in marks ≡ []
    → Holds s kinds s.count marks (model.fresh_board g)
unfolding model.fresh_board
fresh_holds g s kinds marks new long none = record {
  told = new.told;
  ready = new.ready s.log long;
  shows = new.shows s.log;
  no_entries = new.no_entries;
  past = rw none (past_fresh (grid_in kinds) g s (new.ready s.log long) (new.shows s.log));
}

module _ (height width : ℕ) (cells : List ℤ) where
  pub refused : (refusal : Refusal) → refusal_says {A = code.Grid} (Err refusal) ≡ grid_refusal height width cells → {b : Board} → Held b model.blank_board
      → Says (declined_with (of_grid refusal) b) (model.new height width cells)
  unfolding model.new
  refused refusal is held = rw (← is, ne_eqb (number_of refusal) 0 (some_number refusal), model.new) (record { number = ap (λ (p : ℕ × ℕ). p.0) is; answer = ap (λ (p : ℕ × ℕ). p.1) is; board = held })

  pub accepted : (grid : code.Grid) → refusal_says (Ok grid) ≡ grid_refusal height width cells
      → (grid.height ≡ height) × (grid.width ≡ width) × (grid.cells.now ≡ cells) → {b : Board} → Held b (model.fresh_board (as_grid grid))
      → Says (record { said = Ok 0; board = b }) (model.new height width cells)
  unfolding model.new
  accepted grid is same {b} held = rw (← is, model.new) (record { number = refl; answer = refl; board = subst (λ g. Held b (model.fresh_board g)) same_grid held })
    where
      same_grid : as_grid grid ≡ grid_of height width cells
      same_grid = λ i. grid_of (same.0 i) (same.1 i) (same.2 i)

-- the fresh 2 by 2 blank board
pub blank_held : (b : Board) → Held b (model.fresh_board (grid_of 2 2 (blank_cell ∷ blank_cell ∷ blank_cell ∷ blank_cell ∷ []))) → Held b model.blank_board
unfolding model.blank_board
blank_held b held = held
