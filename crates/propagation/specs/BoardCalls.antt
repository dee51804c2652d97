-- The boards that the calls hand out, from a new one on, with the decisions that stand on them: every call, accepted or declined, hands
-- out such a board, and says which decisions stand. An accepted decision stands from its call on, also where it only set the flag; undo
-- takes back those since the last checkpoint, or all. A declined call changes nothing.
use Rattle.std.specs.Prelude.{ℕ, ◌≡◌, refl, Bool, true, false, eqb, ltb, length, ℤ}
use Rattle.std.proofs.Common.{ap, arith, eqb-true}
use mathlib.Core.List.{List, [], ◌∷◌}
use Rattle.std.proofs.Math.ListN.{get_or-eq_default}
use Rattle.rules.specs.Grid.{Edge, Place, cell_of, blank_cell, Grid, grid_of, OnBoard, edge, no_edge}
use Rattle.rules.specs.Record.{line_byte, none_byte}
use Rattle.model.specs.Board.{State, line_or_none}
use Rattle.model.specs.Calls.{Board, fresh_board, blank_board, new, edge_at, decided, decide_at, decide_edge, read_at, read_edge, most_checkpoints, add_checkpoint, undo_to, undo}
use Rattle.model.specs.EdgeAtLaws.{edge_at_on}
use Rattle.model.specs.Refusals.{grid_refusal}
use Rattle.model.specs.RefusalLaws.{not_refused}
use Rattle.rules.specs.ProperGrid.{Proper, accepted_proper}
use Rattle.propagation.specs.Decisions.{Decision, none_yet, one_more}
use Rattle.propagation.specs.Standing.{Stands}

-- the decisions that stood at each checkpoint
unfoldable pub AllStand : Grid → List State → List (List Decision) → Type 0
AllStand g [] [] = Unit {0}
AllStand g [] (d ∷ ds) = ⊥
AllStand g (S ∷ states) [] = ⊥
AllStand g (S ∷ states) (d ∷ ds) = Stands g S d × AllStand g states ds

-- A BOARD MADE BY THE CALLS, with the decisions standing now and at its checkpoints
pub record Made (b : Board) (now : List Decision) (then : List (List Decision)) : Type 0 where
  pub grid_proper : Proper b.grid
  pub now_stand : Stands b.grid b.state now
  pub then_stood : AllStand b.grid b.standing then

-- NEW, from any sizes and cells: a declined one is the fresh 2 by 2 blank board
fresh_made : (g : Grid) → Proper g → Made (fresh_board g) [] []
unfolding fresh_board AllStand
fresh_made g proper = record { grid_proper = proper; now_stand = none_yet; then_stood = tt }

blank_proper : Proper (grid_of 2 2 (blank_cell ∷ blank_cell ∷ blank_cell ∷ blank_cell ∷ []))
unfolding grid_of cell_of
blank_proper = record { tall = omega arith; wide = omega arith; blank_past = λ v past. ap cell_of (get_or-eq_default (blank_cell ∷ blank_cell ∷ blank_cell ∷ blank_cell ∷ []) blank_cell {n = v} past) }

pub new_made : (height width : ℕ) (cells : List ℤ) → Made (new height width cells).board [] []
unfolding new
new_made height width cells = go (eqb (grid_refusal height width cells).0 0) refl
  where
    go : (t : Bool) → eqb (grid_refusal height width cells).0 0 ≡ t → Made (new height width cells).board [] []
    go true h = rw (h, new) (fresh_made (grid_of height width cells) (accepted_proper height width cells (not_refused height width cells (eqb-true (grid_refusal height width cells).0 0 h))))
    go false h = rw (h, new) (unfold blank_board in (fresh_made (grid_of 2 2 (blank_cell ∷ blank_cell ∷ blank_cell ∷ blank_cell ∷ [])) blank_proper))

-- DECIDE at any row and column, with any byte: the decisions standing after it
abbrev pub noted : Place → ℕ → List Decision → List Decision
noted no_edge byte now = now
noted (edge e) byte now = elim (eqb byte line_byte) [
  | true ↦ (e, true) ∷ now
  | false ↦ elim (eqb byte none_byte) [ true ↦ (e, false) ∷ now | false ↦ now ]
]

pub decide_made : (b : Board) (now : List Decision) (then : List (List Decision)) → Made b now then
    → (row column byte : ℕ) → Made (decide_edge b row column byte).board (noted (edge_at b.grid row column) byte now) then
unfolding decide_edge
decide_made b now then made row column byte = go (edge_at b.grid row column) refl
  where
    decided_made : (e : Edge) (way : Bool) → OnBoard b.grid e → Made (decided b e (line_or_none way)).board ((e, way) ∷ now) then
    decided_made e way on = record { grid_proper = made.grid_proper; now_stand = one_more e way on made.now_stand; then_stood = made.then_stood }

    at_edge : (e : Edge) → OnBoard b.grid e → (l : Bool) → eqb byte line_byte ≡ l → (n : Bool) → eqb byte none_byte ≡ n
        → Made (decide_at b (edge e) byte).board (noted (edge e) byte now) then
    at_edge e on true h n k = rw (h, noted, decide_at) (decided_made e true on)
    at_edge e on false h true k = rw (h, noted, decide_at) (rw k (decided_made e false on))
    at_edge e on false h false k = rw (h, noted, decide_at) (rw k made)

    go : (p : Place) → edge_at b.grid row column ≡ p → Made (decide_at b (edge_at b.grid row column) byte).board (noted (edge_at b.grid row column) byte now) then
    go no_edge h = rw h made
    go (edge e) h = rw h (at_edge e (edge_at_on b.grid row column made.grid_proper.wide e h) (eqb byte line_byte) refl (eqb byte none_byte) refl)

-- READ changes nothing
pub read_made : (b : Board) (now : List Decision) (then : List (List Decision)) → Made b now then → (row column : ℕ) → Made (read_edge b row column).board now then
unfolding read_edge
read_made b now then made row column = go (edge_at b.grid row column)
  where
    go : (p : Place) → Made (read_at b p).board now then
    go no_edge = made
    go (edge e) = made

-- CHECKPOINT: with 256 standing nothing changes
pub checkpoint_made : (b : Board) (now : List Decision) (then : List (List Decision)) → Made b now then
    → Made (add_checkpoint b).board now (elim (ltb (length b.standing) most_checkpoints) [ true ↦ now ∷ then | false ↦ then ])
unfolding add_checkpoint AllStand
checkpoint_made b now then made = go (ltb (length b.standing) most_checkpoints) refl
  where
    go : (t : Bool) → ltb (length b.standing) most_checkpoints ≡ t
        → Made (add_checkpoint b).board now (elim (ltb (length b.standing) most_checkpoints) [ true ↦ now ∷ then | false ↦ then ])
    go true h = rw (h, add_checkpoint) (record { grid_proper = made.grid_proper; now_stand = made.now_stand; then_stood = (made.now_stand, made.then_stood) })
    go false h = rw (h, add_checkpoint) made

-- UNDO takes back the decisions since the last checkpoint, or all
abbrev pub taken_back : List (List Decision) → List Decision × List (List Decision)
taken_back [] = ([], [])
taken_back (d ∷ then) = (d, then)

pub undo_made : (b : Board) (now : List Decision) (then : List (List Decision)) → Made b now then → Made (undo b) (taken_back then).0 (taken_back then).1
unfolding undo
undo_made b now then made = go b.standing then made.then_stood
  where
    go : (states : List State) (then : List (List Decision)) → AllStand b.grid states then → Made (undo_to b.grid states) (taken_back then).0 (taken_back then).1
    go [] [] stood = fresh_made b.grid made.grid_proper
    go [] (d ∷ ds) stood = absurd (unfold AllStand in stood)
    go (S ∷ states) [] stood = absurd (unfold AllStand in stood)
    go (S ∷ states) (d ∷ ds) stood = record { grid_proper = made.grid_proper; now_stand = unfold AllStand in stood.0; then_stood = unfold AllStand in stood.1 }
