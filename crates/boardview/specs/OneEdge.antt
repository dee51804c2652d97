-- An edge is to be a line or none, as a choice says: what the two kinds of decision promise, as one promise. It rests on View.antt and
-- Bytes.antt.
use Rattle.std.specs.Prelude.{◌≡◌, Bool, true, false}
use Rattle.std.proofs.Common.{◌∙◌}
use Rattle.rules.specs.Grid.{Edge, right, down, Grid}
use Rattle.model.specs.PadTests.{on_board}
use Rattle.model.specs.Board.{EdgeState, line, line_or_none}
use Rattle.boardview.specs.declared.Arrays.{Arrays}
use Rattle.boardview.specs.View.{slot, edge_of, Decided, NoneAt}
use Rattle.boardview.specs.Bytes.{right_slot, down_slot, edge_on}

pub edge_of_slot : (e : Edge) → edge_of (slot e) ≡ e
edge_of_slot (right v) = right_slot v
edge_of_slot (down v) = down_slot v

module _ (g : Grid) (s s' : Arrays) (e : Edge) (go : Bool) where
  pub decided_line : go ≡ true → Decided g s e line s' → Decided g s e (line_or_none go) s'
  decided_line h d = rw h d

  pub decided_none : go ≡ false → on_board g e ≡ true → NoneAt g s (slot e) s' → Decided g s e (line_or_none go) s'
  decided_none h on d = rw h (rw (edge_of_slot e) at (d.acts (edge_on g e ∙ on)))

-- the same edge, told in another way
pub decided_at : {g : Grid} {s s' : Arrays} {e f : Edge} {m : EdgeState} → e ≡ f → Decided g s f m s' → Decided g s e m s'
decided_at same d = rw same d
