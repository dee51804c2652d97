-- What the parts of a board of the code hold of the model's board. It stands under the struct of the code, which says that they hold one. It
-- rests on Past.antt, Standing.antt, boardview's View.antt and the model's Calls.antt.
use Rattle.std.specs.Prelude.{ℕ, ◌%◌, ◌≡◌}
use Rattle.model.specs.Calls as model
use Rattle.boardview.specs.declared.Arrays.{Arrays}
use Rattle.boardview.specs.declared.kinds.Kinds.{Kinds}
use Rattle.boardview.specs.View.{grid_in, Ready, view}
use Rattle.boardview.specs.SameKinds.{Shows as Told}
use Rattle.board.specs.Past.{Past}
use Rattle.board.specs.Standing.{marks_in}
use Rattle.board.specs.declared.marks.Marks.{Marks}

-- HELD: the grid, the state, and the states at the standing checkpoints; behind them the fresh board, whose log is empty
pub record Holds (arrays : Arrays) (kinds : Kinds) (fresh : ℕ) (marks : Marks) (B : model.Board) : Type 0 where
  pub told : Told B.grid kinds
  pub ready : Ready (grid_in kinds) arrays
  pub shows : view arrays ≡ B.state
  pub no_entries : fresh % 1024 ≡ 0
  pub past : Past (grid_in kinds) B.grid fresh arrays (marks_in marks) B.standing

-- they hold one of the model's boards
abbrev pub IsHeld : Arrays → Kinds → ℕ → Marks → Type 0
IsHeld arrays kinds fresh marks = (B : model.Board) × Holds arrays kinds fresh marks B
