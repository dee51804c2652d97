-- What a board of the code holds of the model's board, and what an answer says. It rests on Holds.antt and the model's Calls.antt.
use Rattle.std.specs.Prelude.{ℕ, ◌*◌, ◌≡◌, List, take, Result, Ok, Err, ℤ}
use Rattle.std.proofs.Math.Logic.{∥∥₁_elim}
use Rattle.rules.specs.Grid.{places}
use Rattle.model.specs.Calls as model
use Rattle.grid.specs.Answers as grid
use Rattle.boardview.specs.View.{grid_in, Ready}
use Rattle.board.specs.ReadyOneWay.{ready_one_way}
use Rattle.board.specs.Holds.{Holds}
use Rattle.board.specs.declared.parts.Board.{Board}
use Rattle.board.specs.declared.Answer.{Answer}
use Rattle.board.specs.declared.Declined.{Declined}
use Rattle.board.specs.declared.Declined.TheVariants.{Grid, NoEdge, NoState, NoCheckpoint}
use Rattle.board.specs.declared.shown.Shown.{Shown}

-- HELD: the board of the model that a board of the code holds
abbrev pub Held : Board → model.Board → Type 0
Held b B = Holds b.arrays b.kinds b.fresh b.marks B

-- what is true of the arrays of every board
pub ready_held : (b : Board) → Ready (grid_in b.kinds) b.arrays
ready_held b = ∥∥₁_elim b.held ready_one_way (λ h. h.1.ready)

-- WHAT AN ANSWER SAYS: document 01's number, 0 if accepted; and the answer, beside a number the index of the first bad cell, or 0
abbrev pub number_of : Declined → ℕ
number_of (Grid refusal) = grid.number_of refusal
number_of NoEdge = 10
number_of NoState = 11
number_of NoCheckpoint = 12

abbrev pub index_of : Declined → ℕ
index_of (Grid refusal) = grid.index_of refusal
index_of NoEdge = 0
index_of NoState = 0
index_of NoCheckpoint = 0

abbrev pub number_said : Result ℕ Declined → ℕ
number_said (Ok answer) = 0
number_said (Err why) = number_of why

abbrev pub answer_said : Result ℕ Declined → ℕ
answer_said (Ok answer) = answer
answer_said (Err why) = index_of why

-- AN ANSWER: number and answer are the model's, and so is what the board holds
pub record Says (r : Answer) (A : model.Answer) : Type 0 where
  pub number : number_said r.said ≡ A.number
  pub answer : answer_said r.said ≡ A.answer
  pub board : Held r.board A.board

-- a declined call: why, and the board as it was
abbrev pub declined_with : Declined → Board → Answer
declined_with why b = record { said = Err why; board = b }

-- WHAT A BOARD SHOWS: its sizes, edges as a record, ends and flag; past them the arrays are of no account
abbrev pub edges_of : Shown → List ℕ
edges_of r = take (places r.height r.width) r.edges

abbrev pub ends_of : Shown → List ℤ
ends_of r = take (r.height * r.width) r.ends

pub record Shows (r : Shown) (B : model.Board) : Type 0 where
  pub height : r.height ≡ B.grid.height
  pub width : r.width ≡ B.grid.width
  pub edges : edges_of r ≡ (model.shown B).edges
  pub ends : ends_of r ≡ (model.shown B).ends
  pub flag : r.flag ≡ (model.shown B).flag
