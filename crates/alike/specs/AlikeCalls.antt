-- The board calls depend on the codes of a grid only by which pads carry equal codes: on alike boards every call gives the same number and
-- the same answer and leaves alike boards. Alike boards show the same edges and the same flag, and ends that differ in nothing but the codes
-- of clues. It rests on AlikeStates.antt and on the model's Calls.antt.
-- What is proved of them stands in proofs/AlikeCalls.antt.
use Prim.Native.Nat.{ℕ, suc}
use Rattle.std.specs.Prelude.{◌≡◌, ℤ, negsuc}
use Rattle.rules.specs.Grid.{clue, Grid}
use Rattle.model.specs.Calls.{Board, Answer, Shown}
use Rattle.alike.specs.Alike.{Alike}
use Rattle.alike.specs.AlikeStates.{AlikeStates, OneByOne}

-- ALIKE BOARDS: alike grids, alike states, and as many standing checkpoints, alike one by one
pub record AlikeBoards (a b : Board) : Type 0 where
  pub alike_grids : Alike a.grid b.grid
  pub alike_states : AlikeStates a.grid b.grid a.state b.state
  pub alike_standing : OneByOne (AlikeStates a.grid b.grid) a.standing b.standing

-- ALIKE ANSWERS: the same number, the same answer, alike boards
pub record AlikeAnswers (A B : Answer) : Type 0 where
  pub same_number : A.number ≡ B.number
  pub same_answer : A.answer ≡ B.answer
  pub alike_boards : AlikeBoards A.board B.board

-- ALIKE END NUMBERS: equal, or -c - 2 and -d - 2 where some pad carries the code c in one grid and d in the other
pub data AlikeNumbers (g h : Grid) (m n : ℤ) : Type 0 where
  equal : m ≡ n → AlikeNumbers g h m n
  of_clues : (v c d : ℕ) → g.cell v ≡ clue c → h.cell v ≡ clue d → m ≡ negsuc (suc c) → n ≡ negsuc (suc d) → AlikeNumbers g h m n

-- what two boards show: the same record of edges, the same flag, and as many ends, alike one by one
pub record AlikeShown (g h : Grid) (X Y : Shown) : Type 0 where
  pub same_edges : X.edges ≡ Y.edges
  pub same_flag : X.flag ≡ Y.flag
  pub alike_ends : OneByOne (AlikeNumbers g h) X.ends Y.ends
