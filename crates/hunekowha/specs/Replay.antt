-- What hunekowha_replay writes: a block of numbers after each call of a list, by the model's board calls (Calls.antt there). A call is four
-- numbers, kind, row, column and state; what is too short for a call at the end of the list is left aside. Assumes nothing.
use Rattle.std.specs.Prelude.{if◌then◌else◌}
use Rattle.std.specs.Prelude.{ℕ, ◌+◌, ◌*◌, ◌/◌, ◌≤◌, ◌≡◌, List, [], ◌∷◌, ◌++◌, map, eqb, ltb, leb, length, ℤ, pos}
use Rattle.rules.specs.Grid.{places, pads}
use Rattle.rules.specs.Drawing.{num}
use Rattle.model.specs.Calls.{Board, Answer, new, decide_edge, read_edge, add_checkpoint, undo, shown}
use Rattle.board.specs.Held.{Held, answer_said, Says}
use Rattle.board.specs.declared.Answer as code
use Rattle.board.specs.declared.parts.Board as codeboard
use Rattle.hunekowha.specs.Lent.{written}

-- the grid that was given
pub record Given : Type 0 where
  pub height : ℕ
  pub width : ℕ
  pub cells : List ℤ

abbrev pub fresh_answer : Given → Answer
fresh_answer g = new g.height g.width g.cells

-- a state that is no byte is none that a decision takes: the code asks for undecided in its place, which is declined alike
unfoldable pub state_asked : ℕ → ℕ
state_asked state = if ltb state 256 then state else 0

-- ONE CALL: kind 1 decide, 2 read, 3 checkpoint, 4 undo; any other, the fresh board again
unfoldable pub called : Given → Board → ℕ → ℕ → ℕ → ℕ → Answer
called g b kind row column state =
    if eqb kind 1 then decide_edge b row column state
    else if eqb kind 2 then read_edge b row column
    else if eqb kind 3 then add_checkpoint b
    else if eqb kind 4 then record { number = 0; answer = 0; board = undo b }
    else fresh_answer g

-- ITS BLOCK: number, answer, flag, edges, ends
unfoldable pub block : Answer → List ℤ
block a = map pos (a.number ∷ a.answer ∷ num (shown a.board).flag ∷ []) ++ map pos (shown a.board).edges ++ (shown a.board).ends

-- the numbers of a block
abbrev pub block_size : Board → ℕ
block_size b = 3 + places b.grid.height b.grid.width + pads b.grid

-- THE BLOCKS of all calls, from a board on
unfoldable pub blocks : Given → Board → List ℕ → List ℤ
blocks g b [] = []
blocks g b (kind ∷ []) = []
blocks g b (kind ∷ row ∷ []) = []
blocks g b (kind ∷ row ∷ column ∷ []) = []
blocks g b (kind ∷ row ∷ column ∷ state ∷ calls) = block (called g b kind row column state) ++ blocks g (called g b kind row column state).board calls

-- REPLAY: what is returned, and the lent slice after the call
pub record SignedGiven : Type 0 where
  pub returned : ℕ
  pub answer : List ℤ

abbrev pub all_blocks : Given → List ℕ → List ℤ
all_blocks g calls = blocks g (fresh_answer g).board calls

unfoldable pub replay_gives : Given → List ℕ → List ℤ → SignedGiven
replay_gives g calls answer =
    if leb (length (all_blocks g calls)) (length answer)
    then record { returned = length (all_blocks g calls); answer = written (all_blocks g calls) answer }
    else record { returned = 0; answer = answer }

-- what writing a block asks of an answer of the code: it says one of the model's, which is small, and the block fits
pub record Writable (made : code.Answer) (place room : ℕ) : Type 0 where
  pub says : Answer
  pub said : Says made says
  pub small : answer_said made.said ≤ 255
  pub fits : place + block_size says.board ≤ room

-- what writing all blocks asks: a fresh board of the grid, the size of a block, the number of calls, and room
pub record Replayable (g : Given) (calls : List ℕ) (fresh : codeboard.Board) (size count room : ℕ) : Type 0 where
  pub held : Held fresh (fresh_answer g).board
  pub sized : size ≡ block_size (fresh_answer g).board
  pub counted : count ≡ length calls / 4
  pub fits : count * size ≤ room
