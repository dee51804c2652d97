-- Writing and reading a grid file, held together: they undo each other. What is written reads back as the grid, and what was read is
-- written as the file, byte for byte. The statements are about the calls `write` and `read` as the model defines them, for any lent
-- buffer.
-- What is proved of them stands in proofs/WriteRead.antt.
use Rattle.std.specs.Prelude.{◌≡◌, List, ℕ, ℤ}
use Rattle.rules.specs.Grid.{Accepted}
use Rattle.model.specs.Writing.{grid_text, turned_away, written, write}

-- a grid is turned away with a number, and nothing is changed; or it is an accepted one, and its text is written
pub data Goes (height width : ℕ) (cells : List ℤ) (buffer : List ℕ) : Type 0 where
  is_turned_away : (number index : ℕ) → (number ≡ 0 → ⊥) → write height width cells buffer ≡ turned_away number index buffer → Goes height width cells buffer
  is_written : Accepted height width cells → write height width cells buffer ≡ written (grid_text height width cells) buffer → Goes height width cells buffer

-- ## Each undoes the other

-- a file that is the text of an accepted grid
pub record TextOfGrid (file : List ℕ) : Type 0 where
  pub height : ℕ
  pub width : ℕ
  pub cells : List ℤ
  pub in_range : Accepted height width cells
  pub text : grid_text height width cells ≡ file
