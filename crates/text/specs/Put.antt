-- What it means that a text was put into a buffer. Assumes nothing.
use Rattle.std.specs.Prelude.{ℕ, ◌+◌, ◌≡◌, List, length}
use Rattle.std.proofs.lemmas.List.Edits.{sets}

-- the text stands in the buffer from a place on, all other bytes are as before, and `next` is the place after it
pub record Put (before after : List ℕ) (at : ℕ) (text : List ℕ) (next : ℕ) : Type 0 where
  pub stored : after ≡ sets before at text
  pub place : next ≡ at + length text
