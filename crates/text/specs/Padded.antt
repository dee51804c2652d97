-- An array that holds a text in its first bytes, and zeros behind it. Assumes nothing.
use Rattle.std.specs.Prelude.{ℕ, List, ◌≡◌, ◌≤◌, ◌-◌, ◌++◌, length, drop, replicate}

-- of the `size` bytes of an array the first `long` are the text, and all behind them are 0
pub record Padded (size long : ℕ) (bytes : List ℕ) : Type 0 where
  pub whole : length bytes ≡ size
  pub fits : long ≤ size
  pub zeros_behind : drop long bytes ≡ replicate (size - long) 0

-- the bytes of the array that holds a text
abbrev pub padded : ℕ → List ℕ → List ℕ
padded size text = text ++ replicate (size - length text) 0

-- how many bytes a text has
abbrev pub bytes_in : List ℕ → ℕ
bytes_in text = length text
