-- Tests of the bounds of document 01. The sizes and the largest code are those of the rules (Grid.antt); the longest field of a file is
-- said here. Nothing else in the project writes these numbers.
use Rattle.std.specs.Prelude.{ℕ, Bool, ◌&&◌, leb}
use Rattle.rules.specs.Grid.{least_size, largest_size}

-- is this a number of rows, or of columns?
unfoldable pub is_size : ℕ → Bool
is_size n = leb least_size n && leb n largest_size

-- a field of a grid file has at most this many digits
unfoldable pub most_digits : ℕ
most_digits = 10
