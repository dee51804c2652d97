-- The room that replay needs: where it is too small nothing is written, else all blocks are. It rests on Replaying.antt. Assumes nothing.
use Prim.Native.Nat.{ℕ, ◌*◌, ◌/◌, ◌≤◌, ◌<◌}
use mathlib.Core.Path.{◌≡◌, refl}
use mathlib.Core.List.{List}
use native.Mathlib.Omega.{arith}
use native.Mathlib.Nat.{div-lt_iff_lt-mul, le-div_iff_mul-le}
use lib.ListN.{length}
use lib.Seq.{paste}
use lib.IntN.{ℤ}
use borrow.Author.Tests.{le-leb, lt-leb}
use Rattle.hunekowha.specs.Replay.{Given, fresh_answer, block_size, all_blocks, replay_gives}
use Rattle.hunekowha.proofs.Short.{front}
use Rattle.hunekowha.proofs.Replaying.{all_long}

module _ (g : Given) (calls : List ℕ) (answer : List ℤ) (size : ℕ) (is_size_of : size ≡ block_size (fresh_answer g).board) where
  pub some_size : 0 < size
  some_size = omega (arith, is_size_of)

  whole_length : length (all_blocks g calls) ≡ length calls / 4 * size
  whole_length = all_long g calls size (length calls / 4) is_size_of refl

  pub replay_short : length answer / size < length calls / 4 → replay_gives g calls answer ≡ record { returned = 0; answer = answer }
  unfolding replay_gives
  replay_short short =
      let less : length answer < length calls / 4 * size = (div-lt_iff_lt-mul some_size).0 short in
      rw (lt-leb (length (all_blocks g calls)) (length answer) (omega (arith, whole_length)))

  pub enough_room : length calls / 4 ≤ length answer / size → length calls / 4 * size ≤ length answer
  enough_room enough = (le-div_iff_mul-le {k = size} {x = length calls / 4} {y = length answer} some_size).0 enough

  pub replay_whole : length calls / 4 ≤ length answer / size → (after : List ℤ) → after ≡ paste answer 0 (all_blocks g calls) (length (all_blocks g calls))
      → replay_gives g calls answer ≡ record { returned = length calls / 4 * size; answer = after }
  unfolding replay_gives
  replay_whole enough after put =
      rw (le-leb (length (all_blocks g calls)) (length answer) (omega (arith, whole_length, enough_room enough)), put, front answer (all_blocks g calls), whole_length)
