-- A SECOND RUN: one grid is searched twice, the second time with at least the limit and at least the buffer of the first. `SecondRun` is what a
-- caller can rely on who has the two results and the two buffers; that it holds of every pair of calls is `second_run` in
-- proofs/SecondRun.antt.
use Rattle.std.specs.Prelude.{ℕ, ◌*◌, ◌≤◌, ◌<◌, ◌≡◌, length, take}
use Rattle.rules.specs.Grid.{places}
use Rattle.model.specs.Records.{record_at}
use Rattle.model.specs.Runs.{Solved}

-- two searches answer the same
pub record SameResult (first second : Solved) : Type 0 where
  pub number : second.number ≡ first.number
  pub index : second.index ≡ first.index
  pub outcome : second.outcome ≡ first.outcome
  pub layouts : second.layouts ≡ first.layouts
  pub visited : second.visited ≡ first.visited
  pub fewest_lines : second.fewest_lines ≡ first.fewest_lines

pub record SecondRun (height width : ℕ) (first second : Solved) : Type 0 where
  -- the first list is a beginning of the second: its records, which lie in its buffer, are the first records of the second, byte for byte
  pub no_fewer_layouts : first.layouts ≤ second.layouts
  pub in_buffer : first.layouts * places height width ≤ length first.buffer
  pub same_bytes : take (first.layouts * places height width) second.buffer ≡ take (first.layouts * places height width) first.buffer
  pub same_records : (k : ℕ) → k < first.layouts → record_at height width second.layouts k second.buffer ≡ record_at height width first.layouts k first.buffer
  -- visited never falls, fewest never rises
  pub visited_never_falls : first.visited ≤ second.visited
  pub fewest_never_rises : second.fewest_lines ≤ first.fewest_lines
  -- if the first run is complete, the second has its list and result
  pub complete_stays : first.outcome ≡ 0 → SameResult first second
