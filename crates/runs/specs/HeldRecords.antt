-- The buffer that the call of an engine has left holds a record: it is record k of it, for some k below the number of layouts. Which records it
-- holds, where the engine's layouts are exact, is proved in proofs/HeldRecords.antt.
use Prim.Native.Nat.{ℕ, ◌<◌}
use Rattle.std.specs.Prelude.{◌≡◌}
use mathlib.Core.List.{List}
use Rattle.model.specs.Records.{record_at}
use Rattle.model.specs.Runs.{Solved}

-- the bytes are one of the layouts that a call has left in the buffer
pub record Holds (height width : ℕ) (left_by : Solved) (bytes : List ℕ) : Type 0 where
  pub k : ℕ
  pub below : k < left_by.layouts
  pub there : record_at height width left_by.layouts k left_by.buffer ≡ bytes
