-- Records laid over a table, bit by bit, place by place: one record, and so many records of a buffer. That this makes the table of the model
-- is proved in OverlayLaws.antt.
use Rattle.std.specs.Prelude.{ℕ, zero, suc, ◌+◌, List, [], ◌∷◌}
use Rattle.std.specs.Int.Bits.{bit_or}
use Rattle.model.specs.Records.{record_at}

-- a record laid over the start of a table; what lies past the record stays
unfoldable pub overlaid : List ℕ → List ℕ → List ℕ
overlaid table [] = table
overlaid [] (byte ∷ layout) = []
overlaid (said ∷ table) (byte ∷ layout) = bit_or said byte ∷ overlaid table layout

-- so many records of a buffer, from record k on
unfoldable pub records_overlaid : (height width layouts : ℕ) → List ℕ → (more k : ℕ) → List ℕ → List ℕ
records_overlaid height width layouts buffer zero k table = table
records_overlaid height width layouts buffer (suc more) k table =
    records_overlaid height width layouts buffer more (k + 1) (overlaid table (record_at height width layouts k buffer))
