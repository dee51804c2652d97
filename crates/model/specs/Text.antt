-- A quoted text as the list of its bytes, so that files and printed lines can be written as they look; the bytes between fields and at
-- the end of a line. Assumes nothing.
use Rattle.std.specs.Prelude.{ℕ, List, [], ◌∷◌}
use Prim.Native.Char.{code}
use Prim.Native.String.{String, [] as no_text, ◌∷◌ as ◌then◌}

-- of texts whose characters are all below 128, which is one byte each
unfoldable pub bytes : String → List ℕ
bytes no_text = []
bytes (◌then◌ character rest) = code character ∷ bytes rest

-- fields are parted by commas
unfoldable pub comma : List ℕ
comma = bytes ","

-- a line is ended by 0A
unfoldable pub line_end : List ℕ
line_end = bytes "\n"

-- a hole's field is this sign
unfoldable pub hole_sign : List ℕ
hole_sign = bytes "#"
