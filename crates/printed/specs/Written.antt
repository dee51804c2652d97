-- What it means that an array holds a text and nothing else, or nothing at all. Assumes nothing.
use Rattle.std.specs.Prelude.{if◌then◌else◌}
use Rattle.std.specs.Prelude.{ℕ, ◌-◌, ◌≤◌, ◌≡◌, refl, ◌&&◌, List, [], ◌++◌, length, replicate, take}
use Rattle.std.proofs.Common.{sym, ap, ◌∙◌, arith, take_at}
use Rattle.model.specs.Bounds.{is_size}
use Rattle.model.specs.Printed.{layout_line}

abbrev pub zeros : ℕ → List ℕ
zeros size = replicate size 0

-- an array of `size` bytes begins with the text and goes on with zeros; `long` is the text's length, and the text fits
pub record Written (size : ℕ) (text bytes : List ℕ) (long : ℕ) : Type 0 where
  pub all_bytes : bytes ≡ text ++ zeros (size - length text)
  pub its_length : long ≡ length text
  pub fits : long ≤ length bytes

-- the bytes before the length are the text
pub text_of_bytes : {size : ℕ} {text bytes : List ℕ} {long : ℕ} → Written size text bytes long → take long bytes ≡ text
text_of_bytes {size} {text} {bytes} {long} w = ap (λ (l : List ℕ). take long l) w.all_bytes ∙ take_at text (zeros (size - length text)) long (sym w.its_length)

pub nothing_written : (text : List ℕ) → text ≡ [] → Written 299 text (zeros 299) 0
nothing_written text e = rw e (record { all_bytes = refl; its_length = refl; fits = omega arith })

-- a layout's line; nothing where H or W is out of bounds
unfoldable pub layout_text : ℕ → ℕ → ℕ → List ℕ → List ℕ
layout_text height width number layout =
    if is_size height && is_size width then layout_line height width number layout else []
