-- Laws of an array of zeros that is filled with a text part by part, and how long the parts are at most. Assumes nothing.
use Rattle.std.specs.Prelude.{◌≡◌, List, [], ◌∷◌, ◌++◌, ℕ, ◌+◌, ◌≤◌, length}
use Rattle.std.proofs.Common.{ap, ◌∙◌, arith, length-append, Fits}
use Rattle.std.proofs.lemmas.List.{length-replicate}
use Rattle.std.specs.Int.{w8, w64}
use Rattle.model.specs.Lists.{drop_replicate}
use Rattle.model.specs.Decimal.{decimal}
use Rattle.model.proofs.DecimalLaws.{decimal_length}
use Rattle.text.specs.Put.{Put}
use Rattle.text.specs.PutLaws.{put_both, put_length, put_same, put_front, put_next}
use Rattle.printed.specs.Written.{zeros, Written}

-- ## An array that is filled part by part

-- an array of zeros into which a text was put from its start on
pub put_written : (size : ℕ) {bytes text : List ℕ} {long : ℕ} → Put (zeros size) bytes 0 text long → length text ≤ size → Written size text bytes long
put_written size {bytes} {text} p h =
    record {
      all_bytes = put_front p (rw length-replicate h) ∙ ap (λ (l : List ℕ). text ++ l) (drop_replicate 0 (length text) size);
      its_length = put_next p;
      fits = rw (put_length p, length-replicate, put_next p) h;
    }

-- the array begins with the text, which has at most so many bytes, and goes on with zeros
pub record Filled (size most : ℕ) (text array : List ℕ) (next : ℕ) : Type 0 where
  pub put : Put (zeros size) array 0 text next
  pub short : length text ≤ most

pub filled_more : {size most more : ℕ} {text array second part : List ℕ} {next last : ℕ} → Filled size most text array next → Put array second next part last → length part ≤ more → Filled size (most + more) (text ++ part) second last
filled_more {text = text} {part = part} f p h = record { put = put_both f.put p; short = rw length-append (omega (arith, f.short)) }

pub filled_room : {size most : ℕ} {text array : List ℕ} {next : ℕ} → Filled size most text array next → (more : ℕ) → most + more ≤ size → next + more ≤ length array
filled_room {size} f more h = rw (put_length f.put, length-replicate, f.put.place) (omega (arith, f.short))

pub filled_written : {size most : ℕ} {text array : List ℕ} {next : ℕ} (other : List ℕ) → text ≡ other → most ≤ size → Filled size most text array next → Written size other array next
filled_written {size} other e h f = put_written size (put_same e f.put) (rw (← e) (omega (arith, f.short)))

pub filled_first : (size most : ℕ) {text array : List ℕ} {next : ℕ} → Put (zeros size) array 0 text next → length text ≤ most → Filled size most text array next
filled_first size most p h = record { put = p; short = h }

-- ## How long the parts are

pub digits_20 : (number : ℕ) → Fits w64 number → length (decimal number) ≤ 20
digits_20 number h = decimal_length 19 number (omega arith)

pub digits_3 : (number : ℕ) → Fits w8 number → length (decimal number) ≤ 3
digits_3 number h = decimal_length 2 number (omega arith)

pub field_21 : (number byte : ℕ) → Fits w64 number → length (decimal number ++ (byte ∷ [])) ≤ 21
field_21 number byte h = rw length-append (omega (arith, digits_20 number h))

pub field_4 : (number byte : ℕ) → Fits w8 number → length (decimal number ++ (byte ∷ [])) ≤ 4
field_4 number byte h = rw length-append (omega (arith, digits_3 number h))
