-- The record of codes, by whether they fit: none, or what stands at the start of a list into which their field was put. Assumes nothing.
use Prim.Native.Nat.{ℕ, ◌+◌}
use mathlib.Core.Path.{◌≡◌, refl, sym, ap, ◌∙◌}
use mathlib.Core.Bool.{Bool, true, false}
use mathlib.Core.List.{List, []}
use lib.ListN.{length, take, drop}
use Rattle.std.proofs.Common.{take_at}
use Rattle.rules.specs.Grid.{places}
use Rattle.rules.specs.Record.{field}
use Rattle.rules.specs.RecordLaws.{length_field}
use Rattle.model.specs.JudgeText.{record_of_codes, codes_fit, coded_bytes}
use Rattle.model.specs.PutBytes.{put_bytes}

module _ (height width : ℕ) (digits : List ℕ) {answer : Bool} (says : answer ≡ codes_fit height width digits) where
  pub no_record : answer ≡ false → [] ≡ record_of_codes height width digits
  unfolding record_of_codes codes_fit
  no_record off = rw (sym says ∙ off) refl

  pub the_record : answer ≡ true → (room : List ℕ) {out : List ℕ} → out ≡ put_bytes 0 (field height width (coded_bytes digits)) room → {long : ℕ} → long ≡ places height width
      → take long out ≡ record_of_codes height width digits
  unfolding record_of_codes codes_fit put_bytes
  the_record on room put {long} is =
      rw (sym says ∙ on)
      (ap (take long) put
      ∙ take_at (field height width (coded_bytes digits)) (drop (0 + length (field height width (coded_bytes digits))) room) long (length_field height width (coded_bytes digits) ∙ sym is))
