-- Laws of arrays that hold a text with zeros behind it: the text tells the whole array, and a text that is put behind the first one leaves zeros
-- behind itself. Assumes nothing.
use Rattle.std.specs.Prelude.{ℕ, List, ◌≡◌, refl, ◌≤◌, ◌+◌, ◌-◌, ◌++◌, length, take, drop, replicate}
use Rattle.std.proofs.Common.{sym, ap, ◌∙◌, arith, length-append, length-take-le}
use Rattle.std.proofs.lemmas.List.{take-append-drop, drop-replicate, drop_at}
use Rattle.std.proofs.lemmas.List.Edits.{sets-eq}
use Rattle.std.proofs.Math.Seq.{drop-append-add}
use Rattle.text.specs.Put.{Put}
use Rattle.text.specs.PutLaws.{put_length}
use Rattle.text.specs.Padded.{Padded, padded}

module _ {size long : ℕ} {bytes : List ℕ} (p : Padded size long bytes) where
  pub text_long : length (take long bytes) ≡ long
  text_long = length-take-le long bytes (omega (arith, p.whole, p.fits))

  pub padded_back : padded size (take long bytes) ≡ bytes
  padded_back = rw text_long (ap (λ (l : List ℕ). take long bytes ++ l) (sym p.zeros_behind) ∙ take-append-drop long bytes)

  -- behind so many bytes more
  pub zeros_later : (more : ℕ) → drop (long + more) bytes ≡ replicate (size - long - more) 0
  zeros_later more =
      ap (λ (n : ℕ). drop (n + more) bytes) (sym text_long)
      ∙ ap (drop (length (take long bytes) + more)) (sym (take-append-drop long bytes))
      ∙ drop-append-add (take long bytes) (drop long bytes) more
      ∙ ap (drop more) p.zeros_behind
      ∙ drop-replicate more (size - long) 0

-- nothing but zeros
pub no_text : (size : ℕ) (bytes : List ℕ) → bytes ≡ replicate size 0 → length bytes ≡ size → Padded size 0 bytes
no_text size bytes zeros long = record { whole = long; fits = omega arith; zeros_behind = zeros ∙ ap (λ (n : ℕ). replicate n 0) (omega arith) }

-- a text more behind the first one
pub padded_more : {size at next : ℕ} {before after more : List ℕ} → Put before after at more next → at + length more ≤ size → Padded size at before → Padded size next after
padded_more {size} {at} {next} {before} {after} {more} p room h =
    record {
      whole = put_length p ∙ h.whole;
      fits = omega (arith, p.place);
      zeros_behind = rw p.place (ap (drop (at + length more)) stands ∙ drop_at (take at before ++ more) (drop (at + length more) before) (at + length more) long ∙ zeros_later h (length more) ∙ ap (λ (n : ℕ). replicate n 0) (omega arith));
    }
  where
    stands : after ≡ (take at before ++ more) ++ drop (at + length more) before
    stands = p.stored ∙ sets-eq more before at (omega (arith, h.whole))

    long : length (take at before ++ more) ≡ at + length more
    long = length-append (take at before) more ∙ ap (λ (n : ℕ). n + length more) (text_long h)
