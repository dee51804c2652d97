-- Laws of texts that are put into a buffer one after the other. Assumes nothing.
use Rattle.std.specs.Prelude.{◌≡◌, refl, List, [], ◌∷◌, ◌++◌, ℕ, suc, ◌+◌, ◌≤◌, ◌<◌, length, get_or, take, drop, set}
use Rattle.std.proofs.Common.{sym, ap, ◌∙◌, add_assoc, add-zero, add-suc, suc-add, zero-add, add-one, arith, length-append, take-suc, take_all, take_at, length-take-le}
use Rattle.std.proofs.lemmas.List.Edits.{sets, sets-eq}
use Rattle.std.proofs.Math.Seq.{length-sets}
use Rattle.text.specs.Put.{Put}

sets_append : (text more buffer : List ℕ) (at : ℕ) → sets (sets buffer at text) (at + length text) more ≡ sets buffer at (text ++ more)
sets_append [] more buffer at = ap (λ (n : ℕ). sets buffer n more) (add-zero at)
sets_append (byte ∷ text) more buffer at = ap (λ (n : ℕ). sets (sets buffer at (byte ∷ text)) n more) (add-suc at (length text) ∙ sym (suc-add at (length text))) ∙ sets_append text more _ (suc at)

-- one text after the other
pub put_both : {first second third text more : List ℕ} {at next last : ℕ} → Put first second at text next → Put second third next more last → Put first third at (text ++ more) last
put_both {first} {second} {third} {text} {more} {at} {next} {last} p q =
    record {
      stored = q.stored ∙ rw (p.stored, p.place) (sets_append text more first at);
      place = q.place ∙ rw (p.place, length-append) (omega arith);
    }

pub put_length : {first second text : List ℕ} {at next : ℕ} → Put first second at text next → length second ≡ length first
put_length {first} {text = text} {at} p = ap (λ (l : List ℕ). length l) p.stored ∙ length-sets first at text

-- the same text in other words
pub put_same : {first second text other : List ℕ} {at next : ℕ} → text ≡ other → Put first second at text next → Put first second at other next
put_same e p = rw e at p

-- a text that was put from the start on, in front of what was there
pub put_front : {first second text : List ℕ} {next : ℕ} → Put first second 0 text next → length text ≤ length first → second ≡ text ++ drop (length text) first
put_front {first} {second} {text} p h = p.stored ∙ sets-eq text first 0 (omega arith) ∙ ap (λ (n : ℕ). text ++ drop n first) (zero-add (length text))

pub put_next : {first second text : List ℕ} {next : ℕ} → Put first second 0 text next → next ≡ length text
put_next {text = text} p = p.place ∙ zero-add (length text)

-- one byte
pub put_one : (buffer : List ℕ) (at byte : ℕ) → Put buffer (set buffer at byte) at (byte ∷ []) (at + 1)
put_one buffer at byte = record { stored = refl; place = omega arith }

-- no text
pub put_none : (buffer : List ℕ) (at next : ℕ) → next ≡ at → Put buffer buffer at [] next
put_none buffer at next e = record { stored = refl; place = omega arith }

-- a word, byte by byte
module _ (first out word : List ℕ) (at i : ℕ) where
  pub byte_put : i < length word → Put first out at (take i word) (at + i) → Put first (set out (at + i) (get_or word i 0)) at (take (i + 1) word) (at + (i + 1))
  byte_put h p = rw (sym (add_assoc at i 1), add-one i, take-suc word i 0 h) (put_both p (put_one out (at + i) (get_or word i 0)))

  pub word_put : length word ≤ i → Put first out at (take i word) (at + i) → Put first out at word (at + i)
  word_put h p = put_same (take_all i word h) p

-- what a buffer holds up to the place after a text that was put behind a first one of so many bytes
pub put_behind : {before after more : List ℕ} {at next : ℕ} → Put before after at more next → at + length more ≤ length before → take next after ≡ take at before ++ more
put_behind {before} {after} {more} {at} {next} p room = ap (take next) (p.stored ∙ sets-eq more before at room) ∙ take_at (take at before ++ more) (drop (at + length more) before) next (sym long ∙ sym p.place)
  where
    first : length (take at before) ≡ at
    first = length-take-le at before (omega arith)

    long : at + length more ≡ length (take at before ++ more)
    long = rw (length-append, first) refl
