-- What is proved of the definitions in specs/HasRecord.antt.
use Rattle.std.specs.Prelude.{ℕ, suc, ◌+◌, ◌*◌, ◌≤◌, ◌<◌, ◌≡◌, true, length, take, drop}
use Rattle.std.proofs.Math.Path.{refl, ap}
use Rattle.std.proofs.Common.{sym, ◌∙◌, arith, take_at, drop_at}
use mathlib.Core.List.{List, [], ◌∷◌, ◌++◌, append_assoc, Memᴰ}
use Rattle.std.proofs.Math.ListN.{length-append}
use Rattle.rules.specs.Grid.{places}
use Rattle.rules.specs.Record.{tabulate}
use Rattle.model.specs.Bounds.{is_size}
use Rattle.model.specs.Records.{record_length, record_at}
use Rattle.model.specs.Runs.{concat}
use Rattle.model.specs.HasRecord.{HasRecord, record_is_there}

-- the part of the buffer from k times the length on
pub that_part : (height width count k : ℕ) (buffer : List ℕ) → HasRecord height width count k (length buffer)
    → record_at height width count k buffer ≡ take (places height width) (drop (k * places height width) buffer)
unfolding record_at record_length
that_part height width count k buffer t = rw (record_is_there _ _ _ _ _ t) refl

-- the record that stands after the front is record k
module _ (height width count : ℕ) (tall : is_size height ≡ true) (wide : is_size width ≡ true)
    (front r rest : List ℕ) (k : ℕ) (at : length front ≡ k * places height width) (long : length r ≡ places height width) (below : k < count) where
  pub this_record : HasRecord height width count k (length (front ++ (r ++ rest)))
  this_record = record { tall = tall; wide = wide; counted = below; inside = rw (length-append front (r ++ rest), length-append r rest) (omega arith) }

  pub record_here : record_at height width count k (front ++ (r ++ rest)) ≡ r
  record_here = that_part height width count k (front ++ (r ++ rest)) this_record
      ∙ ap (λ (l : List ℕ). take (places height width) l) (drop_at front (r ++ rest) (k * places height width) at) ∙ take_at r rest (places height width) long

-- so records that were put into a buffer one after the other, each as long as the field has places, are its records from that place on
module _ (height width count : ℕ) (tall : is_size height ≡ true) (wide : is_size width ≡ true) where
  abbrev from_record : ℕ → ℕ → List ℕ → List (List ℕ)
  from_record k more buffer = tabulate (λ j. record_at height width count j buffer) k more

  pub records_there : (records : List (List ℕ)) → ((r : List ℕ) → Memᴰ r records → length r ≡ places height width)
      → (front rest : List ℕ) (k : ℕ) → length front ≡ k * places height width → k + length records ≤ count
      → tabulate (λ j. record_at height width count j (front ++ (concat records ++ rest))) k (length records) ≡ records
  unfolding tabulate concat
  records_there [] long front rest k at few = refl
  records_there (r ∷ records) long front rest k at few =
      let its_length = long r (Memᴰ.head refl) in
      ap (from_record k (suc (length records))) (ap (λ (l : List ℕ). front ++ l) (append_assoc r (concat records) rest))
      ∙ ap (λ (l : List ℕ). l ∷ from_record (k + 1) (length records) (front ++ (r ++ (concat records ++ rest))))
      (record_here height width count tall wide front r (concat records ++ rest) k at its_length (omega arith))
      ∙ ap (λ (l : List (List ℕ)). r ∷ l) (ap (from_record (k + 1) (length records)) (sym (append_assoc front r (concat records ++ rest)))
      ∙ records_there records (λ other m. long other (Memᴰ.tail m)) (front ++ r) rest (k + 1) (rw length-append (omega arith)) (omega arith))
