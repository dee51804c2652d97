-- Whether there is a record k in a buffer: what the test of Records.antt asks, as facts; which part of the buffer it is; and that records
-- which were put into a buffer one after the other are found there again.
-- What is proved of them stands in proofs/HasRecord.antt.
use Rattle.std.specs.Prelude.{ℕ, ◌+◌, ◌*◌, ◌≤◌, ◌<◌, ◌≡◌, true, ◌&&◌, leb, length}
use Rattle.std.proofs.Math.Path.{refl, ap}
use Rattle.std.proofs.Common.{sym, ◌∙◌, arith}
use mathlib.Core.List.{List, [], ◌∷◌, ◌++◌, append_assoc, Memᴰ}
use borrow.Author.Tests.{ltb-true, leb-true, lt-ltb, le-leb}
use Rattle.std.proofs.Math.Dec.{ltb}
use Rattle.std.proofs.Math.ListN.{length-append}
use Rattle.rules.specs.Grid.{places}
use Rattle.rules.specs.Tests.{both}
use Rattle.model.specs.Bounds.{is_size}
use Rattle.model.specs.Records.{record_length, has_record}
use Rattle.model.specs.Runs.{concat}

module _ (height width count k room : ℕ) where
  -- sound sizes, k below the count, and the record ends in time
  pub record HasRecord : Type 0 where
    pub tall : is_size height ≡ true
    pub wide : is_size width ≡ true
    pub counted : k < count
    pub inside : k * places height width + places height width ≤ room

  pub what_a_record_has : has_record height width count k room ≡ true → HasRecord
  unfolding has_record record_length
  what_a_record_has e =
      let (abc, d) = both (is_size height && is_size width && ltb k count) (leb (k * places height width + places height width) room) e in
      let (ab, c) = both (is_size height && is_size width) (ltb k count) abc in
      let (a, b) = both (is_size height) (is_size width) ab in
      record { tall = a; wide = b; counted = ltb-true _ _ c; inside = leb-true _ _ d }

  pub record_is_there : HasRecord → has_record height width count k room ≡ true
  unfolding has_record record_length
  record_is_there t = rw (t.tall, t.wide, lt-ltb _ _ t.counted, le-leb _ _ t.inside) refl

-- how long they are together, and that more of them come after these
pub concat_length : (size : ℕ) (records : List (List ℕ)) → ((r : List ℕ) → Memᴰ r records → length r ≡ size) → length (concat records) ≡ length records * size
unfolding concat
concat_length size [] long = omega arith
concat_length size (r ∷ records) long =
    let its_length = long r (Memᴰ.head refl) in
    let others = concat_length size records (λ other m. long other (Memᴰ.tail m)) in
    rw length-append (omega (arith, its_length, others))

pub concat_append : (records more : List (List ℕ)) → concat (records ++ more) ≡ concat records ++ concat more
unfolding concat
concat_append [] more = refl
concat_append (r ∷ records) more = ap (λ (l : List ℕ). r ++ l) (concat_append records more) ∙ sym (append_assoc r (concat records) (concat more))
