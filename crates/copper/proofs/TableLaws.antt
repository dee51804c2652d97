-- Loops over a table: a record laid over it place by place, and records one by one. Assumes nothing.
use Rattle.std.specs.Prelude.{if◌then◌else◌}
use Prim.Native.Nat.{ℕ, zero, suc, ◌+◌, ◌*◌, ◌-◌, ◌≤◌, ◌<◌}
use mathlib.Core.Path.{◌≡◌, refl, ap, ◌∙◌, sym}
use mathlib.Core.Bool.{Bool, true, false}
use mathlib.Core.List.{List, [], ◌∷◌}
use native.Mathlib.Nat.{min-le_left}
use native.Mathlib.Numerals.{add-one}
use native.Mathlib.Omega.{arith}
use lib.Bits.{bit_or}
use lib.ListN.{length, length-set, length-take, get_or, set, take, drop}
use Rattle.rules.specs.Grid.{places}
use Rattle.model.specs.Records.{record_length, has_record, record_at}
use Rattle.copper.specs.Overlay.{overlaid, records_overlaid}

-- ## Overlaid

-- the first i bytes of the record are laid over the table
pub record Covered (before layout table : List ℕ) (i : ℕ) : Type 0 where
  pub within : i ≤ length layout
  pub holds : table ≡ overlaid before (take i layout)
  pub same_length : length table ≡ length before

next_covered : (table layout : List ℕ) (i : ℕ) → i < length layout → length layout ≤ length table
    → set (overlaid table (take i layout)) i (bit_or (get_or (overlaid table (take i layout)) i 0) (get_or layout i 0)) ≡ overlaid table (take (suc i) layout)
unfolding overlaid
next_covered table [] i h fits = absurd (omega arith)
next_covered [] (byte ∷ layout) i h fits = absurd (omega arith)
next_covered (said ∷ table) (byte ∷ layout) zero h fits = refl
next_covered (said ∷ table) (byte ∷ layout) (suc i) h fits = ap (λ (l : List ℕ). bit_or said byte ∷ l) (next_covered table layout i (omega arith) (omega arith))

module _ (before layout : List ℕ) where
  pub none_covered : Covered before layout before 0
  unfolding overlaid
  none_covered = record { within = omega arith; holds = refl; same_length = refl }

  pub one_covered : {table : List ℕ} {i : ℕ} → length layout ≤ length before → i < length layout → Covered before layout table i
      → Covered before layout (set table i (bit_or (get_or table i 0) (get_or layout i 0))) (i + 1)
  one_covered {table} {i} fits below c = record {
    within = omega arith;
    holds = ap (λ (l : List ℕ). set l i (bit_or (get_or l i 0) (get_or layout i 0))) c.holds ∙ next_covered before layout i below fits ∙ ap (λ (n : ℕ). overlaid before (take n layout)) (sym (add-one i));
    same_length = length-set table i (bit_or (get_or table i 0) (get_or layout i 0)) ∙ c.same_length;
  }

pub length_overlaid : (table layout : List ℕ) → length (overlaid table layout) ≡ length table
unfolding overlaid
length_overlaid table [] = refl
length_overlaid [] (byte ∷ layout) = refl
length_overlaid (said ∷ table) (byte ∷ layout) = ap suc (length_overlaid table layout)

-- ## Records one by one

module _ (height width layouts : ℕ) (buffer before : List ℕ) where
  -- with the records from k on laid over it the table is what all records make of it
  pub record Laid (table : List ℕ) (k : ℕ) : Type 0 where
    pub within : k ≤ layouts
    pub goes_on : records_overlaid height width layouts buffer (layouts - k) k table ≡ records_overlaid height width layouts buffer layouts 0 before
    pub same_length : length table ≡ length before

  pub one_laid : {table : List ℕ} {k : ℕ} → k < layouts → Laid table k → (layout : List ℕ) → layout ≡ record_at height width layouts k buffer
      → (after : List ℕ) → after ≡ overlaid table layout → Laid after (k + 1)
  unfolding records_overlaid
  one_laid {table} {k} below l layout is after laid = record {
    within = omega arith;
    goes_on = rw (laid, is) (ap (λ (n : ℕ). records_overlaid height width layouts buffer n k table) one_more ∙ l.goes_on);
    same_length = ap length laid ∙ length_overlaid table layout ∙ l.same_length;
  }
    where
      one_more : suc (layouts - (k + 1)) ≡ layouts - k
      one_more = omega arith

  pub all_laid : {table : List ℕ} {k : ℕ} → layouts ≤ k → Laid table k → table ≡ records_overlaid height width layouts buffer layouts 0 before
  unfolding records_overlaid
  all_laid {table} {k} ended l = ap (λ (n : ℕ). records_overlaid height width layouts buffer n k table) none_left ∙ l.goes_on
    where
      none_left : 0 ≡ layouts - k
      none_left = omega arith

-- a record is no longer than the places
pub record_fits : (height width layouts k : ℕ) (buffer layout : List ℕ) → layout ≡ record_at height width layouts k buffer → length layout ≤ places height width
unfolding record_at record_length
record_fits height width layouts k buffer layout is = rw is (go (has_record height width layouts k (length buffer)))
  where
    go : (b : Bool) → length (if b then take (places height width) (drop (k * places height width) buffer) else []) ≤ places height width
    go true = rw length-take (min-le_left _ _)
    go false = omega arith

-- what the proof of the loop over the records is found by
pub ruleset record_by_record = (one_laid, all_laid, record_fits)
