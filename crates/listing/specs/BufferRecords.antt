-- Record k of a buffer: what its line is where there is one. And for records that were put into a buffer one after the other, each as long
-- as the field has places, the lines there are the lines of the records. It rests on Listing.antt and the model's HasRecord.antt.
use Rattle.std.specs.Prelude.{ℕ, zero, suc, ◌+◌, ◌*◌, ◌≤◌, ◌<◌, ◌≡◌, Bool, ◌&&◌, length}
use Rattle.std.proofs.Math.Path.{refl, ap}
use Rattle.std.proofs.Common.{sym, ◌∙◌, arith, length-drop, length-take-le}
use Rattle.std.proofs.Math.Bool.{true, false}
use mathlib.Core.List.{List, [], ◌∷◌, ◌++◌, append_assoc, Memᴰ}
use mathlib.Core.Bool.{and-false}
use borrow.Author.Tests.{le-ltb}
use Rattle.std.proofs.Math.ListN.{length-append}
use Rattle.rules.specs.Grid.{places}
use Rattle.rules.specs.Places.{some_places}
use Rattle.model.specs.Bounds.{is_size}
use Rattle.model.specs.RefusalLaws.{size_of_test}
use Rattle.model.specs.Records.{has_record, record_at}
use Rattle.model.specs.HasRecord.{HasRecord, what_a_record_has, record_is_there}
use Rattle.model.proofs.HasRecord.{that_part, this_record, record_here}
use Rattle.model.specs.Runs.{concat}
use Rattle.model.specs.Printed.{layout_line, layout_lines}
use Rattle.printed.specs.Written.{layout_text}
use Rattle.listing.specs.Listing.{line_text}

-- ## The line of record k

module _ (height width count k : ℕ) (buffer : List ℕ) where
  part_length : HasRecord height width count k (length buffer) → length (record_at height width count k buffer) ≡ places height width
  part_length t = rw (that_part height width count k buffer t) (length-take-le _ _ (rw length-drop (omega (arith, t.inside))))

  pub that_line : HasRecord height width count k (length buffer) → line_text height width count k buffer ≡ layout_line height width (k + 1) (record_at height width count k buffer)
  unfolding line_text
  that_line t = rw (record_is_there _ _ _ _ _ t) refl

  -- from the count on there is none
  pub no_part : count ≤ k → record_at height width count k buffer ≡ []
  unfolding record_at has_record
  no_part h = rw (le-ltb k count h, and-false (is_size height && is_size width)) refl

  module _ (part : List ℕ) (same : part ≡ record_at height width count k buffer) where
    -- an empty part is no record, and nothing is printed for it
    pub no_line : length part ≡ 0 → line_text height width count k buffer ≡ []
    unfolding line_text
    no_line e = go (has_record height width count k (length buffer)) refl
      where
        go : (b : Bool) → has_record height width count k (length buffer) ≡ b → line_text height width count k buffer ≡ []
        go false h = rw h refl
        go true h =
            let t = what_a_record_has _ _ _ _ _ h in
            absurd (omega (arith, ap length same, e, part_length t, some_places height width (size_of_test height t.tall).0 (size_of_test width t.wide).0))

    -- any other part is record k
    pub some_line : (length part ≡ 0 → ⊥) → HasRecord height width count k (length buffer)
    unfolding record_at
    some_line e = go (has_record height width count k (length buffer)) refl
      where
        go : (b : Bool) → has_record height width count k (length buffer) ≡ b → HasRecord height width count k (length buffer)
        go true h = what_a_record_has _ _ _ _ _ h
        go false h = absurd (e (ap length same ∙ rw h refl))

    -- and the line of this part is that of record k
    pub line_written : HasRecord height width count k (length buffer) → layout_text height width (k + 1) part ≡ line_text height width count k buffer
    unfolding layout_text
    line_written t = rw (that_line t, same, t.tall, t.wide) refl

pub ruleset line_laws = (no_part, no_line, some_line, line_written)

-- ## Records one after the other

-- the lines of so many layouts from layout k on
unfoldable pub lines_from : ℕ → ℕ → ℕ → List ℕ → ℕ → ℕ → List ℕ
lines_from height width layouts buffer zero k = []
lines_from height width layouts buffer (suc more) k = line_text height width layouts k buffer ++ lines_from height width layouts buffer more (k + 1)

module _ (height width layouts : ℕ) (tall : is_size height ≡ true) (wide : is_size width ≡ true) where
  abbrev size : ℕ
  size = places height width

  -- the record that stands after the front is record k
  module _ (front r rest : List ℕ) (k : ℕ) (at : length front ≡ k * size) (long : length r ≡ size) (below : k < layouts) where
    abbrev buffer : List ℕ
    buffer = front ++ (r ++ rest)

    pub line_here : line_text height width layouts k buffer ≡ layout_line height width (k + 1) r
    line_here = that_line height width layouts k buffer (this_record height width layouts tall wide front r rest k at long below)
        ∙ ap (λ (l : List ℕ). layout_line height width (k + 1) l) (record_here height width layouts tall wide front r rest k at long below)

  pub lines_there : (records : List (List ℕ)) → ((r : List ℕ) → Memᴰ r records → length r ≡ size) → (front rest : List ℕ) (k : ℕ) → length front ≡ k * size → k + length records ≤ layouts
      → lines_from height width layouts (front ++ (concat records ++ rest)) (length records) k ≡ layout_lines height width (k + 1) records
  unfolding lines_from layout_lines concat
  lines_there [] long front rest k at few = refl
  lines_there (r ∷ records) long front rest k at few =
      let its_length = long r (Memᴰ.head refl) in
      ap (λ (l : List ℕ). line_text height width layouts k l ++ lines_from height width layouts l (length records) (k + 1)) (ap (λ (l : List ℕ). front ++ l) (append_assoc r (concat records) rest))
      ∙ ap (λ (l : List ℕ). l ++ lines_from height width layouts (front ++ (r ++ (concat records ++ rest))) (length records) (k + 1)) (line_here front r (concat records ++ rest) k at its_length (omega arith))
      ∙ ap (λ (l : List ℕ). layout_line height width (k + 1) r ++ l)
      (ap (λ (l : List ℕ). lines_from height width layouts l (length records) (k + 1)) (sym (append_assoc front r (concat records ++ rest)))
      ∙ lines_there records (λ other m. long other (Memᴰ.tail m)) (front ++ r) rest (k + 1) (rw length-append (omega (arith, its_length))) (omega arith))
