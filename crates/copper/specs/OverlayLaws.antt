-- THE RECORDS LAID OVER EACH OTHER ARE THE TABLE: the records that a search of an accepted grid has left in its buffer, laid over a table of
-- zeros, leave the model's table, and what lies past the places stays. It rests on the laws of records (rules), on what every record of a run
-- is (crate exact) and on which records a search leaves (promises' HeldRecords.antt).
use Rattle.std.specs.Prelude.{if◌then◌else◌}
use Prim.Native.Nat.{ℕ, zero, suc, ◌+◌, ◌/◌, ◌%◌}
use Rattle.std.specs.Prelude.{◌≡◌, Bool, length, ℤ}
use Rattle.std.proofs.Math.Path.{refl, sym, ap}
use Rattle.std.proofs.Common.{◌∙◌}
use Rattle.std.proofs.Math.Bool.{true, false}
use mathlib.Core.List.{List, [], ◌∷◌, ◌++◌, Memᴰ}
use Rattle.std.specs.Int.Bits.{bit_or}
use Rattle.std.proofs.Math.ListN.{replicate}
use Rattle.rules.specs.Grid.{Edge, Place, edge, no_edge, place_at, field_side, places, Grid, grid_of, Accepted}
use Rattle.rules.specs.Record.{byte_of, tabulate, byte_at_place, field, record_of, drawing_of}
use Rattle.rules.specs.RecordLaws.{tabulate_same}
use Rattle.rules.proofs.RecordLaws.{record_shows, drawing_determines}
use Rattle.model.specs.Records.{record_at}
use Rattle.model.specs.Runs.{scan, Solved}
use Rattle.model.specs.Search.{search, solve}
use Rattle.model.specs.Common.{in_every_layout, in_no_layout, in_some_layouts, has_line, all_have, none_has, common_byte, common_table}
use Rattle.exact.specs.Exact.{search_run}
use Rattle.promises.specs.HeldRecords.{records_left}
use Rattle.copper.specs.Overlay.{overlaid, records_overlaid}

-- ## One place

module _ (width : ℕ) (e : Edge) where
  -- the bits of an edge after so many layouts, from those before
  unfoldable bits : List (List ℕ) → ℕ → ℕ
  bits [] said = said
  bits (layout ∷ layouts) said = bits layouts (bit_or said (byte_of (has_line width e layout)))

  both_bits : (layouts : List (List ℕ)) → bits layouts 3 ≡ in_some_layouts
  unfolding bits
  both_bits [] = refl
  both_bits (layout ∷ layouts) = go (has_line width e layout) (both_bits layouts)
    where
      go : (b : Bool) → bits layouts 3 ≡ in_some_layouts → bits layouts (bit_or 3 (byte_of b)) ≡ in_some_layouts
      go true rest = rest
      go false rest = rest

  -- a line so far
  line_bit : (layouts : List (List ℕ)) → bits layouts 1 ≡ (if all_have width e layouts then in_every_layout else in_some_layouts)
  unfolding bits all_have
  line_bit [] = refl
  line_bit (layout ∷ layouts) = go (has_line width e layout) refl (line_bit layouts)
    where
      go : (b : Bool) → has_line width e layout ≡ b → bits layouts 1 ≡ (if all_have width e layouts then in_every_layout else in_some_layouts)
          → bits (layout ∷ layouts) 1 ≡ (if all_have width e (layout ∷ layouts) then in_every_layout else in_some_layouts)
      go true h rest = rw (h, bits, all_have) rest
      go false h rest = rw (h, bits, all_have) (both_bits layouts)

  -- none so far
  none_bit : (layouts : List (List ℕ)) → bits layouts 2 ≡ (if none_has width e layouts then in_no_layout else in_some_layouts)
  unfolding bits none_has
  none_bit [] = refl
  none_bit (layout ∷ layouts) = go (has_line width e layout) refl (none_bit layouts)
    where
      go : (b : Bool) → has_line width e layout ≡ b → bits layouts 2 ≡ (if none_has width e layouts then in_no_layout else in_some_layouts)
          → bits (layout ∷ layouts) 2 ≡ (if none_has width e (layout ∷ layouts) then in_no_layout else in_some_layouts)
      go true h rest = rw (h, bits, none_has) (both_bits layouts)
      go false h rest = rw (h, bits, none_has) rest

  all_bits : (layouts : List (List ℕ)) → bits layouts 0 ≡ common_byte width e layouts
  unfolding bits common_byte all_have none_has
  all_bits [] = refl
  all_bits (layout ∷ layouts) = go (has_line width e layout) refl
    where
      go : (b : Bool) → has_line width e layout ≡ b → bits (layout ∷ layouts) 0 ≡ common_byte width e (layout ∷ layouts)
      go true h = rw (h, bits, common_byte, all_have, none_has) (line_bit layouts)
      go false h = rw (h, bits, common_byte, all_have, none_has) (none_bit layouts)

-- ## One record over a table

tabulates_overlaid : (said bytes : ℕ → ℕ) (past : List ℕ) (start n : ℕ) → overlaid (tabulate said start n ++ past) (tabulate bytes start n) ≡ tabulate (λ i. bit_or (said i) (bytes i)) start n ++ past
unfolding overlaid tabulate
tabulates_overlaid said bytes past start zero = refl
tabulates_overlaid said bytes past start (suc n) = ap (λ (l : List ℕ). bit_or (said start) (bytes start) ∷ l) (tabulates_overlaid said bytes past (start + 1) n)

field_overlaid : (height width : ℕ) (said bytes : Edge → ℕ) (past : List ℕ)
    → overlaid (field height width said ++ past) (field height width bytes) ≡ field height width (λ e. bit_or (said e) (bytes e)) ++ past
unfolding field
field_overlaid height width said bytes past = tabulates_overlaid _ _ past 0 (places height width)
    ∙ ap (λ (l : List ℕ). l ++ past) (tabulate_same _ _ 0 (places height width) (λ i low high. at (place_at width (i / field_side width) (i % field_side width))))
  where
    at : (p : Place) → bit_or (byte_at_place said p) (byte_at_place bytes p) ≡ byte_at_place (λ e. bit_or (said e) (bytes e)) p
    at (edge e) = refl
    at no_edge = refl

-- ## Records, one after the other

unfoldable all_overlaid : List (List ℕ) → List ℕ → List ℕ
all_overlaid [] table = table
all_overlaid (layout ∷ layouts) table = all_overlaid layouts (overlaid table layout)

module _ (height width : ℕ) where
  -- each is the record of the drawing that it shows
  abbrev AllShown : List (List ℕ) → Type 0
  AllShown layouts = (layout : List ℕ) → Memᴰ layout layouts → layout ≡ field height width (λ e. byte_of (has_line width e layout))

  fields_overlaid : (layouts : List (List ℕ)) → AllShown layouts → (said : Edge → ℕ) (past : List ℕ)
      → all_overlaid layouts (field height width said ++ past) ≡ field height width (λ e. bits width e layouts (said e)) ++ past
  unfolding all_overlaid bits
  fields_overlaid [] all said past = refl
  fields_overlaid (layout ∷ layouts) all said past =
      ap (all_overlaid layouts) (ap (overlaid (field height width said ++ past)) (all layout (Memᴰ.head refl)) ∙ field_overlaid height width said (λ e. byte_of (has_line width e layout)) past)
      ∙ fields_overlaid layouts (λ other m. all other (Memᴰ.tail m)) (λ e. bit_or (said e) (byte_of (has_line width e layout))) past

  -- zeros are the field in which nothing is said
  zeros_field : replicate (places height width) 0 ≡ field height width (λ e. 0)
  unfolding field tabulate
  zeros_field = constant 0 (places height width) ∙ tabulate_same _ _ 0 (places height width) (λ i low high. at (place_at width (i / field_side width) (i % field_side width)))
    where
      constant : (start n : ℕ) → replicate {A = ℕ} n 0 ≡ tabulate (λ i. 0) start n
      constant start zero = refl
      constant start (suc n) = ap (λ (l : List ℕ). 0 ∷ l) (constant (start + 1) n)

      at : (p : Place) → 0 ≡ byte_at_place (λ e. 0) p
      at (edge e) = refl
      at no_edge = refl

  all_over_zeros : (layouts : List (List ℕ)) → AllShown layouts → (past : List ℕ)
      → all_overlaid layouts (replicate (places height width) 0 ++ past) ≡ common_table height width layouts ++ past
  unfolding common_table
  all_over_zeros layouts all past = ap (λ (l : List ℕ). all_overlaid layouts (l ++ past)) zeros_field ∙ fields_overlaid layouts all (λ e. 0) past
      ∙ ap (λ (bytes : Edge → ℕ). field height width bytes ++ past) (λ i e. all_bits width e layouts i)

-- ## The records of a buffer

records_of_buffer : (height width count : ℕ) (buffer : List ℕ) (more k : ℕ) (table : List ℕ)
    → records_overlaid height width count buffer more k table ≡ all_overlaid (tabulate (λ j. record_at height width count j buffer) k more) table
unfolding records_overlaid all_overlaid tabulate
records_of_buffer height width count buffer zero k table = refl
records_of_buffer height width count buffer (suc more) k table = records_of_buffer height width count buffer more (k + 1) (overlaid table (record_at height width count k buffer))

module _ (height width : ℕ) (cells : List ℤ) (accepted : Accepted height width cells) (limit : ℕ) (buffer : List ℕ) where
  abbrev g : Grid
  g = grid_of height width cells

  abbrev records : List (List ℕ)
  records = (scan limit (places height width) 0 (length buffer) (search g)).records

  all_shown : AllShown height width records
  unfolding record_of grid_of
  all_shown r m =
      let l = (search_run height width cells accepted limit (length buffer)).nothing_added r m in
      let wide = accepted.width_in_range.0 in
      let again = drawing_determines g wide l.drawing (drawing_of width (record_of g l.drawing)) (λ e on. sym (record_shows g wide l.drawing l.listed.ordinary.placed e)) in
      l.shown ∙ again ∙ ap (λ (bytes : List ℕ). record_of g (drawing_of width bytes)) (sym l.shown)

  abbrev left_by : Solved
  left_by = solve height width cells limit buffer

  -- THE TABLE that the records in the buffer of a search leave
  pub table_left : (past : List ℕ)
      → records_overlaid height width left_by.layouts left_by.buffer left_by.layouts 0 (replicate (places height width) 0 ++ past) ≡ common_table height width records ++ past
  table_left past =
      records_of_buffer height width left_by.layouts left_by.buffer left_by.layouts 0 (replicate (places height width) 0 ++ past)
      ∙ ap (λ (l : List (List ℕ)). all_overlaid l (replicate (places height width) 0 ++ past)) (records_left height width cells accepted limit buffer)
      ∙ all_over_zeros height width records all_shown past
