-- Laws of laying out a record: the byte at a place, bytes put one after another with their lines counted, a row byte by byte, and the field
-- row by row. They rest on the rules' RecordLaws.antt and on the model's PutBytes.antt.
use Rattle.std.specs.Prelude.{ℕ, suc, ◌+◌, ◌*◌, ◌≤◌, ◌<◌, ◌≡◌, refl, List, [], ◌∷◌, ◌++◌, Some, None, eqb, set, length}
use Rattle.std.specs.Int.{from_bool}
use Rattle.std.proofs.Common.{sym, ap, ◌∙◌, arith, zero-add, add-one, add_assoc, suc-mul, mul-le-mul_right, length-set}
use Rattle.rules.specs.Grid.{Edge, Place, place_at, field_side, places}
use Rattle.rules.specs.Drawing.{num}
use Rattle.rules.specs.Record.{line_byte, tabulate, byte_at_place, field, record_lines}
use Rattle.rules.specs.RecordLaws.{length_tabulate, tabulate_parts, field_row, field_rows, no_rows, length_rows, next_rows, all_rows}
use Rattle.rules.specs.Tests.{num_small}
use Rattle.model.specs.PutBytes.{put_bytes, put_none, put_put, put_one}
use Rattle.grid.specs.Numbers.{test_number}
use Rattle.grid.specs.declared.Pads.{Pads}
use Rattle.grid.specs.PadsAt.{pads_of, edge_of, place_of, told_place}
use Rattle.records.specs.Laid.{Laid}

-- ## The byte at a place

module _ (width : ℕ) (p : Place) (bytes : Edge → ℕ) where
  pub byte_there : {pads : Pads} → Some pads ≡ pads_of width p → {byte : ℕ} → byte ≡ bytes (edge_of pads) → byte ≡ byte_at_place bytes p
  unfolding place_of
  byte_there are is = is ∙ ap (byte_at_place bytes) (told_place width p are)

  pub byte_nowhere : None ≡ pads_of width p → 0 ≡ byte_at_place bytes p
  unfolding place_of
  byte_nowhere none = ap (byte_at_place bytes) (told_place width p none)

-- ## Lines of a record that is laid out part by part

lines_append : (a b : List ℕ) → record_lines (a ++ b) ≡ record_lines a + record_lines b
unfolding record_lines
lines_append [] b = sym (zero-add (record_lines b))
lines_append (x ∷ a) b = ap (λ (k : ℕ). num (eqb x line_byte) + k) (lines_append a b) ∙ sym (add_assoc (num (eqb x line_byte)) (record_lines a) (record_lines b))

-- ## Part after part

module _ (Told : (Edge → ℕ) → Type 0) where
  pub none_laid : (at : ℕ) (buffer : List ℕ) → Laid Told (λ bytes. []) 0 at buffer 0 buffer
  unfolding record_lines
  none_laid at buffer = record { few = omega arith; same_length = refl; written = λ bytes told. sym (put_none at buffer); counted = λ bytes told. refl }

  pub laid_same : (text other : (Edge → ℕ) → List ℕ) → ((bytes : Edge → ℕ) → text bytes ≡ other bytes) → {n m at lines : ℕ} {buffer buffer' : List ℕ} → n ≡ m
      → Laid Told text n at buffer lines buffer' → Laid Told other m at buffer lines buffer'
  laid_same text other same {at = at} {buffer = buffer} as_long laid = record {
    few = let k = laid.few in omega arith;
    same_length = laid.same_length;
    written = λ bytes told. laid.written bytes told ∙ ap (λ l. put_bytes at l buffer) (same bytes);
    counted = λ bytes told. laid.counted bytes told ∙ ap record_lines (same bytes);
  }

  pub laid_both : (text more : (Edge → ℕ) → List ℕ) {n m at lines others : ℕ} {buffer buffer' buffer'' : List ℕ} → ((bytes : Edge → ℕ) → length (text bytes) ≡ n) → at + n ≤ length buffer
      → Laid Told text n at buffer lines buffer' → Laid Told more m (at + n) buffer' others buffer'' → Laid Told (λ bytes. text bytes ++ more bytes) (n + m) at buffer (lines + others) buffer''
  laid_both text more {n} {m} {at} {lines} {others} {buffer} {buffer'} {buffer''} long room laid then = record {
    few = let k = laid.few in let j = then.few in omega arith;
    same_length = then.same_length ∙ laid.same_length;
    written = λ bytes told.
        then.written bytes told
        ∙ ap (λ (k : ℕ). put_bytes (at + k) (more bytes) buffer') (sym (long bytes))
        ∙ ap (put_bytes (at + length (text bytes)) (more bytes)) (laid.written bytes told)
        ∙ put_put at (text bytes) (more bytes) buffer (omega (arith, long bytes));
    counted = λ bytes told. omega (arith, laid.counted bytes told, then.counted bytes told, lines_append (text bytes) (more bytes));
  }

  -- one byte
  pub byte_laid : (byte : (Edge → ℕ) → ℕ) (at : ℕ) (buffer : List ℕ) → at < length buffer → (b : ℕ) → ((bytes : Edge → ℕ) → Told bytes → b ≡ byte bytes)
      → {n : ℕ} → n ≡ from_bool (eqb b 1) → Laid Told (λ bytes. byte bytes ∷ []) 1 at buffer n (set buffer at b)
  unfolding record_lines
  byte_laid byte at buffer inside b is {n} n_is = record {
    few = omega (arith, n_is, test_number (eqb b 1), num_small (eqb b 1));
    same_length = length-set buffer at b;
    written = λ bytes told. put_one at b buffer inside ∙ ap (λ (k : ℕ). put_bytes at (k ∷ []) buffer) (is bytes told);
    counted = λ bytes told. omega (arith, n_is, test_number (eqb b 1), ap (λ (k : ℕ). num (eqb k 1)) (is bytes told));
  }

-- ## A row, byte by byte

-- its first bytes
abbrev pub row_until : ℕ → ℕ → ℕ → (Edge → ℕ) → List ℕ
row_until width row column bytes = tabulate (λ x. byte_at_place bytes (place_at width row x)) 0 column

module _ (Told : (Edge → ℕ) → Type 0) (width row at : ℕ) (buffer : List ℕ) where
  pub no_byte_laid : Laid Told (row_until width row 0) 0 at buffer 0 buffer
  unfolding tabulate
  no_byte_laid = none_laid Told at buffer

  pub one_byte_laid : (column : ℕ) {lines : ℕ} {buffer' : List ℕ} → Laid Told (row_until width row column) column at buffer lines buffer' → at + column < length buffer
      → (b : ℕ) → ((bytes : Edge → ℕ) → Told bytes → b ≡ byte_at_place bytes (place_at width row column)) → {n : ℕ} → n ≡ from_bool (eqb b 1)
      → Laid Told (row_until width row (column + 1)) (column + 1) at buffer (lines + n) (set buffer' (at + column) b)
  unfolding tabulate
  one_byte_laid column {buffer' = buffer'} laid room b is n_is =
      let k = laid.same_length in
      laid_same Told (λ bytes. row_until width row column bytes ++ (byte_at_place bytes (place_at width row column) ∷ [])) (row_until width row (column + 1))
      (λ bytes. sym (tabulate_parts (λ x. byte_at_place bytes (place_at width row x)) 0 column 1
      ∙ ap (λ (c : ℕ). row_until width row column bytes ++ (byte_at_place bytes (place_at width row c) ∷ [])) (zero-add column))) refl
      (laid_both Told (row_until width row column) (λ bytes. byte_at_place bytes (place_at width row column) ∷ [])
      (λ bytes. length_tabulate (λ x. byte_at_place bytes (place_at width row x)) 0 column) (omega arith) laid
      (byte_laid Told (λ bytes. byte_at_place bytes (place_at width row column)) (at + column) buffer' (omega arith) b is n_is))

  pub row_laid : (column : ℕ) {lines : ℕ} {buffer' : List ℕ} → Laid Told (row_until width row column) column at buffer lines buffer' → column ≡ field_side width
      → Laid Told (λ bytes. field_row width bytes row) (field_side width) at buffer lines buffer'
  unfolding field_row
  row_laid column laid done = laid_same Told (row_until width row column) (row_until width row (field_side width)) (λ bytes. ap (λ (c : ℕ). row_until width row c bytes) done) done laid

-- ## The field, row by row

-- its first rows
abbrev pub rows_until : ℕ → ℕ → (Edge → ℕ) → List ℕ
rows_until width row bytes = field_rows width bytes row

-- a row of the field, where the code has the sizes in numbers of its own
pub row_fits : (height width row : ℕ) → row < field_side height → row * field_side width + field_side width ≤ places height width
row_fits height width row below = let rows : suc row * field_side width ≤ places height width = mul-le-mul_right (field_side width) below in omega (arith, suc-mul row (field_side width))

module _ (Told : (Edge → ℕ) → Type 0) (width at : ℕ) (buffer : List ℕ) where
  pub no_row_laid : Laid Told (rows_until width 0) (0 * field_side width) at buffer 0 buffer
  no_row_laid = laid_same Told (λ bytes. []) (rows_until width 0) (λ bytes. sym (no_rows width bytes)) (omega arith) (none_laid Told at buffer)

  pub one_row_laid : (TheRow : (Edge → ℕ) → Type 0) → ((bytes : Edge → ℕ) → Told bytes → TheRow bytes) → (row : ℕ) {lines more : ℕ} {buffer' buffer'' : List ℕ}
      → Laid Told (rows_until width row) (row * field_side width) at buffer lines buffer' → at + (row * field_side width + field_side width) ≤ length buffer
      → Laid TheRow (λ bytes. field_row width bytes row) (field_side width) (at + row * field_side width) buffer' more buffer''
      → Laid Told (rows_until width (row + 1)) ((row + 1) * field_side width) at buffer (lines + more) buffer''
  one_row_laid TheRow its row laid room then =
      laid_same Told (λ bytes. field_rows width bytes row ++ field_row width bytes row) (rows_until width (row + 1)) (λ bytes. sym (next_rows width bytes row))
      (sym (ap (λ (n : ℕ). n * field_side width) (add-one row) ∙ suc-mul row (field_side width)))
      (laid_both Told (rows_until width row) (λ bytes. field_row width bytes row) (λ bytes. length_rows width bytes row) (omega arith) laid
      (record { few = then.few; same_length = then.same_length; written = λ bytes told. then.written bytes (its bytes told); counted = λ bytes told. then.counted bytes (its bytes told) }))

  pub field_laid : (row : ℕ) {lines : ℕ} {buffer' : List ℕ} → Laid Told (rows_until width row) (row * field_side width) at buffer lines buffer' → (height : ℕ) → row ≡ field_side height
      → (bytes : Edge → ℕ) → Told bytes → (buffer' ≡ put_bytes at (field height width bytes) buffer) × (lines ≡ record_lines (field height width bytes))
  field_laid row laid height done bytes told =
      let all : field_rows width bytes row ≡ field height width bytes = ap (field_rows width bytes) done ∙ all_rows width bytes height in
      (laid.written bytes told ∙ ap (λ l. put_bytes at l buffer) all, laid.counted bytes told ∙ ap record_lines all)
