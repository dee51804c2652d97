-- Reading what was written gives the grid: for every accepted grid its text is an accepted file, and its reading is H, W, the cells, and
-- blank past them. The text is read field by field: digits back to their number, each pad's field back to its cell.
use Rattle.std.specs.Prelude.{◌≡◌, Bool, true, false, ℕ, zero, suc, ◌+◌, ◌*◌, ◌-◌, ◌/◌, ◌%◌, ◌^◌, ◌≤◌, ◌<◌, length, get_or, set, replicate, ℤ, eqb, ltb}
use Rattle.std.proofs.Math.Path.{refl, ap}
use Rattle.std.proofs.Common.{sym, ◌∙◌, inl, inr, zero-add, length-append}
use Rattle.std.proofs.Math.Bool.{and-false}
use mathlib.Core.List.{List, [], ◌∷◌, ◌++◌, append_assoc}
use Rattle.std.proofs.Math.Nat.{mul-le-mul}
use native.Mathlib.Omega.{arith}
use Rattle.std.proofs.Math.ListN.{drop, length-replicate}
use Rattle.std.proofs.lemmas.List.Edits.{sets}
use Rattle.std.proofs.Math.Seq.{sets-eq, append_snoc}
use borrow.Author.Tests.{ltb-true, ltb-false, ne_eqb, eq-eqb, eqb-true, eqb-false}
use Rattle.rules.specs.Grid.{largest_code, blank_cell, CellInRange, Accepted}
use Rattle.model.specs.Lists.{drop_replicate}
use Rattle.model.specs.Text.{bytes, comma, line_end, hole_sign}
use Rattle.model.specs.Bounds.{most_digits}
use Rattle.model.specs.RefusalLaws.{test_of_size}
use Rattle.model.specs.Decimal.{digit_byte, decimal}
use Rattle.model.proofs.DecimalLaws.{decimal_short, decimal_long, decimal_length, decimal_some, digit_is_digit}
use Rattle.model.specs.GridFile.{Standing, Reading, is_zero_alone, blank, hole, no_cells, start, in_header, is_complete, accepted, grid_reading, read_from, read}
use Rattle.model.specs.Writing.{cell_text, rows_text, grid_text}
use Rattle.reading.specs.FieldSteps.{Part, some_digits, hole_alone, field_start, in_field, cell_of, end_complete, digit_read, hole_read, row_open, row_ends, row_goes_on, header_goes_on, header_ends, header_open}

-- ## Digits

-- a field with a value is not `0`
not_alone : (digits value : ℕ) → 1 ≤ value → is_zero_alone digits value ≡ false
unfolding is_zero_alone
not_alone digits value some = rw (ne_eqb value 0 (λ (e : value ≡ 0). omega arith)) (and-false (eqb digits 1))

module _ (s : Standing) (open_yet : is_complete s ≡ false) where
  -- one digit more, as the byte that is written for it
  one_digit : (digits value digit : ℕ) (rest : List ℕ) → digit < 10 → is_zero_alone digits value ≡ false → digits < 10 → read_from (in_field s (some_digits digits value)) (digit_byte digit ∷ rest) ≡ read_from (in_field s (some_digits (digits + 1) (value * 10 + digit))) rest
  unfolding most_digits digit_byte
  one_digit digits value digit rest h more few = digit_read s open_yet (digit_byte digit) rest digits value (digit_is_digit digit h) more (ne_eqb digits 10 (λ (e : digits ≡ 10). omega arith)) ∙ ap (λ (n : ℕ). read_from (in_field s (some_digits (digits + 1) (value * 10 + n))) rest) back
    where
      back : 48 + digit - 48 ≡ digit
      back = omega arith

  short_read : (number : ℕ) (rest : List ℕ) → number < 10 → read_from (in_field s (some_digits 0 0)) (decimal number ++ rest) ≡ read_from (in_field s (some_digits (length (decimal number)) number)) rest
  unfolding is_zero_alone
  short_read number rest h = rw (decimal_short number h) (one_digit 0 0 number rest h refl (omega arith) ∙ ap (λ (n : ℕ). read_from (in_field s (some_digits 1 n)) rest) (zero-add number))

  -- the digits of a number are read back to it
  digits_read : (more number : ℕ) (rest : List ℕ) → number < 10 ^ suc more → more < 10 → read_from (in_field s (some_digits 0 0)) (decimal number ++ rest) ≡ read_from (in_field s (some_digits (length (decimal number)) number)) rest
  digits_read zero number rest h few = short_read number rest (omega arith)
  digits_read (suc more) number rest h few = go (ltb number 10) refl (λ k. digits_read more (number / 10) (digit_byte (number % 10) ∷ rest) k (omega arith))
    where
      go : (t : Bool) → ltb number 10 ≡ t → (number / 10 < 10 ^ suc more → read_from (in_field s (some_digits 0 0)) (decimal (number / 10) ++ digit_byte (number % 10) ∷ rest) ≡ read_from (in_field s (some_digits (length (decimal (number / 10))) (number / 10))) (digit_byte (number % 10) ∷ rest)) → read_from (in_field s (some_digits 0 0)) (decimal number ++ rest) ≡ read_from (in_field s (some_digits (length (decimal number)) number)) rest
      go true t again = short_read number rest (ltb-true _ _ t)
      go false t again =
          let big : 10 ≤ number = ltb-false _ _ t in
          let below : number / 10 < 10 ^ suc more = omega arith in
          let few_digits : length (decimal (number / 10)) ≤ suc more = decimal_length more (number / 10) below in
          ap (λ (l : List ℕ). read_from (in_field s (some_digits 0 0)) (l ++ rest)) (decimal_long number big)
          ∙ ap (read_from (in_field s (some_digits 0 0))) (append_snoc (decimal (number / 10)) (digit_byte (number % 10)) rest)
          ∙ again below
          ∙ one_digit (length (decimal (number / 10))) (number / 10) (number % 10) rest (omega arith) (not_alone _ (number / 10) (omega arith)) (omega arith)
          ∙ ap (λ (n : ℕ). read_from (in_field s (some_digits n (number / 10 * 10 + number % 10))) rest) (sym (longer big))
          ∙ ap (λ (n : ℕ). read_from (in_field s (some_digits (length (decimal number)) n)) rest) whole
        where
          longer : 10 ≤ number → length (decimal number) ≡ length (decimal (number / 10)) + 1
          longer big = ap (λ (l : List ℕ). length l) (decimal_long number big) ∙ length-append (decimal (number / 10)) (digit_byte (number % 10) ∷ [])

          whole : number / 10 * 10 + number % 10 ≡ number
          whole = omega arith

-- the digits of a code, and of a size
code_read : (s : Standing) → is_complete s ≡ false → (number : ℕ) (rest : List ℕ) → number ≤ largest_code → read_from (in_field s (some_digits 0 0)) (decimal number ++ rest) ≡ read_from (in_field s (some_digits (length (decimal number)) number)) rest
code_read s open_yet number rest h = digits_read s open_yet 9 number rest (omega arith) (omega arith)

-- ## The field of a pad

-- a cell's field is read as one that stands for the cell
record Spelt (s : Standing) (cell : ℤ) (rest : List ℕ) : Type 0 where
  part : Part
  sound : part.value ≤ largest_code
  stands : cell_of part ≡ cell
  same : read_from (in_field s (some_digits 0 0)) (cell_text cell ++ rest) ≡ read_from (in_field s part) rest

-- in a row: nothing for blank, `#` for a hole, else the digits of the code
spelt : (s : Standing) → is_complete s ≡ false → in_header s ≡ false → (cell : ℤ) (rest : List ℕ) → CellInRange cell → Spelt s cell rest
unfolding cell_text hole_sign bytes cell_of blank hole
spelt s open_yet in_row cell rest (inl e) = record { part = some_digits 0 0; sound = omega arith; stands = sym e; same = rw e refl }
spelt s open_yet in_row cell rest (inr (inl e)) = record { part = hole_alone; sound = omega arith; stands = sym e; same = rw e (hole_read s open_yet rest in_row) }
spelt s open_yet in_row cell rest (inr (inr (code, e, below))) = record { part = some_digits (length (decimal code)) code; sound = below; stands = rw (ne_eqb _ 0 some) (sym e); same = rw e (code_read s open_yet code rest below) }
  where
    some : length (decimal code) ≡ 0 → ⊥
    some z = omega (arith, decimal_some code, z)

-- ## The rows

-- where a pad's cell stands: the pads of the rows before, and those before it in its row
abbrev index_of : ℕ → ℕ → ℕ → ℕ
index_of width line field = (line - 2) * width + (field - 1)

module _ (height width : ℕ) where
  -- where pads are left, so is a row; where none is left, the last row has ended
  row_left : (line field : ℕ) → index_of width line field < height * width → line < height + 2
  row_left line field h = go (ltb line (height + 2)) refl
    where
      go : (t : Bool) → ltb line (height + 2) ≡ t → line < height + 2
      go true t = ltb-true line (height + 2) t
      go false t =
          let past : height ≤ line - 2 = omega (arith, ltb-false line (height + 2) t) in
          let all : height * width ≤ (line - 2) * width = mul-le-mul past (omega arith) in
          absurd (omega arith)

  rows_ended : (line field : ℕ) → 2 ≤ line → line ≤ height + 2 → 1 ≤ field → field ≤ width → index_of width line field ≡ height * width → line ≡ height + 2
  rows_ended line field from upto first last h = go (ltb line (height + 2)) refl
    where
      go : (t : Bool) → ltb line (height + 2) ≡ t → line ≡ height + 2
      go true t =
          let row : suc (line - 2) ≤ height = omega (arith, ltb-true line (height + 2) t) in
          let all : suc (line - 2) * width ≤ height * width = mul-le-mul row (omega arith) in
          absurd (omega arith)
      go false t = omega (arith, ltb-false line (height + 2) t)

  -- the reading of a grid that has these cells
  abbrev gives : List ℤ → Reading
  gives cells = record { number = 0; line = 0; field = 0; height = height; width = width; cells = cells }

  -- what reading the rest of the pads comes to, from a pad on whose field is the next to be read
  abbrev RowsRead : List ℤ → Type 0
  RowsRead rest = (cells : List ℤ) (line field : ℕ) → 2 ≤ line → line ≤ height + 2 → 1 ≤ field → field ≤ width
      → index_of width line field + length rest ≡ height * width → ((v : ℕ) → v < length rest → CellInRange (get_or rest v blank_cell))
      → read_from (field_start line field height width cells) (rows_text width field rest) ≡ gives (sets cells (index_of width line field) rest)

  module _ (cell : ℤ) (rest cells : List ℤ) (line field : ℕ) (from : 2 ≤ line) (left : line < height + 2) (first : 1 ≤ field) (again : RowsRead rest) (count : index_of width line field + suc (length rest) ≡ height * width) (in_range : CellInRange cell) (all_in_range : (v : ℕ) → v < length rest → CellInRange (get_or rest v blank_cell)) where
    here : (following : List ℕ) → Spelt (field_start line field height width cells) cell following
    unfolding in_header field_start
    here following = spelt (field_start line field height width cells) (row_open line field height width cells from left) (ne_eqb line 1 (λ (e : line ≡ 1). omega arith)) cell following in_range

    -- the pad is the last of its row, or another follows
    last_read : field ≡ width → read_from (field_start line field height width cells) (cell_text cell ++ 10 ∷ rows_text width 1 rest) ≡ gives (sets (set cells (index_of width line field) cell) (suc (index_of width line field)) rest)
    unfolding in_field field_start
    last_read e =
        h.same ∙ row_ends line field height width cells from left h.part (rows_text width 1 rest) h.sound (omega arith)
        ∙ ap (λ (c : ℤ). read_from (field_start (line + 1) 1 height width (set cells (index_of width line field) c)) (rows_text width 1 rest)) h.stands
        ∙ again (set cells (index_of width line field) cell) (line + 1) 1 (omega arith) (omega arith) (omega arith) (omega arith) (omega (arith, count, next)) all_in_range
        ∙ ap (λ (n : ℕ). gives (sets (set cells (index_of width line field) cell) n rest)) next
      where
        h : Spelt (field_start line field height width cells) cell (10 ∷ rows_text width 1 rest)
        h = here (10 ∷ rows_text width 1 rest)

        row_more : line + 1 - 2 ≡ suc (line - 2)
        row_more = omega arith

        next : index_of width (line + 1) 1 ≡ suc (index_of width line field)
        next = omega (arith, e, ap (λ (n : ℕ). n * width) row_more)

    other_read : (field ≡ width → ⊥) → field ≤ width → read_from (field_start line field height width cells) (cell_text cell ++ 44 ∷ rows_text width (field + 1) rest) ≡ gives (sets (set cells (index_of width line field) cell) (suc (index_of width line field)) rest)
    unfolding in_field field_start
    other_read n last =
        h.same ∙ row_goes_on line field height width cells from left h.part (rows_text width (field + 1) rest) h.sound n
        ∙ ap (λ (c : ℤ). read_from (field_start line (field + 1) height width (set cells (index_of width line field) c)) (rows_text width (field + 1) rest)) h.stands
        ∙ again (set cells (index_of width line field) cell) line (field + 1) from (omega arith) (omega arith) (omega (arith, n)) (omega (arith, count)) all_in_range
        ∙ ap (λ (n : ℕ). gives (sets (set cells (index_of width line field) cell) n rest)) next
      where
        h : Spelt (field_start line field height width cells) cell (44 ∷ rows_text width (field + 1) rest)
        h = here (44 ∷ rows_text width (field + 1) rest)

        next : index_of width line (field + 1) ≡ suc (index_of width line field)
        next = omega arith

  rows_read : (rest : List ℤ) → RowsRead rest
  unfolding rows_text line_end comma bytes is_complete in_header accepted field_start
  rows_read [] cells line field from upto first last count range = end_complete (field_start line field height width cells) (simp (ne_eqb line 1 (λ (e : line ≡ 1). omega arith), eq-eqb line (height + 2) (rows_ended line field from upto first last (omega (arith, count)))))
  rows_read (cell ∷ rest) cells line field from upto first last count range = go (eqb field width) refl (rows_read rest)
    where
      left : line < height + 2
      left = row_left line field (omega (arith, count))

      go : (t : Bool) → eqb field width ≡ t → RowsRead rest → read_from (field_start line field height width cells) (rows_text width field (cell ∷ rest)) ≡ gives (sets cells (index_of width line field) (cell ∷ rest))
      go true t again = rw (t, rows_text) (last_read cell rest cells line field from left first again count (range 0 (omega arith)) (λ v below. range (suc v) (omega arith)) (eqb-true field width t))
      go false t again = rw (t, rows_text) (other_read cell rest cells line field from left first again count (range 0 (omega arith)) (λ v below. range (suc v) (omega arith)) (eqb-false field width t) last)

-- ## The whole text

module _ (height width : ℕ) (cells : List ℤ) where
  pub text_parts : grid_text height width cells ≡ decimal height ++ 44 ∷ (decimal width ++ 10 ∷ rows_text width 1 cells)
  unfolding grid_text comma line_end bytes
  text_parts = simp append_assoc

  module _ (a : Accepted height width cells) where
    few_cells : 0 + length cells ≤ length no_cells
    unfolding no_cells
    few_cells = let all : height * width ≤ 16 * 16 = mul-le-mul a.height_in_range.1 a.width_in_range.1 in omega (arith, a.one_cell_a_pad, length-replicate 256 blank)

    blank_past : sets no_cells 0 cells ≡ cells ++ replicate (256 - length cells) blank
    unfolding no_cells
    blank_past = sets-eq cells no_cells 0 few_cells ∙ ap (λ (n : ℕ). cells ++ drop n no_cells) (zero-add (length cells)) ∙ ap (λ (l : List ℤ). cells ++ l) (drop_replicate blank (length cells) 256)

    -- for every accepted grid: reading its text gives the grid
    pub text_is_read : read (grid_text height width cells) ≡ grid_reading height width cells
    unfolding read start in_field field_start
    text_is_read =
        ap read text_parts
        ∙ code_read (field_start 1 1 0 0 no_cells) (header_open 1 0) height (44 ∷ (decimal width ++ 10 ∷ rows_text width 1 cells)) (omega (arith, a.height_in_range.1))
        ∙ header_goes_on (length (decimal height)) height (decimal width ++ 10 ∷ rows_text width 1 cells) (omega (arith, a.height_in_range.1))
        ∙ code_read (field_start 1 2 height 0 no_cells) (header_open 2 height) width (10 ∷ rows_text width 1 cells) (omega (arith, a.width_in_range.1))
        ∙ header_ends (length (decimal width)) width (rows_text width 1 cells) (omega (arith, a.width_in_range.1)) height (test_of_size height a.height_in_range) (test_of_size width a.width_in_range)
        ∙ rows_read height width cells no_cells 2 1 (omega arith) (omega arith) (omega arith) (omega (arith, a.width_in_range.0)) (omega (arith, a.one_cell_a_pad)) (λ v below. a.cells_in_range v (omega (arith, a.one_cell_a_pad)))
        ∙ ap (λ (n : ℕ). gives height width (sets no_cells n cells)) from_the_first
        ∙ ap (gives height width) blank_past
      where
        from_the_first : index_of width 2 1 ≡ 0
        from_the_first = omega arith

-- ## How long it is

cell_short : (cell : ℤ) → CellInRange cell → length (cell_text cell) ≤ 10
unfolding cell_text hole_sign bytes
cell_short cell (inl e) = rw e (omega arith)
cell_short cell (inr (inl e)) = rw e (omega arith)
cell_short cell (inr (inr (code, e, below))) = rw e (decimal_length 9 code (omega arith))

-- ten digits and the byte after them for each pad
rows_short : (width field : ℕ) (cells : List ℤ) → ((v : ℕ) → v < length cells → CellInRange (get_or cells v blank_cell)) → length (rows_text width field cells) ≤ length cells * 11
unfolding rows_text line_end comma bytes
rows_short width field [] range = omega arith
rows_short width field (cell ∷ cells) range = go (eqb field width) refl (rows_short width 1 cells (λ v below. range (suc v) (omega arith))) (rows_short width (field + 1) cells (λ v below. range (suc v) (omega arith)))
  where
    go : (t : Bool) → eqb field width ≡ t → length (rows_text width 1 cells) ≤ length cells * 11 → length (rows_text width (field + 1) cells) ≤ length cells * 11 → length (rows_text width field (cell ∷ cells)) ≤ suc (length cells) * 11
    go true t last other = rw (t, rows_text, length-append) (omega (arith, cell_short cell (range 0 (omega arith))))
    go false t last other = rw (t, rows_text, length-append) (omega (arith, cell_short cell (range 0 (omega arith))))

-- no text is longer than that of 16 rows of 16 pads with ten digits each
pub longest_text : (height width : ℕ) (cells : List ℤ) → Accepted height width cells → length (grid_text height width cells) ≤ 2822
longest_text height width cells a = rw (text_parts height width cells, length-append) (rw length-append (omega (arith, all, a.one_cell_a_pad, rows_short width 1 cells (λ v below. a.cells_in_range v (omega (arith, a.one_cell_a_pad))), decimal_length 1 height (omega (arith, a.height_in_range.1)), decimal_length 1 width (omega (arith, a.width_in_range.1)))))
  where
    all : height * width ≤ 16 * 16
    all = mul-le-mul a.height_in_range.1 a.width_in_range.1
