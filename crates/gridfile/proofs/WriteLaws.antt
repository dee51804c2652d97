-- Laws of writing: the field of a pad as the machine tests it, what the loop over the pads keeps, and the text of the whole grid.
-- Assumes nothing.
use mathlib.Core.Path.{◌≡◌, refl, sym, ap, ◌∙◌}
use mathlib.Core.Bool.{Bool, true, false, true≢false}
use mathlib.Core.List.{List, [], ◌∷◌, ◌++◌, append_assoc, append-nil}
use Prim.Native.Nat.{ℕ, zero, suc, ◌+◌, ◌≤◌, ◌<◌}
use native.Mathlib.Numerals.{add-one}
use native.Mathlib.Omega.{arith}
use lib.ListN.{length, get_or, drop, length-append, drop_of_length-le}
use lib.Seq.{drop-cons}
use lib.IntN.{ℤ, pos, negsuc, nat_abs}
use lib.Signed.{lt_z}
use lib.Dec.{eqb}
use mir.Syntax.{w64}
use mir.Val.{SFits, to_z, of_z}
use mir.ValLaws.{to_z-of_z}
use borrow.Author.Tests.{ltb-true, eqb-true, eqb-false, ne_eqb, eq-eqb}
use Rattle.rules.specs.Grid.{Accepted}
use Rattle.model.specs.Refusals.{grid_refusal}
use Rattle.model.specs.Text.{bytes, comma, line_end, hole_sign}
use Rattle.model.specs.Decimal.{decimal}
use Rattle.model.specs.Writing.{cell_text, rows_text, grid_text, turned_away, written, write}
use Rattle.grid.specs.declared.Refusal.{Refusal}
use Rattle.grid.specs.Answers.{number_of, index_of, some_number}
use Rattle.gridfile.specs.declared.Unwritten.TheVariants.{BadGrid, NoRoom}
use Rattle.gridfile.specs.Answers.{writing_says}
use Rattle.std.specs.Prelude.{Ok, Err}
use Rattle.reading.specs.ReadBack.{longest_text}
use Rattle.reading.proofs.WriteRead.{refused_grid, no_room, has_room}

-- ## The field of a pad

module _ (z : ℤ) (f : SFits w64 z) where
  pub back : to_z w64 (of_z w64 z) ≡ z
  back = to_z-of_z w64 z f

  pub a_blank : of_z w64 z ≡ of_z w64 (negsuc 0) → cell_text z ≡ []
  unfolding cell_text
  a_blank e = ap cell_text (sym back ∙ ap (to_z w64) e)

  pub a_hole : (of_z w64 z ≡ of_z w64 (negsuc 0) → ⊥) → lt_z (to_z w64 (of_z w64 z)) (pos 0) ≡ true → cell_text z ≡ 35 ∷ []
  unfolding cell_text hole_sign bytes
  a_hole n h = go z n (rw back at h)
    where
      go : (z : ℤ) → (of_z w64 z ≡ of_z w64 (negsuc 0) → ⊥) → lt_z z (pos 0) ≡ true → cell_text z ≡ 35 ∷ []
      go (pos code) n h = absurd (omega (arith, ltb-true code 0 h))
      go (negsuc zero) n h = absurd (n refl)
      go (negsuc (suc below)) n h = refl

  pub its_digits : lt_z (to_z w64 (of_z w64 z)) (pos 0) ≡ false → decimal (nat_abs (to_z w64 (of_z w64 z))) ≡ cell_text z
  unfolding cell_text
  its_digits h = rw back (go z (rw back at h))
    where
      go : (z : ℤ) → lt_z z (pos 0) ≡ false → decimal (nat_abs z) ≡ cell_text z
      go (pos n) h = refl
      go (negsuc n) h = absurd (true≢false h)

-- ## The loop over the pads

-- the pads below the index have been put behind a first text; what was put and the text of the pads that are left make the text of all
pub record RowsPut (first text : List ℕ) (width : ℕ) (cells : List ℤ) (field index : ℕ) : Type 0 where
  pub so_far : List ℕ
  pub put : text ≡ first ++ so_far
  pub whole : so_far ++ rows_text width field (drop index cells) ≡ rows_text width 1 cells
  pub field_from_1 : 1 ≤ field
  pub field_within : field ≤ width
  pub within : index ≤ length cells

pub rows_begin : (first : List ℕ) (width : ℕ) (cells : List ℤ) → 1 ≤ width → RowsPut first first width cells 1 0
rows_begin first width cells w = record { so_far = []; put = sym (append-nil first); whole = refl; field_from_1 = omega arith; field_within = w; within = omega arith }

pub rows_done : {first text : List ℕ} {width : ℕ} {cells : List ℤ} {field index : ℕ} → RowsPut first text width cells field index → length cells ≤ index → text ≡ first ++ rows_text width 1 cells
unfolding rows_text
rows_done {first} {cells = cells} {index = index} p h = p.put ∙ ap (λ (l : List ℕ). first ++ l) (sym (append-nil p.so_far) ∙ (rw (drop_of_length-le cells h) at p.whole))

-- the text from a pad on: its field, the byte after it, and the pads after it
module _ (width field : ℕ) (cells : List ℤ) (index : ℕ) (below : index < length cells) (cell : ℤ) (there : cell ≡ get_or cells index (pos 0)) where
  last_of_row : field ≡ width → rows_text width field (drop index cells) ≡ cell_text cell ++ 10 ∷ rows_text width 1 (drop (index + 1) cells)
  unfolding rows_text line_end bytes
  last_of_row e = rw (there, drop-cons cells index (pos 0) below, eq-eqb field width e, add-one index) refl

  not_last : (field ≡ width → ⊥) → rows_text width field (drop index cells) ≡ cell_text cell ++ 44 ∷ rows_text width (field + 1) (drop (index + 1) cells)
  unfolding rows_text comma bytes
  not_last n = rw (there, drop-cons cells index (pos 0) below, ne_eqb field width n, add-one index) refl

  some_text : length (cell_text cell) + 1 ≤ length (rows_text width field (drop index cells))
  some_text = go (eqb field width) refl
    where
      go : (t : Bool) → eqb field width ≡ t → length (cell_text cell) + 1 ≤ length (rows_text width field (drop index cells))
      go true t = rw (last_of_row (eqb-true field width t), length-append) (omega arith)
      go false t = rw (not_last (eqb-false field width t), length-append) (omega arith)

module _ {first text : List ℕ} {width : ℕ} {cells : List ℤ} {field index : ℕ} (p : RowsPut first text width cells field index) (below : index < length cells) {cell : ℤ} (there : cell ≡ get_or cells index (pos 0)) where
  -- room for the field and the byte after it
  pub pad_room : {room : ℕ} → length first + length (rows_text width 1 cells) ≤ room → length text + length (cell_text cell) + 1 ≤ room
  pad_room room = omega (
    arith,
    ap (λ (l : List ℕ). length l) p.put,
    length-append first p.so_far,
    some_text width field cells index below cell there,
    sym (length-append p.so_far (rows_text width field (drop index cells))) ∙ ap (λ (l : List ℕ). length l) p.whole,
  )

  module _ {middle last : List ℕ} (q : middle ≡ text ++ cell_text cell) where
    pad_put : (byte after : ℕ) → rows_text width field (drop index cells) ≡ cell_text cell ++ byte ∷ rows_text width after (drop (index + 1) cells) → 1 ≤ after → after ≤ width → last ≡ middle ++ (byte ∷ []) → RowsPut first last width cells after (index + 1)
    pad_put byte after e from upto r =
        record {
          so_far = p.so_far ++ (cell_text cell ++ (byte ∷ []));
          put = rw (r, q, p.put) (simp append_assoc);
          whole = simp append_assoc (ap (λ (l : List ℕ). p.so_far ++ l) (sym e) ∙ p.whole);
          field_from_1 = from;
          field_within = upto;
          within = omega arith;
        }

    -- the pad was the last of its row, or another follows
    pub row_ended : field ≡ width → last ≡ middle ++ (10 ∷ []) → RowsPut first last width cells 1 (index + 1)
    row_ended e r = pad_put 10 1 (last_of_row width field cells index below cell there e) (omega arith) (omega (arith, p.field_from_1)) r

    pub row_goes_on : (field ≡ width → ⊥) → last ≡ middle ++ (44 ∷ []) → RowsPut first last width cells (field + 1) (index + 1)
    row_goes_on n r = pad_put 44 (field + 1) (not_last width field cells index below cell there n) (omega arith) (omega (arith, n, p.field_within)) r

-- ## The whole grid

module _ (height width : ℕ) (cells : List ℤ) where
  -- the header's two fields, each with the byte after it, and the rows
  pub grid_parts : (decimal height ++ (44 ∷ [])) ++ (decimal width ++ (10 ∷ [])) ++ rows_text width 1 cells ≡ grid_text height width cells
  unfolding grid_text comma line_end bytes
  grid_parts = simp append_assoc

  pub parts_fit : Accepted height width cells → length (rows_text width 1 cells) + (length (decimal height) + 1) + (length (decimal width) + 1) ≤ 2822
  parts_fit a = omega (arith, longest_text height width cells a, parts)
    where
      parts : length (decimal height) + 1 + (length (decimal width) + 1) + length (rows_text width 1 cells) ≡ length (grid_text height width cells)
      parts = rw (← grid_parts) (simp length-append)

-- the length of an empty text, and of one with a pad's field behind it
pub none_yet : {text : List ℕ} → text ≡ [] → length text ≡ 0
none_yet e = rw e refl

pub cell_longer : (text : List ℕ) (cell : ℤ) {longer : List ℕ} → longer ≡ text ++ cell_text cell → length longer ≡ length text + length (cell_text cell)
cell_longer text cell e = rw (e, length-append) refl

-- a text with a field behind it
pub field_longer : (text : List ℕ) {longer : List ℕ} (number byte : ℕ) → longer ≡ text ++ (decimal number ++ (byte ∷ [])) → length longer ≡ length text + (length (decimal number) + 1)
field_longer text number byte e = rw (e, length-append, length-append) refl

-- ## What is answered

pub refused : (height width : ℕ) (cells : List ℤ) (refusal : Refusal) → (number_of refusal, index_of refusal) ≡ grid_refusal height width cells → (buffer : List ℕ) → writing_says (Err (BadGrid refusal)) buffer ≡ write height width cells buffer
unfolding turned_away
refused height width cells refusal told buffer = sym (refused_grid height width cells buffer (rw (← told) (ne_eqb _ _ (some_number refusal))) ∙ rw (← told) refl)

module _ (height width : ℕ) (cells : List ℤ) (a : Accepted height width cells) where
  module _ {text : List ℕ} (is : text ≡ grid_text height width cells) (buffer : List ℕ) where
    pub too_short : length buffer < length text → writing_says (Err NoRoom) buffer ≡ write height width cells buffer
    unfolding turned_away
    too_short h = sym (no_room height width cells buffer a (rw is at h))

    pub copied : {after : List ℕ} → length text ≤ length buffer → after ≡ text ++ drop (length text) buffer → writing_says (Ok (length text)) after ≡ write height width cells buffer
    unfolding written
    copied room e = rw (e, is) (sym (has_room height width cells buffer a (rw is at room)))

-- what the proofs of the writing functions are found by
pub ruleset write_laws = (append-nil, a_blank, a_hole, its_digits, back, rows_begin, rows_done, pad_room, row_ended, row_goes_on, grid_parts, parts_fit, none_yet, cell_longer, field_longer, refused, too_short, copied)
