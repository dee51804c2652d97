-- What `routes` prints can be judged again: the codes that it prints for the record of a drawing are codes of the right length that fit, and
-- their record is the same record; so each layout that it prints is judged 2, with its lines. It rests on the rules' RecordLaws.antt, on the
-- definitions of what `routes` prints and of what the judge makes of codes, and on what the judge says (crate `promises`).
use Rattle.std.specs.Prelude.{if◌then◌else◌}
use Prim.Native.Nat.{ℕ, zero, suc, ◌+◌, ◌*◌, ◌%◌, ◌/◌, ◌≤◌, ◌<◌}
use Rattle.std.specs.Prelude.{◌≡◌, Bool, ◌&&◌, ◌||◌, eqb, ltb, leb, take, ℤ}
use Rattle.std.proofs.Math.Path.{refl, sym, ap}
use Rattle.std.proofs.Common.{◌∙◌, div-lt_iff_lt-mul}
use Rattle.std.proofs.Math.Bool.{true, false, not}
use mathlib.Core.List.Memᴰ
use mathlib.Core.List.{List, ◌∷◌, Memᴰ}
use native.Mathlib.Omega.{arith}
use Rattle.std.proofs.Math.Decide.{dec_lt}
use Rattle.std.proofs.Math.Nat.{add-div_right}
use borrow.Author.Tests.{lt-ltb, le-ltb, le-leb, eq-eqb}
use Rattle.std.proofs.Math.ListN.{get_or, length}
use Rattle.rules.specs.Grid.{Edge, right, down, Grid, grid_of, pads, places, OnBoard, Accepted}
use Rattle.rules.specs.Drawing.{Drawing, drawn, num, Placed}
use Rattle.rules.specs.Record.{undecided_byte, line_byte, byte_of, tabulate, place_number, drawing_of, record_of, pad_code, record_lines, ListedRecord}
use Rattle.rules.proofs.LineCount.{record_lines_of}
use Rattle.rules.specs.RecordLaws.{length_tabulate, get_or_from_zero}
use Rattle.rules.proofs.RecordLaws.{field_same, off_line, record_shows}
use Rattle.rules.specs.Places.{first_inside}
use Rattle.rules.specs.Tests.{both_on, all_below_so, num_small}
use Rattle.model.specs.Decimal.{digit_byte}
use Rattle.model.specs.GridFile.{read}
use Rattle.model.specs.Printed.{line_at, right_line, down_line, code_of_pad, code_digits_from, code_digits, reading_text}
use Rattle.model.specs.Judge.{judge}
use Rattle.model.specs.JudgeText.{zero_digit, digit_at, code_at, coded, digit_fits, codes_fit, record_of_codes, judged_line, judged_text, judge_text}
use Rattle.model.specs.Runs.{scan}
use Rattle.model.specs.Search.{search}
use Rattle.model.specs.Routes.{found_within}
use Rattle.reading.specs.ReadingLaws.{read_sound}
use Rattle.promises.specs.Promises.{Promised, promised}
use Rattle.promises.specs.Verdicts.{judge_says}

-- ## The codes that are printed, by their indexes

module _ (height width : ℕ) (layout : List ℕ) where
  abbrev digit_of_pad : ℕ → ℕ
  digit_of_pad v = digit_byte (code_of_pad height width layout (v / width) (v % width))

  listed_digits : (more index : ℕ) → code_digits_from height width layout more index ≡ tabulate digit_of_pad index more
  unfolding code_digits_from tabulate
  listed_digits zero index = refl
  listed_digits (suc more) index = ap (λ (l : List ℕ). digit_of_pad index ∷ l) (listed_digits more (index + 1))

  pub one_digit_a_pad : length (code_digits height width layout) ≡ height * width
  unfolding code_digits
  one_digit_a_pad = ap (λ (l : List ℕ). length l) (listed_digits (height * width) 0) ∙ length_tabulate digit_of_pad 0 (height * width)

  pub digit_of : (v : ℕ) → v < height * width → digit_at (code_digits height width layout) v ≡ zero_digit + code_of_pad height width layout (v / width) (v % width)
  unfolding code_digits digit_byte
  digit_of v below = ap (λ (l : List ℕ). get_or l v zero_digit) (listed_digits (height * width) 0) ∙ get_or_from_zero digit_of_pad (height * width) v zero_digit below

-- ## The codes of a drawing's record are the codes of the drawing

-- a choice between 1 and 0 is the number of the test
test_number : (a b : Bool) → (if a then (if b then 1 else 0) else 0) ≡ num (a && b)
test_number true true = refl
test_number true false = refl
test_number false b = refl

module _ (g : Grid) (wide : 2 ≤ g.width) (D : Drawing) (placed : Placed g D) where
  abbrev bytes : List ℕ
  bytes = record_of g D

  rights : (v : ℕ) → right_line g.width bytes (v / g.width) (v % g.width) ≡ num (D.right v)
  unfolding right_line line_at drawing_of
  rights v =
      test_number (ltb (v % g.width + 1) g.width) (eqb (get_or bytes (place_number g.width (right v)) undecided_byte) line_byte)
      ∙ ap num (record_shows g wide D placed (right v))

  downs : (v : ℕ) → down_line g.height g.width bytes (v / g.width) (v % g.width) ≡ num (D.down v)
  unfolding down_line line_at drawing_of OnBoard
  downs v = elim (dec_lt (v / g.width + 1) g.height) [
    | yes inside ↦
        rw (lt-ltb (v / g.width + 1) g.height inside)
        (test_number true (eqb (get_or bytes (place_number g.width (down v)) undecided_byte) line_byte) ∙ ap num (record_shows g wide D placed (down v)))
    | no last ↦
        rw (le-ltb (v / g.width + 1) g.height (omega arith))
        (ap num (sym (off_line g wide D placed (down v) (λ on. last (let next : (v + g.width) / g.width < g.height = (div-lt_iff_lt-mul some).1 on in omega (arith, add-div_right v some))))))
  ]
    where
      some : 0 < g.width
      some = omega arith

  printed_code : (v : ℕ) → code_of_pad g.height g.width bytes (v / g.width) (v % g.width) ≡ pad_code D v
  unfolding code_of_pad
  printed_code v = omega (arith, rights v, downs v)

  abbrev digits : List ℕ
  digits = code_digits g.height g.width bytes

  digit_here : (v : ℕ) → v < pads g → digit_at digits v ≡ zero_digit + pad_code D v
  digit_here v below = digit_of g.height g.width bytes v below ∙ ap (λ (n : ℕ). zero_digit + n) (printed_code v)

  code_here : (v : ℕ) → v < pads g → code_at digits v ≡ pad_code D v
  code_here v below = omega (arith, digit_here v below)

  -- ## The lines that the codes tell of are the drawing's
  told_right : (v : ℕ) → v < pads g → coded digits (right v) ≡ D.right v
  told_right v below = ap (λ (n : ℕ). eqb (n % 2) 1) (code_here v below) ∙ go (D.right v) (D.down v)
    where
      go : (r d : Bool) → eqb ((num r + 2 * num d) % 2) 1 ≡ r
      go true true = refl
      go true false = refl
      go false true = refl
      go false false = refl

  told_down : (v : ℕ) → v < pads g → coded digits (down v) ≡ D.down v
  told_down v below = ap (leb 2) (code_here v below) ∙ go (D.right v) (D.down v)
    where
      go : (r d : Bool) → leb 2 (num r + 2 * num d) ≡ d
      go true true = refl
      go true false = refl
      go false true = refl
      go false false = refl

  told : (e : Edge) → OnBoard g e → coded digits e ≡ drawn D e
  told (right v) on = told_right v (first_inside g (right v) on)
  told (down v) on = told_down v (first_inside g (down v) on)

  -- each digit fits
  fits : (v : ℕ) → v < pads g → digit_fits g.height g.width digits v ≡ true
  unfolding digit_fits OnBoard
  fits v below =
      let low : zero_digit ≤ digit_at digits v = omega (arith, digit_here v below) in
      let high : digit_at digits v ≤ zero_digit + 3 = omega (arith, digit_here v below, num_small (D.right v), num_small (D.down v)) in
      rw (le-leb zero_digit (digit_at digits v) low, le-leb (digit_at digits v) (zero_digit + 3) high, told_right v below, told_down v below)
      (both_on (unless (D.right v) _ (λ line. lt-ltb _ _ (placed (right v) line).1)) (unless (D.down v) _ (λ line. lt-ltb _ _ (placed (down v) line))))
    where
      unless : (line inside : Bool) → (line ≡ true → inside ≡ true) → not line || inside ≡ true
      unless true inside so = so refl
      unless false inside so = refl

  same_record : record_of_codes g.height g.width digits ≡ bytes
  unfolding record_of_codes codes_fit record_of
  same_record =
      rw (eq-eqb _ _ (one_digit_a_pad g.height g.width bytes), all_below_so (digit_fits g.height g.width digits) (pads g) fits)
      (field_same g wide (λ e. byte_of (coded digits e)) (λ e. byte_of (drawn D e)) (λ e on. ap byte_of (told e on)))

-- WHAT IS PRINTED CAN BE JUDGED AGAIN: for the record of a drawing, the record of the codes that `routes` prints for it is the same record
pub judged_again : (g : Grid) → 2 ≤ g.width → (D : Drawing) → Placed g D → (bytes : List ℕ) → bytes ≡ record_of g D
    → record_of_codes g.height g.width (code_digits g.height g.width bytes) ≡ bytes
judged_again g wide D placed bytes shown = rw shown (same_record g wide D placed)

-- so `judge` says of the codes that are printed what the judge says of the record
module _ (file : List ℕ) (accepted : (read file).number ≡ 0) where
  abbrev height : ℕ
  height = (read file).height

  abbrev width : ℕ
  width = (read file).width

  abbrev cells : List ℤ
  cells = take (height * width) (read file).cells

  pub line_judged_again : (D : Drawing) → Placed (grid_of height width cells) D → (bytes : List ℕ) → bytes ≡ record_of (grid_of height width cells) D
      → judged_text (code_digits height width bytes) (read file) ≡ judged_line (judge height width cells bytes)
  unfolding judged_text reading_text grid_of
  line_judged_again D placed bytes shown =
      rw (accepted, judged_again (grid_of height width cells) ((read_sound file).in_range accepted).width_in_range.0 D placed bytes shown) refl

-- EACH LAYOUT THAT `routes` PRINTS for a file, or `routes_to` with any limit, is judged 2, with its lines
module _ (limit room : ℕ) (input : List ℕ) (accepted : (read (take 4096 input)).number ≡ 0) where
  abbrev file_height : ℕ
  file_height = height (take 4096 input) accepted

  abbrev file_width : ℕ
  file_width = width (take 4096 input) accepted

  abbrev file_cells : List ℤ
  file_cells = cells (take 4096 input) accepted

  abbrev file_grid : Grid
  file_grid = grid_of file_height file_width file_cells

  sound : Accepted file_height file_width file_cells
  sound = (read_sound (take 4096 input)).in_range accepted

  its_promise : Promised file_grid (search file_grid) limit room (scan limit (places file_height file_width) 0 room (search file_grid))
  its_promise = promised file_height file_width file_cells sound limit room

  -- what is printed is listed
  is_listed : (bytes : List ℕ) → Memᴰ bytes (found_within limit room file_height file_width file_cells).records → ListedRecord file_grid bytes
  unfolding found_within
  is_listed bytes m = its_promise.exactly_the_listed.nothing_added bytes (rw its_promise.beginning.parted (Memᴰ.append_left _ m))

  pub printed_is_judged_2 : (bytes : List ℕ) → Memᴰ bytes (found_within limit room file_height file_width file_cells).records
      → judge_text (code_digits file_height file_width bytes) input ≡ judged_line (record { number = 0; index = 0; verdict = 2; lines = record_lines bytes })
  unfolding judge_text grid_of
  printed_is_judged_2 bytes m =
      let l = is_listed bytes m in
      let ordinary = l.listed.ordinary in
      let says = judge_says file_height file_width file_cells sound bytes in
      let lines : (judge file_height file_width file_cells bytes).lines ≡ record_lines bytes =
      says.its_lines l.drawing ordinary l.shown
      ∙ sym (ap record_lines l.shown ∙ record_lines_of file_grid sound.height_in_range.0 sound.width_in_range.0 l.drawing ordinary.placed) in
      line_judged_again (take 4096 input) accepted l.drawing ordinary.placed bytes l.shown
      ∙ ap judged_line (λ i. record { number = says.accepted.0 i; index = says.accepted.1 i; verdict = says.listed.1 l i; lines = lines i })
