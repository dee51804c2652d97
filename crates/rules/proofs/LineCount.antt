-- The lines of a record are the lines of its drawing, and a board of at most 16 by 16 pads has at most 480 of them, so that 481 can stand
-- for 'no layout'. Both are counted row by row. The file rests on RecordLaws.antt and Sums.antt.
use Prim.Native.Nat.{ℕ, zero, suc, ◌+◌, ◌*◌, ◌-◌, ◌%◌, ◌/◌, ◌≤◌, ◌<◌}
use Rattle.std.specs.Prelude.{◌≡◌, Bool, eqb}
use Rattle.std.proofs.Math.Path.{refl, ap}
use Rattle.std.proofs.Common.{◌∙◌, mod-eq_of_lt, mul-le-mul_right, suc-mul, add-zero}
use native.Mathlib.Omega.{arith}
use Rattle.std.proofs.Math.Nat.{div-eq_of_lt, mul-add-div_right, mul-add-mod_self_right}
use Rattle.rules.specs.Grid.{right, down, place_at, places, field_side, Grid, pads, OnBoard}
use Rattle.rules.specs.Drawing.{Drawing, drawn, num, Placed, count, number_of_lines}
use Rattle.rules.specs.Record.{line_byte, byte_of, tabulate, byte_at_place, field, record_of, record_lines}
use Rattle.rules.specs.Tests.{num_small}
use Rattle.rules.proofs.Places.{place_right, place_down, place_of_pad, place_in_the_middle, column_of_pad}
use Rattle.rules.proofs.RecordLaws.{off_line, is_line_byte}
use Rattle.rules.specs.Sums.{sum, sum_same, sum_last, sum_shift, sum_add, sum_bound, sum_rows, sum_pairs}

count_sum : (f : ℕ → Bool) (n : ℕ) → count f n ≡ sum (λ v. num (f v)) 0 n
unfolding count
count_sum f zero = unfold sum in refl
count_sum f (suc n) = rw (count_sum f n, sum_last (λ v. num (f v)) n) refl

lines_sum : (bytes : ℕ → ℕ) (start n : ℕ) → record_lines (tabulate bytes start n) ≡ sum (λ i. num (eqb (bytes i) line_byte)) start n
unfolding record_lines tabulate sum
lines_sum bytes start zero = refl
lines_sum bytes start (suc n) = rw (lines_sum bytes (start + 1) n) refl

module _ (g : Grid) (tall : 2 ≤ g.height) (wide : 2 ≤ g.width) (D : Drawing) (placed : Placed g D) where
  -- 1 where a place of the field holds a line, else 0
  abbrev at_place : ℕ → ℕ → ℕ
  at_place row column = num (eqb (byte_at_place (λ e. byte_of (drawn D e)) (place_at g.width row column)) line_byte)

  -- the lines to the right, and downward, from the pads of a row
  abbrev rights : ℕ → ℕ
  rights y = sum (λ x. num (D.right (y * g.width + x))) 0 (g.width - 1)

  abbrev downs : ℕ → ℕ
  downs y = sum (λ x. num (D.down (y * g.width + x))) 0 g.width

  at_right : (y x : ℕ) → at_place (2 * y) (2 * x + 1) ≡ num (D.right (y * g.width + x))
  at_right y x = rw (place_right g.width y x, is_line_byte g wide (D.right (y * g.width + x))) refl

  at_down : (y x : ℕ) → at_place (2 * y + 1) (2 * x) ≡ num (D.down (y * g.width + x))
  at_down y x = rw (place_down g.width y x, is_line_byte g wide (D.down (y * g.width + x))) refl

  -- at a pad, and in the middle of four pads: no line
  at_pad : (y x : ℕ) → at_place (2 * y) (2 * x) ≡ 0
  at_pad y x = rw (place_of_pad g.width y x) refl

  at_middle : (y x : ℕ) → at_place (2 * y + 1) (2 * x + 1) ≡ 0
  at_middle y x = rw (place_in_the_middle g.width y x) refl

  -- THE ROWS OF THE FIELD
  odd_length : (n : ℕ) → 2 ≤ n → field_side n ≡ suc (2 * (n - 1))
  odd_length n h = omega arith

  even_row : (y : ℕ) → sum (at_place (2 * y)) 0 (field_side g.width) ≡ rights y
  even_row y =
      rw (odd_length g.width wide, sum_last (at_place (2 * y)) (2 * (g.width - 1)), at_pad y (g.width - 1), sum_pairs (at_place (2 * y)) (g.width - 1))
      (add-zero _ ∙ sum_same _ _ 0 (g.width - 1) (λ x low high. rw (at_pad y x, at_right y x) (omega arith)))

  odd_row : (y : ℕ) → sum (at_place (2 * y + 1)) 0 (field_side g.width) ≡ downs y
  odd_row y =
      let whole : g.width ≡ suc (g.width - 1) = omega arith in
      let last : sum (λ x. num (D.down (y * g.width + x))) 0 g.width ≡ sum (λ x. num (D.down (y * g.width + x))) 0 (g.width - 1) + num (D.down (y * g.width + (g.width - 1))) =
      ap (sum (λ x. num (D.down (y * g.width + x))) 0) whole ∙ sum_last (λ x. num (D.down (y * g.width + x))) (g.width - 1) in
      rw (last, odd_length g.width wide, sum_last (at_place (2 * y + 1)) (2 * (g.width - 1)), at_down y (g.width - 1), sum_pairs (at_place (2 * y + 1)) (g.width - 1))
      (ap (λ n. n + num (D.down (y * g.width + (g.width - 1)))) (sum_same _ _ 0 (g.width - 1) (λ x low high. rw (at_down y x, at_middle y x) (omega arith))))

  -- a row of the record
  field_row : (row : ℕ)
      → sum (λ i. num (eqb (byte_at_place (λ e. byte_of (drawn D e)) (place_at g.width (i / field_side g.width) (i % field_side g.width))) line_byte)) (row * field_side g.width) (field_side g.width)
      ≡ sum (at_place row) 0 (field_side g.width)
  field_row row = sum_shift _ (row * field_side g.width) (field_side g.width)
      ∙ sum_same _ (at_place row) 0 (field_side g.width) (λ column low high. same column (omega arith))
    where
      same : (column : ℕ) → column < field_side g.width
          → num (eqb (byte_at_place (λ e. byte_of (drawn D e)) (place_at g.width ((row * field_side g.width + column) / field_side g.width) ((row * field_side g.width + column) % field_side g.width))) line_byte)
          ≡ at_place row column
      same column inside =
          let its_row : (row * field_side g.width + column) / field_side g.width ≡ row =
          mul-add-div_right (omega arith) row column ∙ (let none : column / field_side g.width ≡ 0 = div-eq_of_lt inside in omega arith) in
          let its_column : (row * field_side g.width + column) % field_side g.width ≡ column =
          mul-add-mod_self_right row (field_side g.width) column ∙ mod-eq_of_lt inside in
          rw (its_row, its_column) refl

  -- the record: the rights of every row, and the downs of every row but the last
  record_rows : record_lines (record_of g D) ≡ sum (λ y. rights y + downs y) 0 (g.height - 1) + rights (g.height - 1)
  unfolding record_of field
  record_rows =
      lines_sum _ 0 (places g.height g.width)
      ∙ sum_rows _ (field_side g.width) (field_side g.height)
      ∙ sum_same _ (λ row. sum (at_place row) 0 (field_side g.width)) 0 (field_side g.height) (λ row low high. field_row row)
      ∙ ap (sum (λ row. sum (at_place row) 0 (field_side g.width)) 0) (odd_length g.height tall)
      ∙ sum_last (λ row. sum (at_place row) 0 (field_side g.width)) (2 * (g.height - 1))
      ∙ ap (λ n. n + sum (at_place (2 * (g.height - 1))) 0 (field_side g.width))
      (sum_pairs (λ row. sum (at_place row) 0 (field_side g.width)) (g.height - 1)
      ∙ sum_same _ (λ y. rights y + downs y) 0 (g.height - 1) (λ y low high. rw (even_row y, odd_row y) refl))
      ∙ ap (λ n. sum (λ y. rights y + downs y) 0 (g.height - 1) + n) (even_row (g.height - 1))

  -- THE ROWS OF THE DRAWING: nothing leads to the right of the last column, or below the last row
  height_split : pads g ≡ (g.height - 1) * g.width + g.width
  height_split = let more = suc-mul (g.height - 1) g.width in let whole : g.height ≡ suc (g.height - 1) = omega arith in ap (λ h. h * g.width) whole ∙ more

  no_right : (y : ℕ) → num (D.right (y * g.width + (g.width - 1))) ≡ 0
  unfolding OnBoard
  no_right y =
      let column = column_of_pad g wide y (g.width - 1) (omega arith) in
      ap num (off_line g wide D placed (right (y * g.width + (g.width - 1))) (λ on. absurd (let inside = rw column at on.1 in omega arith)))

  no_down : (x : ℕ) → num (D.down ((g.height - 1) * g.width + x)) ≡ 0
  unfolding OnBoard
  no_down x = ap num (off_line g wide D placed (down ((g.height - 1) * g.width + x)) (λ on. absurd (let split = height_split in omega arith)))

  row_of_rights : (y : ℕ) → sum (λ v. num (D.right v)) (y * g.width) g.width ≡ rights y
  row_of_rights y =
      let whole : g.width ≡ suc (g.width - 1) = omega arith in
      sum_shift (λ v. num (D.right v)) (y * g.width) g.width
      ∙ ap (sum (λ x. num (D.right (y * g.width + x))) 0) whole
      ∙ sum_last (λ x. num (D.right (y * g.width + x))) (g.width - 1)
      ∙ (let none = no_right y in omega arith)

  all_rights : count D.right (pads g) ≡ sum rights 0 g.height
  all_rights = count_sum D.right (pads g) ∙ sum_rows (λ v. num (D.right v)) g.width g.height
      ∙ sum_same _ rights 0 g.height (λ y low high. row_of_rights y)

  all_downs : count D.down (pads g) ≡ sum downs 0 g.height
  all_downs = count_sum D.down (pads g) ∙ sum_rows (λ v. num (D.down v)) g.width g.height
      ∙ sum_same _ downs 0 g.height (λ y low high. sum_shift (λ v. num (D.down v)) (y * g.width) g.width)

  last_downs : downs (g.height - 1) ≡ 0
  last_downs = let small = sum_bound (λ x. num (D.down ((g.height - 1) * g.width + x))) 0 0 g.width (λ x. let none = no_down x in omega arith) in
      let nothing : g.width * 0 ≡ 0 = omega arith in omega arith

  -- the rows but the last, and the last
  lines_by_rows : number_of_lines g D ≡ (sum rights 0 (g.height - 1) + rights (g.height - 1)) + sum downs 0 (g.height - 1)
  unfolding number_of_lines
  lines_by_rows =
      let whole : g.height ≡ suc (g.height - 1) = omega arith in
      let r : sum rights 0 g.height ≡ sum rights 0 (g.height - 1) + rights (g.height - 1) = ap (sum rights 0) whole ∙ sum_last rights (g.height - 1) in
      let d : sum downs 0 g.height ≡ sum downs 0 (g.height - 1) + downs (g.height - 1) = ap (sum downs 0) whole ∙ sum_last downs (g.height - 1) in
      let a = all_rights in let b = all_downs in let z = last_downs in
      omega arith

  -- THE LINES OF A RECORD are the lines of its drawing
  pub record_lines_of : record_lines (record_of g D) ≡ number_of_lines g D
  record_lines_of = let rows = record_rows in let split = sum_add rights downs 0 (g.height - 1) in let lines = lines_by_rows in omega arith

  -- and at most 480 on a board of at most 16 by 16 pads
  pub lines_bound : g.height ≤ 16 → g.width ≤ 16 → number_of_lines g D ≤ 480
  lines_bound low narrow =
      let small_rights : (y : ℕ) → rights y ≤ g.width - 1 = λ y. one_each (λ x. D.right (y * g.width + x)) (g.width - 1) in
      let small_downs : (y : ℕ) → downs y ≤ g.width = λ y. one_each (λ x. D.down (y * g.width + x)) g.width in
      let r = sum_bound rights (g.width - 1) 0 (g.height - 1) small_rights in
      let last = small_rights (g.height - 1) in
      let d = sum_bound downs g.width 0 (g.height - 1) small_downs in
      let wide_rights : (g.height - 1) * (g.width - 1) ≤ 15 * (g.width - 1) = mul-le-mul_right (g.width - 1) (omega arith) in
      let wide_downs : (g.height - 1) * g.width ≤ 15 * g.width = mul-le-mul_right g.width (omega arith) in
      let lines = lines_by_rows in
      omega arith
    where
      one_each : (f : ℕ → Bool) (n : ℕ) → sum (λ x. num (f x)) 0 n ≤ n
      one_each f n = let bound = sum_bound (λ x. num (f x)) 1 0 n (λ x. num_small (f x)) in omega arith
