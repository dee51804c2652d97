-- The lines of all rows, one after the other, are the table's digits as the model parts them into rows. What is proved of the definitions in
-- specs/Tabling.antt and specs/TableRows.antt. It rests on the model's CommonText.antt.
use Prim.Native.Nat.{ℕ, zero, suc, ◌+◌, ◌*◌, ◌≤◌, ◌<◌}
use Rattle.std.specs.Prelude.{◌≡◌, true, List, [], ◌∷◌, ◌++◌, map, length, take, drop}
use Rattle.std.proofs.Math.Path.{refl, ap}
use Rattle.std.proofs.Common.{◌∙◌, append_assoc, zero-add, zero-mul, length-append, length-drop}
use Rattle.std.proofs.Math.Nat.{mul-le-mul_right}
use native.Mathlib.Omega.{arith}
use Rattle.std.proofs.Math.Seq.{drop-drop}
use Rattle.std.proofs.lemmas.List.{take-append-le, drop-append-le}
use Rattle.rules.specs.Grid.{field_side}
use Rattle.rules.specs.RecordLaws.{plus_suc}
use Rattle.model.specs.Bounds.{is_size}
use Rattle.model.specs.Text.{line_end}
use Rattle.model.specs.CommonText.{row_lines}
use Rattle.tabling.specs.Tabling.{table_digit, row_text}
use Rattle.tabling.specs.TableRows.{HasRow, row_is_there, rows_from}

-- ## Row k

module _ (width rows k : ℕ) (table : List ℕ) where
  pub that_row : HasRow width rows k (length table) → row_text width rows k table ≡ map table_digit (take (field_side width) (drop (k * field_side width) table)) ++ line_end
  unfolding row_text
  that_row t = rw (row_is_there width rows k (length table) t) refl

-- ## All rows

-- a part of the digits is the digits of the part
take_map : (f : ℕ → ℕ) (n : ℕ) (l : List ℕ) → take n (map f l) ≡ map f (take n l)
take_map f zero l = refl
take_map f (suc n) [] = refl
take_map f (suc n) (x ∷ l) = ap (λ (r : List ℕ). f x ∷ r) (take_map f n l)

drop_map : (f : ℕ → ℕ) (n : ℕ) (l : List ℕ) → drop n (map f l) ≡ map f (drop n l)
drop_map f zero l = refl
drop_map f (suc n) [] = refl
drop_map f (suc n) (x ∷ l) = drop_map f n l

-- the rows of a table that begins with the front, whatever comes after it
module _ (width rows : ℕ) (wide : is_size width ≡ true) (front rest : List ℕ) where
  abbrev side : ℕ
  side = field_side width

  abbrev table : List ℕ
  table = front ++ rest

  module _ (k : ℕ) (below : k < rows) (inside : k * side + side ≤ length front) where
    row_here : row_text width rows k table ≡ take side (map table_digit (drop (k * side) front)) ++ line_end
    row_here = that_row width rows k table (record { wide = wide; counted = below; inside = rw length-append (omega arith) })
        ∙ rw (drop-append-le (k * side) front rest (omega arith), take-append-le side (drop (k * side) front) rest (rw length-drop (omega arith)), take_map) refl

  rows_there : (more k : ℕ) → k + more ≤ rows → (k + more) * side ≤ length front
      → rows_from width rows table more k ≡ row_lines side more (map table_digit (drop (k * side) front))
  unfolding rows_from row_lines
  rows_there zero k few long = refl
  rows_there (suc more) k few long =
      let here : suc k * side ≤ (k + suc more) * side = mul-le-mul_right side (omega arith) in
      let next : k * side + side ≡ (k + 1) * side = omega arith in
      let moved : (k + 1 + more) * side ≡ (k + suc more) * side = ap (λ (n : ℕ). n * side) (plus_suc k more) in
      rw (row_here k (omega arith) (omega arith), rows_there more (k + 1) (omega arith) (omega arith), drop_map, drop-drop side (k * side) front, next, append_assoc) refl

  pub all_rows : length front ≡ rows * side → rows_from width rows table rows 0 ≡ row_lines side rows (map table_digit front)
  all_rows long = rows_there rows 0 (omega arith) (omega (arith, ap (λ (n : ℕ). n * side) (zero-add rows))) ∙ ap (λ (n : ℕ). row_lines side rows (map table_digit (drop n front))) (zero-mul side)
