-- Laws of a stretch of a record: place after place, row after row, that what was wrong stays wrong, and the lines of one byte more. They rest
-- on the model's Judge.antt and on the rules' numbers of places.
use Prim.Native.Nat.{ℕ, zero, suc, ◌+◌, ◌*◌, ◌≤◌, ◌<◌}
use mathlib.Core.Path.{◌≡◌, refl, sym, ap, ◌∙◌, subst}
use mathlib.Core.Bool.{Bool, true, false, not}
use mathlib.Core.List.{List, [], ◌∷◌, ◌++◌}
use native.Mathlib.Omega.{arith}
use native.Mathlib.Decide.{ℕ_discrete}
use native.Mathlib.Numerals.{add-one}
use native.Mathlib.Nat.{add-zero, zero-mul, suc-mul, mul-le-mul_right}
use borrow.Author.Tests.{not-true, not-false}
use mir.Val.{bool_byte}
use lib.Dec.{eqb}
use lib.ListN.{get_or, length, take}
use lib.Seq.{take-suc, length-take-le}
use lib.IntN.{ℤ}
use Rattle.rules.specs.Grid.{place_at, field_side, Grid}
use Rattle.rules.specs.Drawing.{num}
use Rattle.rules.specs.Tests.{num_small}
use Rattle.rules.specs.Record.{undecided_byte, line_byte, record_lines}
use Rattle.rules.specs.RecordLaws.{row_of_number, column_of_number}
use Rattle.model.specs.JoinedEnds.{End}
use Rattle.model.specs.Judge.{wrong, so_far, after_place, followed}
use Rattle.boardview.specs.View.{end_at}
use Rattle.std.specs.Prelude.{Option}
use Rattle.std.proofs.Common.{Some, None}
use Rattle.judging.specs.Following.{told, InUse, Stepped, lines_in, FollowedOn}

-- one place more
module _ (g : Grid) (bytes : List ℕ) where
  abbrev NextPlace : (row column width : ℕ) → Type 0
  NextPlace row column width = column < field_side width → (ends : ℕ → End) → followed g bytes (row * field_side width + column) ≡ so_far ends
      → followed g bytes (suc (row * field_side width + column)) ≡ after_place width (place_at width row column) (get_or bytes (row * field_side width + column) undecided_byte) ends

  next_place : (row column : ℕ) → NextPlace row column g.width
  unfolding followed
  next_place row column inside ends h = rw (h, row_of_number g.width row column inside, column_of_number g.width row column inside) refl

  still_wrong : (n m : ℕ) → n ≤ m → followed g bytes n ≡ wrong → followed g bytes m ≡ wrong
  unfolding followed
  still_wrong n zero h w = let e : n ≡ 0 = omega arith in rw e at w
  still_wrong n (suc m) h w = elim (ℕ_discrete n (suc m)) [ yes e ↦ rw e at w | no k ↦ rw (still_wrong n m (omega arith) w) refl ]

-- the places of a row are among those of the field
pub row_fits : (width row rows : ℕ) → row < rows → row * field_side width + field_side width ≤ rows * field_side width
row_fits width row rows inside =
    let most : suc row * field_side width ≤ rows * field_side width = mul-le-mul_right (field_side width) inside in
    omega (arith, suc-mul row (field_side width))

-- THE LINES of one byte more
lines_of_last : (bytes : List ℕ) (byte : ℕ) → record_lines (bytes ++ (byte ∷ [])) ≡ record_lines bytes + num (eqb byte line_byte)
unfolding record_lines
lines_of_last [] byte = omega arith
lines_of_last (b ∷ bytes) byte = rw (lines_of_last bytes byte) (omega arith)

one_byte_more : (bytes : List ℕ) (n : ℕ) → n < length bytes → lines_in bytes (suc n) ≡ lines_in bytes n + num (eqb (get_or bytes n undecided_byte) line_byte)
one_byte_more bytes n inside = ap record_lines (take-suc bytes n undecided_byte inside) ∙ lines_of_last _ (get_or bytes n undecided_byte)

-- a test as the code counts it
pub as_counted : (b : Bool) → bool_byte b ≡ num b
as_counted true = refl
as_counted false = refl

pub one_at_most : (b : Bool) {counted : ℕ} → counted ≡ bool_byte b → counted ≤ 1
one_at_most b is = omega (arith, is ∙ as_counted b, num_small b)

-- no more lines than bytes
lines_bounded : (bytes : List ℕ) → record_lines bytes ≤ length bytes
unfolding record_lines
lines_bounded [] = omega arith
lines_bounded (b ∷ bytes) = let rest : record_lines bytes ≤ length bytes = lines_bounded bytes in omega (arith, num_small (eqb b line_byte))

pub few_lines : (bytes : List ℕ) (n : ℕ) {lines : ℕ} → n ≤ length bytes → lines ≡ lines_in bytes n → lines ≤ n
few_lines bytes n h counted = let all : lines_in bytes n ≤ length (take n bytes) = lines_bounded (take n bytes) in omega (arith, length-take-le n bytes h)

-- STRETCHES
module _ (width : ℕ) (bytes : List ℕ) where
  -- no place of a row, and no row of the field
  pub no_place : (row : ℕ) {lines : ℕ} {ends : List ℤ} → InUse ends → lines ≡ lines_in bytes (row * field_side width)
      → FollowedOn width bytes (row * field_side width) (row * field_side width + 0) ends (Some lines) ends
  no_place row good counted = record {
    says = λ g w h. ap (followed g bytes) (add-zero (row * field_side width)) ∙ h;
    in_use = good;
    tells = counted ∙ ap (lines_in bytes) (sym (add-zero (row * field_side width)));
  }

  pub no_row : {ends : List ℤ} → InUse ends → FollowedOn width bytes 0 (0 * field_side width) ends (Some 0) ends
  unfolding record_lines
  no_row good = record {
    says = λ g w h. ap (followed g bytes) (zero-mul (field_side width)) ∙ h;
    in_use = good;
    tells = ap (lines_in bytes) (sym (zero-mul (field_side width)));
  }

  -- a place, and with it the row: it is wrong, or there is one place more
  module _ {from lines : ℕ} {before mid after : List ℤ} {r : Bool} (row column : ℕ) (inside : column < field_side width)
      (so : FollowedOn width bytes from (row * field_side width + column) before (Some lines) mid)
      (stepped : Stepped (after_place width (place_at width row column) (get_or bytes (row * field_side width + column) undecided_byte)) mid r after) where
    place_says : (g : Grid) → g.width ≡ width → followed g bytes from ≡ told true before → followed g bytes (suc (row * field_side width + column)) ≡ told r after
    place_says g w h = subst (NextPlace g bytes row column) w (next_place g bytes row column) inside (λ v. end_at mid v) (so.says g w h) ∙ sym stepped.says

    pub place_wrong : not r ≡ true → FollowedOn width bytes from (row * field_side width + field_side width) before None after
    place_wrong h = record {
      says = λ g w k. still_wrong g bytes _ (row * field_side width + field_side width) (omega arith) (place_says g w k ∙ ap (λ b. told b after) (not-true r h));
      in_use = stepped.in_use;
      tells = tt;
    }

    pub place_right : not r ≡ false → row * field_side width + field_side width ≤ length bytes → {found : ℕ}
        → found ≡ lines + num (eqb (get_or bytes (row * field_side width + column) undecided_byte) line_byte)
        → FollowedOn width bytes from (row * field_side width + (column + 1)) before (Some found) after
    place_right h fits counted =
        let next : suc (row * field_side width + column) ≡ row * field_side width + (column + 1) = omega arith in
        record {
          says = λ g w k. ap (followed g bytes) (sym next) ∙ (place_says g w k ∙ ap (λ b. told b after) (not-false r h));
          in_use = stepped.in_use;
          tells = counted ∙ (ap (λ (n : ℕ). n + num (eqb (get_or bytes (row * field_side width + column) undecided_byte) line_byte)) so.tells
              ∙ (sym (one_byte_more bytes (row * field_side width + column) (omega arith)) ∙ ap (lines_in bytes) next));
        }

  -- a row, and with it the field
  module _ {from lines : ℕ} {before mid after : List ℤ} {r : Option ℕ} (row rows : ℕ) (inside : row < rows)
      (so : FollowedOn width bytes from (row * field_side width) before (Some lines) mid)
      (next : FollowedOn width bytes (row * field_side width) (row * field_side width + field_side width) mid r after) where
    row_followed : FollowedOn width bytes from (row * field_side width + field_side width) before r after
    row_followed = record { says = λ g w h. next.says g w (so.says g w h); in_use = next.in_use; tells = next.tells }

    pub row_wrong : r ≡ None → FollowedOn width bytes from (rows * field_side width) before None after
    row_wrong h =
        let whole : FollowedOn width bytes from (row * field_side width + field_side width) before None after = rw h at row_followed in
        record {
          says = λ g w k. still_wrong g bytes _ (rows * field_side width) (row_fits width row rows inside) (whole.says g w k);
          in_use = next.in_use;
          tells = tt;
        }

    pub row_right : {found : ℕ} → r ≡ Some found → FollowedOn width bytes from ((row + 1) * field_side width) before (Some found) after
    row_right {found} h =
        let whole : FollowedOn width bytes from (row * field_side width + field_side width) before (Some found) after = rw h at row_followed in
        let one_on : row * field_side width + field_side width ≡ (row + 1) * field_side width =
        sym (suc-mul row (field_side width)) ∙ ap (λ (n : ℕ). n * field_side width) (sym (add-one row)) in
        record {
          says = λ g w k. ap (followed g bytes) (sym one_on) ∙ whole.says g w k;
          in_use = next.in_use;
          tells = whole.tells ∙ ap (lines_in bytes) one_on;
        }
