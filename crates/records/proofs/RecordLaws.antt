-- Laws of records: that each has bytes, whether record k is there, their lines, and the shorter of two.
-- Assumes nothing.
use mathlib.Core.Path.{◌≡◌, refl, sym, ◌∙◌}
use mathlib.Core.Bool.{Bool, true, false, cond}
use mathlib.Core.List.{List, []}
use Prim.Native.Nat.{ℕ, suc, ◌+◌, ◌*◌, ◌-◌, ◌/◌, ◌≤◌, ◌<◌}
use native.Mathlib.Nat.{mul-le-mul_right, le-div_iff_mul-le, lt-div-mul-add, add-sub_cancel_left}
use native.Mathlib.Omega.{arith}
use lib.ListN.{length, take, drop}
use lib.Dec.{eqb, ltb, leb}
use Rattle.std.specs.Prelude.{count_by}
use Rattle.std.proofs.lemmas.List.Recursion.{is_count_by}
use Rattle.rules.specs.Drawing.{num}
use borrow.Author.Tests.{ltb-true, ltb-false, lt-ltb, le-ltb, le-leb, lt-leb, eq-eqb, ne_eqb}
use Rattle.model.specs.Bounds.{is_size}
use Rattle.model.specs.RefusalLaws.{size_of_test}
use Rattle.model.specs.Records.{record_length, has_record, record_at, shorter}
use Rattle.model.specs.HasRecord.{what_a_record_has}
use Rattle.rules.specs.Record.{record_lines}
use Rattle.rules.specs.Places.{some_places}
use Rattle.rules.specs.Grid.{places}

-- ## The length of a record

module _ (height width : ℕ) (h : is_size height ≡ true) (w : is_size width ≡ true) where
  pub some_bytes : 0 < places height width
  some_bytes = some_places height width (size_of_test height h).0 (size_of_test width w).0

-- ## Whether there is a record k

module _ (height width count k room : ℕ) where
  pub no_height : is_size height ≡ false → false ≡ has_record height width count k room
  unfolding has_record
  no_height h = simp h

  pub no_width : is_size height ≡ true → is_size width ≡ false → false ≡ has_record height width count k room
  unfolding has_record
  no_width h w = simp (h, w)

  pub not_counted : is_size height ≡ true → is_size width ≡ true → count ≤ k → false ≡ has_record height width count k room
  unfolding has_record
  not_counted h w c = simp (h, w, le-ltb _ _ c)

  pub by_room : is_size height ≡ true → is_size width ≡ true → k < count → (long many : ℕ) → long ≡ places height width → many ≡ room / long → ltb k many ≡ has_record height width count k room
  unfolding has_record record_length
  by_room h w c long many e is = rw is (simp (h, w, lt-ltb _ _ c, ← e) (go (ltb k (room / long)) refl))
    where
      some : 0 < long
      some = rw e (some_bytes height width h w)

      go : (t : Bool) → ltb k (room / long) ≡ t → ltb k (room / long) ≡ leb (k * long + long) room
      go true t = let l : k < room / long = ltb-true _ _ t in t ∙ sym (le-leb (k * long + long) room (omega (arith, (le-div_iff_mul-le {k = long} {x = suc k} {y = room} some).0 l)))
      go false t = t ∙ sym (lt-leb (k * long + long) room (more (ltb-false _ _ t)))
        where
          more : room / long ≤ k → room < k * long + long
          more l = omega (arith, lt-div-mul-add {a = room} {b = long} some, mul-le-mul_right long l)

  -- a record that is there ends in time
  pub in_room : has_record height width count k room ≡ true → (long : ℕ) → long ≡ places height width → k * long + long ≤ room
  in_room e long l = rw l (what_a_record_has height width count k room e).inside

-- ## Record k

module _ (height width count k : ℕ) (buffer : List ℕ) where
  pub no_record : has_record height width count k (length buffer) ≡ false → [] ≡ record_at height width count k buffer
  unfolding record_at
  no_record e = simp e

  pub that_part : has_record height width count k (length buffer) ≡ true → (long end : ℕ) → long ≡ places height width → end ≡ k * long + long
      → take (end - k * long) (drop (k * long) buffer) ≡ record_at height width count k buffer
  unfolding record_at record_length
  that_part e long end l to = simp (e, ← l, to, add-sub_cancel_left)

-- ## Lines

pub lines_counted : (layout : List ℕ) → record_lines layout ≡ count_by (λ (byte : ℕ). eqb byte 1) layout
unfolding record_lines
lines_counted = is_count_by record_lines (λ (byte : ℕ). eqb byte 1) refl (λ byte layout. go (eqb byte 1) (record_lines layout))
  where
    go : (line : Bool) (n : ℕ) → num line + n ≡ cond line (1 + n) n
    go true n = refl
    go false n = omega arith

-- ## The shorter of two

module _ (first second : List ℕ) where
  pub lengths_differ : (length first ≡ length second → ⊥) → [] ≡ shorter first second
  unfolding shorter
  lengths_differ e = simp (ne_eqb _ _ e)

  module _ (same : length first ≡ length second) (a b : ℕ) (p : a ≡ record_lines first) (q : b ≡ record_lines second) where
    pub second_shorter : b < a → second ≡ shorter first second
    unfolding shorter
    second_shorter h = simp (eq-eqb _ _ same, ← p, ← q, lt-ltb _ _ h)

    pub first_shorter : a ≤ b → first ≡ shorter first second
    unfolding shorter
    first_shorter h = simp (eq-eqb _ _ same, ← p, ← q, le-ltb _ _ h)

-- what the proofs of the calls are found by
pub ruleset record_laws = (no_height, no_width, not_counted, by_room, some_bytes, no_record, in_room, that_part, lines_counted, lengths_differ, second_shorter, first_shorter, what_a_record_has, size_of_test)
