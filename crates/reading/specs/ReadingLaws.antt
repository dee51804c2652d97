-- What is known of every reading of a grid file: 256 cells; sizes and cells in range where it is accepted. These are the laws by
-- which a program hands what it read to a search. They follow a standing that is sound from byte to byte.
use Rattle.std.specs.Prelude.{if◌then◌else◌}
use Rattle.std.specs.Prelude.{◌≡◌, Bool, not, ◌&&◌, List, [], ◌∷◌, ℕ, zero, suc, ◌+◌, ◌*◌, ◌-◌, ◌≤◌, length, get_or, set, take, replicate, ℤ, pos}
use Rattle.std.proofs.Math.Path.{refl}
use Rattle.std.proofs.Common.{sym, ◌∙◌, true≢false, inl, inr, mul-le-mul, arith, get_or-take, length-take-le}
use Rattle.std.proofs.Math.Bool.{true, false}
use Rattle.std.proofs.Math.ListN.{length-set}
use Rattle.std.proofs.lemmas.List.{length-replicate}
use Rattle.std.proofs.Math.Dec.{eqb, ltb}
use borrow.Author.Tests.{ltb-false, eqb-true, eqb-false, not-true, ne_eqb}
use Rattle.rules.specs.Grid.{Size, largest_code, blank_cell, CellInRange, Accepted}
use Rattle.rules.specs.Tests.{both, conflict}
use Rattle.model.specs.Bounds.{is_size, most_digits}
use Rattle.model.specs.RefusalLaws.{size_of_test}
use Rattle.model.specs.GridFile.{Standing, Reading, is_digit, is_comma, is_line_end, is_hole_sign, begins_hole, is_allowed, disallowed_number, is_zero_alone, blank, hole, no_cells, start, in_header, fields_due, is_complete, field_cell, bad_size, refusal, with_digit, with_hole, begun, after, accepted, declined_reading, declined, read_from, read}

-- ## What the number at a byte says

-- each test of `refusal` has failed
pub record Passed (s : Standing) (byte : ℕ) : Type 0 where
  pub unfinished : is_complete s ≡ false
  pub allowed : is_allowed s byte ≡ true
  pub no_leading_zero : is_digit byte && is_zero_alone s.digits s.value ≡ false
  pub ten_digits : is_digit byte && eqb s.digits most_digits ≡ false
  pub in_range : not (is_digit byte) && ltb largest_code s.value ≡ false
  pub enough_fields : is_line_end byte && ltb s.field (fields_due s) ≡ false
  pub no_more_fields : is_comma byte && eqb s.field (fields_due s) ≡ false
  pub sizes : is_line_end byte && in_header s && ltb 0 (bad_size s) ≡ false

-- which test gave the number: none; that of 6; that of a disallowed byte; that of a leading 0; or one that comes after these
pub data Told (s : Standing) (byte number : ℕ) : Type 0 where
  told_none : number ≡ 0 → Passed s byte → Told s byte number
  told_6 : number ≡ 6 → is_complete s ≡ true → Told s byte number
  told_disallowed : number ≡ disallowed_number s.digits → is_allowed s byte ≡ false → Told s byte number
  told_15 : number ≡ 15 → is_allowed s byte ≡ true → is_digit byte && is_zero_alone s.digits s.value ≡ true → Told s byte number
  told_later : 2 ≤ number → number ≤ 5 → is_allowed s byte ≡ true → is_digit byte && is_zero_alone s.digits s.value ≡ false → Told s byte number

pub told : (s : Standing) (byte : ℕ) → Told s byte (refusal s byte)
unfolding refusal
told s byte = go (is_complete s) (is_allowed s byte) _ _ _ _ _ _ refl refl refl refl refl refl refl refl
  where
    go : (t6 a t15 t2 t3 t4 t4' t5 : Bool) → is_complete s ≡ t6 → is_allowed s byte ≡ a → is_digit byte && is_zero_alone s.digits s.value ≡ t15
        → is_digit byte && eqb s.digits most_digits ≡ t2 → not (is_digit byte) && ltb largest_code s.value ≡ t3 → is_line_end byte && ltb s.field (fields_due s) ≡ t4
        → is_comma byte && eqb s.field (fields_due s) ≡ t4' → is_line_end byte && in_header s && ltb 0 (bad_size s) ≡ t5
        → Told s byte (if t6 then 6 else if not a then disallowed_number s.digits else if t15 then 15 else if t2 then 2 else if t3 then 3 else if t4 then 4 else if t4' then 4 else if t5 then 5 else 0)
    go true a t15 t2 t3 t4 t4' t5 p6 p1 p15 p2 p3 p4 p4' p5 = told_6 refl p6
    go false false t15 t2 t3 t4 t4' t5 p6 p1 p15 p2 p3 p4 p4' p5 = told_disallowed refl p1
    go false true true t2 t3 t4 t4' t5 p6 p1 p15 p2 p3 p4 p4' p5 = told_15 refl p1 p15
    go false true false true t3 t4 t4' t5 p6 p1 p15 p2 p3 p4 p4' p5 = told_later (omega arith) (omega arith) p1 p15
    go false true false false true t4 t4' t5 p6 p1 p15 p2 p3 p4 p4' p5 = told_later (omega arith) (omega arith) p1 p15
    go false true false false false true t4' t5 p6 p1 p15 p2 p3 p4 p4' p5 = told_later (omega arith) (omega arith) p1 p15
    go false true false false false false true t5 p6 p1 p15 p2 p3 p4 p4' p5 = told_later (omega arith) (omega arith) p1 p15
    go false true false false false false false true p6 p1 p15 p2 p3 p4 p4' p5 = told_later (omega arith) (omega arith) p1 p15
    go false true false false false false false false p6 p1 p15 p2 p3 p4 p4' p5 =
        told_none refl (record { unfinished = p6; allowed = p1; no_leading_zero = p15; ten_digits = p2; in_range = p3; enough_fields = p4; no_more_fields = p4'; sizes = p5 })

pub byte_passed : (s : Standing) (byte : ℕ) → refusal s byte ≡ 0 → Passed s byte
unfolding disallowed_number
byte_passed s byte accepted = go (told s byte) (eqb s.digits 0) refl
  where
    go : Told s byte (refusal s byte) → (first : Bool) → eqb s.digits 0 ≡ first → Passed s byte
    go (told_none e p) first f = p
    go (told_6 e c) first f = absurd (omega (arith, e, accepted))
    go (told_disallowed e a) true f = let k : refusal s byte ≡ 1 = rw f at e in absurd (omega (arith, k, accepted))
    go (told_disallowed e a) false f = let k : refusal s byte ≡ 13 = rw f at e in absurd (omega (arith, k, accepted))
    go (told_15 e a z) first f = absurd (omega (arith, e, accepted))
    go (told_later low high a z) first f = absurd (omega (arith, low, accepted))

-- the four kinds of accepted bytes
pub data Kind (s : Standing) (byte : ℕ) : Type 0 where
  a_digit : is_digit byte ≡ true → s.drilled ≡ false → (s.digits ≡ 1 → s.value ≡ 0 → ⊥) → (s.digits ≡ 10 → ⊥) → Kind s byte
  a_hole_sign : byte ≡ 35 → in_header s ≡ false → s.digits ≡ 0 → s.drilled ≡ false → Kind s byte
  a_comma : byte ≡ 44 → s.value ≤ largest_code → (s.field ≡ fields_due s → ⊥) → Kind s byte
  a_line_end : byte ≡ 10 → s.value ≤ largest_code → fields_due s ≤ s.field → in_header s && ltb 0 (bad_size s) ≡ false → Kind s byte

module _ (s : Standing) where
  -- what is known at each of the bytes that are no digits
  comma_kind : Passed s 44 → (s.value ≤ largest_code) × (s.field ≡ fields_due s → ⊥)
  unfolding is_digit is_comma
  comma_kind p = (ltb-false largest_code s.value p.in_range, eqb-false s.field (fields_due s) p.no_more_fields)

  line_end_kind : Passed s 10 → (s.value ≤ largest_code) × (fields_due s ≤ s.field) × (in_header s && ltb 0 (bad_size s) ≡ false)
  unfolding is_digit is_line_end
  line_end_kind p = (ltb-false largest_code s.value p.in_range, ltb-false s.field (fields_due s) p.enough_fields, p.sizes)

  hole_sign_kind : Passed s 35 → (in_header s ≡ false) × (s.digits ≡ 0) × (s.drilled ≡ false)
  unfolding is_digit is_comma is_line_end is_hole_sign is_allowed begins_hole
  hole_sign_kind p =
      let (begins, undrilled) = both (not (in_header s) && eqb s.digits 0) (not s.drilled) p.allowed in
      let (in_row, first) = both (not (in_header s)) (eqb s.digits 0) begins in
      (not-true _ in_row, eqb-true _ _ first, not-true _ undrilled)

pub kind_of : (s : Standing) (byte : ℕ) → Passed s byte → Kind s byte
unfolding is_comma is_line_end is_hole_sign begins_hole is_allowed most_digits is_zero_alone
kind_of s byte p = go (is_comma byte) (is_line_end byte) (is_hole_sign byte) (is_digit byte) s.drilled refl refl refl refl refl
  where
    more : is_zero_alone s.digits s.value ≡ false → s.digits ≡ 1 → s.value ≡ 0 → ⊥
    more z one nought = true≢false (rw (one, nought) at z)

    go : (c l h d r : Bool) → is_comma byte ≡ c → is_line_end byte ≡ l → is_hole_sign byte ≡ h → is_digit byte ≡ d → s.drilled ≡ r → Kind s byte
    go true l h d r ec el eh ed er = let e = eqb-true byte 44 ec in let (small, more) = comma_kind s (rw e at p) in a_comma e small more
    go false true h d r ec el eh ed er = let e = eqb-true byte 10 el in let (small, whole, sizes) = line_end_kind s (rw e at p) in a_line_end e small whole sizes
    go false false true d r ec el eh ed er = let e = eqb-true byte 35 eh in let (in_row, first, undrilled) = hole_sign_kind s (rw e at p) in a_hole_sign e in_row first undrilled
    go false false false true false ec el eh ed er = a_digit ed er (more (rw ed at p.no_leading_zero)) (eqb-false s.digits 10 (rw ed at p.ten_digits))
    go false false false true true ec el eh ed er = absurd (true≢false (sym (rw (ec, el, eh, ed, er) at p.allowed)))
    go false false false false r ec el eh ed er = absurd (true≢false (sym (rw (ec, el, eh, ed) at p.allowed)))

-- ## A sound standing

pub record Sound (s : Standing) : Type 0 where
  pub cells_in_range : (i : ℕ) → CellInRange (get_or s.cells i blank_cell)
  pub cell_count : length s.cells ≡ 256
  pub line_from_1 : 1 ≤ s.line
  pub field_from_1 : 1 ≤ s.field
  pub field_due : s.field ≤ fields_due s
  pub digits_due : s.digits ≤ 10
  -- a field with no digits has the value 0, and of those with digits only `0` alone has it
  pub no_value : s.digits ≡ 0 → s.value ≡ 0
  pub no_leading_zero : s.value ≡ 0 → s.digits ≤ 1
  pub sizes_in_range : in_header s ≡ false → Size s.height × Size s.width × (s.line ≤ s.height + 2)

-- a cell that is stored in range keeps all in range
stored_in_range : (cells : List ℤ) (index : ℕ) (cell : ℤ) → ((i : ℕ) → CellInRange (get_or cells i blank_cell)) → CellInRange cell → (i : ℕ) → CellInRange (get_or (set cells index cell) i blank_cell)
stored_in_range [] index cell all c i = all i
stored_in_range (x ∷ cells) zero cell all c zero = c
stored_in_range (x ∷ cells) zero cell all c (suc i) = all (suc i)
stored_in_range (x ∷ cells) (suc index) cell all c zero = all 0
stored_in_range (x ∷ cells) (suc index) cell all c (suc i) = stored_in_range cells index cell (λ k. all (suc k)) c i

no_cells_in_range : (n i : ℕ) → CellInRange (get_or (replicate n blank_cell) i blank_cell)
no_cells_in_range zero i = inl refl
no_cells_in_range (suc n) zero = inl refl
no_cells_in_range (suc n) (suc i) = no_cells_in_range n i

field_in_range : (s : Standing) → s.value ≤ largest_code → CellInRange (field_cell s)
unfolding field_cell blank hole
field_in_range s h = go s.drilled (eqb s.digits 0)
  where
    go : (drilled empty : Bool) → CellInRange (if drilled then hole else if empty then blank else pos s.value)
    go true empty = inr (inl refl)
    go false true = inl refl
    go false false = inr (inr (s.value, refl, h))

pub start_sound : Sound start
unfolding start no_cells blank fields_due in_header
start_sound =
    record {
      cells_in_range = no_cells_in_range 256;
      cell_count = length-replicate 256 blank_cell;
      line_from_1 = omega arith;
      field_from_1 = omega arith;
      field_due = omega arith;
      digits_due = omega arith;
      no_value = λ z. refl;
      no_leading_zero = λ z. omega arith;
      sizes_in_range = λ (h : eqb 1 1 ≡ false). absurd (true≢false h);
    }

module _ (s : Standing) (sound : Sound s) where
  -- further in the same field
  further : (digits value : ℕ) (drilled : Bool) → digits ≤ 10 → (digits ≡ 0 → value ≡ 0) → (value ≡ 0 → digits ≤ 1)
      → Sound (record { line = s.line; field = s.field; digits = digits; value = value; drilled = drilled; height = s.height; width = s.width; cells = s.cells })
  unfolding fields_due in_header
  further digits value drilled few none some =
      record {
        cells_in_range = sound.cells_in_range;
        cell_count = sound.cell_count;
        line_from_1 = sound.line_from_1;
        field_from_1 = sound.field_from_1;
        field_due = sound.field_due;
        digits_due = few;
        no_value = none;
        no_leading_zero = some;
        sizes_in_range = sound.sizes_in_range;
      }

  pub digit_sound : (byte : ℕ) → (s.digits ≡ 1 → s.value ≡ 0 → ⊥) → (s.digits ≡ 10 → ⊥) → Sound (with_digit s byte)
  unfolding with_digit
  digit_sound byte z n = further (s.digits + 1) (s.value * 10 + (byte - 48)) s.drilled (omega (arith, sound.digits_due, n)) (λ (e : s.digits + 1 ≡ 0). absurd (omega arith)) first
    where
      first : s.value * 10 + (byte - 48) ≡ 0 → s.digits + 1 ≤ 1
      first e =
          let nought : s.value ≡ 0 = omega (arith, e) in
          let other : (s.digits ≡ 1 → ⊥) = (λ one. z one nought) in
          omega (arith, sound.no_leading_zero nought, other)

  pub hole_sound : Sound (with_hole s)
  unfolding with_hole
  hole_sound = further s.digits s.value true sound.digits_due sound.no_value sound.no_leading_zero

  -- the standing at another field, in a row and in the header
  pub begun_row : (line field : ℕ) → in_header s ≡ false → begun s line field ≡ record { line = line; field = field; digits = 0; value = 0; drilled = false; height = s.height; width = s.width; cells = set s.cells ((s.line - 2) * s.width + (s.field - 1)) (field_cell s) }
  unfolding begun
  begun_row line field h = rw h refl

  row_cells : s.value ≤ largest_code → (i : ℕ) → CellInRange (get_or (set s.cells ((s.line - 2) * s.width + (s.field - 1)) (field_cell s)) i blank_cell)
  row_cells v = stored_in_range s.cells _ (field_cell s) sound.cells_in_range (field_in_range s v)

  pub begun_header : (line field : ℕ) → in_header s ≡ true → begun s line field ≡ record { line = line; field = field; digits = 0; value = 0; drilled = false; height = if eqb s.field 1 then s.value else s.height; width = if eqb s.field 2 then s.value else s.width; cells = s.cells }
  unfolding begun
  begun_header line field h = rw h refl

  pub due_row : in_header s ≡ false → s.field ≤ s.width
  unfolding fields_due
  due_row h = rw h at sound.field_due

  pub due_header : in_header s ≡ true → s.field ≤ 2
  unfolding fields_due
  due_header h = rw h at sound.field_due

  -- a row goes on, or ends
  row_sound : (line field : ℕ) → in_header s ≡ false → s.value ≤ largest_code → 1 ≤ line → 1 ≤ field → field ≤ s.width → line ≤ s.height + 2 → eqb line 1 ≡ false → Sound (begun s line field)
  unfolding fields_due in_header
  row_sound line field h v from f w l n =
      rw (begun_row line field h)
      (record {
        cells_in_range = row_cells v;
        cell_count = length-set s.cells _ (field_cell s) ∙ sound.cell_count;
        line_from_1 = from;
        field_from_1 = f;
        field_due = rw n w;
        digits_due = omega arith;
        no_value = λ z. refl;
        no_leading_zero = λ z. omega arith;
        sizes_in_range = λ (e : eqb line 1 ≡ false). ((sound.sizes_in_range h).0, (sound.sizes_in_range h).1, l);
      })

  row_comma : in_header s ≡ false → s.value ≤ largest_code → (s.field ≡ fields_due s → ⊥) → Sound (begun s s.line (s.field + 1))
  unfolding fields_due in_header
  row_comma h v n = row_sound s.line (s.field + 1) h v sound.line_from_1 (omega arith) (more (rw h at n)) (sound.sizes_in_range h).2 h
    where
      more : (s.field ≡ s.width → ⊥) → s.field + 1 ≤ s.width
      more n = omega (arith, due_row h, n)

  header_comma : in_header s ≡ true → (s.field ≡ fields_due s → ⊥) → Sound (begun s s.line (s.field + 1))
  unfolding fields_due in_header
  header_comma h n =
      rw (begun_header s.line (s.field + 1) h)
      (record {
        cells_in_range = sound.cells_in_range;
        cell_count = sound.cell_count;
        line_from_1 = sound.line_from_1;
        field_from_1 = omega arith;
        field_due = rw h (more (rw h at n));
        digits_due = omega arith;
        no_value = λ z. refl;
        no_leading_zero = λ z. omega arith;
        sizes_in_range = λ (e : eqb s.line 1 ≡ false). conflict h e;
      })
    where
      more : (s.field ≡ 2 → ⊥) → s.field + 1 ≤ 2
      more n = omega (arith, due_header h, n)

  pub comma_sound : s.value ≤ largest_code → (s.field ≡ fields_due s → ⊥) → Sound (begun s s.line (s.field + 1))
  comma_sound v n = go (in_header s) refl
    where
      go : (h : Bool) → in_header s ≡ h → Sound (begun s s.line (s.field + 1))
      go true h = header_comma h n
      go false h = row_comma h v n

  -- the header's sizes are in range where it ends
  pub sizes_found : in_header s ≡ true → in_header s && ltb 0 (bad_size s) ≡ false → Size s.height × Size s.value
  unfolding bad_size
  sizes_found h b = go (is_size s.height) (is_size s.value) refl refl (rw h at b)
    where
      go : (t w : Bool) → is_size s.height ≡ t → is_size s.value ≡ w → ltb 0 (bad_size s) ≡ false → Size s.height × Size s.value
      go true true t w k = (size_of_test s.height t, size_of_test s.value w)
      go true false t w k = absurd (true≢false (rw (t, w, bad_size) at k))
      go false w t u k = absurd (true≢false (rw (t, bad_size) at k))

  -- the header ends after its second field, and the second line follows
  pub two_fields : in_header s ≡ true → fields_due s ≤ s.field → s.field ≡ 2
  unfolding fields_due
  two_fields h d = let k : 2 ≤ s.field = rw h at d in omega (arith, due_header h, k)

  pub second_line : in_header s ≡ true → s.line + 1 ≡ 2
  unfolding in_header
  second_line h = omega (arith, eqb-true s.line 1 h)

  header_end : in_header s ≡ true → fields_due s ≤ s.field → in_header s && ltb 0 (bad_size s) ≡ false → Sound (begun s (s.line + 1) 1)
  unfolding fields_due in_header
  header_end h d b =
      rw (begun_header (s.line + 1) 1 h, two_fields h d, second_line h)
      (record {
        cells_in_range = sound.cells_in_range;
        cell_count = sound.cell_count;
        line_from_1 = omega arith;
        field_from_1 = omega arith;
        field_due = omega (arith, found.1.0);
        digits_due = omega arith;
        no_value = λ z. refl;
        no_leading_zero = λ z. omega arith;
        sizes_in_range = λ e. (found.0, found.1, omega (arith, found.0.0));
      })
    where
      found : Size s.height × Size s.value
      found = sizes_found h b

  row_end : in_header s ≡ false → is_complete s ≡ false → s.value ≤ largest_code → Sound (begun s (s.line + 1) 1)
  unfolding is_complete in_header
  row_end h c v = row_sound (s.line + 1) 1 h v (omega arith) (omega arith) (omega (arith, (sound.sizes_in_range h).1.0)) (omega (arith, (sound.sizes_in_range h).2, eqb-false s.line (s.height + 2) (rw h at c))) (ne_eqb (s.line + 1) 1 (λ (e : s.line + 1 ≡ 1). omega (arith, sound.line_from_1)))

  pub line_end_sound : is_complete s ≡ false → s.value ≤ largest_code → fields_due s ≤ s.field → in_header s && ltb 0 (bad_size s) ≡ false → Sound (begun s (s.line + 1) 1)
  line_end_sound c v d b = go (in_header s) refl
    where
      go : (h : Bool) → in_header s ≡ h → Sound (begun s (s.line + 1) 1)
      go true h = header_end h d b
      go false h = row_end h c v

  pub after_sound : (byte : ℕ) → refusal s byte ≡ 0 → Sound (after s byte)
  unfolding after is_digit is_comma is_hole_sign
  after_sound byte r = go (kind_of s byte p)
    where
      p : Passed s byte
      p = byte_passed s byte r

      go : Kind s byte → Sound (after s byte)
      go (a_digit d undrilled z n) = rw d (digit_sound byte z n)
      go (a_hole_sign e in_row first undrilled) = rw e hole_sound
      go (a_comma e v n) = rw e (comma_sound v n)
      go (a_line_end e v due b) = rw e (line_end_sound p.unfinished v due b)

-- ## What every reading gives

pub record SoundReading (r : Reading) : Type 0 where
  pub cell_count : length r.cells ≡ 256
  pub in_range : r.number ≡ 0 → Accepted r.height r.width (take (r.height * r.width) r.cells)
  pub pads_in_cells : r.height * r.width ≤ 256

accepted_sound : (s : Standing) → Sound s → is_complete s ≡ true → SoundReading (accepted s)
unfolding accepted is_complete
accepted_sound s sound c = record { cell_count = sound.cell_count; in_range = λ e. grid; pads_in_cells = few }
  where
    rows : in_header s ≡ false
    rows = not-true (in_header s) (both (not (in_header s)) _ c).0

    few : s.height * s.width ≤ 256
    few = mul-le-mul (sound.sizes_in_range rows).0.1 (sound.sizes_in_range rows).1.1

    grid : Accepted s.height s.width (take (s.height * s.width) s.cells)
    grid =
        record {
          height_in_range = (sound.sizes_in_range rows).0;
          width_in_range = (sound.sizes_in_range rows).1;
          one_cell_a_pad = length-take-le (s.height * s.width) s.cells (omega (arith, sound.cell_count, few));
          cells_in_range = λ v below. rw (get_or-take (s.height * s.width) s.cells v blank_cell below) (sound.cells_in_range v);
        }

pub declined_sound : (number line field : ℕ) → SoundReading (declined_reading (suc number) line field)
unfolding no_cells blank
declined_sound number line field =
    record {
      cell_count = length-replicate 256 blank_cell;
      in_range = λ (e : suc number ≡ 0). absurd (omega arith);
      pads_in_cells = omega arith;
    }

pub read_from_sound : (s : Standing) (bytes : List ℕ) → Sound s → SoundReading (read_from s bytes)
unfolding read_from declined
read_from_sound s [] sound = go (is_complete s) refl
  where
    go : (c : Bool) → is_complete s ≡ c → SoundReading (read_from s [])
    go true c = rw (c, read_from) (accepted_sound s sound c)
    go false c = rw (c, read_from) (declined_sound 5 _ _)
read_from_sound s (byte ∷ bytes) sound = go (refusal s byte) refl (λ t. read_from_sound (after s byte) bytes t)
  where
    go : (n : ℕ) → refusal s byte ≡ n → (Sound (after s byte) → SoundReading (read_from (after s byte) bytes)) → SoundReading (read_from s (byte ∷ bytes))
    go zero r next = rw (r, read_from) (next (after_sound s sound byte r))
    go (suc n) r next = rw (r, read_from) (declined_sound n _ _)

-- 256 cells; where the file is accepted, its H, W and first HW cells are a grid in range
pub read_sound : (bytes : List ℕ) → SoundReading (read bytes)
unfolding read
read_sound bytes = read_from_sound start bytes start_sound

-- the same of a reading that is known to be the file's
module _ (file : List ℕ) (reading : Reading) (same : reading ≡ read file) where
  pub pads_fit : reading.height * reading.width ≤ 256
  pads_fit = rw same (read_sound file).pads_in_cells

  pub cells_fit : length reading.cells ≡ 256
  cells_fit = rw same (read_sound file).cell_count
