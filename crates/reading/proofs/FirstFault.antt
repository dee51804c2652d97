-- What is proved of the definitions in specs/FirstFault.antt.
use Rattle.std.specs.Prelude.{if◌then◌else◌}
use Rattle.std.specs.Prelude.{◌≡◌, Bool, true, false, not, ◌&&◌, ◌||◌, List, [], ◌∷◌, ◌++◌, ◌⊎◌, ℕ, zero, suc, ◌+◌, ◌*◌, ◌-◌, ◌≤◌, ◌<◌, length, get_or, take, drop, eqb}
use Rattle.std.proofs.Math.Path.{refl, ap}
use Rattle.std.proofs.Common.{sym, ◌∙◌, append-nil, inl, inr, add-one, arith, length-drop, take-suc, eqb-true, ne_eqb, eq-eqb}
use Rattle.std.proofs.Math.Decide.{ℕ_discrete}
use Rattle.std.proofs.Math.Seq.{append_snoc}
use Rattle.std.proofs.lemmas.Bool.{eqb-false}
use Rattle.rules.specs.Tests.{conflict}
use Rattle.model.specs.GridFile.{Standing, Reading, is_digit, is_comma, is_line_end, is_hole_sign, begins_hole, is_allowed, disallowed_number, is_zero_alone, start, in_header, is_complete, refusal, with_digit, with_hole, begun, after, accepted, declined, read_from, read}
use Rattle.reading.specs.FieldSteps.{digit_bounds, no_comma, no_line_end, no_hole_sign, drop_next, place_inside, byte_there, byte_accepted, end_complete}
use Rattle.reading.specs.ReadingLaws.{byte_passed, Told, told_none, told_6, told_disallowed, told_15, told_later, told, Kind, a_digit, a_hole_sign, a_comma, a_line_end, kind_of, Sound, start_sound, after_sound}
use Rattle.reading.specs.FirstFault.{line_after, field_after, line_of_byte, field_of_byte, byte_before, allowed_after, allowed_at, zero_before, fault_at, Why, Stops, FirstFault, all_read, ends_early, goes_on, own_fault, other_fault}

-- ## What a standing says of the bytes before it

-- the line and the field, whether a leading 0 stands right before the place, and whether the byte right before it is a digit or a `#`; in the
-- rows that byte is a comma or 0A where it is neither
record Follows (s : Standing) (line field : ℕ) (led : Bool) (before : ℕ) : Type 0 where
  line_told : s.line ≡ line
  field_told : s.field ≡ field
  zero_before : is_zero_alone s.digits s.value ≡ led
  digit_before : eqb s.digits 0 ≡ not (is_digit before)
  sign_before : s.drilled ≡ is_hole_sign before
  field_before : not (eqb line 1) ≡ true → not (is_digit before) && not (is_hole_sign before) ≡ is_comma before || is_line_end before

-- so the reading and the bytes allow the same
same_allowed : (s : Standing) (line field : ℕ) (led : Bool) (before byte : ℕ) → Follows s line field led before → is_allowed s byte ≡ allowed_after line before byte
unfolding is_allowed begins_hole allowed_after in_header
same_allowed s line field led before byte f = rw (f.line_told, f.digit_before, f.sign_before) (ap (λ (t : Bool). is_comma byte || is_line_end byte || (is_digit byte && not (is_hole_sign before)) || t) (go (is_hole_sign byte) (not (eqb line 1)) f.field_before))
  where
    go : (sign rows : Bool) → (rows ≡ true → not (is_digit before) && not (is_hole_sign before) ≡ is_comma before || is_line_end before)
        → sign && rows && not (is_digit before) && not (is_hole_sign before) ≡ sign && rows && (is_comma before || is_line_end before)
    go false rows b = refl
    go true false b = refl
    go true true b = b refl

-- the number of a disallowed byte, by the byte before it
number_told : (s : Standing) (line field : ℕ) (led : Bool) (before : ℕ) → Follows s line field led before → disallowed_number s.digits ≡ (if is_digit before then 13 else 1)
unfolding disallowed_number
number_told s line field led before f = rw f.digit_before (go (is_digit before))
  where
    go : (digit : Bool) → ◌≡◌ {A = ℕ} (if not digit then 1 else 13) (if digit then 13 else 1)
    go true = refl
    go false = refl

-- a digit that was read is a leading 0 exactly where it is a 0 and no digit stood before it
leads : (s : Standing) (line field : ℕ) (led : Bool) (before byte : ℕ) → Sound s → is_digit byte ≡ true → Follows s line field led before
    → is_zero_alone (s.digits + 1) (s.value * 10 + (byte - 48)) ≡ eqb byte 48 && not (is_digit before)
unfolding is_zero_alone
leads s line field led before byte sound d f = rw (sym f.digit_before) (go (eqb s.digits 0) (eqb byte 48) refl refl)
  where
    go : (none nought : Bool) → eqb s.digits 0 ≡ none → eqb byte 48 ≡ nought → eqb (s.digits + 1) 1 && eqb (s.value * 10 + (byte - 48)) 0 ≡ nought && none
    go true true n e = rw (eq-eqb (s.digits + 1) 1 (omega (arith, eqb-true s.digits 0 n)), eq-eqb (s.value * 10 + (byte - 48)) 0 (omega (arith, sound.no_value (eqb-true s.digits 0 n), eqb-true byte 48 e))) refl
    go true false n e = rw (eq-eqb (s.digits + 1) 1 (omega (arith, eqb-true s.digits 0 n)), ne_eqb (s.value * 10 + (byte - 48)) 0 (λ (z : s.value * 10 + (byte - 48) ≡ 0). omega (arith, (digit_bounds byte d).0, eqb-false byte 48 e))) refl
    go false true n e = rw (ne_eqb (s.digits + 1) 1 (λ (z : s.digits + 1 ≡ 1). omega (arith, eqb-false s.digits 0 n))) refl
    go false false n e = rw (ne_eqb (s.digits + 1) 1 (λ (z : s.digits + 1 ≡ 1). omega (arith, eqb-false s.digits 0 n))) refl

-- an accepted byte is the byte before the next place
follows_after : (s : Standing) (line field : ℕ) (led : Bool) (before byte : ℕ) → Sound s → refusal s byte ≡ 0 → Follows s line field led before
    → Follows (after s byte) (line_after line byte) (field_after field byte) (eqb byte 48 && not (is_digit before)) byte
unfolding line_after field_after after with_digit with_hole begun is_digit is_comma is_line_end is_hole_sign is_zero_alone
follows_after s line field led before byte sound passes f = go (kind_of s byte (byte_passed s byte passes))
  where
    go : Kind s byte → Follows (after s byte) (line_after line byte) (field_after field byte) (eqb byte 48 && not (is_digit before)) byte
    go (a_digit d undrilled z n) =
        rw (d, after)
        (record {
          line_told = rw (no_line_end byte d) f.line_told;
          field_told = rw (no_line_end byte d, no_comma byte d) f.field_told;
          zero_before = leads s line field led before byte sound d f;
          digit_before = rw d (ne_eqb (s.digits + 1) 0 (λ (z : s.digits + 1 ≡ 0). omega arith));
          sign_before = undrilled ∙ sym (no_hole_sign byte d);
          field_before = λ e. rw (d, no_comma byte d, no_line_end byte d) refl;
        })
    go (a_hole_sign e in_row first undrilled) = rw e (record { line_told = f.line_told; field_told = f.field_told; zero_before = rw first refl; digit_before = rw first refl; sign_before = refl; field_before = λ t. refl })
    go (a_comma e v n) = rw e (record { line_told = f.line_told; field_told = ap (λ (n : ℕ). n + 1) f.field_told; zero_before = refl; digit_before = refl; sign_before = refl; field_before = λ t. refl })
    go (a_line_end e v due b) = rw e (record { line_told = ap (λ (n : ℕ). n + 1) f.line_told; field_told = refl; zero_before = refl; digit_before = refl; sign_before = refl; field_before = λ t. refl })

-- ## The whole file

-- the reading has come to a place of a file: no byte before it has a fault, the standing says of these bytes what it should, and whatever bytes come
-- after them are read from this standing
record Stands (file : List ℕ) (place : ℕ) (s : Standing) : Type 0 where
  sound : Sound s
  within : place ≤ length file
  none_before : (i : ℕ) → i < place → fault_at file i ≡ 0
  follows : Follows s (line_of_byte file place) (field_of_byte file place) (zero_before file place) (byte_before file place)
  reached : (rest : List ℕ) → read (take place file ++ rest) ≡ read_from s rest

-- where the last row has ended, the bytes before the place are an accepted file
whole_before : (file : List ℕ) (place : ℕ) (s : Standing) → Stands file place s → is_complete s ≡ true → (read (take place file)).number ≡ 0
unfolding accepted
whole_before file place s here c = ap (λ (r : Reading). r.number) (ap read (sym (append-nil (take place file))) ∙ here.reached [] ∙ end_complete s c)

module _ (file : List ℕ) (place : ℕ) (s : Standing) (here : Stands file place s) (byte : ℕ) (bytes : List ℕ) (e : drop place file ≡ byte ∷ bytes) where
  -- the fault of the byte there, as the reading sees it
  fault_here : fault_at file place ≡ (if not (is_allowed s byte) then disallowed_number s.digits else if is_digit byte && is_zero_alone s.digits s.value then 15 else 0)
  unfolding fault_at allowed_at
  fault_here = rw (byte_there file byte bytes place e, same_allowed s _ _ _ _ byte here.follows, number_told s _ _ _ _ here.follows, here.follows.zero_before) refl

  -- the next place
  stands_next : refusal s byte ≡ 0 → Stands file (suc place) (after s byte)
  unfolding line_of_byte field_of_byte zero_before byte_before
  stands_next passes =
      record {
        sound = after_sound s here.sound byte passes;
        within = place_inside file byte bytes place e;
        none_before = λ i below. elim (ℕ_discrete i place) [ yes same ↦ rw same no_fault | no other ↦ here.none_before i (omega arith) ];
        follows = rw (byte_there file byte bytes place e) (follows_after s _ _ _ _ byte here.sound passes here.follows);
        reached = λ rest. ap read (longer rest) ∙ here.reached (byte ∷ rest) ∙ byte_accepted s byte rest passes;
      }
    where
      no_fault : fault_at file place ≡ 0
      no_fault = let p = byte_passed s byte passes in fault_here ∙ rw (p.allowed, p.no_leading_zero) refl

      longer : (rest : List ℕ) → take (suc place) file ++ rest ≡ take place file ++ byte ∷ rest
      longer rest = rw (take-suc file place 0 (place_inside file byte bytes place e), byte_there file byte bytes place e) (append_snoc (take place file) byte rest)

  -- the reading stops there
  stopped : (number : ℕ) → Told s byte (suc number) → Why file place (suc number)
  unfolding disallowed_number
  stopped number (told_none n p) = absurd (omega (arith, n))
  stopped number (told_6 n c) = goes_on n (place_inside file byte bytes place e) (whole_before file place s here c)
  stopped number (told_disallowed n a) = own_fault (place_inside file byte bytes place e) (fault_here ∙ rw a (sym n)) (omega arith)
  stopped number (told_15 n a z) = own_fault (place_inside file byte bytes place e) (fault_here ∙ rw (a, z) (sym n)) (omega arith)
  stopped number (told_later low high a z) = other_fault (place_inside file byte bytes place e) (fault_here ∙ rw (a, z) refl) low high

-- from a place on to which the reading has come
stops_from : (file : List ℕ) (place : ℕ) (s : Standing) (bytes : List ℕ) → drop place file ≡ bytes → Stands file place s → Stops file (read_from s bytes)
unfolding read_from accepted declined
stops_from file place s [] e here = go (is_complete s) refl
  where
    none_left : place ≡ length file
    none_left = omega (arith, here.within, sym (length-drop place file) ∙ ap (λ (l : List ℕ). length l) e)

    go : (c : Bool) → is_complete s ≡ c → Stops file (read_from s [])
    go true c = rw (c, read_from) (record { place = place; none_before = here.none_before; why = all_read refl none_left; line_named = λ (n : 1 ≤ 0). absurd (omega arith); field_named = λ (n : 1 ≤ 0) other. absurd (omega arith) })
    go false c = rw (c, read_from) (record { place = place; none_before = here.none_before; why = ends_early refl none_left; line_named = λ n. here.follows.line_told; field_named = λ n other. here.follows.field_told })
stops_from file place s (byte ∷ bytes) e here = go (refusal s byte) refl (told s byte) (stops_from file (suc place) (after s byte) bytes (rw add-one at (drop_next file byte bytes place e)))
  where
    go : (m : ℕ) → refusal s byte ≡ m → Told s byte (refusal s byte) → (Stands file (suc place) (after s byte) → Stops file (read_from (after s byte) bytes)) → Stops file (read_from s (byte ∷ bytes))
    go zero r t again = rw (r, read_from) (again (stands_next file place s here byte bytes e r))
    go (suc m) r t again =
        rw (r, read_from)
        (record {
          place = place;
          none_before = here.none_before;
          why = stopped file place s here byte bytes e m (rw r at t);
          line_named = λ n. here.follows.line_told;
          field_named = λ n other. rw (ne_eqb (suc m) 5 other) here.follows.field_told;
        })

-- every file is read up to the first byte with a fault and told that byte's number, or stops there or before it with another one
pub stops : (file : List ℕ) → Stops file (read file)
unfolding read start line_of_byte field_of_byte zero_before byte_before is_digit is_hole_sign is_zero_alone
stops file = stops_from file 0 start file refl begin
  where
    begin : Stands file 0 start
    begin =
        record {
          sound = start_sound;
          within = omega arith;
          none_before = λ i below. absurd (omega arith);
          follows = record { line_told = refl; field_told = refl; zero_before = refl; digit_before = refl; sign_before = refl; field_before = λ t. conflict t refl };
          reached = λ rest. refl;
        }

-- 1, 13 and 15 are told of the first byte that has a fault
pub fault_told : (file : List ℕ) → ((read file).number ≡ 1) ⊎ (((read file).number ≡ 13) ⊎ ((read file).number ≡ 15)) → FirstFault file (read file)
fault_told file n = go (stops file).why
  where
    -- of these numbers only 1 is at most 6
    one : (number : ℕ) → (number ≡ 1) ⊎ ((number ≡ 13) ⊎ (number ≡ 15)) → number ≤ 6 → number ≡ 1
    one number (inl e) few = e
    one number (inr (inl e)) few = absurd (omega (arith, e))
    one number (inr (inr e)) few = absurd (omega (arith, e))

    go : Why file (stops file).place (read file).number → FirstFault file (read file)
    go (all_read e end) = absurd (omega (arith, e, one _ n (omega (arith, e))))
    go (ends_early e end) = absurd (omega (arith, e, one _ n (omega (arith, e))))
    go (goes_on e inside whole) = absurd (omega (arith, e, one _ n (omega (arith, e))))
    go (own_fault inside same some) =
        record {
          place = (stops file).place;
          inside = inside;
          fault = same;
          line_named = (stops file).line_named some;
          field_named = (stops file).field_named some (λ five. omega (arith, five, one _ n (omega (arith, five))));
          none_before = (stops file).none_before;
        }
    go (other_fault inside none low high) = absurd (omega (arith, low, one _ n (omega (arith, high))))

-- an accepted file has none
pub accepted_has_none : (file : List ℕ) → (read file).number ≡ 0 → (i : ℕ) → i < length file → fault_at file i ≡ 0
accepted_has_none file n = go (stops file).why
  where
    go : Why file (stops file).place (read file).number → (i : ℕ) → i < length file → fault_at file i ≡ 0
    go (all_read e end) i below = (stops file).none_before i (omega arith)
    go (ends_early e end) i below = absurd (omega (arith, n, e))
    go (goes_on e inside whole) i below = absurd (omega (arith, n, e))
    go (own_fault inside same some) i below = absurd (omega (arith, n, some))
    go (other_fault inside none low high) i below = absurd (omega (arith, n, low))

-- so no digit of it comes right after a 0 that begins a field: no field of two or more digits begins with 0
pub no_leading_zero : (file : List ℕ) → (read file).number ≡ 0 → (i : ℕ) → i < length file → is_digit (get_or file i 0) && zero_before file i ≡ false
unfolding fault_at
no_leading_zero file n i below = go (allowed_at file i) (is_digit (byte_before file i)) (is_digit (get_or file i 0) && zero_before file i) (accepted_has_none file n i below)
  where
    go : (allowed after_digit led : Bool) → ◌≡◌ {A = ℕ} (if not allowed then if after_digit then 13 else 1 else if led then 15 else 0) 0 → led ≡ false
    go allowed after_digit false e = refl
    go true after_digit true e = absurd (omega (arith, e))
    go false true true e = absurd (omega (arith, e))
    go false false true e = absurd (omega (arith, e))
