-- How the header's two fields, and the bytes that end them, lead to a refusal or to the rows. Assumes nothing.
use mathlib.Core.Path.{◌≡◌, refl, ap, ◌∙◌}
use mathlib.Core.Bool.{true, false}
use mathlib.Core.List.{List}
use Prim.Native.Nat.{ℕ, ◌+◌, ◌-◌}
use lib.ListN.{get_or, drop}
use Rattle.model.specs.Bounds.{is_size}
use Rattle.model.specs.GridFile.{start, declined_reading, read_from, read, no_cells}
use Rattle.reading.specs.FieldSteps.{field_start, header_too_short, header_goes_on, header_too_long, bad_height, bad_width, header_ends}
use Rattle.gridfile.specs.Fields.{fault_number, field_at, located}
use Rattle.gridfile.specs.Answers.{reading_says}
use Rattle.gridfile.specs.declared.Declined.{Declined}
use Rattle.gridfile.specs.declared.Field.{Field}
use Rattle.gridfile.specs.declared.Fault.{Fault}
use Rattle.std.specs.Prelude.{Ok, Err}
use Rattle.gridfile.proofs.ReadLaws.{Ended, value_ended, comma_there, header_read, by_refusal, by_ending, declined_there, found_there}

module _ (bytes : List ℕ) where
  from_start : read_from (field_start 1 1 0 0 no_cells) (drop 0 bytes) ≡ read bytes
  unfolding read start field_start
  from_start = refl

  first_refused : (fault : Fault) → field_at bytes 0 ≡ Err fault → declined_reading (fault_number fault) 1 1 ≡ read bytes
  first_refused fault e = by_refusal (header_read 1 0 bytes 0) fault e ∙ from_start

  pub first_declined : (declined : Declined) → Err declined ≡ located (field_at bytes 0) 1 1 → reading_says (Err declined) ≡ read bytes
  first_declined declined e = let t = declined_there (field_at bytes 0) 1 1 declined e in ap (λ (d : Declined). reading_says (Err d)) t.2 ∙ first_refused t.0 t.1

  module _ (one : Field) (e : field_at bytes 0 ≡ Ok one) where
    first : Ended bytes 0 one
    first = value_ended bytes 0 one e

    pub first_alone : get_or bytes one.end 0 ≡ 10 → declined_reading 4 1 1 ≡ read bytes
    first_alone b = by_ending (header_read 1 0 bytes 0) one e 10 b (header_too_short (one.end - 0) one.value (drop (one.end + 1) bytes) first.sound) ∙ from_start

    module _ (parted : get_or bytes one.end 0 ≡ 10 → ⊥) where
      from_second : read_from (field_start 1 2 one.value 0 no_cells) (drop (one.end + 1) bytes) ≡ read bytes
      from_second = by_ending (header_read 1 0 bytes 0) one e 44 (comma_there bytes 0 one first parted) (header_goes_on (one.end - 0) one.value (drop (one.end + 1) bytes) first.sound) ∙ from_start

      second_refused : (fault : Fault) → field_at bytes (one.end + 1) ≡ Err fault → declined_reading (fault_number fault) 1 2 ≡ read bytes
      second_refused fault f = by_refusal (header_read 2 one.value bytes (one.end + 1)) fault f ∙ from_second

      pub second_declined : (declined : Declined) → Err declined ≡ located (field_at bytes (one.end + 1)) 1 2 → reading_says (Err declined) ≡ read bytes
      second_declined declined e = let t = declined_there (field_at bytes (one.end + 1)) 1 2 declined e in ap (λ (d : Declined). reading_says (Err d)) t.2 ∙ second_refused t.0 t.1

      module _ (two : Field) (f : field_at bytes (one.end + 1) ≡ Ok two) where
        second : Ended bytes (one.end + 1) two
        second = value_ended bytes (one.end + 1) two f

        pub third_field : (get_or bytes two.end 0 ≡ 10 → ⊥) → declined_reading 4 1 2 ≡ read bytes
        third_field b = by_ending (header_read 2 one.value bytes (one.end + 1)) two f 44 (comma_there bytes (one.end + 1) two second b) (header_too_long (two.end - (one.end + 1)) two.value (drop (two.end + 1) bytes) second.sound one.value) ∙ from_second

        module _ (b : get_or bytes two.end 0 ≡ 10) where
          pub height_refused : is_size one.value ≡ false → declined_reading 5 1 1 ≡ read bytes
          height_refused h = by_ending (header_read 2 one.value bytes (one.end + 1)) two f 10 b (bad_height (two.end - (one.end + 1)) two.value (drop (two.end + 1) bytes) second.sound one.value h) ∙ from_second

          pub width_refused : is_size one.value ≡ true → is_size two.value ≡ false → declined_reading 5 1 2 ≡ read bytes
          width_refused h w = by_ending (header_read 2 one.value bytes (one.end + 1)) two f 10 b (bad_width (two.end - (one.end + 1)) two.value (drop (two.end + 1) bytes) second.sound one.value h w) ∙ from_second

          pub rows_follow : is_size one.value ≡ true → is_size two.value ≡ true → read_from (field_start 2 1 one.value two.value no_cells) (drop (two.end + 1) bytes) ≡ read bytes
          rows_follow h w = by_ending (header_read 2 one.value bytes (one.end + 1)) two f 10 b (header_ends (two.end - (one.end + 1)) two.value (drop (two.end + 1) bytes) second.sound one.value h w) ∙ from_second

-- what the proof of `read` is found by
pub ruleset header_laws = (first_declined, first_alone, second_declined, third_field, height_refused, width_refused, rows_follow, value_ended, found_there)
