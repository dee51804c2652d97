-- The answer of `judged` is the text that `judge` prints: for every file (`whole_file`), and for every argument and every standard input
-- (`judge_prints`), of which the program hands over the first 4,096 bytes, and an argument that is longer than its buffer as none. It rests
-- on the contract of `judged` and on the laws of the reader.
use Rattle.std.specs.Prelude.{if◌then◌else◌}
use Rattle.std.specs.Prelude.{ℕ, zero, suc, ◌*◌, ◌<◌, ◌≡◌, refl, Bool, true, false, List, [], leb, length, take}
use Rattle.std.proofs.Common.{sym, ap, ◌∙◌, mul-pos, arith, leb-false, ne_eqb}
use Rattle.rules.specs.Grid.{Accepted}
use Rattle.model.specs.GridFile.{Reading, read}
use Rattle.model.specs.Printed.{reading_text, handed_over}
use Rattle.model.specs.JudgeText.{codes_fit, record_of_codes, judged_text, judge_text}
use Rattle.reading.specs.ReadingLaws.{SoundReading, read_sound}
use Rattle.reading.specs.LongFiles.{first_bytes_suffice}

-- for every file, however long, and all codes
pub whole_file : (file digits : List ℕ) {text : List ℕ} → text ≡ judged_text digits (read file) → text ≡ judge_text digits file
unfolding judge_text
whole_file file digits is = is ∙ ap (judged_text digits) (sym (first_bytes_suffice file))

-- ## Codes of another length

pub other_length : (height width : ℕ) (digits : List ℕ) → (length digits ≡ height * width → ⊥) → record_of_codes height width digits ≡ []
unfolding record_of_codes codes_fit
other_length height width digits other = rw (ne_eqb (length digits) (height * width) other) refl

-- more than 256 codes are no more to a grid than none
too_many : (digits : List ℕ) → 256 < length digits → (reading : Reading) → SoundReading reading → judged_text digits reading ≡ judged_text [] reading
unfolding judged_text reading_text
too_many digits many reading sound = go reading.number refl
  where
    go : (n : ℕ) → reading.number ≡ n → judged_text digits reading ≡ judged_text [] reading
    go (suc n) e = rw e refl
    go zero e =
        let grid : Accepted reading.height reading.width (take (reading.height * reading.width) reading.cells) = sound.in_range e in
        let some : 0 < reading.height * reading.width = mul-pos (omega (arith, grid.height_in_range.0)) (omega (arith, grid.width_in_range.0)) in
        rw (e, other_length reading.height reading.width digits (λ same. absurd (omega (arith, sound.pads_in_cells))), other_length reading.height reading.width [] (λ same. absurd (omega arith))) refl

-- ## The program

-- WHAT `judge` PRINTS, for every argument and every standard input
pub judge_prints : (argument input : List ℕ) {text : List ℕ} → text ≡ judged_text (handed_over argument) (read (take 4096 input)) → text ≡ judge_text argument input
unfolding judge_text handed_over
judge_prints argument input is = is ∙ go (leb (length argument) 4096) refl
  where
    go : (short : Bool) → leb (length argument) 4096 ≡ short → judged_text (if short then argument else []) (read (take 4096 input)) ≡ judged_text argument (read (take 4096 input))
    go true h = refl
    go false h = sym (too_many argument (omega (arith, leb-false (length argument) 4096 h)) (read (take 4096 input)) (read_sound (take 4096 input)))
