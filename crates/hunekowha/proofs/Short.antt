-- When a lent slice is too short, and what is written where all are long enough. Assumes nothing.
use mathlib.Core.Path.{◌≡◌, refl, ap, ◌∙◌}
use mathlib.Core.Bool.{Bool, true, false, ◌&&◌}
use mathlib.Core.List.{List, [], ◌∷◌}
use Prim.Native.Nat.{ℕ, ◌+◌, ◌*◌, ◌≤◌, ◌<◌}
use native.Mathlib.Nat.{zero-add, mul-zero}
use native.Mathlib.Omega.{arith}
use lib.Dec.{ltb}
use lib.ListN.{length, drop, length-drop}
use lib.Seq.{paste, take-length, length-take-le}
use lib.IntN.{ℤ}
use borrow.Author.Tests.{le-leb, lt-leb, leb-true}
use Rattle.rules.specs.Tests.{both}
use Rattle.model.specs.Bounds.{is_size}
use Rattle.model.specs.GridFile.{Reading}
use Rattle.model.specs.Writing.{write}
use Rattle.model.specs.Records.{record_length, has_record, record_at}
use Rattle.model.specs.Judge.{Judged, judge}
use Rattle.hunekowha.specs.Lent.{written, ReadGives, read_numbers, reading_gives, write_numbers, write_gives, record_place, record_gives, judge_numbers, judge_gives, search_numbers, listing_gives, table_numbers, common_gives}
use Rattle.model.specs.Runs.{Solved}
use Rattle.model.specs.Common.{common}
use Rattle.grid.specs.declared.Refusal.{Refusal}
use Rattle.gridfile.specs.declared.Unwritten.{Unwritten}
use Rattle.gridfile.specs.Answers.{writing_says}
use Rattle.tally.specs.declared.Solved.{Solved as Counted}
use Rattle.tally.specs.declared.Tally.{Tally}
use Rattle.tally.specs.Answers.{answer_says}
use Rattle.copper.specs.declared.NoTable.{NoTable}
use Rattle.copper.specs.declared.NoTable.TheVariants.{Grid, Short, Incomplete}
use Rattle.copper.specs.Answers.{common_says}
use Rattle.std.specs.Prelude.{Result, Ok, Err}

-- a copy of a whole list to the front
pub front : {A : Type 0} (old new : List A) → paste old 0 new (length new) ≡ written new old
front old new = rw (take-length, zero-add)

-- of a list that is known to be another
pub put_front : {A : Type 0} (old : List A) {new said after : List A} → new ≡ said → after ≡ paste old 0 new (length new) → after ≡ written said old
put_front {A} old {new} same put = put ∙ front old new ∙ ap (λ (l : List A). written l old) same

-- READ
module _ (reading : Reading) (answer : List ℕ) (cells : List ℤ) where
  pub read_short_answer : length answer < 5 → reading_gives reading answer cells ≡ record { returned = 0; answer = answer; cells = cells }
  unfolding reading_gives
  read_short_answer short = rw (lt-leb 5 (length answer) short)

  pub read_short_cells : 5 ≤ length answer → length cells < 256 → reading_gives reading answer cells ≡ record { returned = 0; answer = answer; cells = cells }
  unfolding reading_gives
  read_short_cells long short = rw (le-leb 5 (length answer) long, lt-leb 256 (length cells) short)

  pub read_whole : 5 ≤ length answer → 256 ≤ length cells → (answer_after : List ℕ) (cells_after : List ℤ)
      → answer_after ≡ written (read_numbers reading) answer → cells_after ≡ written reading.cells cells
      → reading_gives reading answer cells ≡ record { returned = 5; answer = answer_after; cells = cells_after }
  unfolding reading_gives
  read_whole long long_cells answer_after cells_after put put_cells =
      rw (le-leb 5 (length answer) long, le-leb 256 (length cells) long_cells, put, put_cells)

-- the same of a reading that is known to be another
pub reading_put : {reading same : Reading} (answer : List ℕ) (cells : List ℤ) {gives : ReadGives} → reading ≡ same → reading_gives reading answer cells ≡ gives → reading_gives same answer cells ≡ gives
reading_put answer cells e put = rw (← e) put

-- WRITE
module _ (height width : ℕ) (cells : List ℤ) (text answer : List ℕ) where
  pub write_short : length answer < 3 → write_gives height width cells text answer ≡ record { returned = 0; text = text; answer = answer }
  unfolding write_gives
  write_short short = rw (lt-leb 3 (length answer) short)

  pub write_whole : 3 ≤ length answer → (r : Result ℕ Unwritten) (text_after after : List ℕ) → writing_says r text_after ≡ write height width cells text
      → after ≡ written (write_numbers (writing_says r [])) answer → write_gives height width cells text answer ≡ record { returned = 3; text = text_after; answer = after }
  unfolding write_gives
  write_whole long (Ok n) text_after after same put = rw (le-leb 3 (length answer) long, put, ← same)
  write_whole long (Err unwritten) text_after after same put = rw (le-leb 3 (length answer) long, put, ← same)

-- RECORD
module _ (height width count k : ℕ) (buffer : List ℕ) where
  record_inside : has_record height width count k (length buffer) ≡ true → k * record_length height width + record_length height width ≤ length buffer
  unfolding has_record
  record_inside there = leb-true _ _ (both (is_size height && is_size width && ltb k count) _ there).1

  -- the part's length says where it begins, and it lies in the buffer
  abbrev Placed : List ℕ → Type 0
  Placed found = (k * length found ∷ length found ∷ [] ≡ record_place height width count k (length buffer)) × (k * length found ≤ length buffer)

  placed_by : (found : List ℕ) → found ≡ record_at height width count k buffer → (b : Bool) → has_record height width count k (length buffer) ≡ b → Placed found
  unfolding record_at record_place
  placed_by found part true there =
      let inside = record_inside there in
      let long : length found ≡ record_length height width =
      ap length part ∙ rw there (length-take-le (record_length height width) (drop (k * record_length height width) buffer) (simp length-drop (omega arith))) in
      (rw (there, long), rw long (omega arith))
  placed_by found part false none = let empty : length found ≡ 0 = ap length part ∙ rw none in (rw (none, empty, mul-zero), rw (empty, mul-zero) (omega arith))

  placed : (found : List ℕ) → found ≡ record_at height width count k buffer → Placed found
  placed found part = placed_by found part (has_record height width count k (length buffer)) refl

  pub offset_inside : (found : List ℕ) → found ≡ record_at height width count k buffer → k * length found ≤ length buffer
  offset_inside found part = (placed found part).1

  module _ (answer : List ℕ) where
    pub record_short : length answer < 2 → record_gives height width count k buffer answer ≡ record { returned = 0; answer = answer }
    unfolding record_gives
    record_short short = rw (lt-leb 2 (length answer) short)

    pub record_whole : 2 ≤ length answer → (found after : List ℕ) → found ≡ record_at height width count k buffer
        → after ≡ paste answer 0 (k * length found ∷ length found ∷ []) 2 → record_gives height width count k buffer answer ≡ record { returned = 2; answer = after }
    unfolding record_gives
    record_whole long found after part put = rw (le-leb 2 (length answer) long, put, ← (placed found part).0)

-- JUDGE
module _ (height width : ℕ) (cells : List ℤ) (bytes answer : List ℕ) where
  pub judge_short : length answer < 4 → judge_gives height width cells bytes answer ≡ record { returned = 0; answer = answer }
  unfolding judge_gives
  judge_short short = rw (lt-leb 4 (length answer) short)

  pub judge_whole : 4 ≤ length answer → (r : Judged) (after : List ℕ) → r ≡ judge height width cells bytes
      → after ≡ written (judge_numbers r) answer → judge_gives height width cells bytes answer ≡ record { returned = 4; answer = after }
  unfolding judge_gives
  judge_whole long r after same put = rw (le-leb 4 (length answer) long, put, ← same)

-- SOLVE AND WALK
module _ (listed : Solved) (buffer answer : List ℕ) where
  pub listing_short : length answer < 6 → listing_gives listed buffer answer ≡ record { returned = 0; buffer = buffer; answer = answer }
  unfolding listing_gives
  listing_short short = rw (lt-leb 6 (length answer) short)

  pub listing_whole : 6 ≤ length answer → (r : Result Counted Refusal) (buffer_after after : List ℕ) → answer_says r buffer_after ≡ listed
      → after ≡ written (search_numbers r) answer → listing_gives listed buffer answer ≡ record { returned = 6; buffer = buffer_after; answer = after }
  unfolding listing_gives
  listing_whole long (Ok found) buffer_after after same put = rw (le-leb 6 (length answer) long, put, ← same)
  listing_whole long (Err refusal) buffer_after after same put = rw (le-leb 6 (length answer) long, put, ← same)

-- COMMON
module _ (height width : ℕ) (cells : List ℤ) (limit : ℕ) (buffer table answer : List ℕ) where
  pub common_short : length answer < 6
      → common_gives height width cells limit buffer table answer ≡ record { returned = 0; buffer = buffer; table = table; answer = answer }
  unfolding common_gives
  common_short short = rw (lt-leb 6 (length answer) short)

  pub common_whole : 6 ≤ length answer → (r : Result Tally NoTable) (buffer_after table_after after : List ℕ)
      → common_says r buffer_after table_after ≡ common height width cells limit buffer table → after ≡ written (table_numbers r) answer
      → common_gives height width cells limit buffer table answer ≡ record { returned = 6; buffer = buffer_after; table = table_after; answer = after }
  unfolding common_gives
  common_whole long (Ok found) buffer_after table_after after same put = rw (le-leb 6 (length answer) long, put, ← same)
  common_whole long (Err (Grid refusal)) buffer_after table_after after same put = rw (le-leb 6 (length answer) long, put, ← same)
  common_whole long (Err Short) buffer_after table_after after same put = rw (le-leb 6 (length answer) long, put, ← same)
  common_whole long (Err (Incomplete found)) buffer_after table_after after same put = rw (le-leb 6 (length answer) long, put, ← same)
