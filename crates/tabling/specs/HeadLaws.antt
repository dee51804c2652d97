-- What `head` answers, from what the reader and `common` answer: `refused_head` for a refused file, `accepted_head` for an accepted one.
-- They rest on the laws of the reader and on the contract of `common`.
use Prim.Native.Nat.{ℕ, zero, suc, ◌*◌}
use Rattle.std.specs.Prelude.{◌≡◌, List, take, Result, Ok, Err}
use Rattle.std.proofs.Math.Path.{refl}
use Rattle.rules.specs.Grid as rules
use Rattle.model.specs.GridFile.{read}
use Rattle.model.specs.Printed.{summary_line}
use Rattle.model.specs.Routes.{routes_limit}
use Rattle.model.specs.Common.{common}
use Rattle.grid.specs.declared.Refusal.TheVariants.{Size, CellCount, Cell}
use Rattle.reading.specs.ReadingLaws.{SoundReading, read_sound}
use Rattle.gridfile.specs.declared.Grid as gridfile
use Rattle.gridfile.specs.declared.Declined.{Declined}
use Rattle.gridfile.specs.Fields.{fault_number}
use Rattle.gridfile.specs.Answers.{reading_says}
use Rattle.tally.specs.declared.Tally.{Tally}
use Rattle.copper.specs.declared.NoTable.{NoTable}
use Rattle.copper.specs.declared.NoTable.TheVariants.{Grid, Short, Incomplete}
use Rattle.copper.specs.Answers.{search_says, common_says}
use Rattle.listing.specs.Listing.{head_text}
use Rattle.listing.specs.HeadLaws.{some_fault}
use Rattle.tabling.specs.Tabling.{rows_printed, common_head, reading_head, found_in, rows_in, Headed}

-- ## What was found

-- the summary is that of the search, the rows are those of its number, and the buffer is its own
told : (r : Result Tally NoTable) (buffer : List ℕ)
    → head_text (Ok (found_in r)) ≡ summary_line (search_says r buffer).layouts (search_says r buffer).visited (search_says r buffer).fewest_lines (search_says r buffer).outcome
told (Ok tally) buffer = refl
told (Err (Grid refusal)) buffer = refl
told (Err Short) buffer = refl
told (Err (Incomplete found)) buffer = refl

counted : (r : Result Tally NoTable) (height : ℕ) (buffer : List ℕ) → rows_in r height ≡ rows_printed (search_says r buffer).number height
unfolding rows_printed
counted (Ok tally) height buffer = refl
counted (Err (Grid Size)) height buffer = refl
counted (Err (Grid CellCount)) height buffer = refl
counted (Err (Grid (Cell index))) height buffer = refl
counted (Err Short) height buffer = refl
counted (Err (Incomplete found)) height buffer = refl

kept : (r : Result Tally NoTable) (buffer : List ℕ) → buffer ≡ (search_says r buffer).buffer
kept (Ok tally) buffer = refl
kept (Err (Grid refusal)) buffer = refl
kept (Err Short) buffer = refl
kept (Err (Incomplete found)) buffer = refl

module _ (file : List ℕ) where
  -- ## A refused file

  module _ (buffer table : List ℕ) (declined : Declined) (same : reading_says (Err declined) ≡ read file) where
    pub refused_head : Headed file buffer table (Err declined) buffer table
    unfolding reading_head
    refused_head = go (fault_number declined.fault) refl
      where
        go : (m : ℕ) → fault_number declined.fault ≡ m → Headed file buffer table (Err declined) buffer table
        go zero e = absurd (some_fault declined.fault e)
        go (suc m) e = record {
          text = rw (← same, e) refl;
          width = rw (← same, e) refl;
          rows = rw (← same, e) refl;
          buffer_after = rw (← same, e) refl;
          table_after = rw (← same, e) refl;
        }

  -- ## An accepted file

  module _ (grid : gridfile.Grid) (same : reading_says (Ok grid) ≡ read file) where
    pub tall : rules.Size grid.height
    tall = let sound : SoundReading (reading_says (Ok grid)) = rw same (read_sound file) in (sound.in_range refl).height_in_range

    module _ (buffer table : List ℕ) (r : Result Tally NoTable) (buffer' table' : List ℕ)
        (says : common_says r buffer' table' ≡ common grid.height grid.width (take (grid.height * grid.width) grid.cells) routes_limit buffer table) where
      pub accepted_head : Headed file buffer table (Ok (record { found = found_in r; width = grid.width; rows = rows_in r grid.height })) buffer' table'
      unfolding reading_head common_head
      accepted_head = record {
        text = rw (← same, ← says) (told r buffer');
        width = rw (← same) refl;
        rows = rw (← same, ← says) (counted r grid.height buffer');
        buffer_after = rw (← same, ← says) (kept r buffer');
        table_after = rw (← same, ← says) refl;
      }
