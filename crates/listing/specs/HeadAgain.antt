-- A SEARCH THAT IS RUN AGAIN with a higher limit, into the buffer that the run before it left: head and buffer are then those of one run with that
-- limit into the buffer as it was at first (`headed_again`). And a run that is not spent has the head and the buffer of any higher limit
-- (`headed_last`). Both rest on what a second run keeps of the first (runs' TwoRuns.antt).
use Prim.Native.Nat.{ℕ, zero, suc, ◌*◌, ◌≤◌}
use Rattle.std.specs.Prelude.{◌≡◌, List, [], ◌++◌, take, drop, Result}
use Rattle.std.proofs.Math.Path.{refl}
use Rattle.std.proofs.Common.{ap, ◌∙◌, arith, length-append, length-drop, drop-drop}
use Rattle.std.proofs.Math.ListN.{length}
use Rattle.std.proofs.Math.Seq.{drop-append-add}
use Rattle.rules.specs.Grid.{grid_of, places}
use Rattle.model.specs.HasRecord.{concat_append, concat_length}
use Rattle.model.specs.Runs.{Run, scan, concat}
use Rattle.model.specs.Search.{search}
use Rattle.model.specs.GridFile.{Reading, read}
use Rattle.model.specs.Routes.{found_within}
use Rattle.runs.specs.Events.{Beginning}
use Rattle.runs.proofs.Runs.{records_fit}
use Rattle.runs.specs.TwoRuns.{Continued, continued}
use Rattle.promises.specs.HeldRecords.{records_long}
use Rattle.reading.specs.ReadingLaws.{SoundReading, read_sound}
use Rattle.listing.specs.declared.Heading.{Heading}
use Rattle.gridfile.specs.declared.Declined.{Declined}
use Rattle.listing.specs.Listing.{grid_found, reading_found, reading_head, put_records, outcome_of, Headed}

-- ## Records put into a buffer

-- more records over the first of them
put_again : (records more : List (List ℕ)) (buffer : List ℕ) → put_records (records ++ more) (put_records records buffer) ≡ put_records (records ++ more) buffer
unfolding put_records
put_again records more buffer = ap (λ (l : List ℕ). concat (records ++ more) ++ l) (rw (concat_append, length-append)
    (drop-append-add (concat records) (drop (length (concat records)) buffer) (length (concat more)) ∙ drop-drop (length (concat more)) (length (concat records)) buffer))

put_length : (records : List (List ℕ)) (buffer : List ℕ) → length (concat records) ≤ length buffer → length (put_records records buffer) ≡ length buffer
unfolding put_records
put_length records buffer fits = rw (length-append, length-drop) (omega (arith, fits))

-- ## What is found with a higher limit

module _ (reading : Reading) (sound : SoundReading reading) (buffer : List ℕ) where
  found_fits : (limit : ℕ) → length (concat (reading_found limit (length buffer) reading).records) ≤ length buffer
  unfolding reading_found grid_found found_within concat
  found_fits limit = go reading.number refl
    where
      go : (n : ℕ) → reading.number ≡ n → length (concat (reading_found limit (length buffer) reading).records) ≤ length buffer
      go (suc n) e = rw e (omega arith)
      go zero e = let grid = sound.in_range e in
          rw (e, concat_length (places reading.height reading.width) _ (records_long _ _ _ grid limit buffer))
          (records_fit limit (places reading.height reading.width) (search (grid_of reading.height reading.width (take (reading.height * reading.width) reading.cells))) (length buffer))

module _ (limit limit' : ℕ) (higher : limit ≤ limit') (room : ℕ) (reading : Reading) where
  abbrev run : ℕ → Run
  run n = scan n (places reading.height reading.width) 0 room (search (grid_of reading.height reading.width (take (reading.height * reading.width) reading.cells)))

  on : Continued room room (run limit) (run limit')
  on = continued limit limit' (places reading.height reading.width) higher _ 0 room room (omega arith)

  found_begins : Beginning (reading_found limit room reading).records (reading_found limit' room reading).records
  unfolding reading_found grid_found found_within
  found_begins = go reading.number refl
    where
      go : (n : ℕ) → reading.number ≡ n → Beginning (reading_found limit room reading).records (reading_found limit' room reading).records
      go zero e = rw e on.list_goes_on
      go (suc n) e = rw e (record { rest = []; parted = refl })

  found_last : ((reading_found limit room reading).outcome ≡ 1 → ⊥) → (reading_found limit' room reading ≡ reading_found limit room reading) × (reading_head limit' room reading ≡ reading_head limit room reading)
  unfolding reading_found reading_head grid_found found_within
  found_last ended = go reading.number refl
    where
      go : (n : ℕ) → reading.number ≡ n → (reading_found limit' room reading ≡ reading_found limit room reading) × (reading_head limit' room reading ≡ reading_head limit room reading)
      go zero e = rw (e, on.ended_stays (rw e at ended) refl) (refl, refl)
      go (suc n) e = rw e (refl, refl)

-- ## Heads

module _ (limit : ℕ) (file buffer : List ℕ) (r : Result Heading Declined) (buffer' : List ℕ) (headed : Headed limit file buffer r buffer') where
  pub same_room : length buffer' ≡ length buffer
  same_room = ap length headed.after ∙ put_length _ buffer (found_fits (read file) (read_sound file) buffer limit)

  pub headed_again : (limit' : ℕ) → limit ≤ limit' → (r' : Result Heading Declined) (buffer'' : List ℕ) → Headed limit' file buffer' r' buffer'' → Headed limit' file buffer r' buffer''
  headed_again limit' higher r' buffer'' again = let begins = found_begins limit limit' higher (length buffer) (read file) in record {
    text = rw same_room at again.text;
    number = again.number;
    height = again.height;
    width = again.width;
    outcome = rw same_room at again.outcome;
    layouts = rw same_room at again.layouts;
    visited = rw same_room at again.visited;
    after = again.after ∙ rw (same_room, headed.after, begins.parted) (put_again (reading_found limit (length buffer) (read file)).records begins.rest buffer);
  }

  pub headed_last : (limit' : ℕ) → limit ≤ limit' → (outcome_of r ≡ 1 → ⊥) → Headed limit' file buffer r buffer'
  headed_last limit' higher ended = let (found, head) = found_last limit limit' higher (length buffer) (read file) (λ spent. ended (headed.outcome ∙ spent)) in record {
    text = rw head headed.text;
    number = headed.number;
    height = headed.height;
    width = headed.width;
    outcome = rw found headed.outcome;
    layouts = rw found headed.layouts;
    visited = rw found headed.visited;
    after = rw found headed.after;
  }
