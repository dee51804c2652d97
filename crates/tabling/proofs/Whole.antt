-- The head and the rows together are the text that `common` prints, for an answer buffer of 61,504 bytes and a table of at least 961: for every
-- file (`whole_file`), and for the first 4,096 bytes of any standard input (`common_whole`). It rests on the contracts of `head`, `first_line` and `row`
-- (specs/Tabling.antt), on TableRows.antt, on the model's CommonLaws.antt, on promises' TableLaws.antt (the table's bytes) and on the laws of the
-- reader. What is proved of the definitions in specs/Whole.antt.
use Prim.Native.Nat.{ℕ, zero, suc, ◌+◌, ◌*◌, ◌≤◌}
use Rattle.std.specs.Prelude.{◌≡◌, Bool, List, ◌++◌, map, length, take, drop, ℤ, Result}
use Rattle.std.proofs.Math.Path.{refl, ap}
use Rattle.std.proofs.Common.{sym, ◌∙◌, append-nil, arith, eqb-true}
use Rattle.std.proofs.Math.Bool.{true, false}
use Rattle.std.proofs.lemmas.Bool.{eqb-false}
use Rattle.std.proofs.Math.Dec.{eqb}
use Rattle.rules.specs.Grid.{grid_of, field_side, places, Accepted}
use Rattle.rules.specs.Places.{few_places}
use Rattle.model.specs.RefusalLaws.{test_of_size, accepted_is_not_refused}
use Rattle.model.specs.Refusals.{grid_refusal}
use Rattle.model.specs.Runs.{Run, scan, fewest}
use Rattle.model.specs.Search.{search}
use Rattle.model.specs.Decimal.{digit_byte}
use Rattle.model.specs.GridFile.{Reading, read}
use Rattle.model.specs.Printed.{Found, reading_text, printed}
use Rattle.model.specs.Routes.{routes_limit, routes_room, routes_found, found_within}
use Rattle.model.specs.Common.{common_table, common}
use Rattle.model.specs.CommonLaws.{stopped_list, complete_list}
use Rattle.model.specs.CommonText.{row_lines, table_lines, common_found_text, common_text}
use Rattle.promises.specs.TableLaws.{table_length, table_bytes_small}
use Rattle.reading.specs.ReadingLaws.{SoundReading, read_sound}
use Rattle.reading.specs.LongFiles.{first_bytes_suffice}
use Rattle.gridfile.specs.declared.Declined.{Declined}
use Rattle.tabling.specs.declared.Heading.{Heading}
use Rattle.tabling.specs.Tabling.{rows_printed, common_head, reading_head, row_text, text_of, width_of, rows_of, Headed}
use Rattle.tabling.specs.TableRows.{rows_from, small_digits}
use Rattle.tabling.specs.Whole.{head_text, grid_text, row_bytes, all_bytes}
use Rattle.tabling.proofs.TableRows.{all_rows}

-- ## What is made is what the model prints

module _ (buffer table : List ℕ) (room : length buffer ≡ routes_room) (long : 961 ≤ length table) where
  -- for an accepted grid
  module _ (height width : ℕ) (cells : List ℤ) (accepted : Accepted height width cells) where
    abbrev run : Run
    run = scan routes_limit (places height width) 0 (length buffer) (search (grid_of height width cells))

    abbrev made : List ℕ
    made = head_text (common_head height width (common height width cells routes_limit buffer table))

    abbrev found : Found
    found = record { outcome = run.outcome; layouts = length run.records; visited = run.visited; fewest = fewest run.records; records = run.records }

    same_found : found ≡ routes_found height width cells
    unfolding found_within
    same_found = rw room refl

    fine : (grid_refusal height width cells).0 ≡ 0
    fine = ap (λ (p : ℕ × ℕ). p.0) (accepted_is_not_refused height width cells accepted)

    fits : places height width ≤ length table
    fits = omega (arith, few_places height width accepted.height_in_range.1 accepted.width_in_range.1)

    its_rows : (layouts : List (List ℕ)) (rest : List ℕ) → rows_from width (field_side height) (common_table height width layouts ++ rest) (field_side height) 0
        ≡ row_lines (field_side width) (field_side height) (map digit_byte (common_table height width layouts))
    its_rows layouts rest =
        all_rows width (field_side height) (test_of_size width accepted.width_in_range) (common_table height width layouts) rest (table_length height width layouts)
        ∙ ap (row_lines (field_side width) (field_side height)) (small_digits (common_table height width layouts) (table_bytes_small height width layouts))

    grid_whole : made ≡ grid_text height width cells
    unfolding head_text common_head common_found_text table_lines rows_printed rows_from
    grid_whole = go (eqb run.outcome 0) refl ∙ ap (common_found_text height width) same_found
      where
        go : (b : Bool) → eqb run.outcome 0 ≡ b → made ≡ common_found_text height width found
        go true e = rw (complete_list height width cells routes_limit buffer table fine fits (eqb-true _ 0 e), e, its_rows run.records (drop (places height width) table)) refl
        go false e = rw (stopped_list height width cells routes_limit buffer table fine fits (eqb-false _ 0 e), e) refl

  -- for what was read
  reading_whole : (reading : Reading) → SoundReading reading → head_text (reading_head reading buffer table) ≡ reading_text grid_text reading
  unfolding head_text reading_head reading_text rows_from
  reading_whole reading sound = go reading.number refl
    where
      go : (n : ℕ) → reading.number ≡ n → head_text (reading_head reading buffer table) ≡ reading_text grid_text reading
      go zero e = rw e (grid_whole reading.height reading.width (take (reading.height * reading.width) reading.cells) (sound.in_range e))
      go (suc n) e = rw e (append-nil _)

-- ## The whole text, over the contracts alone

-- what `head` answers, what `first_line` answers for that, and what `row` answers for each row
module _ (file buffer table : List ℕ) (r : Result Heading Declined) (buffer' table' : List ℕ) (headed : Headed file buffer table r buffer' table')
    (first : List ℕ) (begun : first ≡ text_of r) (row : ℕ → List ℕ) (lined : (k : ℕ) → row k ≡ row_text (width_of r) (rows_of r) k table') where
  same_rows : (more k : ℕ) → row_bytes row more k ≡ rows_from (width_of r) (rows_of r) table' more k
  unfolding row_bytes rows_from
  same_rows zero k = refl
  same_rows (suc more) k = rw (lined k, same_rows more (k + 1)) refl

  made_bytes : all_bytes file buffer table r buffer' table' headed first begun row lined ≡ head_text (reading_head (read file) buffer table)
  unfolding all_bytes head_text
  made_bytes = rw (same_rows (rows_of r) 0, begun, headed.text, headed.width, headed.rows, headed.table_after) refl

  module _ (room : length buffer ≡ routes_room) (long : 961 ≤ length table) where
    -- the text for the grid that was read
    pub whole : all_bytes file buffer table r buffer' table' headed first begun row lined ≡ reading_text grid_text (read file)
    whole = made_bytes ∙ reading_whole buffer table room long (read file) (read_sound file)

    -- WHAT `common` PRINTS for a file, however long
    pub whole_file : all_bytes file buffer table r buffer' table' headed first begun row lined ≡ common_text file
    unfolding common_text printed
    whole_file = whole ∙ ap (reading_text grid_text) (sym (first_bytes_suffice file))

-- WHAT `common` PRINTS, for every standard input: it hands over the first 4,096 bytes, and lends 61,504 bytes and 961
module _ (input buffer table : List ℕ) (r : Result Heading Declined) (buffer' table' : List ℕ) (headed : Headed (take 4096 input) buffer table r buffer' table')
    (first : List ℕ) (begun : first ≡ text_of r) (row : ℕ → List ℕ) (lined : (k : ℕ) → row k ≡ row_text (width_of r) (rows_of r) k table') where
  pub common_whole : length buffer ≡ routes_room → 961 ≤ length table → all_bytes (take 4096 input) buffer table r buffer' table' headed first begun row lined ≡ common_text input
  unfolding common_text printed
  common_whole = whole (take 4096 input) buffer table r buffer' table' headed first begun row lined
