-- The head and the lines together are the text of the model: for every file, every limit and every buffer (`whole`); for a buffer of so many bytes
-- and every file (`whole_file`); and for the first 4,096 bytes of any standard input (`list_whole`), which is what the programs `routes` and
-- `routes_to` print. It rests on the contracts of `head`, `first_line` and `line` (Listing.antt), on BufferRecords.antt, and on the laws of the reader.
use Prim.Native.Nat.{ℕ, zero, suc, ◌+◌, ◌*◌}
use Rattle.std.specs.Prelude.{◌≡◌, true, length, take, Result}
use Rattle.std.proofs.Math.Path.{refl, ap}
use Rattle.std.proofs.Common.{sym, ◌∙◌, arith}
use mathlib.Core.List.{List, [], ◌++◌, append-nil, Memᴰ}
use Rattle.rules.specs.Grid.{places, Accepted}
use Rattle.model.specs.Bounds.{is_size}
use Rattle.model.specs.RefusalLaws.{test_of_size}
use Rattle.model.specs.GridFile.{Reading, read}
use Rattle.model.specs.Printed.{Found, layout_lines, found_text, reading_text, printed}
use Rattle.model.specs.Routes.{found_within, text_within, list_text}
use Rattle.reading.specs.ReadingLaws.{SoundReading, read_sound}
use Rattle.reading.specs.LongFiles.{first_bytes_suffice}
use Rattle.promises.specs.HeldRecords.{records_long}
use Rattle.gridfile.specs.declared.Declined.{Declined}
use Rattle.listing.specs.declared.Heading.{Heading}
use Rattle.listing.specs.Listing.{grid_found, reading_found, file_text, reading_head, put_records, line_text, height_of, width_of, layouts_of, text_of, Headed}
use Rattle.listing.specs.BufferRecords.{lines_from, lines_there}

-- the bytes of so many lines from layout k on
unfoldable pub line_bytes : (ℕ → List ℕ) → ℕ → ℕ → List ℕ
line_bytes line zero k = []
line_bytes line (suc more) k = line k ++ line_bytes line more (k + 1)

-- what head and lines say of a reading
module _ (limit : ℕ) (reading : Reading) (sound : SoundReading reading) (buffer : List ℕ) where
  abbrev found : Found
  found = reading_found limit (length buffer) reading

  abbrev lines : List ℕ
  lines = lines_from reading.height reading.width found.layouts (put_records found.records buffer) found.layouts 0

  found_lines : reading.number ≡ 0 → lines ≡ layout_lines reading.height reading.width 1 found.records
  unfolding reading_found put_records grid_found found_within
  found_lines accepted = rw accepted (lines_there reading.height reading.width _ tall wide _ long [] _ 0 (omega arith) (omega arith))
    where
      grid : Accepted reading.height reading.width (take (reading.height * reading.width) reading.cells)
      grid = sound.in_range accepted

      tall : is_size reading.height ≡ true
      tall = test_of_size _ grid.height_in_range

      wide : is_size reading.width ≡ true
      wide = test_of_size _ grid.width_in_range

      long : (r : List ℕ) → Memᴰ r (grid_found limit (length buffer) reading).records → length r ≡ places reading.height reading.width
      long = records_long _ _ _ grid limit buffer

  pub reading_whole : reading_head limit (length buffer) reading ++ lines ≡ reading_text (text_within limit (length buffer)) reading
  unfolding reading_head reading_found reading_text text_within grid_found found_text lines_from
  reading_whole = go reading.number refl
    where
      go : (n : ℕ) → reading.number ≡ n → reading_head limit (length buffer) reading ++ lines ≡ reading_text (text_within limit (length buffer)) reading
      go zero e = rw (found_lines e, e) refl
      go (suc n) e = rw e (append-nil _)

-- THE WHOLE TEXT, over the contracts alone: what `head` answers, what `first_line` answers for that, and what `line` answers for each layout
module _ (limit : ℕ) (file buffer : List ℕ) (r : Result Heading Declined) (buffer' : List ℕ) (headed : Headed limit file buffer r buffer')
    (first : List ℕ) (begun : first ≡ text_of r) (line : ℕ → List ℕ) (lined : (k : ℕ) → line k ≡ line_text (height_of r) (width_of r) (layouts_of r) k buffer') where
  -- the bytes of the first line, and after them the bytes of the lines of the layouts 0, 1, .. in this order
  unfoldable pub all_bytes : List ℕ
  all_bytes = first ++ line_bytes line (layouts_of r) 0

  same_lines : (more k : ℕ) → line_bytes line more k ≡ lines_from (height_of r) (width_of r) (layouts_of r) buffer' more k
  unfolding line_bytes lines_from
  same_lines zero k = refl
  same_lines (suc more) k = rw (lined k, same_lines more (k + 1)) refl

  -- for every file, every limit and every buffer
  pub whole : all_bytes ≡ file_text limit (length buffer) file
  unfolding all_bytes file_text
  whole = rw (same_lines (layouts_of r) 0, begun, headed.text, headed.height, headed.width, headed.layouts, headed.after) (reading_whole limit (read file) (read_sound file) buffer)

  -- for a buffer of so many bytes: what is printed for a file, however long
  pub whole_file : (room : ℕ) → length buffer ≡ room → all_bytes ≡ list_text limit room file
  unfolding file_text list_text printed
  whole_file room same = whole ∙ ap (λ (n : ℕ). file_text limit n file) same ∙ ap (reading_text (text_within limit room)) (sym (first_bytes_suffice file))

-- WHAT A PROGRAM PRINTS, for every standard input, that hands over its first 4,096 bytes and lends so many: `routes` with its limit and its room,
-- `routes_to` with its own
module _ (limit : ℕ) (input buffer : List ℕ) (r : Result Heading Declined) (buffer' : List ℕ) (headed : Headed limit (take 4096 input) buffer r buffer')
    (first : List ℕ) (begun : first ≡ text_of r) (line : ℕ → List ℕ) (lined : (k : ℕ) → line k ≡ line_text (height_of r) (width_of r) (layouts_of r) k buffer') where
  pub list_whole : (room : ℕ) → length buffer ≡ room → all_bytes limit (take 4096 input) buffer r buffer' headed first begun line lined ≡ list_text limit room input
  unfolding file_text list_text printed
  list_whole room same = whole limit (take 4096 input) buffer r buffer' headed first begun line lined ∙ ap (λ (n : ℕ). file_text limit n (take 4096 input)) same
