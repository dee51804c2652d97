-- What is proved of the definitions in specs/PackedSlices.antt.
use Rattle.std.specs.Prelude.{◌≡◌, Bool, true, false, ◌⊎◌, get_or, take, drop, replicate, ℤ, pos, negsuc, ltb}
use Rattle.std.proofs.Math.Path.{refl, ap}
use Rattle.std.proofs.Common.{sym, ◌∙◌, mul-le-mul, add-zero, zero-add, mod-lt, div-add-mod', arith, length-append, take-append-drop, take_at, drop_at, drop-drop, length-take-le, ltb-true, ltb-false}
use mathlib.Core.List.{List, [], ◌∷◌, ◌++◌, append-nil}
use Rattle.std.proofs.Math.Logic.{inl, inr}
use Prim.Native.Nat.{ℕ, zero, suc, ◌+◌, ◌*◌, ◌-◌, ◌/◌, ◌%◌, ◌≤◌, ◌<◌}
use Rattle.std.proofs.Math.ListN.{length, length-drop}
use Rattle.std.proofs.lemmas.List.{length-replicate}
use Rattle.std.proofs.Math.Seq.{append_snoc}
use Rattle.rules.specs.Grid.{blank_cell, hole_cell, CellInRange, Accepted}
use Rattle.model.specs.Bounds.{is_size}
use Rattle.model.specs.RefusalLaws.{size_of_test, test_of_size}
use Rattle.model.specs.GridFile.{blank, grid_reading}
use Rattle.model.specs.Packed.{PackedPad, cell, refused, packed_pad, declined_pad, read_pads, read_packed, packed_number, packed_cell, packed_cells, grid_slice}
use Rattle.reading.specs.ReadingLaws.{SoundReading, declined_sound}
use Rattle.reading.specs.PadSteps.{height_refused, width_refused, too_short, too_long, whole, pad_read, pad_refused}
use Rattle.reading.specs.PackedPads.{Packable, packable, refused_with, pad_packed, pad_there, cell_length}
use Rattle.reading.specs.PackedSlices.{pad_at, AllPackable, PadsGo, NoHoles, IsByte, InBytes, SliceOfGrid, RefusedPad, SliceGoes, FirstNotWhole, LineAndField, all_read, one_refused, is_turned_away, is_read}

module _ (height width : ℕ) where
  pub pads_go : (left : ℕ) (cells : List ℤ) (bytes : List ℕ) → length bytes ≡ left * 5 → PadsGo height width left cells bytes
  unfolding read_pads packed_cells
  pads_go zero cells [] e = all_read [] refl (λ v below. absurd (omega arith)) refl (ap (grid_reading height width) (sym (append-nil cells)))
  pads_go zero cells (byte ∷ bytes) e = absurd (omega arith)
  pads_go (suc left) cells bytes e = go (packed_pad (take 5 bytes)) refl (λ c. pads_go left (cells ++ (c ∷ [])) (drop 5 bytes) fewer)
    where
      fewer : length (drop 5 bytes) ≡ left * 5
      fewer = length-drop 5 bytes ∙ (omega arith)

      go : (p : PackedPad) → packed_pad (take 5 bytes) ≡ p → ((c : ℤ) → PadsGo height width left (cells ++ (c ∷ [])) (drop 5 bytes)) → PadsGo height width (suc left) cells bytes
      go (refused number) p later =
          one_refused 0 number (omega arith) (record { here = p; none_before = λ before early other k. absurd (omega arith) })
          (pad_refused height width left cells bytes p ∙ ap (declined_pad number width) (sym (add-zero (length cells))))
      go (cell c) p later = onward (later c)
        where
          shift : (index : ℕ) → pad_at (drop 5 bytes) index ≡ pad_at bytes (suc index)
          shift index = ap (take 5) (drop-drop (index * 5) 5 bytes ∙ ap (λ (n : ℕ). drop n bytes) further)
            where
              further : 5 + index * 5 ≡ suc index * 5
              further = omega arith

          onward : PadsGo height width left (cells ++ (c ∷ [])) (drop 5 bytes) → PadsGo height width (suc left) cells bytes
          onward (all_read rest count all there same) =
              all_read (c ∷ rest) (ap suc count) packs (ap (λ (l : List ℕ). packed_cell c ++ l) there ∙ ap (λ (l : List ℕ). l ++ drop 5 bytes) (pad_there (take 5 bytes) c five p) ∙ take-append-drop 5 bytes)
              (pad_read height width left cells bytes p ∙ same ∙ ap (grid_reading height width) (append_snoc cells c rest))
            where
              five : length (take 5 bytes) ≡ 5
              five = length-take-le 5 bytes (omega arith)

              packs : AllPackable (c ∷ rest)
              packs zero below = packable (take 5 bytes) c p
              packs (suc v) below = all v (omega arith)
          onward (one_refused index number below first same) =
              one_refused (suc index) number (omega arith) (record { here = ap packed_pad (sym (shift index)) ∙ first.here; none_before = earlier })
              (pad_read height width left cells bytes p ∙ same ∙ ap (declined_pad number width) counted)
            where
              counted : length (cells ++ (c ∷ [])) + index ≡ length cells + suc index
              counted = omega (arith, length-append cells (c ∷ []))

              earlier : (before : ℕ) → before < suc index → (other : ℕ) → packed_pad (pad_at bytes before) ≡ refused other → ⊥
              earlier zero early other k = let no : ◌≡◌ {A = ℕ} 0 1 = cc in omega arith
              earlier (suc before) early other k = first.none_before before (omega arith) other (ap packed_pad (shift before) ∙ k)

packs_all : (height width : ℕ) (cells : List ℤ) → Accepted height width cells → NoHoles cells → AllPackable cells
packs_all height width cells a none v below = go (a.cells_in_range v (omega (arith, a.one_cell_a_pad)))
  where
    go : CellInRange (get_or cells v blank_cell) → Packable (get_or cells v blank_cell)
    go (inl e) = inl e
    go (inr (inl e)) = absurd (none v below e)
    go (inr (inr code)) = inr code

cells_length : (cells : List ℤ) → length (packed_cells cells) ≡ length cells * 5
unfolding packed_cells
cells_length [] = refl
cells_length (z ∷ cells) = length-append (packed_cell z) (packed_cells cells) ∙ rw (cell_length z, cells_length cells) (omega arith)

module _ (height width : ℕ) where
  cells_read : (rest cells : List ℤ) → AllPackable rest → read_pads height width (length rest) cells (packed_cells rest) ≡ grid_reading height width (cells ++ rest)
  unfolding read_pads packed_cells
  cells_read [] cells all = ap (grid_reading height width) (sym (append-nil cells))
  cells_read (z ∷ rest) cells all =
      pad_read height width (length rest) cells (packed_cell z ++ packed_cells rest) (ap packed_pad (take_at (packed_cell z) (packed_cells rest) 5 (cell_length z)) ∙ pad_packed z (all 0 (omega arith)))
      ∙ ap (read_pads height width (length rest) (cells ++ (z ∷ []))) (drop_at (packed_cell z) (packed_cells rest) 5 (cell_length z))
      ∙ cells_read rest (cells ++ (z ∷ [])) (λ v below. all (suc v) (omega arith))
      ∙ ap (grid_reading height width) (append_snoc cells z rest)

-- for every accepted grid without holes: reading its slice gives the grid
pub slice_is_read : (height width : ℕ) (cells : List ℤ) → Accepted height width cells → NoHoles cells → read_packed (grid_slice height width cells) ≡ grid_reading height width cells
unfolding read_packed grid_slice
slice_is_read height width cells a none =
    whole height width (packed_cells cells) (test_of_size height a.height_in_range) (test_of_size width a.width_in_range) (cells_length cells ∙ ap (λ (n : ℕ). n * 5) a.one_cell_a_pad)
    ∙ ap (λ (n : ℕ). read_pads height width n [] (packed_cells cells)) (sym a.one_cell_a_pad)
    ∙ cells_read height width cells [] (packs_all height width cells a none)

none_yet : InBytes []
none_yet place = omega arith

one_more_byte : (byte : ℕ) (numbers : List ℕ) → IsByte byte → InBytes numbers → InBytes (byte ∷ numbers)
one_more_byte byte numbers fits all zero = fits
one_more_byte byte numbers fits all (suc place) = all place

bytes_append : (first second : List ℕ) → InBytes first → InBytes second → InBytes (first ++ second)
bytes_append [] second all more = more
bytes_append (byte ∷ first) second all more = one_more_byte byte (first ++ second) (all 0) (bytes_append first second (λ place. all (suc place)) more)

number_bytes : (more number : ℕ) → InBytes (packed_number more number)
unfolding packed_number
number_bytes zero number = none_yet
number_bytes (suc more) number = bytes_append (packed_number more (number / 100)) _ (number_bytes more (number / 100)) (one_more_byte _ [] (omega arith) none_yet)

cell_bytes : (z : ℤ) → InBytes (packed_cell z)
unfolding packed_cell
cell_bytes (pos code) = number_bytes 5 code
cell_bytes (negsuc below) = five 5
  where
    five : (n : ℕ) → InBytes (replicate n 255)
    five zero = none_yet
    five (suc n) = one_more_byte 255 (replicate n 255) (omega arith) (five n)

pub slice_in_bytes : (height width : ℕ) (cells : List ℤ) → Accepted height width cells → InBytes (grid_slice height width cells)
unfolding grid_slice packed_cells
slice_in_bytes height width cells a = one_more_byte height (width ∷ packed_cells cells) (omega (arith, a.height_in_range.1)) (one_more_byte width (packed_cells cells) (omega (arith, a.width_in_range.1)) (all cells))
  where
    all : (cells : List ℤ) → InBytes (packed_cells cells)
    all [] = none_yet
    all (z ∷ cells) = bytes_append (packed_cell z) (packed_cells cells) (cell_bytes z) (all cells)

-- a slice whose sizes and length are sound is that of a grid, or is turned away for a pad
module _ (height width : ℕ) (bytes : List ℕ) (h : is_size height ≡ true) (w : is_size width ≡ true) (e : length bytes ≡ height * width * 5) where
  cells_of_grid : (cells : List ℤ) → length cells ≡ height * width → AllPackable cells → packed_cells cells ≡ bytes → read_pads height width (height * width) [] bytes ≡ grid_reading height width cells → SliceOfGrid (height ∷ width ∷ bytes)
  unfolding read_packed grid_slice
  cells_of_grid cells count all there same =
      record {
        height = height;
        width = width;
        cells = cells;
        in_range = record { height_in_range = size_of_test height h; width_in_range = size_of_test width w; one_cell_a_pad = count; cells_in_range = λ v below. in_range (all v (omega (arith, count))) };
        no_holes = λ v below k. not_hole (all v below) k;
        bytes = ap (λ (l : List ℕ). height ∷ width ∷ l) there;
        reading = whole height width bytes h w e ∙ same;
      }
    where
      in_range : {z : ℤ} → Packable z → CellInRange z
      in_range (inl k) = inl k
      in_range (inr code) = inr (inr code)

      not_hole : {z : ℤ} → Packable z → z ≡ hole_cell → ⊥
      not_hole (inl k) n = let no : ◌≡◌ {A = ℕ} 0 1 = cc in omega arith
      not_hole (inr (code, k, below)) n = let no : ◌≡◌ {A = ℕ} 0 1 = cc in omega arith

  pub whole_goes : SliceOfGrid (height ∷ width ∷ bytes) ⊎ RefusedPad height width bytes
  unfolding read_packed
  whole_goes = go (pads_go height width (height * width) [] bytes e)
    where
      go : PadsGo height width (height * width) [] bytes → SliceOfGrid (height ∷ width ∷ bytes) ⊎ RefusedPad height width bytes
      go (all_read rest count all there same) = inl (cells_of_grid rest count all there same)
      go (one_refused index number below first same) =
          inr (record { index = index; number = number; inside = below; first = first; told = refused_with (pad_at bytes index) number first.here; answer = whole height width bytes h w e ∙ same ∙ ap (declined_pad number width) (zero-add index) })

sized_goes : (height width : ℕ) (bytes : List ℕ) → SliceGoes (height ∷ width ∷ bytes)
unfolding read_packed declined_pad
sized_goes height width bytes = go (is_size height) refl (is_size width) refl (ltb (length bytes) (height * width * 5)) refl (ltb (height * width * 5) (length bytes)) refl
  where
    at_pad : SliceOfGrid (height ∷ width ∷ bytes) ⊎ RefusedPad height width bytes → SliceGoes (height ∷ width ∷ bytes)
    at_pad (inl grid) = is_read grid
    at_pad (inr r) = numbered r.told
      where
        numbered : (r.number ≡ 17) ⊎ (r.number ≡ 3) → SliceGoes (height ∷ width ∷ bytes)
        numbered (inl n) = is_turned_away 16 _ _ (r.answer ∙ ap (λ (k : ℕ). declined_pad k width r.index) n)
        numbered (inr n) = is_turned_away 2 _ _ (r.answer ∙ ap (λ (k : ℕ). declined_pad k width r.index) n)

    go : (h : Bool) → is_size height ≡ h → (w : Bool) → is_size width ≡ w → (s : Bool) → ltb (length bytes) (height * width * 5) ≡ s → (l : Bool) → ltb (height * width * 5) (length bytes) ≡ l → SliceGoes (height ∷ width ∷ bytes)
    go false h w w' s s' l l' = is_turned_away 4 _ _ (height_refused height width bytes h)
    go true h false w s s' l l' = is_turned_away 4 _ _ (width_refused height width bytes h w)
    go true h true w true s l l' = is_turned_away 5 _ _ (too_short height width bytes h w (ltb-true _ _ s))
    go true h true w false s true l = is_turned_away 5 _ _ (too_long height width bytes h w (ltb-true _ _ l))
    go true h true w false s false l = at_pad (whole_goes height width bytes h w (omega (arith, ltb-false (length bytes) (height * width * 5) s, ltb-false (height * width * 5) (length bytes) l)))

pub slice_goes : (slice : List ℕ) → SliceGoes slice
unfolding read_packed
slice_goes [] = is_turned_away 5 1 1 refl
slice_goes (height ∷ []) = is_turned_away 5 1 1 refl
slice_goes (height ∷ width ∷ bytes) = sized_goes height width bytes

-- for every accepted slice: it is the slice of an accepted grid without holes, byte for byte, and is read as this grid
pub accepted_is_slice : (slice : List ℕ) → (read_packed slice).number ≡ 0 → SliceOfGrid slice
accepted_is_slice slice accepted = go (slice_goes slice)
  where
    go : SliceGoes slice → SliceOfGrid slice
    go (is_turned_away number line field e) = let no : suc number ≡ 0 = rw e at accepted in absurd (omega arith)
    go (is_read grid) = grid

-- ## What every reading of a slice gives

grid_sound : (height width : ℕ) (cells : List ℤ) → Accepted height width cells → SoundReading (grid_reading height width cells)
grid_sound height width cells a =
    record {
      cell_count = length-append cells (replicate (256 - length cells) blank) ∙ rw (length-replicate (256 - length cells) blank) (omega (arith, few, a.one_cell_a_pad));
      in_range = λ e. rw (take_at cells (replicate (256 - length cells) blank) (height * width) a.one_cell_a_pad) a;
      pads_in_cells = few;
    }
  where
    few : height * width ≤ 256
    few = mul-le-mul a.height_in_range.1 a.width_in_range.1

-- 256 cells; where the slice is accepted, its H, W and first HW cells are a grid in range
pub packed_sound : (slice : List ℕ) → SoundReading (read_packed slice)
packed_sound slice = go (slice_goes slice)
  where
    go : SliceGoes slice → SoundReading (read_packed slice)
    go (is_turned_away number line field e) = rw e (declined_sound number line field)
    go (is_read grid) = rw grid.reading (grid_sound grid.height grid.width grid.cells grid.in_range)

-- a short slice names it, and it is one of the grid's
pub short_named : (height width : ℕ) (bytes : List ℕ) → length bytes < height * width * 5 → FirstNotWhole bytes (length bytes / 5) × (length bytes / 5 < height * width)
short_named height width bytes short = (record { cut = omega arith; whole_before = λ before early. omega arith }, omega arith)

pub pad_named : (number width index : ℕ) → 1 ≤ width → LineAndField width index (declined_pad number width index).line (declined_pad number width index).field
unfolding declined_pad
pad_named number width index some = record { a_row = omega arith; from_1 = omega arith; within = omega (arith, mod-lt index some); its_pad = rw (line_back, field_back) (div-add-mod' index width) }
  where
    line_back : 2 + index / width - 2 ≡ index / width
    line_back = omega arith

    field_back : 1 + index % width - 1 ≡ index % width
    field_back = omega arith
