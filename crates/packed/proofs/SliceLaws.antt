-- What the loop over the pads keeps, what each pad makes of it, and what the whole slice gives after each test. It rests on the reading
-- taken test by test and pad by pad (reading/specs/PadSteps.antt).
use mathlib.Core.Path.{◌≡◌, refl, sym, ap, ◌∙◌}
use mathlib.Core.Bool.{true, false}
use mathlib.Core.Logic.{inl, inr}
use mathlib.Core.List.{List, [], ◌∷◌, ◌++◌, append_assoc}
use Prim.Native.Nat.{ℕ, suc, ◌+◌, ◌*◌, ◌-◌, ◌/◌, ◌≤◌, ◌<◌}
use native.Mathlib.Nat.{mul-le-mul, sub-zero}
use native.Mathlib.Omega.{arith}
use lib.ListN.{length, get_or, take, drop, set, replicate, length-append, length-drop}
use lib.Seq.{set_at, drop-drop}
use lib.IntN.{ℤ}
use mir.Syntax.{w64}
use mir.Val.{SFits, to_z, of_z}
use mir.ValLaws.{to_z-of_z}
use Rattle.rules.specs.Grid.{Accepted}
use Rattle.model.specs.Bounds.{is_size}
use Rattle.model.specs.RefusalLaws.{size_of_test}
use Rattle.model.specs.GridFile.{Reading, blank, no_cells, declined_reading}
use Rattle.model.specs.Packed.{cell, refused, packed_pad, declined_pad, read_pads, read_sized, read_packed}
use Rattle.reading.specs.PadSteps.{below_two, two_at_least, height_refused, width_refused, too_short, too_long, whole, pad_read, pad_refused}
use Rattle.reading.specs.PackedPads.{Packable, packable}
use Rattle.reading.proofs.PackedSlices.{packed_sound}

-- ## The part of the slice that is a pad

module _ (from : ℕ) (bytes : List ℕ) where
  pub pad_part : take (from + 5 - from) (drop from bytes) ≡ take 5 (drop from bytes)
  pad_part = ap (λ (n : ℕ). take n (drop from bytes)) five
    where
      five : from + 5 - from ≡ 5
      five = omega arith

-- ## What a pad's answer tells

-- the cell of a pad fits the array's numbers
pub cell_back : (five : List ℕ) {z : ℤ} → packed_pad five ≡ cell z → to_z w64 (of_z w64 z) ≡ z
cell_back five {z} e = to_z-of_z w64 z (go (packable five z e))
  where
    go : Packable z → SFits w64 z
    go (inl k) = rw k (record { sfits = omega arith })
    go (inr (code, k, below)) = rw k (record { sfits = omega arith })

-- ## The loop over the pads

pub pads_fit : (height width : ℕ) → is_size height ≡ true → is_size width ≡ true → height * width ≤ 256
pads_fit height width h w = mul-le-mul (size_of_test _ h).1 (size_of_test _ w).1

-- the cells so far stand in the array, with blank ones behind them, and reading on from here is what reading all pads comes to
pub record Reached (bytes : List ℕ) (height width : ℕ) (cells : List ℤ) (index : ℕ) : Type 0 where
  pub so_far : List ℤ
  pub counted : length so_far ≡ index
  pub array : cells ≡ so_far ++ replicate (256 - index) blank
  pub within : index ≤ height * width
  pub same : read_pads height width (height * width - index) so_far (drop (2 + index * 5) bytes) ≡ read_pads height width (height * width) [] (drop 2 bytes)

pub pads_begin : (bytes : List ℕ) (height width : ℕ) {cells : List ℤ} → cells ≡ no_cells → Reached bytes height width cells 0
unfolding no_cells
pads_begin bytes height width e = record { so_far = []; counted = refl; array = e; within = omega arith; same = rw (sub-zero (height * width)) refl }

module _ {bytes : List ℕ} {height width : ℕ} {cells : List ℤ} {index : ℕ} (r : Reached bytes height width cells index) where
  pub all_read : height * width ≤ index → record { number = 0; line = 0; field = 0; height = height; width = width; cells = cells } ≡ read_pads height width (height * width) [] (drop 2 bytes)
  unfolding read_pads
  all_read h = rw r.array (ap (λ (n : ℕ). record { number = 0; line = 0; field = 0; height = height; width = width; cells = r.so_far ++ replicate (256 - n) blank }) (sym r.counted) ∙ ap (λ (n : ℕ). read_pads height width n r.so_far (drop (2 + index * 5) bytes)) none_left) ∙ r.same
    where
      none_left : 0 ≡ height * width - index
      none_left = omega (arith, r.within)

  -- the pad lies in the slice
  pub inside : index < height * width → length bytes ≡ 2 + height * width * 5 → 2 + index * 5 + 5 ≤ length bytes
  inside left e = let more : suc index * 5 ≤ height * width * 5 = mul-le-mul left (omega arith) in omega (arith, e)

  module _ (left : index < height * width) {five : List ℕ} (part : five ≡ take 5 (drop (2 + index * 5) bytes)) where
    one_more : height * width - index ≡ suc (height * width - (index + 1))
    one_more = omega arith

    pub refused_here : {number : ℕ} → packed_pad five ≡ refused number → declined_pad number width index ≡ read_pads height width (height * width) [] (drop 2 bytes)
    refused_here {number} e = ap (declined_pad number width) (sym r.counted) ∙ sym (pad_refused height width _ r.so_far _ (ap packed_pad (sym part) ∙ e)) ∙ ap (λ (n : ℕ). read_pads height width n r.so_far (drop (2 + index * 5) bytes)) (sym one_more) ∙ r.same

    pub read_here : {c stored : ℤ} → packed_pad five ≡ cell c → stored ≡ c → is_size height ≡ true → is_size width ≡ true → Reached bytes height width (set cells index stored) (index + 1)
    read_here {c} e s h w =
        record {
          so_far = r.so_far ++ (c ∷ []);
          counted = length-append r.so_far (c ∷ []) ∙ ap (λ (n : ℕ). n + 1) r.counted;
          array = rw (s, r.array, room) (set_at r.so_far blank (replicate (256 - (index + 1)) blank) c index r.counted ∙ simp append_assoc);
          within = omega arith;
          same = ap (λ (n : ℕ). read_pads height width (height * width - (index + 1)) (r.so_far ++ (c ∷ [])) (drop n bytes)) next ∙ ap (read_pads height width (height * width - (index + 1)) (r.so_far ++ (c ∷ []))) (sym (drop-drop 5 (2 + index * 5) bytes)) ∙ sym (pad_read height width _ r.so_far _ (ap packed_pad (sym part) ∙ e)) ∙ ap (λ (n : ℕ). read_pads height width n r.so_far (drop (2 + index * 5) bytes)) (sym one_more) ∙ r.same;
        }
      where
        room : 256 - index ≡ suc (256 - (index + 1))
        room = omega (arith, pads_fit height width h w)

        next : 2 + (index + 1) * 5 ≡ 2 + index * 5 + 5
        next = omega arith

-- ## The whole slice

module _ (bytes : List ℕ) (two : 2 ≤ length bytes) {height width : ℕ} (h : height ≡ get_or bytes 0 0) (w : width ≡ get_or bytes 1 0) where
  sized : {answer : Reading} → read_sized height width (drop 2 bytes) ≡ answer → answer ≡ read_packed bytes
  sized e = sym e ∙ rw (h, w) (sym (two_at_least bytes two))

  pub bad_height : is_size height ≡ false → declined_reading 5 1 1 ≡ read_packed bytes
  bad_height out = sized (height_refused height width (drop 2 bytes) out)

  module _ (tall : is_size height ≡ true) where
    pub bad_width : is_size width ≡ false → declined_reading 5 1 2 ≡ read_packed bytes
    bad_width out = sized (width_refused height width (drop 2 bytes) tall out)

    module _ (wide : is_size width ≡ true) where
      pub short_slice : (length bytes - 2) / 5 < height * width → declined_pad 6 width ((length bytes - 2) / 5) ≡ read_packed bytes
      short_slice few = rw (← length-drop 2 bytes) (sized (too_short height width (drop 2 bytes) tall wide (rw (length-drop 2 bytes) (omega arith))))

      pub long_slice : height * width * 5 < length bytes - 2 → declined_reading 6 (height + 2) 1 ≡ read_packed bytes
      long_slice more = sized (too_long height width (drop 2 bytes) tall wide (rw (length-drop 2 bytes) more))

      pub whole_slice : height * width ≤ (length bytes - 2) / 5 → length bytes - 2 ≤ height * width * 5 → read_pads height width (height * width) [] (drop 2 bytes) ≡ read_packed bytes
      whole_slice enough no_more = sized (whole height width (drop 2 bytes) tall wide (length-drop 2 bytes ∙ (omega arith)))

-- what was read of the pads is a grid
pub grid_read : {height width : ℕ} {cells : List ℤ} → is_size height ≡ true → is_size width ≡ true → (pads : List ℕ) → length pads ≡ height * width * 5 → record { number = 0; line = 0; field = 0; height = height; width = width; cells = cells } ≡ read_pads height width (height * width) [] pads → Accepted height width (take (height * width) cells)
unfolding read_packed
grid_read {height} {width} tall wide pads long is = (rw (whole height width pads tall wide long ∙ sym is) at (packed_sound (height ∷ width ∷ pads))).in_range refl

-- what the proofs of the functions of a slice are found by
pub ruleset slice_laws = (pad_part, cell_back, pads_fit, pads_begin, all_read, inside, refused_here, read_here, bad_height, bad_width, short_slice, long_slice, whole_slice, grid_read, size_of_test, below_two)
