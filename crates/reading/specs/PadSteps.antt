-- Reading packed decimal, taken test by test and pad by pad: what a slice gives after each test, and what one pad does. The reader's
-- proof and the theorems on slices and files both stand on it. Assumes nothing.
use Rattle.std.specs.Prelude.{◌≡◌, refl, true, false, List, [], ◌∷◌, ◌++◌, ℕ, suc, ◌+◌, ◌*◌, ◌/◌, ◌≤◌, ◌<◌, get_or, take, drop, ℤ}
use native.Mathlib.Omega.{arith}
use Rattle.std.proofs.Math.ListN.{length}
use borrow.Author.Tests.{lt-ltb, le-ltb}
use Rattle.model.specs.Bounds.{is_size}
use Rattle.model.specs.GridFile.{declined_reading}
use Rattle.model.specs.Packed.{cell, refused, packed_pad, declined_pad, read_pads, read_sized, read_packed}

-- ## The tests before the pads

pub below_two : (bytes : List ℕ) → length bytes < 2 → read_packed bytes ≡ declined_reading 6 1 1
unfolding read_packed
below_two [] h = refl
below_two (height ∷ []) h = refl
below_two (height ∷ width ∷ bytes) h = absurd (omega arith)

pub two_at_least : (bytes : List ℕ) → 2 ≤ length bytes → read_packed bytes ≡ read_sized (get_or bytes 0 0) (get_or bytes 1 0) (drop 2 bytes)
unfolding read_packed
two_at_least [] h = absurd (omega arith)
two_at_least (height ∷ []) h = absurd (omega arith)
two_at_least (height ∷ width ∷ bytes) h = refl

module _ (height width : ℕ) (bytes : List ℕ) where
  pub height_refused : is_size height ≡ false → read_sized height width bytes ≡ declined_reading 5 1 1
  unfolding read_sized
  height_refused h = rw h

  module _ (h : is_size height ≡ true) where
    pub width_refused : is_size width ≡ false → read_sized height width bytes ≡ declined_reading 5 1 2
    unfolding read_sized
    width_refused w = rw (h, w)

    module _ (w : is_size width ≡ true) where
      pub too_short : length bytes < height * width * 5 → read_sized height width bytes ≡ declined_pad 6 width (length bytes / 5)
      unfolding read_sized
      too_short short = rw (h, w, lt-ltb _ _ short)

      pub too_long : height * width * 5 < length bytes → read_sized height width bytes ≡ declined_reading 6 (height + 2) 1
      unfolding read_sized
      too_long long = let enough : height * width * 5 ≤ length bytes = omega arith in rw (h, w, le-ltb _ _ enough, lt-ltb _ _ long)

      pub whole : length bytes ≡ height * width * 5 → read_sized height width bytes ≡ read_pads height width (height * width) [] bytes
      unfolding read_sized
      whole e =
          let enough : height * width * 5 ≤ length bytes = omega arith in
          let no_more : length bytes ≤ height * width * 5 = omega arith in
          rw (h, w, le-ltb _ _ enough, le-ltb _ _ no_more)

-- ## One pad

module _ (height width left : ℕ) (cells : List ℤ) (bytes : List ℕ) where
  pub pad_read : {c : ℤ} → packed_pad (take 5 bytes) ≡ cell c → read_pads height width (suc left) cells bytes ≡ read_pads height width left (cells ++ (c ∷ [])) (drop 5 bytes)
  unfolding read_pads
  pad_read e = rw (e, read_pads)

  pub pad_refused : {number : ℕ} → packed_pad (take 5 bytes) ≡ refused number → read_pads height width (suc left) cells bytes ≡ declined_pad number width (length cells)
  unfolding read_pads
  pad_refused e = rw (e, read_pads)
