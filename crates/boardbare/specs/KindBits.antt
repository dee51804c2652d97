-- The six bits of a pad's kind: each test of the byte gives back its fact. The test of all 64 bytes is computed. It rests on BareArrays.antt.
use Rattle.std.specs.Prelude.{ℕ, ◌≡◌, refl, Bool, true, false, ◌&&◌, not, eqb, get_or, List}
use Rattle.std.proofs.Common.{sym}
use Rattle.std.specs.Int.Bits.{bit_and}
use Rattle.rules.specs.Tests.{both}
use Rattle.boardview.specs.Told.{has_bit}
use Rattle.boardbare.specs.BareArrays.{kind_byte}

-- a test that holds of both
abbrev all_bools : (Bool → Bool) → Bool
all_bools f = f true && f false

all_bools_at : (f : Bool → Bool) → all_bools f ≡ true → (b : Bool) → f b ≡ true
all_bools_at f h true = (both (f true) (f false) h).0
all_bools_at f h false = (both (f true) (f false) h).1

abbrev same_bool : Bool → Bool → Bool
same_bool true b = b
same_bool false b = not b

same_bool_sound : (a b : Bool) → same_bool a b ≡ true → a ≡ b
same_bool_sound true b h = sym h
same_bool_sound false true h = h
same_bool_sound false false h = refl

abbrev bit_test : ℕ → ℕ → Bool
bit_test byte bit = not (eqb (bit_and byte bit) 0)

abbrev bits_right : Bool → Bool → Bool → Bool → Bool → Bool → Bool
bits_right a b c d e f = same_bool (bit_test (kind_byte a b c d e f) 1) a && (same_bool (bit_test (kind_byte a b c d e f) 2) b
    && (same_bool (bit_test (kind_byte a b c d e f) 4) c && (same_bool (bit_test (kind_byte a b c d e f) 8) d
    && (same_bool (bit_test (kind_byte a b c d e f) 16) e && same_bool (bit_test (kind_byte a b c d e f) 32) f))))

-- for every choice of the last facts
abbrev last_1 : Bool → Bool → Bool → Bool → Bool → Bool
last_1 a b c d e = all_bools (bits_right a b c d e)

abbrev last_2 : Bool → Bool → Bool → Bool → Bool
last_2 a b c d = all_bools (last_1 a b c d)

abbrev last_3 : Bool → Bool → Bool → Bool
last_3 a b c = all_bools (last_2 a b c)

abbrev last_4 : Bool → Bool → Bool
last_4 a b = all_bools (last_3 a b)

abbrev last_5 : Bool → Bool
last_5 a = all_bools (last_4 a)

all_right : all_bools last_5 ≡ true
unfolding kind_byte
all_right = refl

right : (a b c d e f : Bool) → bits_right a b c d e f ≡ true
right a b c d e f = all_bools_at (bits_right a b c d e) (all_bools_at (last_1 a b c d) (all_bools_at (last_2 a b c)
    (all_bools_at (last_3 a b) (all_bools_at (last_4 a) (all_bools_at last_5 all_right a) b) c) d) e) f

-- EACH BIT of a byte of a list
pub record SixBits (kind : List ℕ) (v : ℕ) (a b c d e f : Bool) : Type 0 where
  pub clue : has_bit kind v 1 ≡ a
  pub bar_right : has_bit kind v 2 ≡ b
  pub bar_left : has_bit kind v 4 ≡ c
  pub corner_right : has_bit kind v 8 ≡ d
  pub corner_left : has_bit kind v 16 ≡ e
  pub taken : has_bit kind v 32 ≡ f

pub six_bits : (kind : List ℕ) (v : ℕ) (a b c d e f : Bool) → get_or kind v 0 ≡ kind_byte a b c d e f → SixBits kind v a b c d e f
unfolding has_bit
six_bits kind v a b c d e f h =
    let first = both _ _ (right a b c d e f) in
    let second = both _ _ first.1 in
    let third = both _ _ second.1 in
    let fourth = both _ _ third.1 in
    let fifth = both _ _ fourth.1 in
    record {
      clue = rw h (same_bool_sound _ _ first.0);
      bar_right = rw h (same_bool_sound _ _ second.0);
      bar_left = rw h (same_bool_sound _ _ third.0);
      corner_right = rw h (same_bool_sound _ _ fourth.0);
      corner_left = rw h (same_bool_sound _ _ fifth.0);
      taken = rw h (same_bool_sound _ _ fifth.1);
    }
