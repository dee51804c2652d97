-- Laws of the numbers as the code holds them: what the sign of an i64 says of the end that it stands for, that -2 - a is exact where a clue's
-- end is read, and that a slot and an end go through the log unchanged. It rests on View.antt and on the kit's account of i64.
use Rattle.std.specs.Prelude.{◌≡◌, true, false, List, get_or, length, ℤ, pos, negsuc, nat_abs, ◌-ℤ◌, T}
use Rattle.std.proofs.Math.Path.{refl}
use Rattle.std.proofs.Common.{sym, ap, ◌∙◌, true≢false, arith, SFits, Fits, to_z, of_z, ltb-true, le-ltb}
use Prim.Native.Nat.{ℕ, zero, suc, ◌^◌, ◌<◌}
use Rattle.std.specs.Int.Signed.{lt_z, non_neg}
use Rattle.std.specs.Int.{w64}
use Rattle.std.proofs.lemmas.Int.{to_z-of_z, to_z_pos}
use Rattle.model.specs.JoinedEnds.{through, at_pad, at_clue}
use Rattle.boardview.specs.View.{end_of}
use Rattle.model.specs.Lists.{default_free}

pub back : (z : ℤ) → SFits w64 z → to_z w64 (of_z w64 z) ≡ z
back z f = to_z-of_z w64 z f

pub from_bits : (z : ℤ) (n : ℕ) → SFits w64 z → of_z w64 z ≡ n → z ≡ to_z w64 n
from_bits z n f e = sym (back z f) ∙ ap (to_z w64) e

pub negative : (e : ℤ) → SFits w64 e → lt_z (to_z w64 (of_z w64 e)) (pos 0) ≡ true → (k : ℕ) × (e ≡ negsuc k)
negative e f h = signs e (rw (back e f) at h)
  where
    signs : (e : ℤ) → lt_z e (pos 0) ≡ true → (k : ℕ) × (e ≡ negsuc k)
    signs (pos k) h = absurd (omega (arith, ltb-true k 0 h))
    signs (negsuc k) h = (k, refl)

pub not_negative : (e : ℤ) → SFits w64 e → lt_z (to_z w64 (of_z w64 e)) (pos 0) ≡ false → (n : ℕ) × (e ≡ pos n) × (n < 2 ^ 63)
not_negative e f h = signs e f (rw (back e f) at h)
  where
    signs : (e : ℤ) → SFits w64 e → lt_z e (pos 0) ≡ false → (n : ℕ) × (e ≡ pos n) × (n < 2 ^ 63)
    signs (pos k) f h = (k, refl, f.sfits)
    signs (negsuc k) f h = absurd (true≢false h)

pub cast_pad : (e : ℤ) → SFits w64 e → (n : ℕ) × (e ≡ pos n) × (n < 2 ^ 63) → T (non_neg (to_z w64 (of_z w64 e))) × Fits w64 (nat_abs (to_z w64 (of_z w64 e)))
cast_pad e f h = rw (back e f, h.1) (tt, record { fits = omega (arith, h.2) })

-- WHAT A NUMBER SAYS
pub through_is : (e : ℤ) → SFits w64 e → of_z w64 e ≡ of_z w64 (negsuc 0) → through ≡ end_of e
unfolding end_of
through_is e f h = rw (from_bits e _ f h) refl

pub pad_is : (e : ℤ) → SFits w64 e → (n : ℕ) × (e ≡ pos n) × (n < 2 ^ 63) → at_pad (nat_abs (to_z w64 (of_z w64 e))) ≡ end_of e
unfolding end_of
pad_is e f h = rw (back e f, h.1) refl

minus_two : (k : ℕ) → negsuc 1 -ℤ negsuc (suc k) ≡ pos k
minus_two k = rw (le-ltb (suc (suc k)) 2 (omega arith)) (ap pos (omega arith))

pub clue_is : (e : ℤ) → SFits w64 e → (of_z w64 e ≡ of_z w64 (negsuc 0) → ⊥) → (k : ℕ) × (e ≡ negsuc k) → at_clue (nat_abs (to_z w64 (of_z w64 (negsuc 1 -ℤ to_z w64 (of_z w64 e))))) ≡ end_of e
unfolding end_of
clue_is e f n h = go h.0 h.1
  where
    go : (k : ℕ) → e ≡ negsuc k → at_clue (nat_abs (to_z w64 (of_z w64 (negsuc 1 -ℤ to_z w64 (of_z w64 e))))) ≡ end_of e
    go zero q = absurd (n (ap (of_z w64) q))
    go (suc k) q = let small = rw q at f in
        rw (back e f, q, minus_two k, back (pos k) (record { sfits = omega (arith, small.sfits) })) refl

-- A SLOT AND A READ END in the log
pub slot_number : (n : ℕ) → n < 1024 → to_z w64 n ≡ pos n
slot_number n h = to_z_pos w64 n (omega arith)

pub end_copied : (ends : List ℤ) (v : ℕ) → v < 512 → length ends ≡ 512 → SFits w64 (get_or ends v (pos 0)) → to_z w64 (of_z w64 (get_or ends v (pos 0))) ≡ get_or ends v (pos v)
end_copied ends v h l f = back (get_or ends v (pos 0)) f ∙ default_free ends v (pos 0) (pos v) (omega arith)

-- A SLOT in the log
pub slot_cast : (z : ℤ) (n : ℕ) → SFits w64 z → z ≡ pos n → T (non_neg (to_z w64 (of_z w64 z))) × Fits w64 (nat_abs (to_z w64 (of_z w64 z)))
slot_cast z n f e = cast_pad z f (n, e, let g = rw e at f in g.sfits)

pub slot_read : (z : ℤ) → SFits w64 z → nat_abs (to_z w64 (of_z w64 z)) ≡ nat_abs z
slot_read z f = ap nat_abs (back z f)
