-- What the code's ends say where they name no pad, or no clue.
use Rattle.std.specs.Prelude.{ℕ, ◌≡◌, Bool, true, false, ◌||◌, List, ℤ, suc, eqb}
use Rattle.std.proofs.Common.{refl}
use Rattle.model.specs.JoinedEnds.{at_pad, unjoinable}
use Rattle.boardview.specs.View.{put_number, code_number, rival}
use Rattle.boardparts.specs.Ends.{end_told}
use Rattle.boardparts.specs.declared.End.{End}
use Rattle.boardparts.specs.declared.End.TheVariants.{Through, Pad, Clue}

pub none_named : (end : End) → ((v : ℕ) → end ≡ Pad v → ⊥) → (z : ℤ) (l : List ℤ) → l ≡ put_number (end_told end) z l
unfolding put_number
none_named Through other z l = refl
none_named (Pad v) other z l = absurd (other v refl)
none_named (Clue code) other z l = refl

pub no_clue : (end : End) → ((code : ℕ) → end ≡ Clue code → ⊥) → code_number (end_told end) ≡ 0
unfolding code_number
no_clue Through other = refl
no_clue (Pad v) other = refl
no_clue (Clue code) other = absurd (other code refl)

pub no_rival : (end : End) → ((code : ℕ) → end ≡ Clue code → ⊥) → (code : ℕ) → false ≡ rival (suc code) (code_number (end_told end))
unfolding rival
no_rival end other code = rw (no_clue end other) refl

-- a chain whose end is a pad may be closed by that pad alone, where the other pad can take a line
pub ends_at_pad : (end : End) → (end ≡ Through → ⊥) → (a q : ℕ) → eqb a q ≡ unjoinable (at_pad a) (end_told end) q
unfolding unjoinable
ends_at_pad Through other a q = absurd (other refl)
ends_at_pad (Pad v) other a q = refl
ends_at_pad (Clue code) other a q = refl

pub or_nothing : (b : Bool) → b ≡ b || false
or_nothing true = refl
or_nothing false = refl
