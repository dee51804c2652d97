-- What is proved of the definitions in specs/AlikeEnds.antt.
use Rattle.std.specs.Prelude.{ℕ, ◌≡◌, false, ◌||◌}
use Rattle.std.proofs.Math.Path.{refl, ap}
use Rattle.std.proofs.Common.{sym}
use Rattle.std.proofs.Math.Bool.{not}
use Rattle.rules.specs.Grid.{Grid}
use Rattle.model.specs.JoinedEnds.{End, unjoinable}
use Rattle.alike.specs.Alike.{Alike}
use Rattle.alike.specs.AlikeEnds.{AlikeEnds, both_through, both_at_pad, both_at_clue}

module _ {g h : Grid} (alike : Alike g h) where
  -- ENDS THAT CANNOT BE JOINED: here equal codes count
  pub unjoinable_alike : {A B C D : End} → AlikeEnds g h A C → AlikeEnds g h B D → (v : ℕ) → unjoinable C D v ≡ unjoinable A B v
  unfolding unjoinable
  unjoinable_alike both_through b v = refl
  unjoinable_alike (both_at_pad u) both_through v = refl
  unjoinable_alike (both_at_pad u) (both_at_pad w) v = refl
  unjoinable_alike (both_at_pad u) (both_at_clue w p q) v = refl
  unjoinable_alike (both_at_clue u m n) both_through v = refl
  unjoinable_alike (both_at_clue u m n) (both_at_pad w) v = refl
  unjoinable_alike (both_at_clue u m n) (both_at_clue w p q) v = ap (λ b. not b || false) (sym (alike.equal_codes u w _ _ _ _ m p n q))
