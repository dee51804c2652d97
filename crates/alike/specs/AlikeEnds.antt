-- Ends on alike grids: where a line joins ends in one grid, it joins ends that are alike in the other, and where it cannot, it cannot there
-- either. Boards and the judge of a drawing both follow these laws. It rests on Alike.antt and on the model's JoinedEnds.antt.
-- What is proved of them stands in proofs/AlikeEnds.antt.
use Rattle.std.specs.Prelude.{ℕ, ◌≡◌, Bool, true, false, eqb}
use Rattle.std.proofs.Math.Path.{refl}
use Rattle.std.proofs.Common.{true≢false}
use Rattle.std.proofs.lemmas.Bool.{false≢true}
use Rattle.rules.specs.Grid.{Cell, blank, clue, hole, Grid}
use Rattle.model.specs.PadTests.{is_blank, is_hole}
use Rattle.model.specs.JoinedEnds.{End, through, at_pad, at_clue, bare_end, pick_end, put_end, put_end_at, joined_ends}
use Rattle.alike.specs.Alike.{Alike}

-- ALIKE ENDS: both are through, both at the same pad, or both at clues whose codes one pad carries in the two grids
pub data AlikeEnds (g h : Grid) : End → End → Type 0 where
  both_through : AlikeEnds g h through through
  both_at_pad : (v : ℕ) → AlikeEnds g h (at_pad v) (at_pad v)
  both_at_clue : {c d : ℕ} (v : ℕ) → g.cell v ≡ clue c → h.cell v ≡ clue d → AlikeEnds g h (at_clue c) (at_clue d)

-- and at every pad
abbrev pub AlikeEverywhere : Grid → Grid → (ℕ → End) → (ℕ → End) → Type 0
AlikeEverywhere g h A B = (v : ℕ) → AlikeEnds g h (A v) (B v)

-- ENDS JOINED
module _ {g h : Grid} where
  pick_alike : {X Y A B : End} (b : Bool) → AlikeEnds g h X Y → AlikeEnds g h A B → AlikeEnds g h (pick_end b X A) (pick_end b Y B)
  pick_alike true x a = x
  pick_alike false x a = a

  put_alike : {A B : ℕ → End} (v : ℕ) {X Y : End} → AlikeEverywhere g h A B → AlikeEnds g h X Y → AlikeEverywhere g h (put_end A v X) (put_end B v Y)
  unfolding put_end
  put_alike v all x u = pick_alike (eqb u v) x (all u)

  put_at_alike : {A B : ℕ → End} {P Q X Y : End} → AlikeEverywhere g h A B → AlikeEnds g h P Q → AlikeEnds g h X Y
      → AlikeEverywhere g h (put_end_at A P X) (put_end_at B Q Y)
  unfolding put_end_at
  put_at_alike all both_through x = all
  put_at_alike all (both_at_pad v) x = put_alike v all x
  put_at_alike all (both_at_clue v p q) x = all

  pub joined_alike : {A B : ℕ → End} (u v : ℕ) {P Q X Y : End} → AlikeEverywhere g h A B → AlikeEnds g h P Q → AlikeEnds g h X Y
      → AlikeEverywhere g h (joined_ends A u v P X) (joined_ends B u v Q Y)
  unfolding joined_ends
  joined_alike u v all p x = put_at_alike (put_at_alike (put_alike v (put_alike u all both_through) both_through) p x) x p

module _ {g h : Grid} (alike : Alike g h) where
  -- THE ENDS WHERE THERE IS NO LINE YET
  pub bare_end_alike : AlikeEverywhere g h (λ v. bare_end v (g.cell v)) (λ v. bare_end v (h.cell v))
  bare_end_alike v = go (g.cell v) refl (h.cell v) refl (alike.same_blanks v) (alike.same_holes v)
    where
      go : (C : Cell) → g.cell v ≡ C → (D : Cell) → h.cell v ≡ D → is_blank C ≡ is_blank D → is_hole C ≡ is_hole D → AlikeEnds g h (bare_end v C) (bare_end v D)
      go blank p blank q same_blank same_hole = both_at_pad v
      go blank p (clue d) q same_blank same_hole = absurd (true≢false same_blank)
      go blank p hole q same_blank same_hole = both_at_pad v
      go (clue c) p blank q same_blank same_hole = absurd (false≢true same_blank)
      go (clue c) p (clue d) q same_blank same_hole = both_at_clue v p q
      go (clue c) p hole q same_blank same_hole = absurd (false≢true same_hole)
      go hole p blank q same_blank same_hole = both_at_pad v
      go hole p (clue d) q same_blank same_hole = absurd (true≢false same_hole)
      go hole p hole q same_blank same_hole = both_at_pad v
