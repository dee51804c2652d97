-- Laws of lines and chains that hold whatever the lines are: pads that are not blank, joining the same clue pads, what is known of a pad
-- with two lines, and the lines of a pad carried over to other lines. It rests on the rules' Drawing.antt alone.
use Rattle.std.specs.Prelude.{ℕ, ◌≡◌, refl, ◌≢◌, ◌⊎◌, ◌↔◌}
use Rattle.std.proofs.Common.{sym, ◌∙◌, ap, inl, inr, ⊎_elim}
use Rattle.std.proofs.Math.Logic.{⊎_map}
use Rattle.rules.specs.Grid.{Cell, blank, clue, hole}
use Rattle.rules.specs.Places.{zero≢one}
use Rattle.rules.specs.Drawing.{Relation, Joined, NoLine, OneLine, TwoLines, Wired}

-- the lines L and M join the same clue pads pair by pair (for the lines of two drawings of one grid this is the rules' SamePairs)
abbrev pub ClueAt : (ℕ → Cell) → ℕ → Type 0
ClueAt cell v = (code : ℕ) × (cell v ≡ clue code)

abbrev pub JoinSame : (ℕ → Cell) → Relation → Relation → Type 0
JoinSame cell L M = (u v : ℕ) → ClueAt cell u → ClueAt cell v → Joined L u v ↔ Joined M u v

-- a clue is not blank, nor is a hole
pub clue_not_blank : {C : Cell} → (code : ℕ) × (C ≡ clue code) → C ≢ blank
clue_not_blank (code, clue_is) blank_is = zero≢one (cc)

pub hole_not_blank : {C : Cell} → C ≡ hole → C ≢ blank
hole_not_blank hole_is blank_is = zero≢one (cc)

pub blank_or_not : (C : Cell) → (C ≡ blank) ⊎ (C ≢ blank)
blank_or_not blank = inl refl
blank_or_not (clue code) = inr (clue_not_blank (code, refl))
blank_or_not hole = inr (hole_not_blank refl)

-- a pad that is not blank is another than a blank one
pub other_than_blank : (cell : ℕ → Cell) (v w : ℕ) → cell v ≢ blank → cell w ≡ blank → v ≢ w
other_than_blank cell v w not_blank blank_is e = not_blank (ap cell e ∙ blank_is)

-- a pad with two known lines is blank and has no other line
module _ {cell : ℕ → Cell} {L : Relation} (wired : Wired cell L) {p a c : ℕ} (pa : L p a) (pc : L p c) (a≢c : a ≢ c) where
  pub two_lines_blank : cell p ≡ blank
  two_lines_blank = go (cell p) refl
    where
      go : (C : Cell) → cell p ≡ C → cell p ≡ blank
      go blank e = e
      go (clue code) e = let o = wired.clue_one p code e in absurd (a≢c (o.only a pa ∙ sym (o.only c pc)))
      go hole e = absurd (wired.hole_none p e a pa)

  pub two_lines_only : (y : ℕ) → L p y → (y ≡ a) ⊎ (y ≡ c)
  two_lines_only y l =
      ⊎_elim (λ none. absurd (none y l)) (λ o. go o (o.only a pa) (o.only c pc) (o.only y l)) (wired.blank_none_or_two p two_lines_blank)
    where
      go : (o : TwoLines L p) → (a ≡ o.to) ⊎ (a ≡ o.also_to) → (c ≡ o.to) ⊎ (c ≡ o.also_to) → (y ≡ o.to) ⊎ (y ≡ o.also_to)
          → (y ≡ a) ⊎ (y ≡ c)
      go o (inl f) (inl q) r = absurd (a≢c (f ∙ sym q))
      go o (inr f) (inr q) r = absurd (a≢c (f ∙ sym q))
      go o (inl f) (inr q) (inl r) = inl (r ∙ sym f)
      go o (inl f) (inr q) (inr r) = inr (r ∙ sym q)
      go o (inr f) (inl q) (inl r) = inr (r ∙ sym q)
      go o (inr f) (inl q) (inr r) = inl (r ∙ sym f)

-- the lines M of pad v are the lines L of pad w, with the pads that they lead to renamed by an involution: so they are as many
pub record LinesRenamed (L M : Relation) (v w : ℕ) : Type 0 where
  pub rename : ℕ → ℕ
  pub twice : (x : ℕ) → rename (rename x) ≡ x
  pub to_old : (y : ℕ) → M v y → L w (rename y)
  pub to_new : (y : ℕ) → L w y → M v (rename y)

module _ {L M : Relation} {v w : ℕ} (r : LinesRenamed L M v w) where
  renamed_back : (x y : ℕ) → r.rename x ≡ y → x ≡ r.rename y
  renamed_back x y e = sym (r.twice x) ∙ ap r.rename e

  pub still_apart : (x y : ℕ) → x ≢ y → r.rename x ≢ r.rename y
  still_apart x y n e = n (renamed_back x (r.rename y) e ∙ r.twice y)

  pub carry_none : NoLine L w → NoLine M v
  carry_none none y m = none (r.rename y) (r.to_old y m)

  pub carry_one : OneLine L w → OneLine M v
  carry_one o = record {
    to = r.rename o.to;
    line = r.to_new o.to o.line;
    only = λ y m. renamed_back y o.to (o.only (r.rename y) (r.to_old y m));
  }

  pub carry_two : TwoLines L w → TwoLines M v
  carry_two o = record {
    to = r.rename o.to;
    also_to = r.rename o.also_to;
    apart = still_apart o.to o.also_to o.apart;
    line = r.to_new o.to o.line;
    also_line = r.to_new o.also_to o.also_line;
    only = λ y m. ⊎_map (renamed_back y o.to) (renamed_back y o.also_to) (o.only (r.rename y) (r.to_old y m));
  }
