-- The marks that stand, and what the stack of them answers. Assumes nothing.
use Rattle.std.specs.Prelude.{ℕ, zero, suc, ◌+◌, ◌-◌, ◌≤◌, ◌<◌, ◌≡◌, refl, List, [], ◌∷◌, get_or, set, length, Option, Some, None}
use Rattle.std.proofs.Common.{ap, ◌∙◌, arith, get_or-set_same, get_or-set_other}
use Rattle.board.specs.declared.marks.Marks.{Marks}

-- THE MARKS that stand, the last one first
unfoldable pub standing_marks : List ℕ → ℕ → List ℕ
standing_marks marks zero = []
standing_marks marks (suc n) = get_or marks n 0 ∷ standing_marks marks n

abbrev pub marks_in : Marks → List ℕ
marks_in m = standing_marks m.marks m.standing

-- the mark on top is taken away, if one stands
abbrev pub Popped : List ℕ → Option ℕ → List ℕ → Type 0
Popped before None after = (before ≡ []) × (after ≡ [])
Popped before (Some mark) after = before ≡ mark ∷ after

pub as_many : (marks : List ℕ) (n : ℕ) → length (standing_marks marks n) ≡ n
unfolding standing_marks
as_many marks zero = refl
as_many marks (suc n) = ap suc (as_many marks n)

pub other_mark : (marks : List ℕ) (n i mark : ℕ) → n ≤ i → standing_marks (set marks i mark) n ≡ standing_marks marks n
unfolding standing_marks
other_mark marks zero i mark low = refl
other_mark marks (suc n) i mark low = rw (other_mark marks n i mark (omega arith), get_or-set_other marks i n mark 0 (λ same. omega arith)) refl

pub one_more_mark : (marks : List ℕ) (n mark : ℕ) → n < length marks → standing_marks (set marks n mark) (n + 1) ≡ mark ∷ standing_marks marks n
unfolding standing_marks
one_more_mark marks n mark low = ap (standing_marks (set marks n mark)) next ∙ added
  where
    next : n + 1 ≡ suc n
    next = omega arith

    added : standing_marks (set marks n mark) (suc n) ≡ mark ∷ standing_marks marks n
    added = rw (other_mark marks n n mark (omega arith), get_or-set_same marks n mark 0 low) refl

pub none_stand : (marks : List ℕ) (n : ℕ) → n ≡ 0 → standing_marks marks n ≡ []
unfolding standing_marks
none_stand marks n none = ap (standing_marks marks) none

pub one_less_mark : (marks : List ℕ) (n : ℕ) → (n ≡ 0 → ⊥) → standing_marks marks n ≡ get_or marks (n - 1) 0 ∷ standing_marks marks (n - 1)
unfolding standing_marks
one_less_mark marks zero some = absurd (some refl)
one_less_mark marks (suc n) some = let one_less : suc n - 1 ≡ n = omega arith in rw one_less refl
