-- Two grids are alike where they differ in nothing but their codes: the same sizes, blank at the same pads, drilled at the same pads, and two
-- pads carry equal codes in one exactly where they do in the other. It rests on the rules' grids and on the model's tests of a cell.
use Rattle.std.specs.Prelude.{ℕ, ◌≡◌, refl, ◌&&◌, not, eqb}
use Rattle.std.proofs.Common.{sym, subst}
use Rattle.rules.specs.Grid.{Cell, blank, clue, hole, Grid}
use Rattle.model.specs.PadTests.{is_blank, is_clue, is_hole}

pub record Alike (g h : Grid) : Type 0 where
  pub same_height : g.height ≡ h.height
  pub same_width : g.width ≡ h.width
  pub same_blanks : (v : ℕ) → is_blank (g.cell v) ≡ is_blank (h.cell v)
  pub same_holes : (v : ℕ) → is_hole (g.cell v) ≡ is_hole (h.cell v)
  pub equal_codes : (u v a b c d : ℕ) → g.cell u ≡ clue a → g.cell v ≡ clue b → h.cell u ≡ clue c → h.cell v ≡ clue d → eqb a b ≡ eqb c d

-- then they have clues at the same pads
clue_by_tests : (C : Cell) → is_clue C ≡ (not (is_blank C) && not (is_hole C))
clue_by_tests blank = refl
clue_by_tests (clue c) = refl
clue_by_tests hole = refl

pub same_clues : {g h : Grid} → Alike g h → (v : ℕ) → is_clue (g.cell v) ≡ is_clue (h.cell v)
same_clues {g} {h} alike v = rw (clue_by_tests (g.cell v), clue_by_tests (h.cell v), alike.same_blanks v, alike.same_holes v) refl

-- ONE SIZE: what is so of every grid that differs from g in its cells and is alike it, is so of every grid alike it
abbrev pub recoded : Grid → (ℕ → Cell) → Grid
recoded g cell = record { height = g.height; width = g.width; cell = cell }

pub of_one_size : {g h : Grid} (Fact : Grid → Type 0) → Alike g h → ((cell : ℕ → Cell) → Alike g (recoded g cell) → Fact (recoded g cell)) → Fact h
of_one_size {g} {h} Fact alike fact = subst Fact sizes (fact h.cell (subst (λ k. Alike g k) (sym sizes) alike))
  where
    sizes : recoded g h.cell ≡ h
    sizes = λ i. record { height = alike.same_height i; width = alike.same_width i; cell = h.cell }
