-- Laws of the answers: what is answered by the refusals, by the verdict of an accepted grid, and by the lines. They rest on the model's
-- Judge.antt.
use Prim.Native.Nat.{ℕ}
use mathlib.Core.Path.{◌≡◌, refl, ap, ◌∙◌}
use mathlib.Core.List.{List}
use lib.IntN.{ℤ}
use Rattle.rules.specs.Grid.{grid_of}
use Rattle.rules.specs.Record.{record_lines}
use Rattle.model.specs.Refusals.{grid_refusal}
use Rattle.model.specs.Judge as model
use Rattle.model.specs.Judge.{verdict, judge}
use Rattle.std.specs.Prelude.{Err}
use Rattle.grid.specs.declared.Refusal.{Refusal}
use Rattle.grid.specs.declared.accepted.Grid.{Grid}
use Rattle.grid.specs.declared.Refusal.TheVariants.{Size, CellCount, Cell}
use Rattle.grid.specs.Answers.{refusal_says}
use Rattle.grid.specs.AsGrid.{as_grid}
use Rattle.judging.specs.Judging.{judged_says, answer}

-- A VERDICT WITH THE LINES
module _ (said lines : ℕ) where
  pub no_layout : {r : model.Judged} → r ≡ answer 0 0 → 0 ≡ said → r ≡ answer said lines
  no_layout is h = is ∙ ap (λ n. answer n lines) h

  pub a_layout : {r : model.Judged} (n m : ℕ) → r ≡ answer n m → n ≡ said → m ≡ lines → r ≡ answer said lines
  a_layout n m is h k = is ∙ (λ i. answer (h i) (k i))

-- THE ANSWER
module _ (height width : ℕ) (cells : List ℤ) (bytes : List ℕ) where
  pub refused : (r : Refusal) → refusal_says {A = Grid} (Err r) ≡ grid_refusal height width cells → judged_says (Err r) ≡ judge height width cells bytes
  unfolding judge
  refused Size is = rw (← is) refl
  refused CellCount is = rw (← is) refl
  refused (Cell index) is = rw (← is) refl

  pub judged : (0, 0) ≡ grid_refusal height width cells → (grid : Grid) → (grid.height ≡ height) × (grid.width ≡ width) × (grid.cells.now ≡ cells)
      → {said : model.Judged} → said ≡ answer (verdict (as_grid grid) bytes) (record_lines bytes) → said ≡ judge height width cells bytes
  unfolding judge
  judged none grid (high, wide, same) is = is ∙ (λ i. answer (verdict (grid_of (high i) (wide i) (same i)) bytes) (record_lines bytes)) ∙ rw (← none) refl
