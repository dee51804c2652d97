-- `copper::common` meets its contract, test by test: a refused grid, a table that is too short, a list that did not end complete, and a
-- complete one, whose records are laid over the cleared table. Assumes nothing.
use Prim.Native.Nat.{ℕ}
use mathlib.Core.Path.{◌≡◌, sym, ap, ◌∙◌}
use mathlib.Core.List.{List}
use native.Mathlib.Omega.{arith}
use lib.IntN.{ℤ}
use Rattle.std.specs.Prelude.{Result}
use Rattle.rules.specs.Grid.{places}
use Rattle.grid.specs.declared.accepted.Grid.{Grid}
use Rattle.grid.specs.declared.Refusal.{Refusal}
use Rattle.tally.specs.declared.Solved.{Solved}
use Rattle.solver.specs.Answers.{Solves}
use Rattle.std.proofs.lemmas.Result.{err_from_is_err_and}
use Rattle.tally.specs.Outcomes.{stopped_is, complete_is}
use Rattle.copper.specs.CallLaws.{refused_says, short_says, stopped_says, complete_says}
use Rattle.copper.proofs.common.Goals as goal

pub returns-in_err-grid : goal.returns-in_err-grid
returns-in_err-grid c = let p = err_from_is_err_and c.from_residual.result c.from_residual.ensures.1 in rw (p.1, p.2) (refused_says _ _ _ _ _ _ _ c.in_err-grid.ensures.says)

-- the answer for a grid that is the accepted one, of the sizes and cells that were lent
module _ (grid : Grid) {height width : ℕ} {cells : List ℤ} (same : (grid.height ≡ height) × (grid.width ≡ width) × (grid.cells.now ≡ cells)) where
  many : {n : ℕ} → n ≡ places grid.height grid.width → n ≡ places height width
  many is = is ∙ (λ i. places (same.0 i) (same.1 i))

  solves : {limit : ℕ} {buffer buffer' : List ℕ} {r : Result Solved Refusal} → Solves grid.height grid.width grid.cells.now limit buffer r buffer'
      → Solves height width cells limit buffer r buffer'
  solves is = rw (← same.0, ← same.1, ← same.2) is

fine : {p : ℕ × ℕ} → (0, 0) ≡ p → p.0 ≡ 0
fine says = sym (ap (λ (q : ℕ × ℕ). q.0) says)

pub returns-then-table-places : goal.returns-then-table-places
returns-then-table-places c =
    let ok = c.in_ok-grid.ensures in
    short_says _ _ _ _ _ _ (fine ok.says) (omega (arith, many c.in_ok-grid.grid ok.same c.places-places.ensures, c.if-table-places.true))

pub returns-then-is_err : goal.returns-then-is_err
returns-then-is_err c =
    let ok = c.in_ok-grid.ensures in
    stopped_says _ _ _ _ _ _ (fine ok.says) (omega (arith, many c.in_ok-grid.grid ok.same c.places-places.ensures, c.if-table-places.false)) _ _
    (solves c.in_ok-grid.grid ok.same c.search-found.ensures) (stopped_is _ c.if-is_err.ensures.value)

pub returns : goal.returns
returns c =
    let ok = c.in_ok-grid.ensures in
    let size = many c.in_ok-grid.grid ok.same c.places-places.ensures in
    complete_says _ _ _ _ _ _ (fine ok.says) (omega (arith, size, c.if-table-places.false)) _ _
    (solves c.in_ok-grid.grid ok.same c.search-found.ensures) (complete_is _ c.if-is_err.ensures.value) _ (rw size at c.clear.ensures) _ c.overlay_records.ensures
