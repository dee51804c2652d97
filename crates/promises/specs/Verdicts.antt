-- WHAT THE JUDGE SAYS OF A DRAWING, in the words of the rules: 1 or 2 exactly where the record is that of an ordinary drawing of the grid, 2
-- exactly where it is that of a listed one, and that is exactly where a complete list of `solve` holds it, whoever drew it; the lines are the
-- drawing's. It rests on the verdict's theory (ruletest's Verdict.antt), on exactness (crate `exact`) and on what the buffer of a search holds
-- (HeldRecords.antt).
use Rattle.std.specs.Prelude.{ℕ, ◌≤◌, ◌≡◌, ◌↔◌, length, ℤ, eqb}
use Rattle.std.proofs.Math.Path.{refl}
use Rattle.std.proofs.Common.{◌∙◌, ap, arith, eq-eqb, ne_eqb}
use Rattle.std.proofs.Math.Logic.Iff
use mathlib.Core.List.Memᴰ
use mathlib.Core.List.{List, Memᴰ}
use Rattle.rules.specs.Grid.{Grid, grid_of, places, Accepted}
use Rattle.rules.specs.Drawing.{Drawing, Ordinary, number_of_lines}
use Rattle.rules.specs.Record.{record_of, record_lines, OrdinaryRecord, ListedRecord}
use Rattle.rules.proofs.LineCount.{record_lines_of}
use Rattle.std.specs.Prelude.{if◌then◌else◌}
use Rattle.model.specs.Refusals.{grid_refusal}
use Rattle.model.specs.RefusalLaws.{accepted_is_not_refused}
use Rattle.model.specs.Runs.{scan}
use Rattle.model.specs.Search.{search, solve}
use Rattle.model.specs.Judge.{Judged, verdict, judge}
use Rattle.rules.specs.ProperGrid.{Proper, accepted_proper}
use Rattle.exact.specs.Exact.{search_run, solve_is_run}
use Rattle.runs.specs.HeldRecords.{Holds}
use Rattle.promises.specs.HeldRecords.{held_exactly}
use Rattle.ruletest.specs.Verdict.{verdict_small, ordinary_verdict, listed_verdict}

-- what is said of a record on an accepted grid
pub record Says (height width : ℕ) (cells : List ℤ) (bytes : List ℕ) (said : Judged) : Type 1 where
  -- the grid is not refused
  pub accepted : (said.number ≡ 0) × (said.index ≡ 0)
  -- a verdict is 0, 1 or 2
  pub at_most_2 : said.verdict ≤ 2
  -- at least 1 exactly where it is the record of an ordinary drawing
  pub ordinary : (1 ≤ said.verdict) ↔ OrdinaryRecord (grid_of height width cells) bytes
  -- 2 exactly where it is the record of a listed one
  pub listed : (said.verdict ≡ 2) ↔ ListedRecord (grid_of height width cells) bytes
  -- and that is exactly where a search that ended complete, with whatever limit and buffer, has left it in its buffer
  pub in_complete_list : (limit : ℕ) (buffer : List ℕ) → (solve height width cells limit buffer).outcome ≡ 0
      → (said.verdict ≡ 2) ↔ Holds height width (solve height width cells limit buffer) bytes
  -- the lines are those of the drawing, and 0 beside 0
  pub its_lines : (D : Drawing) → Ordinary (grid_of height width cells) D → bytes ≡ record_of (grid_of height width cells) D
      → said.lines ≡ number_of_lines (grid_of height width cells) D
  pub no_lines : said.verdict ≡ 0 → said.lines ≡ 0

module _ (height width : ℕ) (cells : List ℤ) (accepted : Accepted height width cells) (bytes : List ℕ) where
  abbrev g : Grid
  g = grid_of height width cells

  proper : Proper g
  proper = accepted_proper height width cells accepted

  abbrev its_verdict : ℕ
  its_verdict = verdict g bytes

  judged : judge height width cells bytes ≡ record { number = 0; index = 0; verdict = its_verdict; lines = if eqb its_verdict 0 then 0 else record_lines bytes }
  unfolding judge
  judged = rw (accepted_is_not_refused height width cells accepted) refl

  -- a listed record is one of the complete list of `solve`, and none else is
  module _ (limit : ℕ) (buffer : List ℕ) (complete : (solve height width cells limit buffer).outcome ≡ 0) where
    listed_member : ListedRecord g bytes ↔ Memᴰ bytes (scan limit (places height width) 0 (length buffer) (search g)).records
    listed_member = let all = (search_run height width cells accepted limit (length buffer)).complete (rw (solve_is_run height width cells accepted limit buffer) at complete) in
        ((λ l. Memᴰ.cast l.shown (all.nothing_lost l.drawing l.listed)), all.nothing_added bytes)

    pub listed_held : (its_verdict ≡ 2) ↔ Holds height width (solve height width cells limit buffer) bytes
    listed_held = Iff.trans (Iff.trans (listed_verdict g proper bytes) listed_member) (Iff.symm (held_exactly height width cells accepted limit buffer bytes))

  -- the lines of its drawing
  drawing_lines : (D : Drawing) → Ordinary g D → bytes ≡ record_of g D → (if eqb its_verdict 0 then 0 else record_lines bytes) ≡ number_of_lines g D
  drawing_lines D ordinary shown =
      let some : 1 ≤ its_verdict = (ordinary_verdict g proper bytes).1 (record { drawing = D; ordinary = ordinary; shown = shown }) in
      rw (ne_eqb its_verdict 0 (λ e. omega arith)) (ap record_lines shown ∙ record_lines_of g proper.tall proper.wide D ordinary.placed)

  none_beside_0 : its_verdict ≡ 0 → (if eqb its_verdict 0 then 0 else record_lines bytes) ≡ 0
  none_beside_0 e = rw (eq-eqb its_verdict 0 e) refl

  -- ON AN ACCEPTED GRID
  pub judge_says : Says height width cells bytes (judge height width cells bytes)
  judge_says = rw judged (record {
    accepted = (refl, refl);
    at_most_2 = verdict_small g proper bytes;
    ordinary = ordinary_verdict g proper bytes;
    listed = listed_verdict g proper bytes;
    in_complete_list = listed_held;
    its_lines = drawing_lines;
    no_lines = none_beside_0;
  })

-- ON ANY OTHER GRID: its number beside a 0
pub refused_says : (height width : ℕ) (cells : List ℤ) (bytes : List ℕ) → ((grid_refusal height width cells).0 ≡ 0 → ⊥)
    → judge height width cells bytes ≡ record { number = (grid_refusal height width cells).0; index = (grid_refusal height width cells).1; verdict = 0; lines = 0 }
unfolding judge
refused_says height width cells bytes refused = rw (ne_eqb _ 0 refused) refl
