-- NOBODY DRAWS BETTER THAN THE LISTED LAYOUTS: demand 3, for every grid of at least two rows and two columns, any codes and any holes.
-- The statements speak of the rules alone: ordinary, listed, joining the same pads, number of lines, records. The proof of the first is
-- the work of the other files and ends in Descent.antt; the second and the third follow from it. What is said of a list
-- stands in specs/Shortest.antt.
use Rattle.std.specs.Prelude.{ℕ, ◌≤◌, ◌≡◌, refl}
use Rattle.std.proofs.Common.{sym, ◌∙◌, ap}
use mathlib.Core.List.Memᴰ
use mathlib.Core.List.{List, Memᴰ}
use Rattle.rules.specs.Grid.{Grid}
use Rattle.rules.specs.Drawing.{Drawing, Ordinary, Listed, SamePairs, number_of_lines}
use Rattle.rules.specs.Record.{record_of, drawing_of, record_lines, OrdinaryRecord, ListedRecord}
use Rattle.rules.proofs.LineCount.{record_lines_of}
use Rattle.shortest.proofs.Descent.{listed_no_worse}
use Rattle.shortest.specs.Records.{records_show_same_pairs, no_member_empty}
use Rattle.shortest.specs.Fewest.{same_fewest}
use Rattle.shortest.specs.Shortest.{HoldsTheListed, NotBettered}

-- 1. DRAWINGS. Whoever draws a wiring by the ordinary rules: there is a listed drawing that joins the same pads pair by pair with no
-- more lines.
pub nobody_draws_better : (g : Grid) → 2 ≤ g.width → (D : Drawing) → Ordinary g D
    → (E : Drawing) × Listed g E × SamePairs g D E × (number_of_lines g E ≤ number_of_lines g D)
nobody_draws_better g wide D ordinary =
    let found = listed_no_worse g wide D ordinary in (found.drawing, found.listed, found.same_pairs, found.no_more_lines)

-- 2. RECORDS. For the record of every ordinary drawing there is a listed record that shows the same pads joined pair by pair, with no
-- more bytes 1.
pub nobody_records_better : (g : Grid) → 2 ≤ g.height → 2 ≤ g.width → (bytes : List ℕ) → OrdinaryRecord g bytes
    → (found : List ℕ) × ListedRecord g found × SamePairs g (drawing_of g.width bytes) (drawing_of g.width found)
    × (record_lines found ≤ record_lines bytes)
nobody_records_better g tall wide bytes r =
    let (E, listed, same_pairs, fewer) = nobody_draws_better g wide r.drawing r.ordinary in
    let placed = listed.ordinary.placed in
    let placed_r = r.ordinary.placed in (
      record_of g E,
      record { drawing = E; listed = listed; shown = refl },
      (rw r.shown (records_show_same_pairs g wide r.drawing E placed_r placed same_pairs)),
      (rw (r.shown, record_lines_of g tall wide E placed, record_lines_of g tall wide r.drawing placed_r) fewer),
    )

-- 3. LISTS. A list of records that holds every listed layout, and listed layouts only, cannot be bettered.
pub whole_list_not_bettered : (g : Grid) → 2 ≤ g.height → 2 ≤ g.width → (records : List (List ℕ))
    → HoldsTheListed g records → NotBettered g records
whole_list_not_bettered g tall wide records holds = record {
  matched = matched;
  empty_exactly = (
    (λ e D ordinary. Memᴰ.not-nil (rw e at (matched D ordinary).1)),
    (λ none. no_member_empty records (λ bytes held. let r = holds.only bytes held in none r.drawing r.listed.ordinary)),
  );
  fewest_exactly = same_fewest record_lines (λ bytes. Memᴰ bytes records) (number_of_lines g) (Ordinary g)
      (λ bytes held. let r = holds.only bytes held in
      (r.drawing, r.listed.ordinary, sym (ap record_lines r.shown ∙ as_many r.drawing r.listed.ordinary)))
      (λ D ordinary. let (E, held, listed, same_pairs, fewer) = matched D ordinary in
      (record_of g E, held, rw (as_many E listed.ordinary) fewer));
}
  where
    matched : (D : Drawing) → Ordinary g D
        → (E : Drawing) × Memᴰ (record_of g E) records × Listed g E × SamePairs g D E × (number_of_lines g E ≤ number_of_lines g D)
    matched D ordinary =
        let (E, listed, same_pairs, fewer) = nobody_draws_better g wide D ordinary in (E, holds.every E listed, listed, same_pairs, fewer)

    as_many : (D : Drawing) → Ordinary g D → record_lines (record_of g D) ≡ number_of_lines g D
    as_many D ordinary = record_lines_of g tall wide D ordinary.placed
