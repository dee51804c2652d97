-- The copper common to all wirings: a table, laid out as a record, that says of each edge whether every layout of a complete list has a line
-- there, none has, or some have and others not. It rests on Search.antt and on the rules' Record.antt.
use Rattle.std.specs.Prelude.{if◌then◌else◌}
use Rattle.std.specs.Prelude.{ℕ, Bool, true, not, ◌&&◌, List, [], ◌∷◌, ◌++◌, eqb, ltb, length, drop, ℤ}
use Rattle.rules.specs.Grid.{Edge, grid_of, places}
use Rattle.rules.specs.Drawing.{drawn}
use Rattle.rules.specs.Record.{drawing_of, field}
use Rattle.model.specs.Refusals.{grid_refusal}
use Rattle.model.specs.Runs.{Solved, scan, solved, declined_search}
use Rattle.model.specs.Search.{search}

-- BYTES of the table: 1 a line in every layout, 2 in none, 3 in some and missing in others; 0 between the edges, and for an empty list
abbrev pub in_every_layout : ℕ
in_every_layout = 1

abbrev pub in_no_layout : ℕ
in_no_layout = 2

abbrev pub in_some_layouts : ℕ
in_some_layouts = 3

abbrev pub of_no_layout : ℕ
of_no_layout = 0

module _ (width : ℕ) (e : Edge) where
  -- a layout has a line at the edge
  abbrev pub has_line : List ℕ → Bool
  has_line layout = drawn (drawing_of width layout) e

  -- each of the layouts has
  unfoldable pub all_have : List (List ℕ) → Bool
  all_have [] = true
  all_have (layout ∷ layouts) = has_line layout && all_have layouts

  -- none of them has
  unfoldable pub none_has : List (List ℕ) → Bool
  none_has [] = true
  none_has (layout ∷ layouts) = not (has_line layout) && none_has layouts

  -- the byte of the edge
  unfoldable pub common_byte : List (List ℕ) → ℕ
  common_byte [] = of_no_layout
  common_byte (layout ∷ layouts) =
      if all_have (layout ∷ layouts) then in_every_layout
      else if none_has (layout ∷ layouts) then in_no_layout
      else in_some_layouts

-- THE TABLE of a list of layouts
unfoldable pub common_table : ℕ → ℕ → List (List ℕ) → List ℕ
common_table height width layouts = field height width (λ e. common_byte width e layouts)

-- COMMON: what the search answers, and its buffer, beside the number; and the table after it, whose bytes past the places keep their values
pub record Common : Type 0 where
  pub searched : Solved
  pub table : List ℕ

-- the search's own result with a number beside it
abbrev pub with_number : ℕ → Solved → Solved
with_number number found = record {
  number = number;
  index = found.index;
  outcome = found.outcome;
  layouts = found.layouts;
  visited = found.visited;
  fewest_lines = found.fewest_lines;
  buffer = found.buffer;
}

-- the grid's numbers first; then 14, the table is shorter than the places, before any search; then 16, the list did not end complete
unfoldable pub common : ℕ → ℕ → List ℤ → ℕ → List ℕ → List ℕ → Common
common height width cells limit buffer table =
    let refusal = grid_refusal height width cells in
    let run = scan limit (places height width) 0 (length buffer) (search (grid_of height width cells)) in
    if not (eqb refusal.0 0) then record { searched = declined_search refusal.0 refusal.1 buffer; table = table }
    else if ltb (length table) (places height width) then record { searched = declined_search 14 0 buffer; table = table }
    else if not (eqb run.outcome 0) then record { searched = with_number 16 (solved run buffer); table = table }
    else record { searched = solved run buffer; table = common_table height width run.records ++ drop (places height width) table }
