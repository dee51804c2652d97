-- WHAT `common` SAYS, in the words of the rules. Of a complete list that is not empty the byte at an edge's place is 1 exactly where every
-- listed drawing of the grid has a line there, 2 exactly where none has, 3 exactly where one has and another has none; and the same of the
-- records that the search has left in the buffer. An empty list that is complete means that nobody can draw by the ordinary rules. What is
-- answered in every other case stands at the end. It rests on TableLaws.antt, HeldRecords.antt and what a search promises.
use Rattle.std.specs.Prelude.{ℕ, ◌%◌, ◌/◌, ◌≤◌, ◌<◌, ◌≡◌, refl, ◌⊎◌, ◌↔◌, Bool, true, false, length, drop, ℤ}
use Rattle.std.proofs.Math.Path.{sym, ap}
use Rattle.std.proofs.Common.{◌∙◌, arith, length-append, length-drop, drop_at}
use Rattle.std.proofs.Math.Logic.Iff
use mathlib.Core.List.{List, ◌++◌, Memᴰ}
use Rattle.std.proofs.Math.Dec.{eqb}
use Rattle.std.proofs.Math.ListN.{get_or, get_or-append}
use Rattle.rules.specs.Grid.{Edge, no_edge, place_at, places, field_side, Grid, grid_of, Accepted, OnBoard}
use Rattle.rules.specs.Drawing.{Drawing, drawn, Ordinary, Listed}
use Rattle.rules.specs.Record.{undecided_byte, line_byte, none_byte, byte_of, byte_at_place, record_of, place_number, ListedRecord}
use Rattle.rules.proofs.RecordLaws.{edge_number_in_field, edge_at_number, field_edge, record_shows, is_line_byte}
use Rattle.model.specs.Refusals.{grid_refusal}
use Rattle.model.specs.RefusalLaws.{accepted_is_not_refused}
use Rattle.model.specs.Records.{record_at}
use Rattle.model.specs.Runs.{Run, scan, Solved, solved, declined_search}
use Rattle.model.specs.Search.{search, solve}
use Rattle.model.specs.Common.{in_every_layout, in_no_layout, in_some_layouts, of_no_layout, has_line, common_byte, common_table, Common, with_number, common}
use Rattle.model.specs.CommonLaws.{refused_grid, short_table, stopped_list, complete_list}
use Rattle.runs.specs.ExactLists.{Exact}
use Rattle.exact.specs.Exact.{search_run, solve_is_run, solve_is_declined}
use Rattle.promises.specs.Promises.{promised}
use Rattle.runs.specs.HeldRecords.{Holds}
use Rattle.promises.specs.HeldRecords.{held_exactly}
use Rattle.promises.specs.TableLaws.{AllHave, OneHas, TellsOfList, byte_tells, is_empty, empty_byte, table_length, table_at}

-- some listed drawing of the grid of which this holds
pub record SomeListed (g : Grid) (P : Drawing → Type 0) : Type 1 where
  pub drawing : Drawing
  pub listed : Listed g drawing
  pub holds : P drawing

-- WHAT A BYTE TELLS OF AN EDGE of the board
pub record Tells (g : Grid) (e : Edge) (byte : ℕ) : Type 1 where
  -- 1 exactly where every listed drawing of the grid has a line there
  pub every : (byte ≡ in_every_layout) ↔ ((D : Drawing) → Listed g D → drawn D e ≡ true)
  -- 2 exactly where none has
  pub none : (byte ≡ in_no_layout) ↔ ((D : Drawing) → Listed g D → drawn D e ≡ false)
  -- 3 exactly where one has a line there and another has none
  pub some : (byte ≡ in_some_layouts) ↔ (SomeListed g (λ D. drawn D e ≡ true) × SomeListed g (λ D. drawn D e ≡ false))
  -- and it is one of the three
  pub one_of_three : (byte ≡ in_every_layout) ⊎ (byte ≡ in_no_layout) ⊎ (byte ≡ in_some_layouts)

-- byte i of layout k, as the search has left it in the buffer
abbrev pub byte_held : (height width : ℕ) → Solved → (i k : ℕ) → ℕ
byte_held height width left_by i k = get_or (record_at height width left_by.layouts k left_by.buffer) i undecided_byte

-- THE SAME OF THE LAYOUTS IN THE BUFFER, at the place of the edge: every one has a line there, none has, one has and another has none
pub record TellsOfBuffer (height width : ℕ) (left_by : Solved) (i byte : ℕ) : Type 0 where
  pub every : (byte ≡ in_every_layout) ↔ ((k : ℕ) → k < left_by.layouts → byte_held height width left_by i k ≡ line_byte)
  pub none : (byte ≡ in_no_layout) ↔ ((k : ℕ) → k < left_by.layouts → byte_held height width left_by i k ≡ none_byte)
  pub some : (byte ≡ in_some_layouts) ↔ (((k : ℕ) × (k < left_by.layouts) × (byte_held height width left_by i k ≡ line_byte))
      × ((k : ℕ) × (k < left_by.layouts) × (byte_held height width left_by i k ≡ none_byte)))

-- what is said of a complete list of an accepted grid
pub record CommonSays (height width : ℕ) (cells : List ℤ) (limit : ℕ) (buffer table : List ℕ) (said : Common) : Type 1 where
  -- the search's own result, with the buffer as the search leaves it; so the number is 0
  pub searched : said.searched ≡ solve height width cells limit buffer
  -- a list that is not empty: each edge of the board, by its place; and the same of the layouts that are in the buffer
  pub edges : 0 < said.searched.layouts → (e : Edge) → OnBoard (grid_of height width cells) e
      → Tells (grid_of height width cells) e (get_or said.table (place_number width e) of_no_layout)
  pub edges_in_buffer : 0 < said.searched.layouts → (e : Edge) → OnBoard (grid_of height width cells) e
      → TellsOfBuffer height width said.searched (place_number width e) (get_or said.table (place_number width e) of_no_layout)
  -- between the edges 0
  pub between : (i : ℕ) → i < places height width → place_at width (i / field_side width) (i % field_side width) ≡ no_edge → get_or said.table i of_no_layout ≡ of_no_layout
  -- an empty list: 0 everywhere, and nobody can draw by the ordinary rules
  pub empty : said.searched.layouts ≡ 0 → (i : ℕ) → i < places height width → get_or said.table i of_no_layout ≡ of_no_layout
  pub empty_means_none : said.searched.layouts ≡ 0 → (D : Drawing) → Ordinary (grid_of height width cells) D → ⊥
  -- what lies past the places stays
  pub past : drop (places height width) said.table ≡ drop (places height width) table
  pub same_length : length said.table ≡ length table

-- ## An edge of the board, where a list holds exactly the listed layouts and a buffer exactly the list

module _ (g : Grid) (wide : 2 ≤ g.width) (records : List (List ℕ)) (exactly : Exact g records) (left_by : Solved)
    (held : (bytes : List ℕ) → Holds g.height g.width left_by bytes ↔ Memᴰ bytes records) (e : Edge) (on : OnBoard g e) where
  -- the listed drawings, by their records
  shows : (D : Drawing) → Listed g D → has_line g.width e (record_of g D) ≡ drawn D e
  shows D listed = record_shows g wide D listed.ordinary.placed e

  shown : (r : List ℕ) (l : ListedRecord g r) → has_line g.width e r ≡ drawn l.drawing e
  shown r l = ap (has_line g.width e) l.shown ∙ shows l.drawing l.listed

  all_drawings : (b : Bool) → AllHave g.width e records b ↔ ((D : Drawing) → Listed g D → drawn D e ≡ b)
  all_drawings b = (
    (λ all D listed. sym (shows D listed) ∙ all _ (exactly.nothing_lost D listed)),
    λ all r m. let l = exactly.nothing_added r m in shown r l ∙ all l.drawing l.listed,
  )

  one_drawing : (b : Bool) → OneHas g.width e records b ↔ SomeListed g (λ D. drawn D e ≡ b)
  one_drawing b = (
    (λ (r, m, h). let l = exactly.nothing_added r m in record { drawing = l.drawing; listed = l.listed; holds = sym (shown r l) ∙ h }),
    λ s. (_, exactly.nothing_lost s.drawing s.listed, shows s.drawing s.listed ∙ s.holds),
  )

  -- the layouts in the buffer, by their bytes
  byte_shown : (r : List ℕ) → Memᴰ r records → (b : Bool) → (get_or r (place_number g.width e) undecided_byte ≡ byte_of b) ↔ (has_line g.width e r ≡ b)
  unfolding record_of
  byte_shown r m b = let l = exactly.nothing_added r m in
      let is = ap (λ x. get_or x (place_number g.width e) undecided_byte) l.shown ∙ field_edge g wide (λ x. byte_of (drawn l.drawing x)) e on ∙ ap byte_of (sym (shown r l)) in
      ((λ h. sym (is_line_byte g wide _) ∙ ap (λ n. eqb n line_byte) (sym is ∙ h) ∙ is_line_byte g wide b), λ h. is ∙ ap byte_of h)

  all_held : (b : Bool) → AllHave g.width e records b ↔ ((k : ℕ) → k < left_by.layouts → byte_held g.height g.width left_by (place_number g.width e) k ≡ byte_of b)
  all_held b = (
    (λ all k below. let m = (held _).0 (record { k = k; below = below; there = refl }) in (byte_shown _ m b).1 (all _ m)),
    λ all r m. let h = (held r).1 m in (byte_shown r m b).0 (rw h.there at (all h.k h.below)),
  )

  one_held : (b : Bool) → OneHas g.width e records b ↔ ((k : ℕ) × (k < left_by.layouts) × (byte_held g.height g.width left_by (place_number g.width e) k ≡ byte_of b))
  one_held b = (
    (λ (r, m, is). let h = (held r).1 m in (h.k, h.below, rw h.there ((byte_shown r m b).1 is))),
    λ (k, below, is). let m = (held _).0 (record { k = k; below = below; there = refl }) in (_, m, (byte_shown _ m b).0 is),
  )

-- ## The call

module _ (height width : ℕ) (cells : List ℤ) (limit : ℕ) (buffer table : List ℕ) where
  abbrev run : Run
  run = scan limit (places height width) 0 (length buffer) (search (grid_of height width cells))

  abbrev made : List ℕ
  made = common_table height width run.records ++ drop (places height width) table

  made_at : (i : ℕ) → i < places height width
      → get_or made i of_no_layout ≡ byte_at_place (λ e. common_byte width e run.records) (place_at width (i / field_side width) (i % field_side width))
  made_at i inside = get_or-append (common_table height width run.records) (drop (places height width) table) of_no_layout i (omega (arith, table_length height width run.records))
      ∙ table_at height width run.records i inside

  fine : Accepted height width cells → (grid_refusal height width cells).0 ≡ 0
  fine accepted = ap (λ (p : ℕ × ℕ). p.0) (accepted_is_not_refused height width cells accepted)

  -- A COMPLETE LIST of an accepted grid, with a table that has room
  pub common_says : Accepted height width cells → places height width ≤ length table → (solve height width cells limit buffer).outcome ≡ 0
      → CommonSays height width cells limit buffer table (common height width cells limit buffer table)
  unfolding grid_of
  common_says accepted room complete =
      let found = solve_is_run height width cells accepted limit buffer in
      let done : run.outcome ≡ 0 = rw found at complete in
      rw (complete_list height width cells limit buffer table (fine accepted) room done) (record {
        searched = sym found;
        edges = λ some e on. (made_tells accepted done some e on).0;
        edges_in_buffer = λ some e on. (made_tells accepted done some e on).1;
        between = λ i inside none. made_at i inside ∙ ap (byte_at_place (λ e. common_byte width e run.records)) none;
        empty = λ none i inside. made_at i inside ∙ empty_byte width run.records none (place_at width (i / field_side width) (i % field_side width));
        empty_means_none = λ none. ((promised height width cells accepted limit (length buffer)).not_bettered done).empty_exactly.0 (is_empty run.records none);
        past = drop_at (common_table height width run.records) _ (places height width) (table_length height width run.records);
        same_length = rw (length-append, table_length, length-drop) (omega arith);
      })
    where
      made_tells : (accepted : Accepted height width cells) → run.outcome ≡ 0 → 0 < length run.records → (e : Edge) → OnBoard (grid_of height width cells) e
          → Tells (grid_of height width cells) e (get_or made (place_number width e) of_no_layout)
          × TellsOfBuffer height width (solved run buffer) (place_number width e) (get_or made (place_number width e) of_no_layout)
      made_tells accepted complete some e on =
          rw (made_at (place_number width e) (edge_number_in_field g wide e on), edge_at_number g wide e on)
          (tells (common_byte width e run.records) (byte_tells width e run.records some))
        where
          g : Grid
          g = grid_of height width cells

          wide : 2 ≤ g.width
          wide = accepted.width_in_range.0

          exactly : Exact g run.records
          exactly = (search_run height width cells accepted limit (length buffer)).complete complete

          held : (bytes : List ℕ) → Holds g.height g.width (solved run buffer) bytes ↔ Memᴰ bytes run.records
          held bytes = rw (solve_is_run height width cells accepted limit buffer) at (held_exactly height width cells accepted limit buffer bytes)

          tells : (byte : ℕ) → TellsOfList g.width e run.records byte → Tells g e byte × TellsOfBuffer g.height g.width (solved run buffer) (place_number g.width e) byte
          tells byte t = (
            record {
              every = Iff.trans t.every (all_drawings g wide run.records exactly (solved run buffer) held e on true);
              none = Iff.trans t.none (all_drawings g wide run.records exactly (solved run buffer) held e on false);
              some = Iff.trans t.some (Iff.and (one_drawing g wide run.records exactly (solved run buffer) held e on true) (one_drawing g wide run.records exactly (solved run buffer) held e on false));
              one_of_three = t.one_of_three;
            },
            record {
              every = Iff.trans t.every (all_held g wide run.records exactly (solved run buffer) held e on true);
              none = Iff.trans t.none (all_held g wide run.records exactly (solved run buffer) held e on false);
              some = Iff.trans t.some (Iff.and (one_held g wide run.records exactly (solved run buffer) held e on true) (one_held g wide run.records exactly (solved run buffer) held e on false));
            },
          )

  -- 16: ANY OTHER LIST; the search's own result and buffer, and the table as it was
  pub common_stopped : Accepted height width cells → places height width ≤ length table → ((solve height width cells limit buffer).outcome ≡ 0 → ⊥)
      → common height width cells limit buffer table ≡ record { searched = with_number 16 (solve height width cells limit buffer); table = table }
  common_stopped accepted room stopped =
      let found = solve_is_run height width cells accepted limit buffer in
      stopped_list height width cells limit buffer table (fine accepted) room (λ h. stopped (rw found h))
      ∙ ap (λ (s : Solved). record { searched = with_number 16 s; table = table }) (sym found)

  -- 14: A TABLE THAT IS TOO SHORT; nothing is searched
  pub common_short : Accepted height width cells → length table < places height width
      → common height width cells limit buffer table ≡ record { searched = declined_search 14 0 buffer; table = table }
  common_short accepted short = short_table height width cells limit buffer table (fine accepted) short

  -- 7, 8, 9: ANY OTHER GRID; the grid's own number, as the search has it
  pub common_refused : ((grid_refusal height width cells).0 ≡ 0 → ⊥)
      → common height width cells limit buffer table ≡ record { searched = solve height width cells limit buffer; table = table }
  common_refused refused = refused_grid height width cells limit buffer table refused
      ∙ ap (λ (s : Solved). record { searched = s; table = table }) (sym (solve_is_declined height width cells refused limit buffer))
