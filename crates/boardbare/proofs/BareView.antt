-- THE BARE ARRAYS SHOW THE MODEL'S BARE BOARD: for an accepted grid, arrays that hold what BareArrays.antt says are ready, their kinds tell
-- of the grid's sizes and of its blank pads, clues and holes, and their view is the model's bare board. What is proved of the definitions in
-- specs/BareView.antt.
use Rattle.std.specs.Prelude.{ℕ, zero, suc, ◌*◌, ◌≤◌, ◌<◌, ◌≡◌, Bool, ◌&&◌, List, length, ℤ, pos, negsuc}
use Rattle.std.proofs.Math.Path.{refl, ap, subst}
use Rattle.std.proofs.Common.{sym, ◌∙◌, arith}
use Rattle.std.proofs.Math.Bool.{true, false, not}
use Rattle.std.proofs.Math.Dec.{ltb}
use Rattle.std.proofs.Math.ListN.{get_or, get_or-eq_default}
use borrow.Author.Tests.{ltb-true, ltb-false}
use Rattle.rules.specs.Grid.{Edge, Cell, blank, clue, hole, Grid, pads, grid_of, cell_of, blank_cell, Accepted}
use Rattle.rules.specs.Drawing.{Side}
use Rattle.model.specs.JoinedEnds.{at_pad, bare_end}
use Rattle.model.specs.PadTests.{is_blank, is_clue, on_board}
use Rattle.model.specs.Board.{undecided, none, barred, bare}
use Rattle.boardview.specs.declared.Arrays.{Arrays}
use Rattle.boardview.specs.declared.kinds.Kinds.{Kinds}
use Rattle.boardview.specs.Told.{pick, has_bit, clue_bit, taken_bit, corner_bit, bar_bit, cell_in, grid_told, Told}
use Rattle.boardview.specs.View.{slot, slot_on, state_of, end_of, end_at, view, Ready}
use Rattle.model.specs.Lists.{default_free}
use Rattle.boardview.specs.Bytes.{edge_on}
use Rattle.boardview.specs.SameKinds.{plain_cell, plain, same_barred, Shows, shown_plain}
use Rattle.boardbare.specs.BareArrays.{EdgesFrom, EndsFrom, bare_end_number, end_number_at, BitsFrom, Table}
use Rattle.boardbare.specs.BareView.{BareBoard}
use Rattle.boardbare.specs.EdgeBytes.{few_pads, edge_byte_is, past_the_edges}
use Rattle.boardbare.specs.Bars.{corner, clue_held, taken_held, corner_held, bar_held}
use Rattle.boardbare.specs.Room.{room}

-- EDGES
module _ (g : Grid) (few : pads g ≤ 256) (edges : List ℕ) (filled : EdgesFrom g.width (pads g) 0 edges) where
  byte_at : (s : ℕ) → get_or edges s 2 ≡ pick (slot_on g s) 0 2
  byte_at s = go (ltb s 1024) refl
    where
      go : (b : Bool) → ltb s 1024 ≡ b → get_or edges s 2 ≡ pick (slot_on g s) 0 2
      go true e = filled.holds s (omega arith) (ltb-true s 1024 e) ∙ edge_byte_is g s
      go false e = let past = ltb-false s 1024 e in
          get_or-eq_default edges 2 {n = s} (omega (arith, filled.as_long)) ∙ (past_the_edges g.width (pads g) s (omega arith) ∙ edge_byte_is g s)

  bare_bytes : (s : ℕ) → get_or edges s 2 ≤ 2
  bare_bytes s = rw (byte_at s) (go (slot_on g s))
    where
      go : (b : Bool) → pick b 0 2 ≤ 2
      go true = omega arith
      go false = omega arith

  bare_rim : (s : ℕ) → s < 1024 → slot_on g s ≡ false → get_or edges s 0 ≡ 2
  bare_rim s h off = default_free edges s 0 2 (omega (arith, filled.as_long)) ∙ (byte_at s ∙ rw off refl)

  bare_edge : (e : Edge) → state_of (get_or edges (slot e) 2) ≡ elim (on_board g e) [ true ↦ undecided | false ↦ none ]
  unfolding state_of
  bare_edge e = rw (byte_at (slot e), edge_on g e) (go (on_board g e))
    where
      go : (b : Bool) → state_of (pick b 0 2) ≡ elim b [ true ↦ undecided | false ↦ none ]
      go true = refl
      go false = refl

-- ENDS
module _ (cells : List ℤ) (ends : List ℤ) (few : length cells ≤ 256) (filled : EndsFrom cells 0 ends) where
  bare_end_of : (z : ℤ) (v : ℕ) → end_of (bare_end_number z v) ≡ bare_end v (cell_of z)
  unfolding end_of bare_end_number cell_of
  bare_end_of (pos code) v = refl
  bare_end_of (negsuc zero) v = refl
  bare_end_of (negsuc (suc n)) v = refl

  number_at : (v : ℕ) → get_or ends v (pos v) ≡ bare_end_number (get_or cells v blank_cell) v
  unfolding end_number_at bare_end_number
  number_at v = go (ltb v 512) refl
    where
      go : (b : Bool) → ltb v 512 ≡ b → get_or ends v (pos v) ≡ bare_end_number (get_or cells v blank_cell) v
      go true e = default_free ends v (pos v) (pos 0) (omega (arith, filled.as_long, ltb-true v 512 e)) ∙ filled.holds v (omega arith) (ltb-true v 512 e)
      go false e = let past = ltb-false v 512 e in
          get_or-eq_default ends (pos v) {n = v} (omega (arith, filled.as_long)) ∙ rw (get_or-eq_default cells blank_cell {n = v} (omega arith)) refl

  pub bare_end_at : (v : ℕ) → end_at ends v ≡ bare_end v (cell_of (get_or cells v blank_cell))
  bare_end_at v = ap end_of (number_at v) ∙ bare_end_of (get_or cells v blank_cell) v

  -- a pad's end is the pad itself, or a clue
  own_end : (v w : ℕ) → end_at ends v ≡ at_pad w → w ≡ v
  own_end v w e = go (cell_of (get_or cells v blank_cell)) (sym (bare_end_at v) ∙ e)
    where
      go : (c : Cell) → bare_end v c ≡ at_pad w → w ≡ v
      go blank h = cc
      go (clue code) h = cc
      go hole h = cc

-- KINDS
cell_told : (c : Cell) → cell_in (is_clue c) (not (is_blank c)) ≡ plain_cell c
cell_told blank = refl
cell_told (clue code) = refl
cell_told hole = refl

clue_is_taken : (c : Cell) → is_clue c ≡ true → not (is_blank c) ≡ true
clue_is_taken blank h = h
clue_is_taken (clue code) h = refl
clue_is_taken hole h = refl

module _ (height width : ℕ) (cells : List ℤ) (ok : Accepted height width cells) where
  abbrev the_grid : Grid
  the_grid = grid_of height width cells

  few : height * width ≤ 256
  few = few_pads height width ok.height_in_range ok.width_in_range

  module _ (bits : List ℕ) (filled : BitsFrom the_grid 0 bits) where
    -- a bit that says something of the cell, below 256; past it every cell is blank
    bit_in : (bit : ℕ) (test : Cell → Bool) → test blank ≡ false → ((v : ℕ) → v < 256 → has_bit bits v bit ≡ test (the_grid.cell v)) → (v : ℕ)
        → ltb v 256 && has_bit bits v bit ≡ test (the_grid.cell v)
    unfolding grid_of cell_of
    bit_in bit test off held v = go (ltb v 256) refl
      where
        go : (b : Bool) → ltb v 256 ≡ b → b && has_bit bits v bit ≡ test (the_grid.cell v)
        go true e = held v (ltb-true v 256 e)
        go false e = let past = ltb-false v 256 e in
            rw (get_or-eq_default cells blank_cell {n = v} (omega (arith, ok.one_cell_a_pad, few))) (sym off)

    clue_bits : (v : ℕ) → v < 256 → has_bit bits v clue_bit ≡ is_clue (the_grid.cell v)
    clue_bits v h = clue_held the_grid bits 0 filled v (omega arith) h

    taken_bits : (v : ℕ) → v < 256 → has_bit bits v taken_bit ≡ not (is_blank (the_grid.cell v))
    taken_bits v h = taken_held the_grid bits 0 filled v (omega arith) h

    cells_told : (v : ℕ) → (grid_told height width bits).cell v ≡ plain_cell (the_grid.cell v)
    cells_told v = rw (bit_in clue_bit is_clue refl clue_bits v, bit_in taken_bit (λ c. not (is_blank c)) refl taken_bits v) (cell_told (the_grid.cell v))

    pub shows_grid : (kinds : Kinds) → kinds.height ≡ height → kinds.width ≡ width → kinds.bits ≡ bits → Shows the_grid kinds
    unfolding grid_of
    shows_grid kinds high wide same = record { height = high; width = wide; cells = λ v. rw same (cells_told v) }

    same_grid : grid_told height width bits ≡ plain the_grid
    unfolding plain grid_of
    same_grid = λ i. record { height = height; width = width; cell = λ v. cells_told v i }

    -- what is told is right for the grid without codes
    told_corners : (side : Side) (v : ℕ) → v < pads (plain the_grid) → has_bit bits v (corner_bit side) ≡ corner (plain the_grid) side v
    unfolding plain grid_of
    told_corners side v h = corner_held the_grid bits 0 filled v (omega arith) (omega (arith, few)) side

    told_bars : (side : Side) (v : ℕ) → v < pads (plain the_grid) → has_bit bits v (bar_bit side) ≡ corner (plain the_grid) side v && barred (plain the_grid) side (plain the_grid).height v
    unfolding plain grid_of
    told_bars side v h = bar_held the_grid bits 0 filled v (omega arith) (omega (arith, few)) side
        ∙ ap (λ b. corner the_grid side v && b) (sym (same_barred the_grid side height v))

    pub told : (actions : List ℕ) → Table actions → Told height width bits actions
    told actions table = record {
      bits_long = filled.as_long;
      actions_long = table.as_long;
      least_width = ok.width_in_range.0;
      largest_width = ok.width_in_range.1;
      least_height = ok.height_in_range.0;
      largest_height = ok.height_in_range.1;
      clue_taken = λ v h c. taken_bits v h ∙ clue_is_taken (the_grid.cell v) (sym (clue_bits v h) ∙ c);
      table = table.holds;
      corners = subst (λ G. (side : Side) (v : ℕ) → v < pads G → has_bit bits v (corner_bit side) ≡ corner G side v) (sym same_grid) told_corners;
      bars = subst (λ G. (side : Side) (v : ℕ) → v < pads G → has_bit bits v (bar_bit side) ≡ corner G side v && barred G side G.height v) (sym same_grid) told_bars;
    }

  -- THE WHOLE
  module _ (edges : List ℕ) (filled_edges : EdgesFrom width (height * width) 0 edges) (ends : List ℤ) (filled_ends : EndsFrom cells 0 ends) where
    few_cells : length cells ≤ 256
    few_cells = omega (arith, ok.one_cell_a_pad, few)

    abbrev the_arrays : List ℤ → Arrays
    the_arrays log = record { edges = edges; ends = ends; log = log; count = 0 }

    ready_told : (log : List ℤ) → length log ≡ 1440 → Ready (plain the_grid) (the_arrays log)
    unfolding plain grid_of
    ready_told log long = record {
      edges_long = filled_edges.as_long;
      ends_long = filled_ends.as_long;
      log_long = long;
      least_width = ok.width_in_range.0;
      largest_width = ok.width_in_range.1;
      few_pads = few;
      mode = omega arith;
      room = omega (arith, room height width ok.height_in_range ok.width_in_range edges filled_edges);
      entries = λ k below. absurd (omega arith);
      bytes = bare_bytes (plain the_grid) few edges filled_edges;
      rim = bare_rim (plain the_grid) few edges filled_edges;
      near = λ v w h e. rw (own_end cells ends few_cells filled_ends v w e) h;
      paired = λ v w e. let same = own_end cells ends few_cells filled_ends v w e in ap (λ x. end_at ends x) same ∙ (e ∙ ap at_pad same);
    }

    shows_bare : (log : List ℤ) → view (the_arrays log) ≡ bare the_grid
    unfolding view bare grid_of
    shows_bare log = λ i. record {
      edge = λ e. bare_edge the_grid few edges filled_edges e i;
      end = λ v. bare_end_at cells ends few_cells filled_ends v i;
      flag = false;
    }

    pub bare_board : (kinds : Kinds) → Shows the_grid kinds → BareBoard the_grid edges ends kinds
    bare_board kinds shown = record {
      told = shown;
      ready = λ log long. subst (λ G. Ready G (the_arrays log)) (sym (shown_plain shown)) (ready_told log long);
      shows = shows_bare;
    }
