-- A decision asks of a grid only its sizes and whether each pad is blank, a clue or a hole: two grids that agree in these decide alike, and
-- so are prepared alike. So the grid that the kinds tell of (View.antt, grid_in) stands for the grid of the file. It rests on the model alone.
use Prim.Native.Nat.{ℕ, zero, suc, ◌+◌}
use Rattle.std.specs.Prelude.{◌≡◌, Bool, ◌&&◌, ◌||◌, ltb}
use Rattle.std.proofs.Math.Path.{refl, ap}
use Rattle.std.proofs.Common.{◌∙◌}
use Rattle.std.proofs.Math.Bool.{true, false}
use mathlib.Core.List.{List, [], ◌∷◌, ◌++◌}
use Rattle.std.proofs.Math.Dec.{eqb, leb}
use Rattle.rules.specs.Grid.{Edge, right, down, first, second, Cell, blank, clue, hole, Grid}
use Rattle.rules.specs.Drawing.{num, Side, on_left, on_right}
use Rattle.boardview.specs.declared.kinds.Kinds.{Kinds}
use Rattle.boardview.specs.View.{grid_in}
use Rattle.model.specs.JoinedEnds.{End, through, at_pad, at_clue}
use Rattle.model.specs.PadTests.{is_blank, is_clue, is_hole, has_down, on_board}
use Rattle.model.specs.Board.{EdgeState, undecided, line, none, is_line, is_undecided, same_state, State, set_flag, set_edge, Item, detour, corner, bar, check_pad, keep_apart, settle, check_end, line_or_none, lines, undecideds, decide_first, Decide, Check, has_side, diagonal, barred, shape_items, around, degree, settled, do_item, do_items, check_items, cannot_join, join_ends, after_store, decide, check, enough, shut, shut_at, prepared}

-- the same grid with every clue's code 0
abbrev pub plain_cell : Cell → Cell
plain_cell blank = blank
plain_cell (clue code) = clue 0
plain_cell hole = hole

unfoldable pub plain : Grid → Grid
plain g = record { height = g.height; width = g.width; cell = λ v. plain_cell (g.cell v) }

blank_plain : (c : Cell) → is_blank (plain_cell c) ≡ is_blank c
blank_plain blank = refl
blank_plain (clue code) = refl
blank_plain hole = refl

clue_plain : (c : Cell) → is_clue (plain_cell c) ≡ is_clue c
clue_plain blank = refl
clue_plain (clue code) = refl
clue_plain hole = refl

hole_plain : (c : Cell) → is_hole (plain_cell c) ≡ is_hole c
hole_plain blank = refl
hole_plain (clue code) = refl
hole_plain hole = refl

module _ (g : Grid) where
  abbrev p : Grid
  p = plain g

  same_blank : (v : ℕ) → is_blank (p.cell v) ≡ is_blank (g.cell v)
  unfolding plain
  same_blank v = blank_plain (g.cell v)

  pub same_clue : (v : ℕ) → is_clue (p.cell v) ≡ is_clue (g.cell v)
  unfolding plain
  same_clue v = clue_plain (g.cell v)

  same_hole : (v : ℕ) → is_hole (p.cell v) ≡ is_hole (g.cell v)
  unfolding plain
  same_hole v = hole_plain (g.cell v)

  pub same_barred : (side : Side) (n v : ℕ) → barred p side n v ≡ barred g side n v
  unfolding barred plain
  same_barred side zero v = same_blank v
  same_barred on_right (suc n) v = λ i. same_blank v i && (elim (has_down g v && has_side g on_right v) [ true ↦ same_barred on_right n (diagonal g on_right v) i | false ↦ true ])
  same_barred on_left (suc n) v = λ i. same_blank v i && (elim (has_down g v && has_side g on_left v) [ true ↦ same_barred on_left n (diagonal g on_left v) i | false ↦ true ])

  same_shapes : (e : Edge) → shape_items p e ≡ shape_items g e
  unfolding shape_items plain
  same_shapes (right v) = rw (same_barred on_right g.height v, same_barred on_left g.height (v + 1)) refl
  same_shapes (down v) = rw (same_barred on_left g.height v, same_barred on_right g.height v) refl

  same_degree : (S : State) (v : ℕ) → degree p S v ≡ degree g S v
  unfolding degree around plain
  same_degree S v = λ i. num (same_clue v i) + lines S (around g v)

  same_settled : (dec : Decide) (v : ℕ) (S : State) → settled p dec v S ≡ settled g dec v S
  unfolding settled around plain
  same_settled dec v S = ap (λ (d : ℕ). elim (ltb 2 d || (eqb d 1 && eqb (undecideds S (around g v)) 0)) [
    | true ↦ set_flag S
    | false ↦ elim (eqb (undecideds S (around g v)) 1 || leb 2 d) [ true ↦ decide_first dec (line_or_none (eqb d 1)) (around g v) S | false ↦ S ]
  ]) (same_degree S v)

  same_item : (dec : Decide) (chk : Check) (it : Item) (S : State) → do_item p dec chk it S ≡ do_item g dec chk it S
  unfolding do_item
  same_item dec chk (detour a b c) S = refl
  same_item dec chk (corner q a exist b c) S = ap (λ (t : Bool). elim (t && is_line (S.edge a))
      [ true ↦ elim exist [ true ↦ (dec c line (dec b line S), false) | false ↦ (set_flag S, true) ] | false ↦ (S, false) ]) (same_blank q)
  same_item dec chk (bar barred a) S = refl
  same_item dec chk (check_pad v) S = refl
  same_item dec chk (keep_apart code e u) S = refl
  same_item dec chk (settle v) S = λ i. (same_settled dec v S i, false)

  same_items : (dec : Decide) (chk : Check) (is : List Item) (S : State) → do_items p dec chk is S ≡ do_items g dec chk is S
  unfolding do_items
  same_items dec chk [] S = refl
  same_items dec chk (it ∷ is) S = λ i. elim (same_item dec chk it S i).1 [ true ↦ (same_item dec chk it S i).0 | false ↦ same_items dec chk is (same_item dec chk it S i).0 i ]

  same_check_items : (v : ℕ) (E : End) → check_items p v E ≡ check_items g v E
  unfolding check_items around plain
  same_check_items v through = refl
  same_check_items v (at_pad a) = refl
  same_check_items v (at_clue code) = refl

  same_after : (dec : Decide) (chk : Check) (e : Edge) (m : EdgeState) (S : State) → after_store p dec chk e m S ≡ after_store g dec chk e m S
  unfolding after_store cannot_join join_ends plain
  same_after dec chk e undecided S = refl
  same_after dec chk e none S = same_items dec chk (check_pad (first e) ∷ check_pad (second g.width e) ∷ []) S
  same_after dec chk e line S = λ i. elim (cannot_join g e S) [
    | true ↦ set_flag S
    | false ↦ (same_items dec chk (shape_items p e ++ (check_pad (first e) ∷ check_pad (second g.width e) ∷ (check_end (S.end (first e)) ++ check_end (S.end (second g.width e))))) (join_ends g e S)
        ∙ ap (λ (is : List Item). do_items g dec chk (is ++ (check_pad (first e) ∷ check_pad (second g.width e) ∷ (check_end (S.end (first e)) ++ check_end (S.end (second g.width e))))) (join_ends g e S)) (same_shapes e)) i
  ]

  same_on_board : (e : Edge) → on_board p e ≡ on_board g e
  unfolding plain
  same_on_board (right v) = refl
  same_on_board (down v) = refl

  -- a decision and a pad check, with any bound of the nesting
  same_both : (f : ℕ) → ((e : Edge) (m : EdgeState) (S : State) → decide p f e m S ≡ decide g f e m S) × ((v : ℕ) (S : State) → check p f v S ≡ check g f v S)
  unfolding decide check
  same_both zero = (λ e m S. refl, λ v S. refl)
  same_both (suc f) = (
    λ e m S. λ i. elim (same_on_board e i) [
      | false ↦ set_flag S
      | true ↦ elim (is_undecided (S.edge e)) [
        | true ↦ (same_after (decide p f) (check p f) e m (set_edge S e m) ∙ (λ j. after_store g (λ a k T. (same_both f).0 a k T j) (λ v T. (same_both f).1 v T j) e m (set_edge S e m))) i
        | false ↦ elim (same_state (S.edge e) m) [ true ↦ S | false ↦ set_flag S ]
      ]
    ],
    λ v S. same_items (decide p f) (check p f) (check_items p v (S.end v)) S
        ∙ ((λ j. do_items g (λ a k T. (same_both f).0 a k T j) (λ v T. (same_both f).1 v T j) (check_items p v (S.end v)) S)
        ∙ ap (λ (is : List Item). do_items g (decide g f) (check g f) is S) (same_check_items v (S.end v))),
  )

  pub plain_decides : (f : ℕ) (e : Edge) (m : EdgeState) (S : State) → decide p f e m S ≡ decide g f e m S
  plain_decides f = (same_both f).0

  -- all edges at a pad, and all holes among some pads
  same_shut : (l : List (Edge × ℕ)) (S : State) → shut p l S ≡ shut g l S
  unfolding shut enough plain
  same_shut [] S = refl
  same_shut (q ∷ l) S = same_shut l (decide p (enough p) q.0 none S) ∙ ap (shut g l) (plain_decides (enough g) q.0 none S)

  pub plain_prepares : (n v : ℕ) (S : State) → prepared p n v S ≡ prepared g n v S
  unfolding prepared shut_at around plain
  plain_prepares zero v S = refl
  plain_prepares (suc n) v S = plain_prepares n (v + 1) _ ∙ ap (prepared g n (v + 1))
      (λ i. elim (same_hole v i) [ true ↦ same_shut (around g v) S i | false ↦ S ])

-- WHAT KINDS SHOW of a grid: its sizes, and whether each pad is blank, a clue or a hole
pub record Shows (g : Grid) (kind : Kinds) : Type 0 where
  pub height : (grid_in kind).height ≡ g.height
  pub width : (grid_in kind).width ≡ g.width
  pub cells : (v : ℕ) → (grid_in kind).cell v ≡ plain_cell (g.cell v)

module _ {g : Grid} {kind : Kinds} (told : Shows g kind) where
  pub shown_plain : grid_in kind ≡ plain g
  unfolding plain
  shown_plain = λ i. record { height = told.height i; width = told.width i; cell = λ v. told.cells v i }

  -- A decision of the grid is a decision of the grid that the kinds tell of, and so is its preparing
  pub shown_decides : (f : ℕ) (e : Edge) (m : EdgeState) (S : State) → decide (grid_in kind) f e m S ≡ decide g f e m S
  shown_decides f e m S = ap (λ (x : Grid). decide x f e m S) shown_plain ∙ plain_decides g f e m S

  pub shown_prepares : (n v : ℕ) (S : State) → prepared (grid_in kind) n v S ≡ prepared g n v S
  shown_prepares n v S = ap (λ (x : Grid). prepared x n v S) shown_plain ∙ plain_prepares g n v S
