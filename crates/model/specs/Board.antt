-- The board: its state, a decision step by step (a to f) and the pad check, as functions that compute. Document 01, sections 'The board',
-- 'A decision' and 'The pad check', in the order of board.rs, exact also on boards whose flag is set. It rests on PadTests.antt and JoinedEnds.antt.
-- A decision and a check are lists of items, done in order; an item tells whether the call ends there.
use Rattle.std.specs.Prelude.{ℕ, zero, suc, ◌+◌, ◌*◌, ◌-◌, Bool, true, false, ◌&&◌, ◌||◌, not, List, [], ◌∷◌, ◌++◌, eqb, ltb, leb}
use Rattle.rules.specs.Grid.{Edge, right, down, first, second, Grid, pads}
use Rattle.rules.specs.Drawing.{num, Side, on_left, on_right}
use Rattle.model.specs.PadTests.{is_blank, is_clue, is_hole, has_right, has_left, has_down, has_up, on_board}
use Rattle.model.specs.JoinedEnds.{End, through, at_pad, at_clue, bare_end, unjoinable, joined_ends}

-- THE STATE of an edge: `EdgeState` of the Rust.
pub data EdgeState : Type 0 where
  undecided : EdgeState
  line : EdgeState
  none : EdgeState

abbrev pub is_line : EdgeState → Bool
is_line undecided = false
is_line line = true
is_line none = false

abbrev pub is_undecided : EdgeState → Bool
is_undecided undecided = true
is_undecided line = false
is_undecided none = false

abbrev pub same_state : EdgeState → EdgeState → Bool
same_state undecided m = is_undecided m
same_state line m = is_line m
same_state none m = not (is_undecided m) && not (is_line m)

abbrev pub same_edge : Edge → Edge → Bool
same_edge (right a) (right b) = eqb a b
same_edge (right a) (down b) = false
same_edge (down a) (right b) = false
same_edge (down a) (down b) = eqb a b

-- THE STATE of a board: edges, ends and flag.
pub record State : Type 0 where
  pub edge : Edge → EdgeState
  pub end : ℕ → End
  pub flag : Bool

unfoldable pub set_edge : State → Edge → EdgeState → State
set_edge S e m = record { edge = λ x. elim (same_edge x e) [ true ↦ m | false ↦ S.edge x ]; end = S.end; flag = S.flag }

unfoldable pub set_flag : State → State
set_flag S = record { edge = S.edge; end = S.end; flag = true }

-- ITEMS: what a decision does after its state is stored, and what a pad check does.
pub data Item : Type 0 where
  -- step d, one third of a unit square: if the first edge is a line, the other two become none
  detour : Edge → Edge → Edge → Item
  -- step e: if pad q is blank and edge a is a line, edges b and c become lines where both exist
  corner : (q : ℕ) (a : Edge) (exist : Bool) (b c : Edge) → Item
  -- step e: a barred pad gets none on edge a
  bar : (barred : Bool) (a : Edge) → Item
  -- step f: check a pad
  check_pad : ℕ → Item
  -- pad check: an undecided edge to a pad u whose end is of another clue becomes none
  keep_apart : (code : ℕ) (e : Edge) (u : ℕ) → Item
  -- pad check: count, set the flag, or decide the first undecided edge
  settle : ℕ → Item

-- the other three edges of a unit square: each, if a line, makes the other two none
abbrev pub detours : Edge → Edge → Edge → List Item
detours a b c = detour a b c ∷ detour b a c ∷ detour c a b ∷ []

abbrev pub when : Bool → List Item → List Item
when true l = l
when false l = []

-- step f for the pads A and B of step c
abbrev pub check_end : End → List Item
check_end through = []
check_end (at_clue c) = []
check_end (at_pad a) = check_pad a ∷ []

-- an edge at a pad, with the pad beyond it, where it exists
abbrev pub with_edge : Bool → Edge → ℕ → List (Edge × ℕ) → List (Edge × ℕ)
with_edge true e u l = (e, u) ∷ l
with_edge false e u l = l

-- an end of another clue than `code`
abbrev pub other_clue : ℕ → End → Bool
other_clue code through = false
other_clue code (at_pad a) = false
other_clue code (at_clue d) = not (eqb code d)

unfoldable pub lines : State → List (Edge × ℕ) → ℕ
lines S [] = 0
lines S (p ∷ l) = num (is_line (S.edge p.0)) + lines S l

unfoldable pub undecideds : State → List (Edge × ℕ) → ℕ
undecideds S [] = 0
undecideds S (p ∷ l) = num (is_undecided (S.edge p.0)) + undecideds S l

abbrev pub Decide : Type 0
Decide = Edge → EdgeState → State → State

abbrev pub Check : Type 0
Check = ℕ → State → State

unfoldable pub decide_first : Decide → EdgeState → List (Edge × ℕ) → State → State
decide_first dec m [] S = S
decide_first dec m (p ∷ l) S = elim (is_undecided (S.edge p.0)) [ true ↦ dec p.0 m S | false ↦ decide_first dec m l S ]

abbrev pub line_or_none : Bool → EdgeState
line_or_none true = line
line_or_none false = none

-- an item for each edge at a pad
unfoldable pub keep_aparts : ℕ → List (Edge × ℕ) → List Item
keep_aparts code [] = []
keep_aparts code (p ∷ l) = keep_apart code p.0 p.1 ∷ keep_aparts code l

module _ (g : Grid) where
  -- a neighbour on that side, and the pad diagonally below on that side
  abbrev pub has_side : Side → ℕ → Bool
  has_side on_right v = has_right g v
  has_side on_left v = has_left g v

  abbrev pub diagonal : Side → ℕ → ℕ
  diagonal on_right v = v + g.width + 1
  diagonal on_left v = v + g.width - 1

  -- barred down-right (down-left): the pad and every pad on its diagonal on that side, down to the rim, is blank; n rows at most
  unfoldable pub barred : Side → ℕ → ℕ → Bool
  barred side zero v = is_blank (g.cell v)
  barred side (suc n) v = is_blank (g.cell v) && (elim (has_down g v && has_side side v) [ true ↦ barred side n (diagonal side v) | false ↦ true ])

  -- STEPS d AND e as items
  -- the right+down corner at the upper left pad u of a unit square, completed by edge a; pad q is diagonally below
  abbrev pub corner_right : ℕ → Edge → Item
  corner_right u a = let q = u + g.width + 1 in corner q a (has_down g q && has_right g q) (right q) (down q)

  -- the left+down corner at its upper right pad u + 1
  abbrev pub corner_left : ℕ → Edge → Item
  corner_left u a = let q = u + g.width in corner q a (has_down g q && has_left g q) (right (q - 1)) (down q)

  -- all items of steps d and e for a line at an edge, in the order of the Rust
  unfoldable pub shape_items : Edge → List Item
  shape_items (right v) = let u = v - g.width in when (has_right g v && ltb v (pads g))
      (when (has_up g v) (detours (down u) (down (u + 1)) (right u))
      ++ (when (has_down g v) (detours (down v) (down (v + 1)) (right (v + g.width)))
      ++ when (has_down g v) (corner_right v (down v) ∷ corner_left v (down (v + 1))
      ∷ bar (barred on_right g.height v) (down v) ∷ bar (barred on_left g.height (v + 1)) (down (v + 1)) ∷ [])))
  shape_items (down v) = let u = v - 1 in when (has_down g v)
      (when (has_left g v) (detours (right u) (right (u + g.width)) (down u))
      ++ (when (has_right g v) (detours (right v) (right (v + g.width)) (down (v + 1)))
      ++ (when (has_left g v) (corner_left u (right u) ∷ [])
      ++ (when (has_right g v) (corner_right v (right v) ∷ [])
      ++ (when (has_left g v) (bar (barred on_left g.height v) (right u) ∷ [])
      ++ when (has_right g v) (bar (barred on_right g.height v) (right v) ∷ []))))))

  -- THE PAD CHECK. The edges at a pad: left, right, up, down, each with the pad beyond it.
  unfoldable pub around : ℕ → List (Edge × ℕ)
  around v = with_edge (has_left g v) (right (v - 1)) (v - 1) (with_edge (has_right g v) (right v) (v + 1)
      (with_edge (has_up g v) (down (v - g.width)) (v - g.width) (with_edge (has_down g v) (down v) (v + g.width) [])))

  -- a pad's lines, plus 1 for a clue
  unfoldable pub degree : State → ℕ → ℕ
  degree S v = num (is_clue (g.cell v)) + lines S (around v)

  -- Degree above 2, or 1 with no edge undecided, sets the flag. With one edge undecided or degree ≥ 2, the first undecided edge becomes
  -- a line if the degree is 1, else none.
  unfoldable pub settled : Decide → ℕ → State → State
  settled dec v S =
      let d = degree S v in
      let n = undecideds S (around v) in
      elim (ltb 2 d || (eqb d 1 && eqb n 0)) [
        | true ↦ set_flag S
        | false ↦ elim (eqb n 1 || leb 2 d) [ true ↦ decide_first dec (line_or_none (eqb d 1)) (around v) S | false ↦ S ]
      ]

  -- ONE ITEM: the state after it, and whether the call ends there. A nested call that leaves the flag set ends it; but the two forced
  -- lines of a corner are both tried, and the decision goes on after them.
  unfoldable pub do_item : Decide → Check → Item → State → State × Bool
  do_item dec chk (detour a b c) S = elim (is_line (S.edge a))
      [ true ↦ let T = dec b none S in elim T.flag [ true ↦ (T, true) | false ↦ let R = dec c none T in (R, R.flag) ] | false ↦ (S, false) ]
  do_item dec chk (corner q a exist b c) S = elim (is_blank (g.cell q) && is_line (S.edge a))
      [ true ↦ elim exist [ true ↦ (dec c line (dec b line S), false) | false ↦ (set_flag S, true) ] | false ↦ (S, false) ]
  do_item dec chk (bar barred a) S = elim barred [ true ↦ let T = dec a none S in (T, T.flag) | false ↦ (S, false) ]
  do_item dec chk (check_pad v) S = let T = chk v S in (T, T.flag)
  do_item dec chk (keep_apart code e u) S = elim (is_undecided (S.edge e) && other_clue code (S.end u))
      [ true ↦ let T = dec e none S in (T, T.flag) | false ↦ (S, false) ]
  do_item dec chk (settle v) S = (settled dec v S, false)

  unfoldable pub do_items : Decide → Check → List Item → State → State
  do_items dec chk [] S = S
  do_items dec chk (it ∷ is) S = let p = do_item dec chk it S in elim p.1 [ true ↦ p.0 | false ↦ do_items dec chk is p.0 ]

  -- the items of a pad check, by the pad's end as it is read once at the start
  unfoldable pub check_items : ℕ → End → List Item
  check_items v through = settle v ∷ []
  check_items v (at_pad a) = settle v ∷ []
  check_items v (at_clue code) = keep_aparts code (around v) ++ (settle v ∷ [])

  -- step c: where the line cannot be, the flag is set; else the ends are joined
  unfoldable pub cannot_join : Edge → State → Bool
  cannot_join e S = unjoinable (S.end (first e)) (S.end (second g.width e)) (second g.width e)

  unfoldable pub join_ends : Edge → State → State
  join_ends e S = record {
    edge = S.edge;
    end = joined_ends S.end (first e) (second g.width e) (S.end (first e)) (S.end (second g.width e));
    flag = S.flag;
  }

  -- a decision after its state is stored: steps c to f for a line, step f for none
  unfoldable pub after_store : Decide → Check → Edge → EdgeState → State → State
  after_store dec chk e undecided S = S
  after_store dec chk e none S = do_items dec chk (check_pad (first e) ∷ check_pad (second g.width e) ∷ []) S
  after_store dec chk e line S = elim (cannot_join e S) [
    | true ↦ set_flag S
    | false ↦ do_items dec chk
        (shape_items e ++ (check_pad (first e) ∷ check_pad (second g.width e) ∷ (check_end (S.end (first e)) ++ check_end (S.end (second g.width e)))))
        (join_ends e S)
  ]

  -- A DECISION AND A PAD CHECK call each other. The first number bounds the nesting; Fuel.antt of the theory shows that `enough` is
  -- enough. Running out of it, or an edge off the board, would set the flag.
  unfoldable mutual
    pub decide : ℕ → Edge → EdgeState → State → State
    decide zero e m S = set_flag S
    decide (suc f) e m S = elim (on_board g e) [
      | false ↦ set_flag S
      | true ↦ elim (is_undecided (S.edge e)) [
        | true ↦ after_store (λ a k T. decide f a k T) (λ v T. check f v T) e m (set_edge S e m)
        | false ↦ elim (same_state (S.edge e) m) [ true ↦ S | false ↦ set_flag S ]
      ]
    ]

    pub check : ℕ → ℕ → State → State
    check zero v S = set_flag S
    check (suc f) v S = do_items (λ a k T. decide f a k T) (λ v T. check f v T) (check_items v (S.end v)) S

  -- twice the edges of a grid, and some
  unfoldable pub enough : ℕ
  enough = 4 * pads g + 4

  -- THE BARE BOARD: all edges undecided, a clue's end at its code, any other pad's at itself, the flag clear. What would be an edge off
  -- the board, to the right of the last column or below the last row, holds none for ever; no call reaches it.
  unfoldable pub bare : State
  bare = record { edge = λ e. elim (on_board g e) [ true ↦ undecided | false ↦ none ]; end = λ v. bare_end v (g.cell v); flag = false }

  -- THE FRESH BOARD is the bare one after all edges at holes have been put to a decision as none, also once the flag is set: these edges,
  -- one after another,
  unfoldable pub shut : List (Edge × ℕ) → State → State
  shut [] S = S
  shut (p ∷ l) S = shut l (decide enough p.0 none S)

  -- the edges at pad v, if it is a hole: left, right, up, down,
  unfoldable pub shut_at : ℕ → State → State
  shut_at v S = elim (is_hole (g.cell v)) [ true ↦ shut (around v) S | false ↦ S ]

  -- and the holes in index order: those among n pads, from v on
  unfoldable pub prepared : ℕ → ℕ → State → State
  prepared zero v S = S
  prepared (suc n) v S = prepared n (v + 1) (shut_at v S)

  unfoldable pub fresh : State
  fresh = prepared (pads g) 0 bare
