-- The last part of the pad check: counting by bytes is counting by the model's list of edges at a pad, and each of the five actions is
-- what the model does. It rests on Geometry.antt and Steps.antt.
use Rattle.std.specs.Prelude.{ℕ, ◌+◌, ◌*◌, ◌-◌, ◌<◌, ◌≡◌, Bool, ◌&&◌, ◌||◌, get_or, length}
use Rattle.std.proofs.Math.Path.{refl, ap}
use Rattle.std.proofs.Common.{sym, ◌∙◌, arith}
use Rattle.std.proofs.Math.Bool.{true, false, and-false, or-true}
use mathlib.Core.List.{List, []}
use Rattle.std.proofs.Math.Dec.{eqb, ltb, leb}
use borrow.Author.Tests.{eqb-true, eqb-false, eq-eqb, ne_eqb, lt-leb, le-leb, ltb-false}
use Rattle.rules.specs.Grid.{Edge, right, down, Grid, pads}
use Rattle.rules.specs.Drawing.{num}
use Rattle.model.specs.PadTests.{has_right, has_left, has_down, has_up}
use Rattle.model.specs.Board.{EdgeState, line, none, is_undecided, State, set_flag, Decide, with_edge, lines, undecideds, decide_first, line_or_none, around, degree, settled}
use Rattle.boardview.specs.declared.Arrays.{Arrays}
use Rattle.boardview.specs.declared.kinds.Kinds.{Kinds}
use Rattle.boardview.specs.Told.{pick}
use Rattle.boardview.specs.View.{edge_of, slot_on, view, grid_in, Ready, edges_around, undecided_around, degree_around, first_around, action_around}
use Rattle.boardview.specs.Bytes.{elim_true, elim_false, right_slot, down_slot, on_slot}
use Rattle.boardview.specs.Geometry.{slot_left, slot_right, slot_up, slot_down, edge_left, edge_up}
use Rattle.boardview.specs.Steps.{line_at, undecided_at}
use Rattle.boardview.specs.Items.{clue_test}

-- COUNTING: one edge that may be there
module _ (g : Grid) (s : Arrays) (y : Ready g s) (n : ℕ) (h : n < 1024) (b : Bool) (eb : slot_on g n ≡ b) (e : Edge) (ee : b ≡ true → edge_of n ≡ e) (u : ℕ) (l : List (Edge × ℕ)) where
  inside : n < length s.edges
  inside = omega (arith, y.edges_long)

  abbrev byte : ℕ
  byte = get_or s.edges n 0

  pub undecideds_one : undecideds (view s) (with_edge b e u l) ≡ num (eqb byte 0) + undecideds (view s) l
  unfolding undecideds
  undecideds_one = go b eb ee
    where
      go : (b : Bool) → slot_on g n ≡ b → (b ≡ true → edge_of n ≡ e) → undecideds (view s) (with_edge b e u l) ≡ num (eqb byte 0) + undecideds (view s) l
      go true q k = rw (← (undecided_at s n (on_slot g n q).0 inside), k refl) refl
      go false q k = rw (y.rim n h q) (omega arith)

  pub lines_one : lines (view s) (with_edge b e u l) ≡ num (eqb byte 1) + lines (view s) l
  unfolding lines
  lines_one = go b eb ee
    where
      go : (b : Bool) → slot_on g n ≡ b → (b ≡ true → edge_of n ≡ e) → lines (view s) (with_edge b e u l) ≡ num (eqb byte 1) + lines (view s) l
      go true q k = rw (← (line_at s n (on_slot g n q).0 inside), k refl) refl
      go false q k = rw (y.rim n h q) (omega arith)

  pub first_here : (dec : Decide) (m : EdgeState) → byte ≡ 0 → decide_first dec m (with_edge b e u l) (view s) ≡ dec (edge_of n) m (view s)
  unfolding decide_first
  first_here dec m z = go b eb ee
    where
      go : (b : Bool) → slot_on g n ≡ b → (b ≡ true → edge_of n ≡ e) → decide_first dec m (with_edge b e u l) (view s) ≡ dec (edge_of n) m (view s)
      go true q k = rw (← (k refl)) (elim_true (is_undecided ((view s).edge (edge_of n))) _ _ (undecided_at s n (on_slot g n q).0 inside ∙ eq-eqb byte 0 z))
      go false q k = absurd (omega (arith, y.rim n h q))

  pub first_later : (dec : Decide) (m : EdgeState) → (byte ≡ 0 → ⊥) → decide_first dec m (with_edge b e u l) (view s) ≡ decide_first dec m l (view s)
  unfolding decide_first
  first_later dec m z = go b eb ee
    where
      go : (b : Bool) → slot_on g n ≡ b → (b ≡ true → edge_of n ≡ e) → decide_first dec m (with_edge b e u l) (view s) ≡ decide_first dec m l (view s)
      go true q k = rw (← (k refl)) (elim_false (is_undecided ((view s).edge (edge_of n))) _ _ (undecided_at s n (on_slot g n q).0 inside ∙ ne_eqb byte 0 z))
      go false q k = refl

-- THE ACTION of the last part, as the model has it
pub data Action (kind : Kinds) (s : Arrays) (v t : ℕ) : Type 0 where
  nothing : t ≡ 0 → ((dec : Decide) → settled (grid_in kind) dec v (view s) ≡ view s) → Action kind s v t
  raise : t ≡ 1 → ((dec : Decide) → settled (grid_in kind) dec v (view s) ≡ set_flag (view s)) → Action kind s v t
  draw : (n : ℕ) → t ≡ n → n < 1024 → get_or s.edges n 0 ≡ 0 → ((dec : Decide) → settled (grid_in kind) dec v (view s) ≡ dec (edge_of n) line (view s)) → Action kind s v t
  leave : (n : ℕ) → t ≡ n + 1024 → n < 1024 → get_or s.edges n 0 ≡ 0 → ((dec : Decide) → settled (grid_in kind) dec v (view s) ≡ dec (edge_of n) none (view s)) → Action kind s v t

-- ALL FOUR
module _ (kind : Kinds) (s : Arrays) (y : Ready (grid_in kind) s) (v : ℕ) (inside_board : v < pads (grid_in kind)) where
  abbrev g : Grid
  g = grid_in kind

  abbrev w : ℕ
  w = g.width

  abbrev es : List ℕ
  es = s.edges

  small : v < 256
  small = omega (arith, y.few_pads)

  low_left : 30 + 2 * v < 1024
  low_left = omega (arith, small)

  low_right : 32 + 2 * v < 1024
  low_right = omega (arith, small)

  low_up : 33 + 2 * v - 2 * w < 1024
  low_up = omega (arith, small)

  low_down : 33 + 2 * v < 1024
  low_down = omega (arith, small)

  at_left : slot_on g (30 + 2 * v) ≡ has_left g v
  at_left = slot_left g y.least_width y.largest_width v inside_board

  at_right : slot_on g (32 + 2 * v) ≡ has_right g v
  at_right = slot_right g y.least_width y.largest_width v inside_board

  at_up : slot_on g (33 + 2 * v - 2 * w) ≡ has_up g v
  at_up = slot_up g y.least_width y.largest_width v inside_board

  at_down : slot_on g (33 + 2 * v) ≡ has_down g v
  at_down = slot_down g y.least_width y.largest_width v inside_board

  is_left : has_left g v ≡ true → edge_of (30 + 2 * v) ≡ right (v - 1)
  is_left = edge_left g y.least_width y.largest_width v inside_board

  is_right : has_right g v ≡ true → edge_of (32 + 2 * v) ≡ right v
  is_right e = right_slot v

  is_up : has_up g v ≡ true → edge_of (33 + 2 * v - 2 * w) ≡ down (v - w)
  is_up = edge_up g y.least_width y.largest_width v inside_board

  is_down : has_down g v ≡ true → edge_of (33 + 2 * v) ≡ down v
  is_down e = down_slot v

  abbrev from_down : List (Edge × ℕ)
  from_down = with_edge (has_down g v) (down v) (v + w) []

  abbrev from_up : List (Edge × ℕ)
  from_up = with_edge (has_up g v) (down (v - w)) (v - w) from_down

  abbrev from_right : List (Edge × ℕ)
  from_right = with_edge (has_right g v) (right v) (v + 1) from_up

  pub undecideds_is : undecideds (view s) (around g v) ≡ undecided_around es w v
  unfolding around edges_around undecideds
  undecideds_is = undecideds_one g s y (30 + 2 * v) low_left (has_left g v) at_left (right (v - 1)) is_left (v - 1) from_right
      ∙ rw (
        undecideds_one g s y (32 + 2 * v) low_right (has_right g v) at_right (right v) is_right (v + 1) from_up,
        undecideds_one g s y (33 + 2 * v - 2 * w) low_up (has_up g v) at_up (down (v - w)) is_up (v - w) from_down,
        undecideds_one g s y (33 + 2 * v) low_down (has_down g v) at_down (down v) is_down (v + w) [],
      ) (omega arith)

  pub degree_is : degree g (view s) v ≡ degree_around kind.bits es w v
  unfolding around degree edges_around degree_around lines
  degree_is = rw (
    clue_test kind v small,
    lines_one g s y (30 + 2 * v) low_left (has_left g v) at_left (right (v - 1)) is_left (v - 1) from_right,
    lines_one g s y (32 + 2 * v) low_right (has_right g v) at_right (right v) is_right (v + 1) from_up,
    lines_one g s y (33 + 2 * v - 2 * w) low_up (has_up g v) at_up (down (v - w)) is_up (v - w) from_down,
    lines_one g s y (33 + 2 * v) low_down (has_down g v) at_down (down v) is_down (v + w) [],
  ) (omega arith)

  -- the first undecided edge
  module _ (dec : Decide) (m : EdgeState) where
    abbrev bytes_left : ℕ
    bytes_left = get_or es (30 + 2 * v) 0

    abbrev bytes_right : ℕ
    bytes_right = get_or es (32 + 2 * v) 0

    abbrev bytes_up : ℕ
    bytes_up = get_or es (33 + 2 * v - 2 * w) 0

    abbrev bytes_down : ℕ
    bytes_down = get_or es (33 + 2 * v) 0

    skip_left : (bytes_left ≡ 0 → ⊥) → decide_first dec m (around g v) (view s) ≡ decide_first dec m from_right (view s)
    unfolding around
    skip_left = first_later g s y (30 + 2 * v) low_left (has_left g v) at_left (right (v - 1)) is_left (v - 1) from_right dec m

    skip_right : (bytes_right ≡ 0 → ⊥) → decide_first dec m from_right (view s) ≡ decide_first dec m from_up (view s)
    skip_right = first_later g s y (32 + 2 * v) low_right (has_right g v) at_right (right v) is_right (v + 1) from_up dec m

    skip_up : (bytes_up ≡ 0 → ⊥) → decide_first dec m from_up (view s) ≡ decide_first dec m from_down (view s)
    skip_up = first_later g s y (33 + 2 * v - 2 * w) low_up (has_up g v) at_up (down (v - w)) is_up (v - w) from_down dec m

    skip_down : (bytes_down ≡ 0 → ⊥) → decide_first dec m from_down (view s) ≡ view s
    unfolding decide_first
    skip_down = first_later g s y (33 + 2 * v) low_down (has_down g v) at_down (down v) is_down (v + w) [] dec m

    take_left : bytes_left ≡ 0 → decide_first dec m (around g v) (view s) ≡ dec (edge_of (30 + 2 * v)) m (view s)
    unfolding around
    take_left = first_here g s y (30 + 2 * v) low_left (has_left g v) at_left (right (v - 1)) is_left (v - 1) from_right dec m

    take_right : bytes_right ≡ 0 → decide_first dec m from_right (view s) ≡ dec (edge_of (32 + 2 * v)) m (view s)
    take_right = first_here g s y (32 + 2 * v) low_right (has_right g v) at_right (right v) is_right (v + 1) from_up dec m

    take_up : bytes_up ≡ 0 → decide_first dec m from_up (view s) ≡ dec (edge_of (33 + 2 * v - 2 * w)) m (view s)
    take_up = first_here g s y (33 + 2 * v - 2 * w) low_up (has_up g v) at_up (down (v - w)) is_up (v - w) from_down dec m

    take_down : bytes_down ≡ 0 → decide_first dec m from_down (view s) ≡ dec (edge_of (33 + 2 * v)) m (view s)
    take_down = first_here g s y (33 + 2 * v) low_down (has_down g v) at_down (down v) is_down (v + w) [] dec m

    zero_of : (b : ℕ) → num (eqb b 0) ≡ 0 → b ≡ 0 → ⊥
    zero_of b h z = absurd (omega (arith, sym (ap num (eq-eqb b 0 z)) ∙ h))

    pub none_undecided : undecided_around es w v ≡ 0 → decide_first dec m (around g v) (view s) ≡ view s
    unfolding edges_around
    none_undecided h = skip_left (zero_of bytes_left (omega arith)) ∙ (skip_right (zero_of bytes_right (omega arith)) ∙ (skip_up (zero_of bytes_up (omega arith)) ∙ skip_down (zero_of bytes_down (omega arith))))

    -- the first undecided edge: it is decided, and its byte is 0
    abbrev Claim : ℕ → Type 0
    Claim n = (decide_first dec m (around g v) (view s) ≡ dec (edge_of n) m (view s)) × (get_or es n 0 ≡ 0) × (n < 1024)

    pub first_undecided : (undecided_around es w v ≡ 0 → ⊥) → Claim (first_around es w v)
    unfolding edges_around first_around
    first_undecided h = go1 (eqb bytes_left 0) refl
      where
        go4 : (bytes_left ≡ 0 → ⊥) → (bytes_right ≡ 0 → ⊥) → (bytes_up ≡ 0 → ⊥) → (b : Bool) → eqb bytes_down 0 ≡ b → Claim (33 + 2 * v)
        go4 a c d true e = (skip_left a ∙ (skip_right c ∙ (skip_up d ∙ take_down (eqb-true bytes_down 0 e))), eqb-true bytes_down 0 e, low_down)
        go4 a c d false e = absurd (h (rw (ne_eqb bytes_left 0 a, ne_eqb bytes_right 0 c, ne_eqb bytes_up 0 d, e) refl))

        go3 : (bytes_left ≡ 0 → ⊥) → (bytes_right ≡ 0 → ⊥) → (b : Bool) → eqb bytes_up 0 ≡ b → Claim (pick b (33 + 2 * v - 2 * w) (33 + 2 * v))
        go3 a c true e = (skip_left a ∙ (skip_right c ∙ take_up (eqb-true bytes_up 0 e)), eqb-true bytes_up 0 e, low_up)
        go3 a c false e = go4 a c (eqb-false bytes_up 0 e) (eqb bytes_down 0) refl

        go2 : (bytes_left ≡ 0 → ⊥) → (b : Bool) → eqb bytes_right 0 ≡ b → Claim (pick b (32 + 2 * v) (pick (eqb bytes_up 0) (33 + 2 * v - 2 * w) (33 + 2 * v)))
        go2 a true e = (skip_left a ∙ take_right (eqb-true bytes_right 0 e), eqb-true bytes_right 0 e, low_right)
        go2 a false e = go3 a (eqb-false bytes_right 0 e) (eqb bytes_up 0) refl

        go1 : (b : Bool) → eqb bytes_left 0 ≡ b → Claim (pick b (30 + 2 * v) (pick (eqb bytes_right 0) (32 + 2 * v) (pick (eqb bytes_up 0) (33 + 2 * v - 2 * w) (33 + 2 * v))))
        go1 true e = (take_left (eqb-true bytes_left 0 e), eqb-true bytes_left 0 e, low_left)
        go1 false e = go2 (eqb-false bytes_left 0 e) (eqb bytes_right 0) refl

  -- THE MODEL'S LAST PART, by its tests
  module _ (dec : Decide) where
    abbrev D : ℕ
    D = degree_around kind.bits es w v

    abbrev N : ℕ
    N = undecided_around es w v

    abbrev decides : ℕ → ℕ → State
    decides d n = elim (eqb n 1 || leb 2 d) [ true ↦ decide_first dec (line_or_none (eqb d 1)) (around g v) (view s) | false ↦ view s ]

    settled_is : settled g dec v (view s) ≡ elim (ltb 2 D || (eqb D 1 && eqb N 0)) [ true ↦ set_flag (view s) | false ↦ decides D N ]
    unfolding settled
    settled_is = ap (λ (d : ℕ). elim (ltb 2 d || (eqb d 1 && eqb (undecideds (view s) (around g v)) 0)) [ true ↦ set_flag (view s) | false ↦ decides d (undecideds (view s) (around g v)) ]) degree_is
        ∙ ap (λ (n : ℕ). elim (ltb 2 D || (eqb D 1 && eqb n 0)) [ true ↦ set_flag (view s) | false ↦ decides D n ]) undecideds_is

    flags : (ltb 2 D || (eqb D 1 && eqb N 0)) ≡ true → settled g dec v (view s) ≡ set_flag (view s)
    flags h = settled_is ∙ elim_true (ltb 2 D || (eqb D 1 && eqb N 0)) (set_flag (view s)) (decides D N) h

    firsts : (ltb 2 D || (eqb D 1 && eqb N 0)) ≡ false → (eqb N 1 || leb 2 D) ≡ true → settled g dec v (view s) ≡ decide_first dec (line_or_none (eqb D 1)) (around g v) (view s)
    firsts h k = settled_is ∙ (elim_false (ltb 2 D || (eqb D 1 && eqb N 0)) (set_flag (view s)) (decides D N) h
        ∙ elim_true (eqb N 1 || leb 2 D) (decide_first dec (line_or_none (eqb D 1)) (around g v) (view s)) (view s) k)

    rests : (ltb 2 D || (eqb D 1 && eqb N 0)) ≡ false → (eqb N 1 || leb 2 D) ≡ false → settled g dec v (view s) ≡ view s
    rests h k = settled_is ∙ (elim_false (ltb 2 D || (eqb D 1 && eqb N 0)) (set_flag (view s)) (decides D N) h
        ∙ elim_false (eqb N 1 || leb 2 D) (decide_first dec (line_or_none (eqb D 1)) (around g v) (view s)) (view s) k)

  -- THE ACTION
  first_facts : (N (λ e m S. S) ≡ 0 → ⊥) → (get_or es (first_around es w v) 0 ≡ 0) × (first_around es w v < 1024)
  first_facts h = let c = first_undecided (λ e m S. S) line h in (c.1, c.2)

  abbrev dd : ℕ
  dd = degree_around kind.bits es w v

  abbrev nn : ℕ
  nn = undecided_around es w v

  abbrev ff : ℕ
  ff = first_around es w v

  pub action_is : (t : ℕ) → t ≡ action_around kind.bits es w v → Action kind s v t
  unfolding action_around
  action_is t h = rw h (go (ltb 2 dd) refl (eqb nn 0) refl (eqb dd 1) refl (eqb dd 2) refl (eqb nn 1) refl)
    where
      go : (a : Bool) → ltb 2 dd ≡ a → (b : Bool) → eqb nn 0 ≡ b → (c : Bool) → eqb dd 1 ≡ c → (d : Bool) → eqb dd 2 ≡ d → (e : Bool) → eqb nn 1 ≡ e
          → Action kind s v (pick a 1 (pick b (pick c 1 0) (pick d (ff + 1024) (pick e (pick c ff (ff + 1024)) 0))))
      go true pa b pb c pc d pd e pe = raise refl (λ dec. flags dec (rw pa refl))
      go false pa true pb true pc d pd e pe = raise refl (λ dec. flags dec (rw (pa, pc, pb) refl))
      go false pa true pb false pc d pd e pe = nothing refl (λ dec. two dec (leb 2 dd) refl)
        where
          two : (dec : Decide) (x : Bool) → leb 2 dd ≡ x → settled g dec v (view s) ≡ view s
          two dec true px = firsts dec (rw (pa, pc) refl) (rw px (or-true (eqb nn 1))) ∙ none_undecided dec (line_or_none (eqb dd 1)) (eqb-true nn 0 pb)
          two dec false px = rests dec (rw (pa, pc) refl) (rw (ne_eqb nn 1 (omega (arith, eqb-true nn 0 pb)), px) refl)
      go false pa false pb true pc true pd e pe = absurd (omega (arith, eqb-true dd 1 pc, eqb-true dd 2 pd))
      go false pa false pb false pc true pd e pe = let k = first_facts (eqb-false nn 0 pb) in leave ff refl k.1 k.0
          (λ dec. firsts dec (rw (pa, pc) refl) (rw (le-leb 2 dd (omega (arith, eqb-true dd 2 pd))) (or-true (eqb nn 1))) ∙ rw pc (first_undecided dec none (eqb-false nn 0 pb)).0)
      go false pa false pb true pc false pd true pe = let k = first_facts (eqb-false nn 0 pb) in draw ff refl k.1 k.0
          (λ dec. firsts dec (rw (pa, pc, pb) refl) (rw pe refl) ∙ rw pc (first_undecided dec line (eqb-false nn 0 pb)).0)
      go false pa false pb false pc false pd true pe = let k = first_facts (eqb-false nn 0 pb) in leave ff refl k.1 k.0
          (λ dec. firsts dec (rw (pa, pc) refl) (rw pe refl) ∙ rw pc (first_undecided dec none (eqb-false nn 0 pb)).0)
      go false pa false pb c pc false pd false pe = nothing refl (λ dec. rests dec (rw (pa, pb) (and-false (eqb dd 1))) (rw (pe, lt-leb 2 dd (omega (arith, ltb-false 2 dd pa, eqb-false dd 2 pd))) refl))
