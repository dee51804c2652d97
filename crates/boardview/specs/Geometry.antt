-- Where the slots around an edge lie: which of them are on the board, and that the items that the code does by slots are the model's
-- items of steps d and e, in the same order. It rests on View.antt and Bytes.antt; geometry is by flat indexes v, v + 1, v + width.
use Rattle.std.specs.Prelude.{ℕ, ◌+◌, ◌*◌, ◌-◌, ◌%◌, ◌/◌, ◌≤◌, ◌<◌, ◌≡◌, Bool, ◌&&◌, eqb, ltb}
use Rattle.std.proofs.Math.Path.{refl, ap}
use Rattle.std.proofs.Common.{sym, ◌∙◌, arith, mod-eq_of_lt}
use Rattle.std.proofs.Math.Bool.{true, false, and-true}
use mathlib.Core.List.{List, [], ◌∷◌, ◌++◌, append_assoc}
use Rattle.std.proofs.Math.Nat.{add-mod_right, mod-le, mul-le-mul}
use borrow.Author.Tests.{lt-ltb, le-ltb, ltb-true, ltb-false, lt-leb, leb-true, leb-false}
use Rattle.rules.specs.Grid.{Edge, right, down, Grid, pads}
use Rattle.rules.specs.Drawing.{on_left, on_right}
use Rattle.rules.specs.Tests.{both}
use Rattle.rules.specs.Places.{next_column, next_in_row, previous_column}
use Rattle.model.specs.PadTests.{has_right, has_left, has_down, has_up, on_board}
use Rattle.model.specs.Board.{Item, bar, detours, when, has_side, barred, corner_right, corner_left, shape_items}
use Rattle.model.specs.BoardLaws.{left_of_next}
use Rattle.boardview.specs.Told.{pick}
use Rattle.boardview.specs.declared.kinds.Kinds.{Kinds}
use Rattle.boardview.specs.View.{slot, edge_of, second_pad, slot_on, grid_in, detour_at, corner_at, bar_at}
use Rattle.boardview.specs.Bytes.{right_slot, down_slot, edge_on, on_slot}

-- COLUMNS
module _ (W v : ℕ) where
  pub column_before : 0 < W → 0 < v % W → (v - 1) % W + 1 < W
  column_before p h = let one : v - 1 + 1 ≡ v = omega (arith, mod-le v W) in previous_column W (v - 1) p (rw one h)

  -- the pad before the first pad of a row is the last of another
  pub last_before : 0 < v → v % W ≡ 0 → (v - 1) % W + 1 < W → ⊥
  last_before p z h = let one : v - 1 + 1 ≡ v = omega arith in omega (arith, sym (next_column W (v - 1) h) ∙ ap (λ (x : ℕ). x % W) one)

-- the slot of the edge down from the next pad, and of the edge to the right one row below
next_down : (v : ℕ) → 35 + 2 * v ≡ slot (down (v + 1))
next_down v = omega arith

pub next_down_on : (g : Grid) (v : ℕ) → slot_on g (35 + 2 * v) ≡ has_down g (v + 1)
next_down_on g v = ap (slot_on g) (next_down v) ∙ edge_on g (down (v + 1))

right_below : (W v : ℕ) → 32 + 2 * v + 2 * W ≡ slot (right (v + W))
right_below W v = omega arith

-- SLOTS ON THE BOARD AND OFF IT
module _ (g : Grid) (p : 2 ≤ g.width) (q : g.width ≤ 16) where
  abbrev W : ℕ
  W = g.width

  pub right_on : (v : ℕ) → on_board g (right v) ≡ true → (v % W + 1 < W) × (v < pads g)
  right_on v h = let b = both (has_right g v) (ltb v (pads g)) h in (ltb-true _ _ b.0, ltb-true _ _ b.1)

  pub down_on : (v : ℕ) → on_board g (down v) ≡ true → v + W < pads g
  down_on v h = ltb-true _ _ h

  pub beyond_right : (v : ℕ) → on_board g (right v) ≡ true → v + 1 < pads g
  beyond_right v h = let b = right_on v h in next_in_row W v g.height b.0 b.1

  below_column : (v : ℕ) → has_right g (v + W) ≡ has_right g v
  below_column v = rw (add-mod_right v W) refl

  -- a slot off the board
  pub low_off : (s : ℕ) → s < 32 → slot_on g s ≡ false
  unfolding slot_on
  low_off s h = rw (lt-leb 32 s h) refl

  pub slot_is : (s : ℕ) (e : Edge) → s ≡ slot e → slot_on g s ≡ on_board g e
  slot_is s e h = ap (slot_on g) h ∙ edge_on g e

  right_true : (v : ℕ) → v % W + 1 < W → v < pads g → on_board g (right v) ≡ true
  right_true v h k = rw (lt-ltb (v % W + 1) W h, lt-ltb v (pads g) k) refl

  right_false : (v : ℕ) → (v % W + 1 < W → ⊥) → on_board g (right v) ≡ false
  right_false v n = rw (le-ltb (v % W + 1) W (omega arith)) refl

  is_right : (s u : ℕ) → s ≡ slot (right u) → edge_of s ≡ right u
  is_right s u h = ap edge_of h ∙ right_slot u

  is_down : (s u : ℕ) → s ≡ slot (down u) → edge_of s ≡ down u
  is_down s u h = ap edge_of h ∙ down_slot u

  -- THE FOUR SLOTS AT A PAD
  module _ (v : ℕ) (below : v < pads g) where
    before : 0 < v → 30 + 2 * v ≡ slot (right (v - 1))
    before h = omega arith

    above : W ≤ v → 33 + 2 * v - 2 * W ≡ slot (down (v - W))
    above h = omega arith

    after_first : has_left g v ≡ true → 0 < v
    after_first e = omega (arith, ltb-true 0 (v % W) e, mod-le v W)

    pub slot_left : slot_on g (30 + 2 * v) ≡ has_left g v
    slot_left = go (has_left g v) refl
      where
        go : (b : Bool) → has_left g v ≡ b → slot_on g (30 + 2 * v) ≡ b
        go true e = slot_is _ (right (v - 1)) (before (after_first e)) ∙ right_true (v - 1) (column_before W v (omega arith) (ltb-true 0 (v % W) e)) (omega arith)
        go false e = start (ltb 0 v) refl
          where
            start : (t : Bool) → ltb 0 v ≡ t → slot_on g (30 + 2 * v) ≡ false
            start true f = slot_is _ (right (v - 1)) (before (ltb-true 0 v f)) ∙ right_false (v - 1) (last_before W v (ltb-true 0 v f) (omega (arith, ltb-false 0 (v % W) e)))
            start false f = low_off _ (omega (arith, ltb-false 0 v f))

    pub slot_right : slot_on g (32 + 2 * v) ≡ has_right g v
    slot_right = edge_on g (right v) ∙ rw (lt-ltb v (pads g) below) (and-true (has_right g v))

    pub slot_up : slot_on g (33 + 2 * v - 2 * W) ≡ has_up g v
    slot_up = go (has_up g v) refl
      where
        go : (b : Bool) → has_up g v ≡ b → slot_on g (33 + 2 * v - 2 * W) ≡ b
        go true e = slot_is _ (down (v - W)) (above (leb-true W v e)) ∙ lt-ltb (v - W + W) (pads g) (omega (arith, leb-true W v e))
        go false e = low_off _ (omega (arith, leb-false W v e))

    pub slot_down : slot_on g (33 + 2 * v) ≡ has_down g v
    slot_down = edge_on g (down v)

    pub edge_left : has_left g v ≡ true → edge_of (30 + 2 * v) ≡ right (v - 1)
    edge_left e = is_right _ (v - 1) (before (after_first e))

    pub edge_up : has_up g v ≡ true → edge_of (33 + 2 * v - 2 * W) ≡ down (v - W)
    edge_up e = is_down _ (v - W) (above (leb-true W v e))

  -- THE SLOTS AROUND AN EDGE TO THE RIGHT
  module _ (v : ℕ) (on : on_board g (right v) ≡ true) where
    column : v % W + 1 < W
    column = (right_on v on).0

    inside : v < pads g
    inside = (right_on v on).1

    -- in the first row v is the column
    first_row : v < W → v + 1 < W
    first_row h = omega (arith, mod-eq_of_lt h, column)

    module _ (h : W ≤ v) where
      at_upper_right : 35 + 2 * v - 2 * W ≡ slot (down (v - W + 1))
      at_upper_right = omega arith

      at_upper : 32 + 2 * v - 2 * W ≡ slot (right (v - W))
      at_upper = omega arith

      on_upper_right : on_board g (down (v - W + 1)) ≡ true
      on_upper_right = lt-ltb (v - W + 1 + W) (pads g) (omega (arith, beyond_right v on))

      on_upper : on_board g (right (v - W)) ≡ true
      on_upper = right_true (v - W) (rw (sym (ap (λ (x : ℕ). x % W) back) ∙ add-mod_right (v - W) W) at column) (omega (arith, inside))
        where
          back : v - W + W ≡ v
          back = omega arith

    pub upper_left : slot_on g (33 + 2 * v - 2 * W) ≡ has_up g v
    upper_left = slot_up v inside

    pub upper_right : slot_on g (35 + 2 * v - 2 * W) ≡ has_up g v
    upper_right = go (has_up g v) refl
      where
        go : (b : Bool) → has_up g v ≡ b → slot_on g (35 + 2 * v - 2 * W) ≡ b
        go true e = slot_is _ (down (v - W + 1)) (at_upper_right (leb-true W v e)) ∙ on_upper_right (leb-true W v e)
        go false e = low_off _ (omega (arith, first_row (leb-false W v e)))

    pub upper : slot_on g (32 + 2 * v - 2 * W) ≡ has_up g v
    upper = go (has_up g v) refl
      where
        go : (b : Bool) → has_up g v ≡ b → slot_on g (32 + 2 * v - 2 * W) ≡ b
        go true e = slot_is _ (right (v - W)) (at_upper (leb-true W v e)) ∙ on_upper (leb-true W v e)
        go false e = low_off _ (omega (arith, leb-false W v e))

    pub lower_left : slot_on g (33 + 2 * v) ≡ has_down g v
    lower_left = slot_down v inside

    both_below : has_down g (v + 1) ≡ has_down g v
    both_below = go (has_down g v) refl
      where
        go : (b : Bool) → has_down g v ≡ b → has_down g (v + 1) ≡ b
        go true e = lt-ltb (v + 1 + W) (pads g) (omega (arith, next_in_row W (v + W) g.height (rw (add-mod_right v W) column) (ltb-true _ _ e)))
        go false e = le-ltb (v + 1 + W) (pads g) (omega (arith, ltb-false (v + W) (pads g) e))

    pub lower_right : slot_on g (35 + 2 * v) ≡ has_down g v
    lower_right = next_down_on g v ∙ both_below

    pub lower : slot_on g (32 + 2 * v + 2 * W) ≡ has_down g v
    lower = slot_is _ (right (v + W)) (right_below W v) ∙ rw (below_column v, lt-ltb (v % W + 1) W column) refl

    -- STEPS D AND E by slots are the model's items
    abbrev right_upper : List Item → List Item
    right_upper L = detour_at g (33 + 2 * v - 2 * W) (35 + 2 * v - 2 * W) (32 + 2 * v - 2 * W)
        ++ (detour_at g (35 + 2 * v - 2 * W) (33 + 2 * v - 2 * W) (32 + 2 * v - 2 * W)
        ++ (detour_at g (32 + 2 * v - 2 * W) (33 + 2 * v - 2 * W) (35 + 2 * v - 2 * W) ++ L))

    abbrev right_lower : List Item → List Item
    right_lower L = detour_at g (33 + 2 * v) (35 + 2 * v) (32 + 2 * v + 2 * W)
        ++ (detour_at g (35 + 2 * v) (33 + 2 * v) (32 + 2 * v + 2 * W)
        ++ (detour_at g (32 + 2 * v + 2 * W) (33 + 2 * v) (35 + 2 * v) ++ L))

    right_upper_is : (L : List Item) → right_upper L ≡ when (has_up g v) (detours (down (v - W)) (down (v - W + 1)) (right (v - W))) ++ L
    unfolding detour_at
    right_upper_is L = go (has_up g v) refl
      where
        go : (b : Bool) → has_up g v ≡ b → right_upper L ≡ when b (detours (down (v - W)) (down (v - W + 1)) (right (v - W))) ++ L
        go true e = let h = leb-true W v e in
            rw (upper_left ∙ e, upper_right ∙ e, upper ∙ e, edge_up v inside e, is_down _ (v - W + 1) (at_upper_right h), is_right _ (v - W) (at_upper h)) refl
        go false e = rw (upper_left ∙ e, upper_right ∙ e, upper ∙ e) refl

    right_lower_is : (L : List Item) → right_lower L ≡ when (has_down g v) (detours (down v) (down (v + 1)) (right (v + W))) ++ L
    unfolding detour_at
    right_lower_is L = go (has_down g v) refl
      where
        go : (b : Bool) → has_down g v ≡ b → right_lower L ≡ when b (detours (down v) (down (v + 1)) (right (v + W))) ++ L
        go true e = rw (lower_left ∙ e, lower_right ∙ e, lower ∙ e, down_slot v, is_down _ (v + 1) (next_down v), is_right _ (v + W) (right_below W v)) refl
        go false e = rw (lower_left ∙ e, lower_right ∙ e, lower ∙ e) refl

    right_corners_is : (b c : Bool) → b ≡ ((has_down g v && has_side g on_right v) && barred g on_right g.height v)
        → c ≡ ((has_down g (v + 1) && has_side g on_left (v + 1)) && barred g on_left g.height (v + 1)) → (L : List Item)
        → corner_at g on_right (v + W + 1) (33 + 2 * v) ++ (corner_at g on_left (v + W) (35 + 2 * v) ++ (bar_at g b (33 + 2 * v) ++ (bar_at g c (35 + 2 * v) ++ L)))
        ≡ when (has_down g v) (corner_right g v (down v) ∷ corner_left g v (down (v + 1)) ∷ bar (barred g on_right g.height v) (down v) ∷ bar (barred g on_left g.height (v + 1)) (down (v + 1)) ∷ []) ++ L
    unfolding corner_at bar_at
    right_corners_is b c eb ec L = go (has_down g v) refl
      where
        go : (d : Bool) → has_down g v ≡ d
            → corner_at g on_right (v + W + 1) (33 + 2 * v) ++ (corner_at g on_left (v + W) (35 + 2 * v) ++ (bar_at g b (33 + 2 * v) ++ (bar_at g c (35 + 2 * v) ++ L)))
            ≡ when d (corner_right g v (down v) ∷ corner_left g v (down (v + 1)) ∷ bar (barred g on_right g.height v) (down v) ∷ bar (barred g on_left g.height (v + 1)) (down (v + 1)) ∷ []) ++ L
        go true e = rw (lower_left ∙ e, lower_right ∙ e, down_slot v, is_down _ (v + 1) (next_down v), eb, ec, e, both_below ∙ e, lt-ltb (v % W + 1) W column, left_of_next g v column) refl
        go false e = rw (lower_left ∙ e, lower_right ∙ e) refl

    -- all items of steps d and e for a line to the right, and what comes after them
    pub right_items : (b c : Bool) → b ≡ ((has_down g v && has_side g on_right v) && barred g on_right g.height v)
        → c ≡ ((has_down g (v + 1) && has_side g on_left (v + 1)) && barred g on_left g.height (v + 1)) → (L : List Item)
        → right_upper (right_lower (corner_at g on_right (v + W + 1) (33 + 2 * v) ++ (corner_at g on_left (v + W) (35 + 2 * v) ++ (bar_at g b (33 + 2 * v) ++ (bar_at g c (35 + 2 * v) ++ L)))))
        ≡ shape_items g (right v) ++ L
    unfolding shape_items
    right_items b c eb ec L = right_upper_is _ ∙ (ap (λ (x : List Item). when (has_up g v) (detours (down (v - W)) (down (v - W + 1)) (right (v - W))) ++ x)
        (right_lower_is _ ∙ ap (λ (x : List Item). when (has_down g v) (detours (down v) (down (v + 1)) (right (v + W))) ++ x) (right_corners_is b c eb ec L))
        ∙ rw on (simp append_assoc))

  -- THE SLOTS AROUND AN EDGE DOWNWARD
  module _ (v : ℕ) (on : on_board g (down v) ≡ true) where
    below : v + W < pads g
    below = down_on v on

    inside_above : v < pads g
    inside_above = omega (arith, below)

    some_column : 0 < W
    some_column = omega arith

    module _ (h : 0 < v % W) where
      not_first : 0 < v
      not_first = omega (arith, mod-le v W)

      at_lower_left : 30 + 2 * v + 2 * W ≡ slot (right (v - 1 + W))
      at_lower_left = omega (arith, not_first)

      at_far_left : 31 + 2 * v ≡ slot (down (v - 1))
      at_far_left = omega (arith, not_first)

      on_lower_left : on_board g (right (v - 1 + W)) ≡ true
      on_lower_left = right_true (v - 1 + W) (rw (add-mod_right (v - 1) W) (column_before W v some_column h)) (omega (arith, below, not_first))

      on_far_left : on_board g (down (v - 1)) ≡ true
      on_far_left = lt-ltb (v - 1 + W) (pads g) (omega (arith, below, not_first))

    pub left_side : slot_on g (30 + 2 * v) ≡ has_left g v
    left_side = slot_left v inside_above

    pub lower_left_side : slot_on g (30 + 2 * v + 2 * W) ≡ has_left g v
    lower_left_side = go (has_left g v) refl
      where
        go : (b : Bool) → has_left g v ≡ b → slot_on g (30 + 2 * v + 2 * W) ≡ b
        go true e = let h = ltb-true 0 (v % W) e in slot_is _ (right (v - 1 + W)) (at_lower_left h) ∙ on_lower_left h
        go false e = slot_is _ (right (v + W - 1)) at ∙ right_false (v + W - 1) (last_before W (v + W) (omega arith) (add-mod_right v W ∙ zero_column))
          where
            zero_column : v % W ≡ 0
            zero_column = omega (arith, ltb-false 0 (v % W) e)

            at : 30 + 2 * v + 2 * W ≡ slot (right (v + W - 1))
            at = omega arith

    pub far_left : (b : Bool) → b ≡ (has_down g v && has_side g on_left v) → slot_on g (pick b (31 + 2 * v) 0) ≡ has_left g v
    far_left b eb = go (has_left g v) refl
      where
        go : (t : Bool) → has_left g v ≡ t → slot_on g (pick b (31 + 2 * v) 0) ≡ t
        go true e = let h = ltb-true 0 (v % W) e in rw (eb, on, e) (slot_is _ (down (v - 1)) (at_far_left h) ∙ on_far_left h)
        go false e = rw (eb, on, e) (low_off 0 (omega arith))

    pub right_side : slot_on g (32 + 2 * v) ≡ has_right g v
    right_side = slot_right v inside_above

    pub lower_right_side : slot_on g (32 + 2 * v + 2 * W) ≡ has_right g v
    lower_right_side = slot_is _ (right (v + W)) (right_below W v) ∙ (ap (λ (x : Bool). x && ltb (v + W) (pads g)) (below_column v) ∙ rw on (and-true (has_right g v)))

    pub far_right : (b : Bool) → b ≡ (has_down g v && has_side g on_right v) → slot_on g (pick b (35 + 2 * v) 0) ≡ has_right g v
    far_right b eb = go (has_right g v) refl
      where
        go : (t : Bool) → has_right g v ≡ t → slot_on g (pick b (35 + 2 * v) 0) ≡ t
        go true e = rw (eb, on, e) (next_down_on g v ∙ lt-ltb (v + 1 + W) (pads g) (omega (arith, next_in_row W (v + W) g.height (rw (add-mod_right v W) (ltb-true (v % W + 1) W e)) below)))
        go false e = rw (eb, on, e) (low_off 0 (omega arith))

    down_left_is : (b : Bool) → b ≡ (has_down g v && has_side g on_left v) → (L : List Item)
        → detour_at g (30 + 2 * v) (30 + 2 * v + 2 * W) (31 + 2 * v)
        ++ (detour_at g (30 + 2 * v + 2 * W) (30 + 2 * v) (31 + 2 * v)
        ++ (detour_at g (pick b (31 + 2 * v) 0) (30 + 2 * v) (30 + 2 * v + 2 * W) ++ L))
        ≡ when (has_left g v) (detours (right (v - 1)) (right (v - 1 + W)) (down (v - 1))) ++ L
    unfolding detour_at
    down_left_is b eb L = go (has_left g v) refl
      where
        go : (t : Bool) → has_left g v ≡ t → detour_at g (30 + 2 * v) (30 + 2 * v + 2 * W) (31 + 2 * v)
            ++ (detour_at g (30 + 2 * v + 2 * W) (30 + 2 * v) (31 + 2 * v)
            ++ (detour_at g (pick b (31 + 2 * v) 0) (30 + 2 * v) (30 + 2 * v + 2 * W) ++ L))
            ≡ when t (detours (right (v - 1)) (right (v - 1 + W)) (down (v - 1))) ++ L
        go true e = let h = ltb-true 0 (v % W) e in
            let picked : pick b (31 + 2 * v) 0 ≡ 31 + 2 * v = rw (eb, on, e) refl in
            rw (left_side ∙ e, lower_left_side ∙ e, far_left b eb ∙ e, picked, edge_left v inside_above e, is_right _ (v - 1 + W) (at_lower_left h), is_down _ (v - 1) (at_far_left h)) refl
        go false e = rw (left_side ∙ e, lower_left_side ∙ e, far_left b eb ∙ e) refl

    down_right_is : (b : Bool) → b ≡ (has_down g v && has_side g on_right v) → (L : List Item)
        → detour_at g (32 + 2 * v) (32 + 2 * v + 2 * W) (35 + 2 * v)
        ++ (detour_at g (32 + 2 * v + 2 * W) (32 + 2 * v) (35 + 2 * v)
        ++ (detour_at g (pick b (35 + 2 * v) 0) (32 + 2 * v) (32 + 2 * v + 2 * W) ++ L))
        ≡ when (has_right g v) (detours (right v) (right (v + W)) (down (v + 1))) ++ L
    unfolding detour_at
    down_right_is b eb L = go (has_right g v) refl
      where
        go : (t : Bool) → has_right g v ≡ t → detour_at g (32 + 2 * v) (32 + 2 * v + 2 * W) (35 + 2 * v)
            ++ (detour_at g (32 + 2 * v + 2 * W) (32 + 2 * v) (35 + 2 * v)
            ++ (detour_at g (pick b (35 + 2 * v) 0) (32 + 2 * v) (32 + 2 * v + 2 * W) ++ L))
            ≡ when t (detours (right v) (right (v + W)) (down (v + 1))) ++ L
        go true e =
            let picked : pick b (35 + 2 * v) 0 ≡ 35 + 2 * v = rw (eb, on, e) refl in
            rw (right_side ∙ e, lower_right_side ∙ e, far_right b eb ∙ e, picked, right_slot v, is_right _ (v + W) (right_below W v), is_down _ (v + 1) (next_down v)) refl
        go false e = rw (right_side ∙ e, lower_right_side ∙ e, far_right b eb ∙ e) refl

    down_left_corner_is : (L : List Item) → corner_at g on_left (v + W - 1) (30 + 2 * v) ++ L ≡ when (has_left g v) (corner_left g (v - 1) (right (v - 1)) ∷ []) ++ L
    unfolding corner_at
    down_left_corner_is L = go (has_left g v) refl
      where
        go : (t : Bool) → has_left g v ≡ t → corner_at g on_left (v + W - 1) (30 + 2 * v) ++ L ≡ when t (corner_left g (v - 1) (right (v - 1)) ∷ []) ++ L
        go true e = let h = ltb-true 0 (v % W) e in let same : v + W - 1 ≡ v - 1 + W = omega (arith, not_first h) in
            rw (left_side ∙ e, same, edge_left v inside_above e) refl
        go false e = rw (left_side ∙ e) refl

    down_right_corner_is : (L : List Item) → corner_at g on_right (v + W + 1) (32 + 2 * v) ++ L ≡ when (has_right g v) (corner_right g v (right v) ∷ []) ++ L
    unfolding corner_at
    down_right_corner_is L = go (has_right g v) refl
      where
        go : (t : Bool) → has_right g v ≡ t → corner_at g on_right (v + W + 1) (32 + 2 * v) ++ L ≡ when t (corner_right g v (right v) ∷ []) ++ L
        go true e = rw (right_side ∙ e, right_slot v) refl
        go false e = rw (right_side ∙ e) refl

    down_left_bar_is : (b : Bool) → b ≡ ((has_down g v && has_side g on_left v) && barred g on_left g.height v) → (L : List Item)
        → bar_at g b (30 + 2 * v) ++ L ≡ when (has_left g v) (bar (barred g on_left g.height v) (right (v - 1)) ∷ []) ++ L
    unfolding bar_at
    down_left_bar_is b eb L = go (has_left g v) refl
      where
        go : (t : Bool) → has_left g v ≡ t → bar_at g b (30 + 2 * v) ++ L ≡ when t (bar (barred g on_left g.height v) (right (v - 1)) ∷ []) ++ L
        go true e = rw (left_side ∙ e, eb, on, e, edge_left v inside_above e) refl
        go false e = rw (left_side ∙ e) refl

    down_right_bar_is : (b : Bool) → b ≡ ((has_down g v && has_side g on_right v) && barred g on_right g.height v) → (L : List Item)
        → bar_at g b (32 + 2 * v) ++ L ≡ when (has_right g v) (bar (barred g on_right g.height v) (right v) ∷ []) ++ L
    unfolding bar_at
    down_right_bar_is b eb L = go (has_right g v) refl
      where
        go : (t : Bool) → has_right g v ≡ t → bar_at g b (32 + 2 * v) ++ L ≡ when t (bar (barred g on_right g.height v) (right v) ∷ []) ++ L
        go true e = rw (right_side ∙ e, eb, on, e, right_slot v) refl
        go false e = rw (right_side ∙ e) refl

    -- all items of steps d and e for a line downward, and what comes after them
    pub down_items : (l r b c : Bool) → l ≡ (has_down g v && has_side g on_left v) → r ≡ (has_down g v && has_side g on_right v)
        → b ≡ ((has_down g v && has_side g on_left v) && barred g on_left g.height v)
        → c ≡ ((has_down g v && has_side g on_right v) && barred g on_right g.height v) → (L : List Item)
        → detour_at g (30 + 2 * v) (30 + 2 * v + 2 * W) (31 + 2 * v)
        ++ (detour_at g (30 + 2 * v + 2 * W) (30 + 2 * v) (31 + 2 * v)
        ++ (detour_at g (pick l (31 + 2 * v) 0) (30 + 2 * v) (30 + 2 * v + 2 * W)
        ++ (detour_at g (32 + 2 * v) (32 + 2 * v + 2 * W) (35 + 2 * v)
        ++ (detour_at g (32 + 2 * v + 2 * W) (32 + 2 * v) (35 + 2 * v)
        ++ (detour_at g (pick r (35 + 2 * v) 0) (32 + 2 * v) (32 + 2 * v + 2 * W)
        ++ (corner_at g on_left (v + W - 1) (30 + 2 * v) ++ (corner_at g on_right (v + W + 1) (32 + 2 * v)
        ++ (bar_at g b (30 + 2 * v) ++ (bar_at g c (32 + 2 * v) ++ L)))))))))
        ≡ shape_items g (down v) ++ L
    unfolding shape_items
    down_items l r b c el er eb ec L = down_left_is l el _
        ∙ (ap (λ (x : List Item). when (has_left g v) (detours (right (v - 1)) (right (v - 1 + W)) (down (v - 1))) ++ x) (down_right_is r er _
        ∙ ap (λ (x : List Item). when (has_right g v) (detours (right v) (right (v + W)) (down (v + 1))) ++ x) (down_left_corner_is _
        ∙ ap (λ (x : List Item). when (has_left g v) (corner_left g (v - 1) (right (v - 1)) ∷ []) ++ x) (down_right_corner_is _
        ∙ ap (λ (x : List Item). when (has_right g v) (corner_right g v (right v) ∷ []) ++ x) (down_left_bar_is b eb _
        ∙ ap (λ (x : List Item). when (has_left g v) (bar (barred g on_left g.height v) (right (v - 1)) ∷ []) ++ x) (down_right_bar_is c ec L)))))
        ∙ rw on (simp append_assoc))

-- the pads and the slot of an edge of the board
pub slot_bounds : (g : Grid) → 2 ≤ g.width → g.width ≤ 16 → pads g ≤ 256 → (n : ℕ) → slot_on g n ≡ true → (32 ≤ n) × (n < 544) × (n / 2 - 16 < 256) × (second_pad g.width n < 256)
unfolding edge_of
slot_bounds g p q few n on = go (eqb (n % 2) 0) refl (on_slot g n on).1
  where
    high : 32 ≤ n
    high = (on_slot g n on).0

    go : (b : Bool) → eqb (n % 2) 0 ≡ b → on_board g (pick b (right (n / 2 - 16)) (down (n / 2 - 16))) ≡ true → (32 ≤ n) × (n < 544) × (n / 2 - 16 < 256) × (pick b (n / 2 - 15) (n / 2 - 16 + g.width) < 256)
    go true e o = let h = right_on g p q (n / 2 - 16) o in let k = beyond_right g p q (n / 2 - 16) o in (high, omega (arith, high, h.1), omega (arith, h.1), omega (arith, k, high))
    go false e o = let h = down_on g p q (n / 2 - 16) o in (high, omega (arith, high, h), omega (arith, h), omega (arith, h))

-- what is told of a grid is of few pads
pub few_told : (kind : Kinds) → pads (grid_in kind) ≤ 256
few_told kind = mul-le-mul kind.told.largest_height kind.told.largest_width

pub slot_told : (kind : Kinds) (n : ℕ) → slot_on (grid_in kind) n ≡ true → (32 ≤ n) × (n < 544) × (n / 2 - 16 < 256) × (second_pad kind.width n < 256)
slot_told kind n on = slot_bounds (grid_in kind) kind.told.least_width kind.told.largest_width (few_told kind) n on
