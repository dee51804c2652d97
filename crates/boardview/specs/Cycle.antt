-- What the calls of the decision ask, and what its ways through give, in the shape in which the code's paths come to them: numbers as the
-- code computed them, arrays as it left them. It rests on Items.antt, Check.antt and Geometry.antt.
use Prim.Native.Nat.{ℕ, suc, ◌+◌, ◌*◌, ◌-◌, ◌%◌, ◌/◌, ◌≤◌, ◌<◌}
use Rattle.std.specs.Prelude.{◌≡◌, Bool, ◌&&◌, set, length, pos}
use Rattle.std.proofs.Math.Path.{refl, sym}
use Rattle.std.proofs.Common.{ap, ◌∙◌, subst}
use Rattle.std.proofs.Math.Bool.{true, false}
use mathlib.Core.List.{List, ◌++◌}
use native.Mathlib.Omega.{arith}
use Rattle.std.proofs.Math.Nat.{mod-le}
use Rattle.std.proofs.Math.Dec.{eqb}
use Rattle.std.proofs.Math.ListN.{get_or}
use borrow.Author.Tests.{ne_eqb, lt-ltb, ltb-true}
use Rattle.rules.specs.Grid.{Edge, right, down, first, second, Grid, pads}
use Rattle.rules.specs.Drawing.{Side, on_left, on_right}
use Rattle.rules.specs.Tests.{both, neither, conflict, not_so, is_so}
use Rattle.model.specs.JoinedEnds.{End, through, at_pad, at_clue, unjoinable}
use Rattle.model.specs.PadTests.{has_right, has_left, has_down, has_up, on_board}
use Rattle.model.specs.Board.{line, Item, has_side, barred, shape_items, keep_aparts, around}
use Rattle.boardview.specs.declared.Arrays.{Arrays}
use Rattle.boardview.specs.declared.kinds.Kinds.{Kinds}
use Rattle.boardview.specs.Told.{pick, has_bit, corner_bit}
use Rattle.boardview.specs.View.{logged, beside, stopped, ended, going, slot, edge_of, slot_on, state_of, end_at, second_pad, grid_in, joined, Ready, Decided, Done, NoneAt, Settled, pad_number, detour_at, corner_at, bar_at, check_at, code_number, keeps_apart, some_apart, clue_apart, keep_at, action_around, with_count}
use Rattle.model.specs.Lists.{default_free}
use Rattle.boardview.specs.Bytes.{slot_of_edge, on_slot}
use Rattle.boardview.specs.Unwind.{log_stored, log_joined, stored, LineBegun}
use Rattle.boardview.specs.Geometry.{column_before, right_on, down_on, beyond_right, upper_left, upper_right, upper, lower_left, lower_right, lower, right_items, left_side, lower_left_side, far_left, right_side, lower_right_side, far_right, down_items, next_down_on, slot_told}
use Rattle.boardview.specs.Stores.{Stored, going_count, few_logged, first_inside, second_inside}
use Rattle.boardview.specs.Steps.{done_then, done_as, done_nothing, done_ended, slot_is_on}
use Rattle.boardview.specs.Check.{settle_none, settle_line, keep_rests, keep_decides, keeps_on, keeps_is, first_items}
use Rattle.boardview.specs.Items.{none_arrays, none_stored, decided_none, decided_same, decided_other, line_stopped, line_arrays, line_stored, decided_line}

pub same_on : {a b c : Bool} → a ≡ c → b ≡ c → a ≡ true → b ≡ true
same_on p q h = q ∙ (sym p ∙ h)

-- NONE AT A SLOT
module _ (kind : Kinds) (s : Arrays) (n : ℕ) (h : n < 1024) (y : Ready (grid_in kind) s) where
  abbrev g : Grid
  g = grid_in kind

  module _ (z : get_or s.edges n 0 ≡ 0) where
    pub none_on : slot_on g n ≡ true
    none_on = slot_is_on g s y n h (omega arith)

    pub none_high : 32 ≤ n
    none_high = (on_slot g n none_on).0

    at_slot : slot (edge_of n) ≡ n
    at_slot = slot_of_edge n none_high

    edge_there : on_board g (edge_of n) ≡ true
    edge_there = (on_slot g n none_on).1

    byte_there : get_or s.edges (slot (edge_of n)) 0 ≡ 0
    byte_there = ap (λ (x : ℕ). get_or s.edges x 0) at_slot ∙ z

    pub none_room : logged s < 480
    none_room = few_logged g s (edge_of n) y edge_there byte_there

    first_is : n / 2 - 16 ≡ first (edge_of n)
    unfolding edge_of
    first_is = go (eqb (n % 2) 0)
      where
        go : (b : Bool) → n / 2 - 16 ≡ first (pick b (right (n / 2 - 16)) (down (n / 2 - 16)))
        go true = refl
        go false = refl

    second_is : second_pad g.width n ≡ second g.width (edge_of n)
    unfolding edge_of
    second_is = go (eqb (n % 2) 0)
      where
        go : (b : Bool) → pick b (n / 2 - 15) (n / 2 - 16 + g.width) ≡ second g.width (pick b (right (n / 2 - 16)) (down (n / 2 - 16)))
        go true = omega (arith, none_high)
        go false = refl

    pub none_first : (v : ℕ) → v ≡ n / 2 - 16 → v < pads g
    none_first v e = omega (arith, e, first_is, first_inside g s (edge_of n) y edge_there byte_there)

    pub none_second : (q : ℕ) → q ≡ second_pad kind.width n → q < pads g
    none_second q e = omega (arith, e ∙ second_is, second_inside g s (edge_of n) y edge_there byte_there)

    module _ (s₁ : Arrays) (is : s₁ ≡ with_count (stored s n 2) (going s.count)) where
      abbrev after_store : Arrays
      after_store = with_count s₁ (s₁.count + 1)

      starts : none_arrays g s (edge_of n) y edge_there byte_there ≡ after_store
      starts = ap (λ (x : ℕ). record { edges = set s.edges x 2; ends = s.ends; log = log_stored s.log (logged s) x; count = going s.count + 1 }) at_slot
          ∙ (λ i. with_count (sym is i) ((sym is i).count + 1))

      pub none_is_stored : Stored g s after_store
      none_is_stored = subst (λ (x : Arrays). Stored g s x) starts (none_stored g s (edge_of n) y edge_there byte_there)

      pub none_returns : (v q : ℕ) → v ≡ n / 2 - 16 → q ≡ second_pad kind.width n → (s₂ s₃ : Arrays) → Done g 1 after_store (check_at v) s₂ → Done g 1 s₂ (check_at q) s₃
          → NoneAt g s n (with_count s₃ (ended s₃.count))
      none_returns v q ev eq s₂ s₃ d₁ d₂ = record {
        acts = λ on. decided_none g s (edge_of n) y edge_there byte_there s₃ (subst (λ (x : Arrays). Done g 1 x (check_at (first (edge_of n)) ++ check_at (second g.width (edge_of n))) s₃) (sym starts)
            (rw (ev ∙ first_is, eq ∙ second_is) at (done_then g d₁ d₂)));
        rests = λ off. conflict none_on off;
      }

  -- decided before
  module _ (z : get_or s.edges n 0 ≡ 0 → ⊥) where
    inside : slot_on g n ≡ true → slot (edge_of n) < length s.edges
    inside on = omega (arith, slot_of_edge n (on_slot g n on).0, y.edges_long)

    same_byte : slot_on g n ≡ true → get_or s.edges (slot (edge_of n)) 0 ≡ get_or s.edges n 0
    same_byte on = ap (λ (x : ℕ). get_or s.edges x 0) (slot_of_edge n (on_slot g n on).0)

    pub none_raised : get_or s.edges n 0 ≡ 1 → NoneAt g s n (with_count s (stopped s.count))
    unfolding state_of
    none_raised o = record {
      acts = λ on. decided_other g s (edge_of n) y (on_slot g n on).1 (inside on) 2 (omega arith) (omega arith) (λ e. z (sym (same_byte on) ∙ e)) (λ e. absurd (omega (arith, sym (same_byte on) ∙ e)));
      rests = λ off. (refl, refl, refl);
    }

    pub none_again : (get_or s.edges n 0 ≡ 1 → ⊥) → NoneAt g s n (with_count s (ended s.count))
    unfolding state_of
    none_again o = record {
      acts = λ on. decided_same g s (edge_of n) y (on_slot g n on).1 (inside on) 2 (omega arith) (omega arith) (λ e. z (sym (same_byte on) ∙ e)) (two on);
      rests = λ off. (refl, refl, refl);
    }
      where
        two : (on : slot_on g n ≡ true) → get_or s.edges (slot (edge_of n)) 0 ≡ 2
        two on = omega (arith, same_byte on, z, o, y.bytes n, default_free s.edges n 2 0 (omega (arith, y.edges_long)))

-- A LINE
module _ (kind : Kinds) (s : Arrays) (e : Edge) (y : Ready (grid_in kind) s) (on : on_board (grid_in kind) e ≡ true) where
  abbrev gg : Grid
  gg = grid_in kind

  line_inside : (x : Edge) → on_board gg x ≡ true → slot x < length s.edges
  line_inside (right v) o = let b = right_on gg y.least_width y.largest_width v o in omega (arith, b.1, y.few_pads, y.edges_long)
  line_inside (down v) o = let b = down_on gg y.least_width y.largest_width v o in omega (arith, b, y.few_pads, y.edges_long)

  pub line_again : get_or s.edges (slot e) 0 ≡ 1 → Decided gg s e line (with_count s (ended s.count))
  unfolding state_of
  line_again o = decided_same gg s e y on (line_inside e on) 1 (omega arith) (omega arith) (λ z. absurd (omega arith)) o

  pub line_raised : (get_or s.edges (slot e) 0 ≡ 0 → ⊥) → (get_or s.edges (slot e) 0 ≡ 1 → ⊥) → Decided gg s e line (with_count s (stopped s.count))
  unfolding state_of
  line_raised z o = decided_other gg s e y on (line_inside e on) 1 (omega arith) (omega arith) z o

  module _ (z : get_or s.edges (slot e) 0 ≡ 0) (q : ℕ) (eq : q ≡ second gg.width e) where
    pub line_room : logged s < 480
    line_room = few_logged gg s e y on z

    pub line_first : first e < pads gg
    line_first = first_inside gg s e y on z

    pub line_second : q < pads gg
    line_second = rw eq (second_inside gg s e y on z)

    -- the line is begun
    module _ (s₁ : Arrays) (begun : LineBegun s (slot e) (first e) q s₁) where
      abbrev unjoined_there : ℕ → Bool
      unjoined_there x = unjoinable (end_at s.ends (first e)) (end_at s.ends x) x

      cannot_join : 2048 ≤ s₁.count → unjoined_there q ≡ true
      cannot_join high = is_so (unjoined_there q) (λ eb. omega (arith, (begun.joins eb).2, (going_count s.count y.mode).0, (going_count s.count y.mode).1, line_room))

      can_join : s₁.count < 2048 → unjoined_there q ≡ false
      can_join low = not_so (unjoined_there q) (λ eb. omega (arith, (begun.cannot eb).2))

      pub line_stops : 2048 ≤ s₁.count → Decided gg s e line s₁
      line_stops high = let b = begun.cannot (cannot_join high) in
          subst (λ (x : Arrays). Decided gg s e line x) (λ i. record { edges = sym begun.stores i; ends = sym b.0 i; log = sym b.1 i; count = sym b.2 i })
          (line_stopped gg s e y on z (ap unjoined_there (sym eq) ∙ cannot_join high))

      module _ (low : s₁.count < 2048) where
        joinable : unjoined_there (second gg.width e) ≡ false
        joinable = ap unjoined_there (sym eq) ∙ can_join low

        joins : line_arrays gg s e y on z ≡ s₁
        joins = ap (λ (x : ℕ). record { edges = set s.edges (slot e) 1; ends = joined (first e) x s.ends; log = log_joined s.log (logged s) (slot e) (get_or s.ends (first e) (pos (first e))) (get_or s.ends x (pos x)); count = going s.count + 1 }) (sym eq)
            ∙ (let b = begun.joins (can_join low) in λ i. record { edges = sym begun.stores i; ends = sym b.0 i; log = sym b.1 i; count = sym b.2 i })

        pub line_is_stored : Stored gg s s₁
        line_is_stored = subst (λ (x : Arrays). Stored gg s x) joins (line_stored gg s e y on z joinable)

        pub line_returns : (a b : ℕ) → a ≡ pad_number (end_at s.ends (first e)) → b ≡ pad_number (end_at s.ends q) → (s' : Arrays)
            → Done gg 1 s₁ (shape_items gg e ++ (check_at (first e) ++ (check_at q ++ (check_at a ++ check_at b)))) s'
            → Decided gg s e line (with_count s' (ended s'.count))
        line_returns a b ea eb s' d = decided_line gg s e y on z joinable s' (subst (λ (x : Arrays). Done gg 1 x (shape_items gg e ++ (check_at (first e) ++ (check_at (second gg.width e)
            ++ (check_at (pad_number (end_at s.ends (first e))) ++ check_at (pad_number (end_at s.ends (second gg.width e))))))) s') (sym joins)
            (rw (ea, eb, eq) at d))

-- three slots that are on the board together
pub all_on : {a b c x : Bool} → a ≡ x → b ≡ x → c ≡ x → a ≡ true → (b ≡ true) × (c ≡ true)
all_on ea eb ec h = (same_on ea eb h, same_on ea ec h)

-- STEPS D AND E of a line to the right
module _ (kind : Kinds) (v : ℕ) (on : on_board (grid_in kind) (right v) ≡ true) where
  abbrev gr : Grid
  gr = grid_in kind

  abbrev wr : ℕ
  wr = kind.width

  pub right_inside : (v % gr.width + 1 < gr.width) × (v < pads gr)
  right_inside = right_on gr kind.told.least_width kind.told.largest_width v on

  pub right_beyond : v + 1 < pads gr
  right_beyond = beyond_right gr kind.told.least_width kind.told.largest_width v on

  pub right_up_left : slot_on gr (33 + 2 * v - 2 * wr) ≡ has_up gr v
  right_up_left = (upper_left gr kind.told.least_width kind.told.largest_width v on)

  pub right_up_right : slot_on gr (35 + 2 * v - 2 * wr) ≡ has_up gr v
  right_up_right = (upper_right gr kind.told.least_width kind.told.largest_width v on)

  pub right_up : slot_on gr (32 + 2 * v - 2 * wr) ≡ has_up gr v
  right_up = (upper gr kind.told.least_width kind.told.largest_width v on)

  pub right_left : slot_on gr (33 + 2 * v) ≡ has_down gr v
  right_left = lower_left gr kind.told.least_width kind.told.largest_width v on

  pub right_right : slot_on gr (35 + 2 * v) ≡ has_down gr v
  right_right = lower_right gr kind.told.least_width kind.told.largest_width v on

  pub right_below : slot_on gr (32 + 2 * v + 2 * wr) ≡ has_down gr v
  right_below = (lower gr kind.told.least_width kind.told.largest_width v on)

  next_below : has_down gr v ≡ true → v + gr.width + 1 < pads gr
  next_below h = omega (arith, ltb-true (v + 1 + gr.width) (pads gr) (sym (next_down_on gr v) ∙ (right_right ∙ h)))

  -- the pads below the corners
  pub right_corner : (q : ℕ) → q ≡ v + wr + 1 → slot_on gr (33 + 2 * v) ≡ true → q < pads gr
  right_corner q e h = omega (arith, next_below (sym right_left ∙ h))

  pub left_corner : (q : ℕ) → q ≡ v + wr → slot_on gr (35 + 2 * v) ≡ true → q < pads gr
  left_corner q e h = omega (arith, next_below (sym right_right ∙ h))

  bars_right : has_bit kind.bits v 2 ≡ ((has_down gr v && has_side gr on_right v) && barred gr on_right gr.height v)
  bars_right = kind.told.bars on_right v right_inside.1

  bars_left : has_bit kind.bits (v + 1) 4 ≡ ((has_down gr (v + 1) && has_side gr on_left (v + 1)) && barred gr on_left gr.height (v + 1))
  bars_left = kind.told.bars on_left (v + 1) right_beyond

  pub right_bar_on : has_bit kind.bits v 2 ≡ true → slot_on gr (33 + 2 * v) ≡ true
  right_bar_on h = right_left ∙ (both (has_down gr v) (has_right gr v) (both _ (barred gr on_right gr.height v) (sym bars_right ∙ h)).0).0

  pub left_bar_on : has_bit kind.bits (v + 1) 4 ≡ true → slot_on gr (35 + 2 * v) ≡ true
  left_bar_on h = next_down_on gr v ∙ (both (has_down gr (v + 1)) (has_left gr (v + 1)) (both _ (barred gr on_left gr.height (v + 1)) (sym bars_left ∙ h)).0).0

  pub right_done : {s₀ s' : Arrays} (L : List Item)
      → Done gr 1 s₀ (detour_at gr (33 + 2 * v - 2 * wr) (35 + 2 * v - 2 * wr) (32 + 2 * v - 2 * wr)
      ++ (detour_at gr (35 + 2 * v - 2 * wr) (33 + 2 * v - 2 * wr) (32 + 2 * v - 2 * wr)
      ++ (detour_at gr (32 + 2 * v - 2 * wr) (33 + 2 * v - 2 * wr) (35 + 2 * v - 2 * wr)
      ++ (detour_at gr (33 + 2 * v) (35 + 2 * v) (32 + 2 * v + 2 * wr)
      ++ (detour_at gr (35 + 2 * v) (33 + 2 * v) (32 + 2 * v + 2 * wr)
      ++ (detour_at gr (32 + 2 * v + 2 * wr) (33 + 2 * v) (35 + 2 * v)
      ++ (corner_at gr on_right (v + wr + 1) (33 + 2 * v) ++ (corner_at gr on_left (v + wr) (35 + 2 * v)
      ++ (bar_at gr (has_bit kind.bits v 2) (33 + 2 * v) ++ (bar_at gr (has_bit kind.bits (v + 1) 4) (35 + 2 * v) ++ L)))))))))) s'
      → Done gr 1 s₀ (shape_items gr (right v) ++ L) s'
  right_done L d = done_as gr (right_items gr kind.told.least_width kind.told.largest_width v on (has_bit kind.bits v 2) (has_bit kind.bits (v + 1) 4) bars_right bars_left L) d

-- and of a line downward
module _ (kind : Kinds) (v : ℕ) (on : on_board (grid_in kind) (down v) ≡ true) where
  abbrev gd : Grid
  gd = grid_in kind

  abbrev wd : ℕ
  wd = kind.width

  pub down_inside : v + gd.width < pads gd
  down_inside = down_on gd kind.told.least_width kind.told.largest_width v on

  corners_left : has_bit kind.bits v 16 ≡ (has_down gd v && has_side gd on_left v)
  corners_left = kind.told.corners on_left v (omega (arith, down_inside))

  corners_right : has_bit kind.bits v 8 ≡ (has_down gd v && has_side gd on_right v)
  corners_right = kind.told.corners on_right v (omega (arith, down_inside))

  pub down_left : slot_on gd (30 + 2 * v) ≡ has_left gd v
  down_left = left_side gd kind.told.least_width kind.told.largest_width v on

  pub down_left_below : slot_on gd (30 + 2 * v + 2 * wd) ≡ has_left gd v
  down_left_below = (lower_left_side gd kind.told.least_width kind.told.largest_width v on)

  pub far_left_on : has_bit kind.bits v 16 ≡ true → has_left gd v ≡ true
  far_left_on h = (both (has_down gd v) (has_left gd v) (sym corners_left ∙ h)).1

  pub far_right_on : has_bit kind.bits v 8 ≡ true → has_right gd v ≡ true
  far_right_on h = (both (has_down gd v) (has_right gd v) (sym corners_right ∙ h)).1

  pub down_if_left : (x : ℕ) → x ≡ pick (has_bit kind.bits v 16) (31 + 2 * v) 0 → slot_on gd x ≡ has_left gd v
  down_if_left x e = rw e (far_left gd kind.told.least_width kind.told.largest_width v on (has_bit kind.bits v 16) corners_left)

  pub down_right : slot_on gd (32 + 2 * v) ≡ has_right gd v
  down_right = right_side gd kind.told.least_width kind.told.largest_width v on

  pub down_right_below : slot_on gd (32 + 2 * v + 2 * wd) ≡ has_right gd v
  down_right_below = (lower_right_side gd kind.told.least_width kind.told.largest_width v on)

  pub down_if_right : (x : ℕ) → x ≡ pick (has_bit kind.bits v 8) (35 + 2 * v) 0 → slot_on gd x ≡ has_right gd v
  down_if_right x e = rw e (far_right gd kind.told.least_width kind.told.largest_width v on (has_bit kind.bits v 8) corners_right)

  -- where the edges beside it are, the far ones are too
  pub down_far_left : has_left gd v ≡ true → slot_on gd (31 + 2 * v) ≡ true
  down_far_left h = ap (slot_on gd) (sym picked) ∙ (down_if_left _ refl ∙ h)
    where
      picked : pick (has_bit kind.bits v 16) (31 + 2 * v) 0 ≡ 31 + 2 * v
      picked = rw (corners_left, on, h) refl

  pub down_far_right : has_right gd v ≡ true → slot_on gd (35 + 2 * v) ≡ true
  down_far_right h = ap (slot_on gd) (sym picked) ∙ (down_if_right _ refl ∙ h)
    where
      picked : pick (has_bit kind.bits v 8) (35 + 2 * v) 0 ≡ 35 + 2 * v
      picked = rw (corners_right, on, h) refl

  pub down_right_corner : (q : ℕ) → q ≡ v + wd + 1 → slot_on gd (32 + 2 * v) ≡ true → q < pads gd
  down_right_corner q e h = omega (arith, ltb-true (v + 1 + gd.width) (pads gd) (sym (next_down_on gd v) ∙ down_far_right (sym down_right ∙ h)))

  bars_down_left : has_bit kind.bits v 4 ≡ ((has_down gd v && has_side gd on_left v) && barred gd on_left gd.height v)
  bars_down_left = kind.told.bars on_left v (omega (arith, down_inside))

  bars_down_right : has_bit kind.bits v 2 ≡ ((has_down gd v && has_side gd on_right v) && barred gd on_right gd.height v)
  bars_down_right = kind.told.bars on_right v (omega (arith, down_inside))

  pub down_left_bar_on : has_bit kind.bits v 4 ≡ true → slot_on gd (30 + 2 * v) ≡ true
  down_left_bar_on h = down_left ∙ (both (has_down gd v) (has_left gd v) (both _ (barred gd on_left gd.height v) (sym bars_down_left ∙ h)).0).1

  pub down_right_bar_on : has_bit kind.bits v 2 ≡ true → slot_on gd (32 + 2 * v) ≡ true
  down_right_bar_on h = down_right ∙ (both (has_down gd v) (has_right gd v) (both _ (barred gd on_right gd.height v) (sym bars_down_right ∙ h)).0).1

  pub down_done : {s₀ s' : Arrays} (L : List Item)
      → Done gd 1 s₀ (detour_at gd (30 + 2 * v) (30 + 2 * v + 2 * wd) (31 + 2 * v)
      ++ (detour_at gd (30 + 2 * v + 2 * wd) (30 + 2 * v) (31 + 2 * v)
      ++ (detour_at gd (pick (has_bit kind.bits v 16) (31 + 2 * v) 0) (30 + 2 * v) (30 + 2 * v + 2 * wd)
      ++ (detour_at gd (32 + 2 * v) (32 + 2 * v + 2 * wd) (35 + 2 * v)
      ++ (detour_at gd (32 + 2 * v + 2 * wd) (32 + 2 * v) (35 + 2 * v)
      ++ (detour_at gd (pick (has_bit kind.bits v 8) (35 + 2 * v) 0) (32 + 2 * v) (32 + 2 * v + 2 * wd)
      ++ (corner_at gd on_left (v + wd - 1) (30 + 2 * v) ++ (corner_at gd on_right (v + wd + 1) (32 + 2 * v)
      ++ (bar_at gd (has_bit kind.bits v 4) (30 + 2 * v) ++ (bar_at gd (has_bit kind.bits v 2) (32 + 2 * v) ++ L)))))))))) s'
      → Done gd 1 s₀ (shape_items gd (down v) ++ L) s'
  down_done L d = done_as gd (down_items gd kind.told.least_width kind.told.largest_width v on (has_bit kind.bits v 16) (has_bit kind.bits v 8) (has_bit kind.bits v 4) (has_bit kind.bits v 2)
      corners_left corners_right bars_down_left bars_down_right L) d

-- A CORNER asks for its two lines
module _ (kind : Kinds) (q : ℕ) (inside : q < pads (grid_in kind)) (t : Bool) where
  abbrev gc : Grid
  gc = grid_in kind

  module _ (side : Side) (et : t ≡ has_bit kind.bits q (corner_bit side)) where
    pub corner_exists : (has_down gc q && has_side gc side q) ≡ t
    corner_exists = sym (kind.told.corners side q inside) ∙ sym et

  pub corner_down : (side : Side) → t ≡ has_bit kind.bits q (corner_bit side) → t ≡ true → on_board gc (down q) ≡ true
  corner_down side et ht = (both (has_down gc q) (has_side gc side q) (corner_exists side et ∙ ht)).0

  pub corner_line_right : t ≡ has_bit kind.bits q 8 → t ≡ true → on_board gc (right q) ≡ true
  corner_line_right et ht = rw ((both (has_down gc q) (has_right gc q) (corner_exists on_right et ∙ ht)).1, lt-ltb q (pads gc) inside) refl

  left_column : t ≡ has_bit kind.bits q 16 → t ≡ true → 0 < q % gc.width
  left_column et ht = ltb-true 0 (q % gc.width) (both (has_down gc q) (has_left gc q) (corner_exists on_left et ∙ ht)).1

  pub corner_not_first : t ≡ has_bit kind.bits q 16 → t ≡ true → 1 ≤ q
  corner_not_first et ht = omega (arith, left_column et ht, mod-le q gc.width)

  pub corner_line_left : t ≡ has_bit kind.bits q 16 → t ≡ true → on_board gc (right (q - 1)) ≡ true
  corner_line_left et ht = rw (lt-ltb ((q - 1) % gc.width + 1) gc.width (column_before gc.width q (omega (arith, kind.told.least_width)) (left_column et ht)), lt-ltb (q - 1) (pads gc) (omega arith)) refl

  pub corner_line : (side : Side) → t ≡ has_bit kind.bits q (corner_bit side) → t ≡ true → on_board gc (beside side q) ≡ true
  corner_line on_right et ht = corner_line_right et ht
  corner_line on_left et ht = corner_line_left et ht

-- the pads beyond, as the code counts them
pub beyond_left : (v : ℕ) → 15 + v - 16 ≡ v - 1
beyond_left v = omega arith

pub beyond_right_side : (v : ℕ) → 17 + v - 16 ≡ v + 1
beyond_right_side v = omega arith

pub beyond_up : (v w : ℕ) → w ≤ 16 → 16 + v - w - 16 ≡ v - w
beyond_up v w h = omega arith

pub beyond_down : (v w : ℕ) → 16 + v + w - 16 ≡ v + w
beyond_down v w = omega arith

-- ONE OF A PAD'S FOUR EDGES, which becomes none where it leads to another clue's pad
module _ (g : Grid) (s : Arrays) (y : Ready g s) (code n past : ℕ) (h : n < 1024) where
  pub apart_ends : 2048 ≤ s.count → Done g 0 s (keep_at g code n (past - 16)) s
  apart_ends high = done_ended g 0 s _ y high

  module _ (goes_on_yet : s.count < 2048) where
    pub apart_rests : keeps_apart s.edges s.ends (suc code) n (past - 16) ≡ false → Done g 0 s (keep_at g code n (past - 16)) s
    apart_rests = keep_rests g s y code n (past - 16) h goes_on_yet

    pub apart_decides : keeps_apart s.edges s.ends (suc code) n (past - 16) ≡ true → (s' : Arrays) → NoneAt g s n s' → Done g 0 s (keep_at g code n (past - 16)) s'
    apart_decides t s' d = keep_decides g s y code n (past - 16) h goes_on_yet t s' (d.acts (keeps_on g s y code n (past - 16) h goes_on_yet t))

-- THE PAD CHECK
module _ (kind : Kinds) (s : Arrays) (y : Ready (grid_in kind) s) (v : ℕ) (inside : v < pads (grid_in kind)) where
  abbrev gk : Grid
  gk = grid_in kind

  abbrev wk : ℕ
  wk = kind.width

  pub small_pad : v < 256
  small_pad = omega (arith, y.few_pads)

  -- the pads beyond edges of the board
  pub left_there : slot_on gk (30 + 2 * v) ≡ true → 1 ≤ v
  left_there on = omega (arith, (on_slot gk (30 + 2 * v) on).0)

  pub up_there : slot_on gk (33 + 2 * v - 2 * wk) ≡ true → wk ≤ v
  up_there on = omega (arith, (on_slot gk (33 + 2 * v - 2 * wk) on).0)

  pub past_left : get_or s.edges (30 + 2 * v) 0 ≡ 0 → 1 ≤ v
  past_left z = left_there (slot_is_on gk s y (30 + 2 * v) (omega (arith, small_pad)) (omega arith))

  pub past_up : get_or s.edges (33 + 2 * v - 2 * wk) 0 ≡ 0 → wk ≤ v
  past_up z = up_there (slot_is_on gk s y (33 + 2 * v - 2 * wk) (omega (arith, small_pad)) (omega arith))

  low_slots : (30 + 2 * v < 1024) × (32 + 2 * v < 1024) × (33 + 2 * v - 2 * wk < 1024) × (33 + 2 * v < 1024)
  low_slots = omega (arith, small_pad)

  -- the first part: no edge is to be none
  module _ (goes_on_yet : s.count < 2048) where
    none_apart : (code : ℕ) → some_apart s.edges s.ends wk (suc code) v ≡ false → Done gk 0 s (keep_aparts code (around gk v)) s
    unfolding some_apart
    none_apart code h =
        let a = neither (keeps_apart s.edges s.ends (suc code) (30 + 2 * v) (v - 1)) _ h in
        let b = neither (keeps_apart s.edges s.ends (suc code) (32 + 2 * v) (v + 1)) _ a.1 in
        let c = neither (keeps_apart s.edges s.ends (suc code) (33 + 2 * v - 2 * wk) (v - wk)) _ b.1 in
        done_as gk (keeps_is gk kind.told.least_width kind.told.largest_width code v inside)
        (done_then gk (keep_rests gk s y code (30 + 2 * v) (v - 1) low_slots.0 goes_on_yet a.0)
        (done_then gk (keep_rests gk s y code (32 + 2 * v) (v + 1) low_slots.1 goes_on_yet b.0)
        (done_then gk (keep_rests gk s y code (33 + 2 * v - 2 * wk) (v - wk) low_slots.2 goes_on_yet c.0)
        (keep_rests gk s y code (33 + 2 * v) (v + wk) low_slots.3 goes_on_yet c.1))))

    pub no_apart : clue_apart s.edges s.ends wk v ≡ false → Done gk 0 s (first_items gk v (end_at s.ends v)) s
    unfolding clue_apart first_items code_number
    no_apart h = go (end_at s.ends v) h
      where
        go : (E : End) → pick (eqb (code_number E) 0) false (some_apart s.edges s.ends wk (code_number E) v) ≡ false → Done gk 0 s (first_items gk v E) s
        go through h = done_nothing gk 0 s y
        go (at_pad a) h = done_nothing gk 0 s y
        go (at_clue code) h = none_apart code (sym (ap (λ (b : Bool). pick b false (some_apart s.edges s.ends wk (suc code) v)) (ne_eqb (suc code) 0 (omega arith))) ∙ h)

  -- the pad's end is of no clue
  pub clueless : (E : End) → E ≡ end_at s.ends v → ((code : ℕ) → E ≡ at_clue code → ⊥) → Done gk 0 s (first_items gk v (end_at s.ends v)) s
  unfolding first_items
  clueless E e other = rw (← e) (go E other)
    where
      go : (E : End) → ((code : ℕ) → E ≡ at_clue code → ⊥) → Done gk 0 s (first_items gk v E) s
      go through other = done_nothing gk 0 s y
      go (at_pad a) other = done_nothing gk 0 s y
      go (at_clue code) other = absurd (other code refl)

  -- all four are told
  pub four_apart : (code : ℕ) → at_clue code ≡ end_at s.ends v → {s₁ s₂ s₃ s₄ : Arrays} → Done gk 0 s (keep_at gk code (30 + 2 * v) (15 + v - 16)) s₁ → Done gk 0 s₁ (keep_at gk code (32 + 2 * v) (17 + v - 16)) s₂
      → Done gk 0 s₂ (keep_at gk code (33 + 2 * v - 2 * wk) (16 + v - wk - 16)) s₃ → Done gk 0 s₃ (keep_at gk code (33 + 2 * v) (16 + v + wk - 16)) s₄ → Done gk 0 s (first_items gk v (end_at s.ends v)) s₄
  unfolding first_items
  four_apart code e a b c d = rw (← e) (done_as gk (keeps_is gk kind.told.least_width kind.told.largest_width code v inside)
      (rw (beyond_left v, beyond_right_side v, beyond_up v wk kind.told.largest_width, beyond_down v wk) at (done_then gk a (done_then gk b (done_then gk c d)))))

  -- the last part: what it does by the code's branches
  module _ (n : ℕ) (low : n < 1024) (undecided : get_or s.edges n 0 ≡ 0) where
    pub slot_there : on_board gk (edge_of n) ≡ true
    slot_there = (on_slot gk n (slot_is_on gk s y n low (omega arith))).1

    pub slot_pad : n / 2 - 16 < 256
    slot_pad = (slot_told kind n (slot_is_on gk s y n low (omega arith))).2

    pub slot_high : 32 ≤ n
    slot_high = (on_slot gk n (slot_is_on gk s y n low (omega arith))).0

    pub settle_leaves : n + 1024 ≡ action_around kind.bits s.edges wk v → (s' : Arrays) → NoneAt gk s n s' → Settled gk s v s'
    settle_leaves e s' d = settle_none kind s y v (n + 1024) inside e (omega arith) s' (rw same (d.acts (slot_is_on gk s y n low (omega arith))))
      where
        same : n + 1024 - 1024 ≡ n
        same = omega arith

    pub settle_draws : n ≡ action_around kind.bits s.edges wk v → (s' : Arrays) → Decided gk s (edge_of n) line s' → Settled gk s v s'
    settle_draws e s' d = settle_line kind s y v n inside e (omega (arith, slot_high)) (omega (arith, slot_high)) low s' d
