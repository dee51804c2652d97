-- The pad check: its last part by actions, the edges to pads of other clues that become none, and the whole check as one item of a
-- decision. It rests on Settle.antt and Steps.antt.
use Prim.Native.Nat.{ℕ, zero, suc, ◌+◌, ◌*◌, ◌-◌, ◌≤◌, ◌<◌}
use Rattle.std.specs.Prelude.{◌≡◌, Bool, ◌&&◌, not, get_or}
use Rattle.std.proofs.Math.Path.{refl, sym, ap}
use Rattle.std.proofs.Common.{◌∙◌, arith, not-suc-le-zero}
use Rattle.std.proofs.Math.Bool.{true, false}
use Rattle.std.proofs.lemmas.Bool.{false≢true}
use mathlib.Core.List.{List, [], ◌∷◌, ◌++◌}
use Rattle.std.proofs.Math.Dec.{eqb}
use borrow.Author.Tests.{eqb-true, eqb-false, eq-eqb, ne_eqb, lt-leb, le-leb, lt-ltb}
use Rattle.rules.specs.Grid.{Edge, right, down, Grid, pads}
use Rattle.model.specs.JoinedEnds.{End, through, at_pad, at_clue}
use Rattle.model.specs.PadTests.{has_right, has_left, has_down, has_up}
use Rattle.model.specs.Board.{line, none, is_undecided, other_clue, State, Item, check_pad, keep_apart, settle, when, Decide, Check, with_edge, keep_aparts, around, do_item, do_items, check_items, decide, check}
use Rattle.boardview.specs.declared.Arrays.{Arrays}
use Rattle.boardview.specs.declared.kinds.Kinds.{Kinds}
use Rattle.boardview.specs.Told.{pick}
use Rattle.boardview.specs.View.{flag_in, ended_in, stopped, ended, edge_of, slot_on, view, end_at, grid_in, undecided_in, Ready, Since, Decided, Done, then, in_a_row, shown, check_at, Settled, action_around, code_number, rival, keeps_apart, keep_at, with_count}
use Rattle.boardview.specs.Bytes.{elim_true, elim_false, right_slot, down_slot, on_slot}
use Rattle.boardview.specs.Geometry.{slot_left, slot_right, slot_up, slot_down, edge_left, edge_up}
use Rattle.boardview.specs.Unwind.{since_still, since_then}
use Rattle.boardview.specs.Stores.{flag_of_ended, ended_of_ended, logged_of_ended, recounted}
use Rattle.boardview.specs.Steps.{row_append, row_ended, row_is, done_nothing, done_still, done_decided, view_stopped, view_recounted, undecided_at, slot_is_on}
use Rattle.boardview.specs.Settle.{Action, nothing, raise, draw, leave, action_is}

-- THE LAST PART
module _ (kind : Kinds) (s : Arrays) (y : Ready (grid_in kind) s) (v t : ℕ) (inside : v < pads (grid_in kind)) (e : t ≡ action_around kind.bits s.edges (grid_in kind).width v) where
  abbrev g : Grid
  g = grid_in kind

  on_slot_first : (n : ℕ) → n < 1024 → get_or s.edges n 0 ≡ 0 → slot_on g n ≡ true
  on_slot_first n h z = slot_is_on g s y n h (omega arith)

  high : (n : ℕ) → n < 1024 → get_or s.edges n 0 ≡ 0 → 32 ≤ n
  high n h z = (on_slot g n (on_slot_first n h z)).0

  pub settle_nothing : t ≡ 0 → Settled g s v (with_count s (ended s.count))
  settle_nothing z = go (action_is kind s y v inside t e)
    where
      go : Action kind s v t → Settled g s v (with_count s (ended s.count))
      go (nothing p q) = record {
        same = λ f k. view_recounted g s (ended s.count) (flag_of_ended s.count) ∙ sym (q (decide g f));
        ends_if_flagged = ended_of_ended s.count;
        fewer = omega arith;
        ready = let k = logged_of_ended s.count in recounted g s (ended s.count) y k.0 k.1;
        since = since_still g.width s (ended s.count) (logged_of_ended s.count).0;
      }
      go (raise p q) = absurd (omega arith)
      go (draw n p h k q) = absurd (omega (arith, high n h k))
      go (leave n p h k q) = absurd (omega arith)

  pub settle_raise : t ≡ 1 → Settled g s v (with_count s (stopped s.count))
  settle_raise z = go (action_is kind s y v inside t e)
    where
      go : Action kind s v t → Settled g s v (with_count s (stopped s.count))
      go (raise p q) = record {
        same = λ f k. view_stopped g s (stopped s.count) (omega arith) ∙ sym (q (decide g f));
        ends_if_flagged = le-leb 2048 (stopped s.count) (omega arith) ∙ sym (le-leb 1024 (stopped s.count) (omega arith));
        fewer = omega arith;
        ready = recounted g s (stopped s.count) y (omega arith) (omega arith);
        since = since_still g.width s (stopped s.count) (omega arith);
      }
      go (nothing p q) = absurd (omega arith)
      go (draw n p h k q) = absurd (omega (arith, high n h k))
      go (leave n p h k q) = absurd (omega arith)

  -- a line or none at a slot of the board
  pub settle_none : 1024 ≤ t → (s' : Arrays) → Decided g s (edge_of (t - 1024)) none s' → Settled g s v s'
  settle_none z s' d = go (action_is kind s y v inside t e)
    where
      go : Action kind s v t → Settled g s v s'
      go (leave n p h k q) = let m : n ≡ t - 1024 = omega arith in record {
        same = λ f l. d.same f l ∙ sym (q (decide g f) ∙ ap (λ (x : ℕ). decide g f (edge_of x) none (view s)) m);
        ends_if_flagged = d.ends_if_flagged;
        fewer = d.fewer;
        ready = d.ready;
        since = d.since;
      }
      go (nothing p q) = absurd (omega arith)
      go (raise p q) = absurd (omega arith)
      go (draw n p h k q) = absurd (omega arith)

  module _ (z₀ : t ≡ 0 → ⊥) (z₁ : t ≡ 1 → ⊥) (z₂ : t < 1024) where
    pub settle_line : (s' : Arrays) → Decided g s (edge_of t) line s' → Settled g s v s'
    settle_line s' d = go (action_is kind s y v inside t e)
      where
        go : Action kind s v t → Settled g s v s'
        go (draw n p h k q) = record {
          same = λ f l. d.same f l ∙ sym (q (decide g f) ∙ ap (λ (x : ℕ). decide g f (edge_of x) line (view s)) (sym p));
          ends_if_flagged = d.ends_if_flagged;
          fewer = d.fewer;
          ready = d.ready;
          since = d.since;
        }
        go (nothing p q) = absurd (z₀ p)
        go (raise p q) = absurd (z₁ p)
        go (leave n p h k q) = absurd (omega arith)

-- KEEPING CLUES APART
-- the model's test is the code's
pub other_is_rival : (code : ℕ) (E : End) → other_clue code E ≡ rival (suc code) (code_number E)
unfolding rival code_number
other_is_rival code through = refl
other_is_rival code (at_pad a) = refl
other_is_rival code (at_clue d) = rw (ne_eqb (suc d) 0 (omega arith)) (same (eqb code d) refl)
  where
    same : (b : Bool) → eqb code d ≡ b → not b ≡ not (eqb (suc code) (suc d))
    same true e = ap not (sym (eq-eqb (suc code) (suc d) (omega (arith, eqb-true code d e))))
    same false e = ap not (sym (ne_eqb (suc code) (suc d) (omega (arith, eqb-false code d e))))

module _ (g : Grid) (dec : Decide) (chk : Check) (S : State) (code : ℕ) (e : Edge) (u : ℕ) where
  keep_no : (is_undecided (S.edge e) && other_clue code (S.end u)) ≡ false → do_item g dec chk (keep_apart code e u) S ≡ (S, false)
  unfolding do_item
  keep_no h = elim_false (is_undecided (S.edge e) && other_clue code (S.end u)) (dec e none S, (dec e none S).flag) (S, false) h

  keep_acts : (is_undecided (S.edge e) && other_clue code (S.end u)) ≡ true → do_item g dec chk (keep_apart code e u) S ≡ (dec e none S, (dec e none S).flag)
  unfolding do_item
  keep_acts h = elim_true (is_undecided (S.edge e) && other_clue code (S.end u)) (dec e none S, (dec e none S).flag) (S, false) h

module _ (g : Grid) (s : Arrays) (y : Ready g s) (code n u : ℕ) (h : n < 1024) (goes_on_yet : s.count < 2048) where
  abbrev acts_here : Bool
  acts_here = keeps_apart s.edges s.ends (suc code) n u

  test_is : slot_on g n ≡ true → (is_undecided ((view s).edge (edge_of n)) && other_clue code ((view s).end u)) ≡ acts_here
  unfolding view keeps_apart
  test_is on = rw (undecided_at s n (on_slot g n on).0 (omega (arith, y.edges_long)), other_is_rival code (end_at s.ends u)) (as_pick (eqb (get_or s.edges n 0) 0) (rival (suc code) (code_number (end_at s.ends u))))
    where
      as_pick : (a b : Bool) → (a && b) ≡ pick a b false
      as_pick true b = refl
      as_pick false b = refl

  pub keep_rests : acts_here ≡ false → Done g 0 s (keep_at g code n u) s
  unfolding keep_at
  keep_rests b = go (slot_on g n) refl
    where
      go : (t : Bool) → slot_on g n ≡ t → Done g 0 s (when t (keep_apart code (edge_of n) u ∷ [])) s
      go false e = done_nothing g 0 s y
      go true e = done_still g 0 s _ y goes_on_yet (λ f. keep_no g (decide g f) (check g f) (view s) code (edge_of n) u (test_is e ∙ b))

  -- where the test holds, the slot is on the board
  pub keeps_on : acts_here ≡ true → slot_on g n ≡ true
  unfolding keeps_apart
  keeps_on b = go (eqb (get_or s.edges n 0) 0) refl b
    where
      go : (t : Bool) → eqb (get_or s.edges n 0) 0 ≡ t → pick t (rival (suc code) (code_number (end_at s.ends u))) false ≡ true → slot_on g n ≡ true
      go true e k = slot_is_on g s y n h (omega (arith, eqb-true (get_or s.edges n 0) 0 e))
      go false e k = absurd (false≢true k)

  pub keep_decides : acts_here ≡ true → (s' : Arrays) → Decided g s (edge_of n) none s' → Done g 0 s (keep_at g code n u) s'
  unfolding keep_at
  keep_decides b s' d = rw (keeps_on b) (done_decided g 0 (keep_apart code (edge_of n) u) goes_on_yet d (λ dec chk. keep_acts g dec chk (view s) code (edge_of n) u (test_is (keeps_on b) ∙ b)))

-- the four edges at a pad
pub keeps_is : (g : Grid) → 2 ≤ g.width → g.width ≤ 16 → (code v : ℕ) → v < pads g
    → keep_at g code (30 + 2 * v) (v - 1) ++ (keep_at g code (32 + 2 * v) (v + 1) ++ (keep_at g code (33 + 2 * v - 2 * g.width) (v - g.width) ++ keep_at g code (33 + 2 * v) (v + g.width)))
    ≡ keep_aparts code (around g v)
unfolding keep_at around keep_aparts
keeps_is g p q code v h = left (has_left g v) refl
  where
    w : ℕ
    w = g.width

    four : (b : Bool) → has_down g v ≡ b → when (slot_on g (33 + 2 * v)) (keep_apart code (edge_of (33 + 2 * v)) (v + g.width) ∷ []) ≡ keep_aparts code (with_edge b (down v) (v + g.width) [])
    four true e = rw (slot_down g p q v h ∙ e, down_slot v) refl
    four false e = rw (slot_down g p q v h ∙ e) refl

    three : (b : Bool) → has_up g v ≡ b → when (slot_on g (33 + 2 * v - 2 * g.width)) (keep_apart code (edge_of (33 + 2 * v - 2 * g.width)) (v - g.width) ∷ [])
        ++ when (slot_on g (33 + 2 * v)) (keep_apart code (edge_of (33 + 2 * v)) (v + g.width) ∷ [])
        ≡ keep_aparts code (with_edge b (down (v - g.width)) (v - g.width) (with_edge (has_down g v) (down v) (v + g.width) []))
    three true e = rw (slot_up g p q v h ∙ e, edge_up g p q v h e, four (has_down g v) refl) refl
    three false e = rw (slot_up g p q v h ∙ e, four (has_down g v) refl) refl

    two : (b : Bool) → has_right g v ≡ b → when (slot_on g (32 + 2 * v)) (keep_apart code (edge_of (32 + 2 * v)) (v + 1) ∷ [])
        ++ (when (slot_on g (33 + 2 * v - 2 * g.width)) (keep_apart code (edge_of (33 + 2 * v - 2 * g.width)) (v - g.width) ∷ [])
        ++ when (slot_on g (33 + 2 * v)) (keep_apart code (edge_of (33 + 2 * v)) (v + g.width) ∷ []))
        ≡ keep_aparts code (with_edge b (right v) (v + 1) (with_edge (has_up g v) (down (v - g.width)) (v - g.width) (with_edge (has_down g v) (down v) (v + g.width) [])))
    two true e = rw (slot_right g p q v h ∙ e, right_slot v, three (has_up g v) refl) refl
    two false e = rw (slot_right g p q v h ∙ e, three (has_up g v) refl) refl

    left : (b : Bool) → has_left g v ≡ b → when (slot_on g (30 + 2 * v)) (keep_apart code (edge_of (30 + 2 * v)) (v - 1) ∷ [])
        ++ (when (slot_on g (32 + 2 * v)) (keep_apart code (edge_of (32 + 2 * v)) (v + 1) ∷ [])
        ++ (when (slot_on g (33 + 2 * v - 2 * g.width)) (keep_apart code (edge_of (33 + 2 * v - 2 * g.width)) (v - g.width) ∷ [])
        ++ when (slot_on g (33 + 2 * v)) (keep_apart code (edge_of (33 + 2 * v)) (v + g.width) ∷ [])))
        ≡ keep_aparts code (with_edge b (right (v - 1)) (v - 1) (with_edge (has_right g v) (right v) (v + 1) (with_edge (has_up g v) (down (v - g.width)) (v - g.width) (with_edge (has_down g v) (down v) (v + g.width) []))))
    left true e = rw (slot_left g p q v h ∙ e, edge_left g p q v h e, two (has_right g v) refl) refl
    left false e = rw (slot_left g p q v h ∙ e, two (has_right g v) refl) refl

-- THE WHOLE CHECK
unfoldable pub first_items : Grid → ℕ → End → List Item
first_items g v through = []
first_items g v (at_pad a) = []
first_items g v (at_clue code) = keep_aparts code (around g v)

items_of_check : (g : Grid) (v : ℕ) (E : End) → check_items g v E ≡ first_items g v E ++ (settle v ∷ [])
unfolding check_items first_items
items_of_check g v through = refl
items_of_check g v (at_pad a) = refl
items_of_check g v (at_clue code) = refl

module _ (g : Grid) (s s₁ : Arrays) (v : ℕ) (h : v < 512) (goes_on_yet : s.count < 2048) (d : Done g 0 s (first_items g v (end_at s.ends v)) s₁) where
  check_is : (f : ℕ) → 2 * undecided_in s.edges < f → check g (suc f) v (view s) ≡ (in_a_row g (decide g f) (check g f) (settle v ∷ []) (shown s₁)).0
  unfolding check view
  check_is f k = ap (λ (is : List Item). do_items g (decide g f) (check g f) is (view s)) (items_of_check g v (end_at s.ends v))
      ∙ (sym (row_is g (decide g f) (check g f) (first_items g v (end_at s.ends v) ++ (settle v ∷ [])) (view s))
      ∙ (ap (λ (P : State × Bool). P.0) (row_append g (decide g f) (check g f) (first_items g v (end_at s.ends v)) (settle v ∷ []) (view s, false))
      ∙ ap (λ (P : State × Bool). (in_a_row g (decide g f) (check g f) (settle v ∷ []) P).0) (sym (d.same f (omega arith) ∙ ap (λ (b : Bool). in_a_row g (decide g f) (check g f) (first_items g v (end_at s.ends v)) (view s, b)) (lt-leb 2048 s.count goes_on_yet)))))

  -- the check shows what it leaves, and ends the decision if the flag is set
  check_shows : (s₂ : Arrays) → ((f : ℕ) → 2 * undecided_in s.edges < f → view s₂ ≡ check g (suc f) v (view s)) → ended_in s₂.count ≡ flag_in s₂.count
      → undecided_in s₂.edges ≤ undecided_in s.edges → Ready g s₂ → Since g.width s s₂ → Done g 1 s (check_at v) s₂
  unfolding check_at in_a_row then do_item view
  check_shows s₂ e x l y b = rw (lt-ltb v 512 h) (record { same = same; fewer = l; ready = y; since = b })
    where
      same : (f : ℕ) → 2 * undecided_in s.edges + 1 < f → shown s₂ ≡ in_a_row g (decide g f) (check g f) (check_pad v ∷ []) (shown s)
      same zero k = absurd (not-suc-le-zero k)
      same (suc f) k = rw (lt-leb 2048 s.count goes_on_yet) (λ i. (e f (omega arith) i, (x ∙ ap (λ (S : State). S.flag) (e f (omega arith))) i))

  pub check_settles : s₁.count < 2048 → (s₂ : Arrays) → Settled g s₁ v s₂ → Done g 1 s (check_at v) s₂
  unfolding in_a_row then do_item
  check_settles k s₂ t = check_shows s₂ (λ f l. t.same f (omega (arith, d.fewer)) ∙ sym (check_is f l ∙ rw (lt-leb 2048 s₁.count k) refl))
      t.ends_if_flagged (omega (arith, t.fewer, d.fewer)) t.ready (since_then g.width s s₁ s₂ d.since t.since)

  pub check_ends : 2048 ≤ s₁.count → Done g 1 s (check_at v) s₁
  check_ends k = check_shows s₁ (λ f l. sym (check_is f l ∙ (rw (le-leb 2048 s₁.count k) (ap (λ (P : State × Bool). P.0) (row_ended g (decide g f) (check g f) (settle v ∷ []) (view s₁))))))
      (le-leb 2048 s₁.count k ∙ sym (le-leb 1024 s₁.count (omega arith))) d.fewer d.ready d.since
