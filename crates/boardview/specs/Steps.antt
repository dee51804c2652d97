-- Items in a row: parts of a decision one after the other, and what each way through detour, corner and bar does. It rests on
-- View.antt and Stores.antt. A part that was done tells the view, the number of undecided edges, the arrays' invariant and the log.
use Rattle.std.specs.Prelude.{ℕ, ◌+◌, ◌*◌, ◌≤◌, ◌<◌, ◌≡◌, Bool, ◌&&◌, eqb, get_or, length}
use Rattle.std.proofs.Math.Path.{refl, sym, ap}
use Rattle.std.proofs.Common.{◌∙◌, arith}
use Rattle.std.proofs.Math.Bool.{true, false}
use mathlib.Core.List.{List, [], ◌∷◌, ◌++◌}
use borrow.Author.Tests.{eq-eqb, ne_eqb, lt-leb, le-leb}
use Rattle.rules.specs.Grid.{Edge, Grid}
use Rattle.rules.specs.Tests.{is_so}
use Rattle.model.specs.PadTests.{is_blank}
use Rattle.model.specs.Board.{EdgeState, line, none, is_line, is_undecided, State, set_flag, Item, detour, corner, bar, when, Decide, Check, do_item, do_items, decide, check}
use Rattle.boardview.specs.declared.Arrays.{Arrays}
use Rattle.boardview.specs.View.{flag_in, ended_in, stopped, edge_of, slot_on, state_of, view, undecided_in, Ready, Decided, Done, then, in_a_row, shown, detour_at, with_count}
use Rattle.model.specs.Lists.{default_free}
use Rattle.boardview.specs.Bytes.{elim_true, elim_false, line_byte_test, undecided_byte_test, slot_of_edge, on_slot}
use Rattle.boardview.specs.Unwind.{since_still, since_then}
use Rattle.boardview.specs.Stores.{recounted}

-- ROWS OF ITEMS
module _ (g : Grid) (dec : Decide) (chk : Check) where
  pub row_append : (is js : List Item) (P : State × Bool) → in_a_row g dec chk (is ++ js) P ≡ in_a_row g dec chk js (in_a_row g dec chk is P)
  unfolding in_a_row
  row_append [] js P = refl
  row_append (it ∷ is) js P = row_append is js (then g dec chk it P)

  pub row_ended : (is : List Item) (S : State) → in_a_row g dec chk is (S, true) ≡ (S, true)
  unfolding in_a_row then
  row_ended [] S = refl
  row_ended (it ∷ is) S = row_ended is S

  -- the model does its items in a row
  pub row_is : (is : List Item) (S : State) → (in_a_row g dec chk is (S, false)).0 ≡ do_items g dec chk is S
  unfolding in_a_row then do_items
  row_is [] S = refl
  row_is (it ∷ is) S = go (do_item g dec chk it S).1 refl (row_is is (do_item g dec chk it S).0)
    where
      go : (b : Bool) → (do_item g dec chk it S).1 ≡ b → (in_a_row g dec chk is ((do_item g dec chk it S).0, false)).0 ≡ do_items g dec chk is (do_item g dec chk it S).0
          → (in_a_row g dec chk is (do_item g dec chk it S)).0 ≡ elim b [ true ↦ (do_item g dec chk it S).0 | false ↦ do_items g dec chk is (do_item g dec chk it S).0 ]
      go true e r = ap (λ (b : Bool). (in_a_row g dec chk is ((do_item g dec chk it S).0, b)).0) e ∙ ap (λ (P : State × Bool). P.0) (row_ended is (do_item g dec chk it S).0)
      go false e r = ap (λ (b : Bool). (in_a_row g dec chk is ((do_item g dec chk it S).0, b)).0) e ∙ r

-- PARTS OF A DECISION
module _ (g : Grid) where
  pub done_then : {r : ℕ} {s s₁ s₂ : Arrays} {is js : List Item} → Done g r s is s₁ → Done g r s₁ js s₂ → Done g r s (is ++ js) s₂
  done_then {r} {s} {s₁} {s₂} {is} {js} a b = record {
    same = λ f h. b.same f (omega (arith, a.fewer)) ∙ (ap (in_a_row g (decide g f) (check g f) js) (a.same f h) ∙ sym (row_append g (decide g f) (check g f) is js (shown s)));
    fewer = omega (arith, a.fewer, b.fewer);
    ready = b.ready;
    since = since_then g.width s s₁ s₂ a.since b.since;
  }

  -- the items are told otherwise
  pub done_as : {r : ℕ} {s s' : Arrays} {is js : List Item} → is ≡ js → Done g r s is s' → Done g r s js s'
  done_as e d = rw e at d

  -- nothing to do
  pub done_nothing : (r : ℕ) (s : Arrays) → Ready g s → Done g r s [] s
  unfolding in_a_row
  done_nothing r s y = record { same = λ f h. refl; fewer = omega arith; ready = y; since = since_still g.width s s.count refl }

  -- the decision has ended before
  pub done_ended : (r : ℕ) (s : Arrays) (is : List Item) → Ready g s → 2048 ≤ s.count → Done g r s is s
  done_ended r s is y h = record {
    same = λ f k. rw (le-leb 2048 s.count h) (sym (row_ended g (decide g f) (check g f) is (view s)));
    fewer = omega arith;
    ready = y;
    since = since_still g.width s s.count refl;
  }

  -- one item that changes nothing
  pub done_still : (r : ℕ) (s : Arrays) (it : Item) → Ready g s → s.count < 2048 → ((f : ℕ) → do_item g (decide g f) (check g f) it (view s) ≡ (view s, false)) → Done g r s (it ∷ []) s
  unfolding in_a_row then
  done_still r s it y h e = record {
    same = λ f k. rw (lt-leb 2048 s.count h) (sym (e f));
    fewer = omega arith;
    ready = y;
    since = since_still g.width s s.count refl;
  }

  -- one item that sets the flag and ends the decision
  pub view_stopped : (s : Arrays) (c : ℕ) → 1024 ≤ c → view (with_count s c) ≡ set_flag (view s)
  unfolding view set_flag
  view_stopped s c h = λ i. record { edge = (view s).edge; end = (view s).end; flag = le-leb 1024 c h i }

  pub view_recounted : (s : Arrays) (c : ℕ) → flag_in c ≡ flag_in s.count → view (with_count s c) ≡ view s
  unfolding view
  view_recounted s c h = λ i. record { edge = (view s).edge; end = (view s).end; flag = h i }

  pub done_stopped : (r : ℕ) (s : Arrays) (it : Item) → Ready g s → s.count < 2048 → ((f : ℕ) → do_item g (decide g f) (check g f) it (view s) ≡ (set_flag (view s), true))
      → Done g r s (it ∷ []) (with_count s (stopped s.count))
  unfolding in_a_row then
  done_stopped r s it y h e = record {
    same = λ f k. rw (lt-leb 2048 s.count h, e f, view_stopped s (stopped s.count) (omega arith), le-leb 2048 (stopped s.count) (omega arith)) refl;
    fewer = omega arith;
    ready = recounted g s (stopped s.count) y (omega arith) (omega arith);
    since = since_still g.width s (stopped s.count) (omega arith);
  }

  -- what a decided edge shows
  pub decided_shown : {s s' : Arrays} {e : Edge} {m : EdgeState} → Decided g s e m s' → (f : ℕ) → 2 * undecided_in s.edges < f
      → shown s' ≡ (decide g f e m (view s), (decide g f e m (view s)).flag)
  unfolding view
  decided_shown {s} {s'} {e} {m} d f h = λ i. (d.same f h i, shows i)
    where
      shows : ended_in s'.count ≡ (decide g f e m (view s)).flag
      shows = d.ends_if_flagged ∙ ap (λ (S : State). S.flag) (d.same f h)

  -- one item that decides one edge
  pub done_decided : (r : ℕ) {s s' : Arrays} {e : Edge} {m : EdgeState} (it : Item) → s.count < 2048 → Decided g s e m s'
      → ((dec : Decide) (chk : Check) → do_item g dec chk it (view s) ≡ (dec e m (view s), (dec e m (view s)).flag)) → Done g r s (it ∷ []) s'
  unfolding in_a_row then
  done_decided r {s} {s'} {e} {m} it h d q = record {
    same = λ f k. rw (lt-leb 2048 s.count h) (decided_shown d f (omega arith) ∙ sym (q (decide g f) (check g f)));
    fewer = d.fewer;
    ready = d.ready;
    since = d.since;
  }

-- the state of an edge at a slot
pub state_at : (s : Arrays) (n : ℕ) → 32 ≤ n → n < length s.edges → (view s).edge (edge_of n) ≡ state_of (get_or s.edges n 0)
unfolding view
state_at s n h k = ap (λ (x : ℕ). state_of (get_or s.edges x 2)) (slot_of_edge n h) ∙ ap state_of (default_free s.edges n 2 0 k)

pub line_at : (s : Arrays) (n : ℕ) → 32 ≤ n → n < length s.edges → is_line ((view s).edge (edge_of n)) ≡ eqb (get_or s.edges n 0) 1
line_at s n h k = ap is_line (state_at s n h k) ∙ line_byte_test (get_or s.edges n 0)

pub undecided_at : (s : Arrays) (n : ℕ) → 32 ≤ n → n < length s.edges → is_undecided ((view s).edge (edge_of n)) ≡ eqb (get_or s.edges n 0) 0
undecided_at s n h k = ap is_undecided (state_at s n h k) ∙ undecided_byte_test (get_or s.edges n 0)

-- a slot with a line, or undecided, is on the board
module _ (g : Grid) (s : Arrays) (y : Ready g s) (n : ℕ) (h : n < 1024) where
  pub slot_is_on : get_or s.edges n 0 < 2 → slot_on g n ≡ true
  slot_is_on k = is_so (slot_on g n) (λ e. omega (arith, y.rim n h e))

  pub line_test : slot_on g n ≡ true → is_line ((view s).edge (edge_of n)) ≡ eqb (get_or s.edges n 0) 1
  line_test e = line_at s n (on_slot g n e).0 (omega (arith, y.edges_long))

  pub line_there : get_or s.edges n 0 ≡ 1 → is_line ((view s).edge (edge_of n)) ≡ true
  line_there l = line_test (slot_is_on (omega arith)) ∙ eq-eqb (get_or s.edges n 0) 1 l

-- WHAT THE MODEL'S ITEMS DO, by their tests
module _ (g : Grid) (dec : Decide) (chk : Check) (S : State) where
  abbrev both_none : Edge → Edge → State × Bool
  both_none b c = elim (dec b none S).flag [ true ↦ (dec b none S, true) | false ↦ (dec c none (dec b none S), (dec c none (dec b none S)).flag) ]

  pub detour_no : (a b c : Edge) → is_line (S.edge a) ≡ false → do_item g dec chk (detour a b c) S ≡ (S, false)
  unfolding do_item
  detour_no a b c h = elim_false (is_line (S.edge a)) (both_none b c) (S, false) h

  pub detour_first_only : (a b c : Edge) → is_line (S.edge a) ≡ true → (dec b none S).flag ≡ true → do_item g dec chk (detour a b c) S ≡ (dec b none S, true)
  unfolding do_item
  detour_first_only a b c h k = elim_true (is_line (S.edge a)) (both_none b c) (S, false) h ∙ elim_true (dec b none S).flag (dec b none S, true) _ k

  pub detour_two : (a b c : Edge) → is_line (S.edge a) ≡ true → (dec b none S).flag ≡ false
      → do_item g dec chk (detour a b c) S ≡ (dec c none (dec b none S), (dec c none (dec b none S)).flag)
  unfolding do_item
  detour_two a b c h k = elim_true (is_line (S.edge a)) (both_none b c) (S, false) h ∙ elim_false (dec b none S).flag (dec b none S, true) _ k

  abbrev corner_acts : Bool → Edge → Edge → State × Bool
  corner_acts exist b c = elim exist [ true ↦ (dec c line (dec b line S), false) | false ↦ (set_flag S, true) ]

  pub corner_no : (q : ℕ) (a : Edge) (exist : Bool) (b c : Edge) → (is_blank (g.cell q) && is_line (S.edge a)) ≡ false → do_item g dec chk (corner q a exist b c) S ≡ (S, false)
  unfolding do_item
  corner_no q a exist b c h = elim_false (is_blank (g.cell q) && is_line (S.edge a)) (corner_acts exist b c) (S, false) h

  pub corner_two : (q : ℕ) (a : Edge) (exist : Bool) (b c : Edge) → (is_blank (g.cell q) && is_line (S.edge a)) ≡ true → exist ≡ true
      → do_item g dec chk (corner q a exist b c) S ≡ (dec c line (dec b line S), false)
  unfolding do_item
  corner_two q a exist b c h k = elim_true (is_blank (g.cell q) && is_line (S.edge a)) (corner_acts exist b c) (S, false) h ∙ elim_true exist _ (set_flag S, true) k

  pub corner_stops : (q : ℕ) (a : Edge) (exist : Bool) (b c : Edge) → (is_blank (g.cell q) && is_line (S.edge a)) ≡ true → exist ≡ false
      → do_item g dec chk (corner q a exist b c) S ≡ (set_flag S, true)
  unfolding do_item
  corner_stops q a exist b c h k = elim_true (is_blank (g.cell q) && is_line (S.edge a)) (corner_acts exist b c) (S, false) h ∙ elim_false exist (dec c line (dec b line S), false) _ k

  pub bar_no : (b : Bool) (a : Edge) → b ≡ false → do_item g dec chk (bar b a) S ≡ (S, false)
  unfolding do_item
  bar_no b a h = elim_false b (dec a none S, (dec a none S).flag) (S, false) h

  pub bar_acts : (b : Bool) (a : Edge) → b ≡ true → do_item g dec chk (bar b a) S ≡ (dec a none S, (dec a none S).flag)
  unfolding do_item
  bar_acts b a h = elim_true b (dec a none S, (dec a none S).flag) (S, false) h

-- DETOUR
module _ (g : Grid) (s : Arrays) (y : Ready g s) (a b c : ℕ) (h : a < 1024) (goes_on_yet : s.count < 2048) where
  pub detour_off : (get_or s.edges a 0 ≡ 1 → ⊥) → Done g 1 s (detour_at g a b c) s
  unfolding detour_at
  detour_off n = go (slot_on g a) refl
    where
      go : (t : Bool) → slot_on g a ≡ t → Done g 1 s (when t (detour (edge_of a) (edge_of b) (edge_of c) ∷ [])) s
      go false e = done_nothing g 1 s y
      go true e = done_still g 1 s (detour (edge_of a) (edge_of b) (edge_of c)) y goes_on_yet
          (λ f. detour_no g (decide g f) (check g f) (view s) _ _ _ (line_test g s y a h e ∙ ne_eqb (get_or s.edges a 0) 1 n))

  module _ (l : get_or s.edges a 0 ≡ 1) where
    detour_on : slot_on g a ≡ true
    detour_on = slot_is_on g s y a h (omega arith)

    flag_after : (s₁ : Arrays) → Decided g s (edge_of b) none s₁ → (f : ℕ) → 2 * undecided_in s.edges < f → (decide g f (edge_of b) none (view s)).flag ≡ ended_in s₁.count
    unfolding view
    flag_after s₁ d f k = sym (d.ends_if_flagged ∙ ap (λ (S : State). S.flag) (d.same f k))

    pub detour_first : (s₁ : Arrays) → Decided g s (edge_of b) none s₁ → 2048 ≤ s₁.count → Done g 1 s (detour_at g a b c) s₁
    unfolding detour_at in_a_row then
    detour_first s₁ d e = rw detour_on (record { same = same; fewer = d.fewer; ready = d.ready; since = d.since })
      where
        same : (f : ℕ) → 2 * undecided_in s.edges + 1 < f → shown s₁ ≡ in_a_row g (decide g f) (check g f) (detour (edge_of a) (edge_of b) (edge_of c) ∷ []) (shown s)
        same f k = rw (lt-leb 2048 s.count goes_on_yet) ((λ i. (d.same f (omega arith) i, le-leb 2048 s₁.count e i))
            ∙ sym (detour_first_only g (decide g f) (check g f) (view s) _ _ _ (line_there g s y a h l) (flag_after s₁ d f (omega arith) ∙ le-leb 2048 s₁.count e)))

    pub detour_both : (s₁ s₂ : Arrays) → Decided g s (edge_of b) none s₁ → s₁.count < 2048 → Decided g s₁ (edge_of c) none s₂ → Done g 1 s (detour_at g a b c) s₂
    unfolding detour_at in_a_row then
    detour_both s₁ s₂ d e d₂ = rw detour_on (record { same = same; fewer = omega (arith, d.fewer, d₂.fewer); ready = d₂.ready; since = since_then g.width s s₁ s₂ d.since d₂.since })
      where
        same : (f : ℕ) → 2 * undecided_in s.edges + 1 < f → shown s₂ ≡ in_a_row g (decide g f) (check g f) (detour (edge_of a) (edge_of b) (edge_of c) ∷ []) (shown s)
        same f k = rw (lt-leb 2048 s.count goes_on_yet) (decided_shown g d₂ f (omega (arith, d.fewer))
            ∙ (ap (λ (S : State). (decide g f (edge_of c) none S, (decide g f (edge_of c) none S).flag)) (d.same f (omega arith))
            ∙ sym (detour_two g (decide g f) (check g f) (view s) _ _ _ (line_there g s y a h l) (flag_after s₁ d f (omega arith) ∙ lt-leb 2048 s₁.count e))))
