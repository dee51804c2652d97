-- What each way through corner and bar does, and what a decision does: the edge decided before, a line that cannot be, none, and a line
-- whose ends are joined. It rests on Steps.antt and Stores.antt; the corners are one law over the side.
use Rattle.std.specs.Prelude.{ℕ, zero, suc, ◌+◌, ◌*◌, ◌%◌, ◌≤◌, ◌<◌, ◌≡◌, Bool, ◌&&◌, not, eqb, get_or, set, length, pos}
use Rattle.std.proofs.Math.Path.{refl, sym, ap}
use Rattle.std.proofs.Common.{◌∙◌, arith, not-suc-le-zero}
use Rattle.std.proofs.Math.Bool.{true, false}
use mathlib.Core.List.{List, [], ◌∷◌, ◌++◌}
use borrow.Author.Tests.{eq-eqb, ne_eqb, lt-leb, le-leb, lt-ltb}
use Rattle.rules.specs.Grid.{Edge, down, first, second, Grid}
use Rattle.rules.specs.Drawing.{Side}
use Rattle.rules.specs.Tests.{both_off, neither}
use Rattle.model.specs.JoinedEnds.{End, through, at_pad, at_clue, is_through, unjoinable}
use Rattle.model.specs.PadTests.{is_blank, is_clue, on_board, has_down}
use Rattle.model.specs.Board.{EdgeState, line, none, is_line, is_undecided, same_state, State, set_edge, set_flag, Item, corner, bar, check_pad, check_end, when, has_side, shape_items, do_items, cannot_join, join_ends, after_store, decide, check}
use Rattle.boardview.specs.declared.Arrays.{Arrays}
use Rattle.boardview.specs.declared.kinds.Kinds.{Kinds}
use Rattle.boardview.specs.Told.{has_bit, clue_bit, taken_bit, cell_in}
use Rattle.boardview.specs.View.{logged, flag_in, stopped, ended, going, slot, edge_of, slot_on, state_of, view, end_at, grid_in, joined, undecided_in, Ready, Decided, Done, then, in_a_row, shown, corner_at, bar_at, check_at, beside, pad_number, with_count}
use Rattle.model.specs.Lists.{default_free}
use Rattle.boardview.specs.Bytes.{elim_true, elim_false, undecided_byte_test, view_stored}
use Rattle.boardview.specs.Unwind.{since_still, since_then, log_stored, log_joined}
use Rattle.boardview.specs.Stores.{flag_of_ended, ended_of_ended, logged_of_ended, going_count, next_count, recounted, Stored, slot_inside, few_logged, first_inside, second_inside, edge_is_stored, line_is_joined, joined_view}
use Rattle.boardview.specs.Steps.{row_is, done_nothing, done_still, done_stopped, done_decided, view_stopped, view_recounted, slot_is_on, corner_no, corner_two, corner_stops, bar_no, bar_acts, line_test, line_there}

-- a decision hands its arrays on with another count
pub recount_decided : {g : Grid} {s s' : Arrays} {e : Edge} {m : EdgeState} → Decided g s e m s' → Ready g (with_count s' (going s'.count))
recount_decided {g} {s} {s'} d = let k = going_count s'.count d.ready.mode in recounted g s' (going s'.count) d.ready k.0 (omega (arith, k.1))

-- THE BITS OF A PAD tell whether it is a clue, and whether it is blank
pub clue_test : (kind : Kinds) (v : ℕ) → v < 256 → is_clue ((grid_in kind).cell v) ≡ has_bit kind.bits v clue_bit
clue_test kind v h = rw (lt-ltb v 256 h) (go (has_bit kind.bits v clue_bit) (has_bit kind.bits v taken_bit))
  where
    go : (c t : Bool) → is_clue (cell_in c t) ≡ c
    go true t = refl
    go false true = refl
    go false false = refl

pub blank_test : (kind : Kinds) (v : ℕ) → v < 256 → is_blank ((grid_in kind).cell v) ≡ not (has_bit kind.bits v taken_bit)
blank_test kind v h = rw (lt-ltb v 256 h) (go (has_bit kind.bits v clue_bit) (has_bit kind.bits v taken_bit) (kind.told.clue_taken v h))
  where
    go : (c t : Bool) → (c ≡ true → t ≡ true) → is_blank (cell_in c t) ≡ not t
    go true t taken = rw (taken refl) refl
    go false true taken = refl
    go false false taken = refl

-- CORNER
module _ (kind : Kinds) (side : Side) (s : Arrays) (y : Ready (grid_in kind) s) (q a : ℕ) (h : a < 1024) (going_on : s.count < 2048) where
  abbrev g : Grid
  g = grid_in kind

  pub corner_off : (get_or s.edges a 0 ≡ 1 → ⊥) → Done g 1 s (corner_at g side q a) s
  unfolding corner_at
  corner_off n = go (slot_on g a) refl
    where
      go : (t : Bool) → slot_on g a ≡ t → Done g 1 s (when t (corner q (edge_of a) (has_down g q && has_side g side q) (beside side q) (down q) ∷ [])) s
      go false e = done_nothing g 1 s y
      go true e = done_still g 1 s _ y going_on
          (λ f. corner_no g (decide g f) (check g f) (view s) q _ _ _ _ (both_off (is_blank (g.cell q)) _ (line_test g s y a h e ∙ ne_eqb (get_or s.edges a 0) 1 n)))

  module _ (l : get_or s.edges a 0 ≡ 1) where
    corner_on : slot_on g a ≡ true
    corner_on = slot_is_on g s y a h (omega arith)

    module _ (b : q < 256) where
      pub corner_taken : has_bit kind.bits q taken_bit ≡ true → Done g 1 s (corner_at g side q a) s
      unfolding corner_at
      corner_taken t = rw corner_on (done_still g 1 s _ y going_on
          (λ f. corner_no g (decide g f) (check g f) (view s) q _ _ _ _ (rw (blank_test kind q b, t) refl)))

      module _ (t : has_bit kind.bits q taken_bit ≡ false) where
        acts : (is_blank (g.cell q) && is_line ((view s).edge (edge_of a))) ≡ true
        acts = rw (blank_test kind q b, t, line_there g s y a h l) refl

        pub corner_ends : (has_down g q && has_side g side q) ≡ false → Done g 1 s (corner_at g side q a) (with_count s (stopped s.count))
        unfolding corner_at
        corner_ends e = rw corner_on (done_stopped g 1 s _ y going_on (λ f. corner_stops g (decide g f) (check g f) (view s) q _ _ _ _ acts e))

        pub corner_lines : (has_down g q && has_side g side q) ≡ true → (s₁ s₂ : Arrays) → Decided g s (beside side q) line s₁
            → Decided g (with_count s₁ (going s₁.count)) (down q) line s₂ → Done g 1 s (corner_at g side q a) (with_count s₂ (going s₂.count))
        unfolding corner_at in_a_row then
        corner_lines e s₁ s₂ d d₂ = rw corner_on (record {
          same = same;
          fewer = omega (arith, d.fewer, d₂.fewer);
          ready = recount_decided d₂;
          since = since_then g.width s s₁ _ d.since (since_then g.width s₁ (with_count s₁ (going s₁.count)) _ (since_still g.width s₁ (going s₁.count) k₁.0)
              (since_then g.width (with_count s₁ (going s₁.count)) s₂ _ d₂.since (since_still g.width s₂ (going s₂.count) k₂.0)));
        })
          where
            k₁ : (going s₁.count % 1024 ≡ logged s₁) × (going s₁.count < 2048) × (flag_in (going s₁.count) ≡ flag_in s₁.count)
            k₁ = going_count s₁.count d.ready.mode

            k₂ : (going s₂.count % 1024 ≡ logged s₂) × (going s₂.count < 2048) × (flag_in (going s₂.count) ≡ flag_in s₂.count)
            k₂ = going_count s₂.count d₂.ready.mode

            same : (f : ℕ) → 2 * undecided_in s.edges + 1 < f → shown (with_count s₂ (going s₂.count))
                ≡ in_a_row g (decide g f) (check g f) (corner q (edge_of a) (has_down g q && has_side g side q) (beside side q) (down q) ∷ []) (shown s)
            same f k = rw (lt-leb 2048 s.count going_on) ((λ i. (seen i, lt-leb 2048 (going s₂.count) k₂.1 i))
                ∙ sym (corner_two g (decide g f) (check g f) (view s) q _ _ _ _ acts e))
              where
                seen : view (with_count s₂ (going s₂.count)) ≡ decide g f (down q) line (decide g f (beside side q) line (view s))
                seen = view_recounted g s₂ (going s₂.count) k₂.2 ∙ (d₂.same f (omega (arith, d.fewer))
                    ∙ ap (decide g f (down q) line) (view_recounted g s₁ (going s₁.count) k₁.2 ∙ d.same f (omega arith)))

-- BAR
module _ (g : Grid) (s : Arrays) (y : Ready g s) (n : ℕ) (going_on : s.count < 2048) where
  pub bar_off : (b : Bool) → b ≡ false → Done g 1 s (bar_at g b n) s
  unfolding bar_at
  bar_off b h = go (slot_on g n)
    where
      go : (t : Bool) → Done g 1 s (when t (bar b (edge_of n) ∷ [])) s
      go false = done_nothing g 1 s y
      go true = done_still g 1 s (bar b (edge_of n)) y going_on (λ f. bar_no g (decide g f) (check g f) (view s) b (edge_of n) h)

  pub bar_none : (b : Bool) → b ≡ true → slot_on g n ≡ true → (s₁ : Arrays) → Decided g s (edge_of n) none s₁ → Done g 1 s (bar_at g b n) s₁
  unfolding bar_at
  bar_none b h on s₁ d = rw on (done_decided g 1 (bar b (edge_of n)) going_on d (λ dec chk. bar_acts g dec chk (view s) b (edge_of n) h))

-- A DECISION: the model's, by its tests
module _ (g : Grid) (f : ℕ) (e : Edge) (S : State) (on : on_board g e ≡ true) where
  abbrev decide_rest : EdgeState → State
  decide_rest m = elim (is_undecided (S.edge e)) [
    | true ↦ after_store g (λ a k T. decide g f a k T) (λ v T. check g f v T) e m (set_edge S e m)
    | false ↦ elim (same_state (S.edge e) m) [ true ↦ S | false ↦ set_flag S ]
  ]

  decide_on : (m : EdgeState) → decide g (suc f) e m S ≡ decide_rest m
  unfolding decide
  decide_on m = elim_true (on_board g e) (decide_rest m) (set_flag S) on

  pub decide_open : (m : EdgeState) → is_undecided (S.edge e) ≡ true → decide g (suc f) e m S ≡ after_store g (decide g f) (check g f) e m (set_edge S e m)
  decide_open m h = decide_on m ∙ elim_true (is_undecided (S.edge e)) _ _ h

  pub decide_same : (m : EdgeState) → is_undecided (S.edge e) ≡ false → same_state (S.edge e) m ≡ true → decide g (suc f) e m S ≡ S
  decide_same m h k = decide_on m ∙ (elim_false (is_undecided (S.edge e)) _ _ h ∙ elim_true (same_state (S.edge e) m) S (set_flag S) k)

  pub decide_other : (m : EdgeState) → is_undecided (S.edge e) ≡ false → same_state (S.edge e) m ≡ false → decide g (suc f) e m S ≡ set_flag S
  decide_other m h k = decide_on m ∙ (elim_false (is_undecided (S.edge e)) _ _ h ∙ elim_false (same_state (S.edge e) m) S (set_flag S) k)

-- same or other state, by the byte
same_test : (b m : ℕ) → (b ≡ 0 → ⊥) → b ≤ 2 → 0 < m → m ≤ 2 → same_state (state_of b) (state_of m) ≡ eqb b m
unfolding state_of
same_test zero m n h p k = absurd (n refl)
same_test (suc zero) zero n h p k = absurd (not-suc-le-zero p)
same_test (suc zero) (suc zero) n h p k = refl
same_test (suc zero) (suc (suc zero)) n h p k = refl
same_test (suc zero) (suc (suc (suc m))) n h p k = absurd (omega arith)
same_test (suc (suc zero)) zero n h p k = absurd (not-suc-le-zero p)
same_test (suc (suc zero)) (suc zero) n h p k = refl
same_test (suc (suc zero)) (suc (suc zero)) n h p k = refl
same_test (suc (suc zero)) (suc (suc (suc m))) n h p k = absurd (omega arith)
same_test (suc (suc (suc b))) m n h p k = absurd (omega arith)

-- DECIDED BEFORE
module _ (g : Grid) (s : Arrays) (e : Edge) (y : Ready g s) (on : on_board g e ≡ true) (room : slot e < length s.edges) (m : ℕ) (hm : 0 < m) (lm : m ≤ 2) where
  byte_of : (view s).edge e ≡ state_of (get_or s.edges (slot e) 0)
  unfolding view
  byte_of = ap state_of (default_free s.edges (slot e) 2 0 room)

  small_byte : get_or s.edges (slot e) 0 ≤ 2
  small_byte = rw (default_free s.edges (slot e) 0 2 room) (y.bytes (slot e))

  module _ (n : get_or s.edges (slot e) 0 ≡ 0 → ⊥) where
    closed : is_undecided ((view s).edge e) ≡ false
    closed = ap is_undecided byte_of ∙ (undecided_byte_test _ ∙ ne_eqb (get_or s.edges (slot e) 0) 0 n)

    pub decided_same : get_or s.edges (slot e) 0 ≡ m → Decided g s e (state_of m) (with_count s (ended s.count))
    decided_same h = record {
      same = same;
      ends_if_flagged = ended_of_ended s.count;
      fewer = omega arith;
      ready = let k = logged_of_ended s.count in recounted g s (ended s.count) y k.0 k.1;
      since = since_still g.width s (ended s.count) (logged_of_ended s.count).0;
    }
      where
        same : (f : ℕ) → 2 * undecided_in s.edges < f → view (with_count s (ended s.count)) ≡ decide g f e (state_of m) (view s)
        same zero k = absurd (not-suc-le-zero k)
        same (suc f) k = view_recounted g s (ended s.count) (flag_of_ended s.count)
            ∙ sym (decide_same g f e (view s) on (state_of m) closed (ap (λ (x : EdgeState). same_state x (state_of m)) byte_of ∙ (same_test _ m n small_byte hm lm ∙ eq-eqb (get_or s.edges (slot e) 0) m h)))

    pub decided_other : (get_or s.edges (slot e) 0 ≡ m → ⊥) → Decided g s e (state_of m) (with_count s (stopped s.count))
    decided_other h = record {
      same = same;
      ends_if_flagged = le-leb 2048 (stopped s.count) (omega arith) ∙ sym (le-leb 1024 (stopped s.count) (omega arith));
      fewer = omega arith;
      ready = recounted g s (stopped s.count) y (omega arith) (omega arith);
      since = since_still g.width s (stopped s.count) (omega arith);
    }
      where
        same : (f : ℕ) → 2 * undecided_in s.edges < f → view (with_count s (stopped s.count)) ≡ decide g f e (state_of m) (view s)
        same zero k = absurd (not-suc-le-zero k)
        same (suc f) k = view_stopped g s (stopped s.count) (omega arith)
            ∙ sym (decide_other g f e (view s) on (state_of m) closed (ap (λ (x : EdgeState). same_state x (state_of m)) byte_of ∙ (same_test _ m n small_byte hm lm ∙ ne_eqb (get_or s.edges (slot e) 0) m h)))

-- NOT DECIDED BEFORE
pub after_row : (g : Grid) (s₀ s' : Arrays) (is : List Item) → Done g 1 s₀ is s' → s₀.count < 2048 → (f : ℕ) → 2 * undecided_in s₀.edges + 1 < f
    → view s' ≡ do_items g (decide g f) (check g f) is (view s₀)
after_row g s₀ s' is d h f k = ap (λ (P : State × Bool). P.0) (d.same f k)
    ∙ (ap (λ (b : Bool). (in_a_row g (decide g f) (check g f) is (view s₀, b)).0) (lt-leb 2048 s₀.count h) ∙ row_is g (decide g f) (check g f) is (view s₀))

check_once : (v : ℕ) → v < 512 → check_at v ≡ check_pad v ∷ []
unfolding check_at
check_once v h = rw (lt-ltb v 512 h) refl

check_pad_number : (A : End) → ((a : ℕ) → A ≡ at_pad a → a < 512) → check_at (pad_number A) ≡ check_end A
unfolding pad_number check_at
check_pad_number through h = refl
check_pad_number (at_clue c) h = refl
check_pad_number (at_pad a) h = check_once a (h a refl)

module _ (g : Grid) (s : Arrays) (e : Edge) (y : Ready g s) (on : on_board g e ≡ true) (z : get_or s.edges (slot e) 0 ≡ 0) where
  opened : is_undecided ((view s).edge e) ≡ true
  unfolding view
  opened = ap (λ (x : ℕ). is_undecided (state_of x)) (default_free s.edges (slot e) 2 0 (slot_inside g s e y on z)) ∙ (undecided_byte_test _ ∙ eq-eqb (get_or s.edges (slot e) 0) 0 z)

  going_on : (going s.count % 1024 ≡ logged s) × (going s.count < 2048) × (flag_in (going s.count) ≡ flag_in s.count)
  going_on = going_count s.count y.mode

  next : ((going s.count + 1) % 1024 ≡ going s.count % 1024 + 1) × (going s.count + 1 < 2048) × (flag_in (going s.count + 1) ≡ flag_in (going s.count))
  next = next_count (going s.count) (omega (arith, few_logged g s e y on z, going_on.0)) going_on.1

  counted : (going s.count + 1) % 1024 ≡ logged s + 1
  counted = omega (arith, next.0, going_on.0)

  same_flag : flag_in (going s.count + 1) ≡ flag_in s.count
  same_flag = next.2 ∙ going_on.2

  -- NONE
  abbrev pub none_arrays : Arrays
  none_arrays = record { edges = set s.edges (slot e) 2; ends = s.ends; log = log_stored s.log (logged s) (slot e); count = going s.count + 1 }

  pub none_stored : Stored g s none_arrays
  none_stored = edge_is_stored g s e y on z 2 (going s.count + 1) (omega arith) (omega arith) counted (omega (arith, next.1))

  pub decided_none : (s' : Arrays) → Done g 1 none_arrays (check_at (first e) ++ check_at (second g.width e)) s' → Decided g s e none (with_count s' (ended s'.count))
  unfolding after_store state_of
  decided_none s' d = record {
    same = same;
    ends_if_flagged = ended_of_ended s'.count;
    fewer = omega (arith, d.fewer, none_stored.less);
    ready = let k = logged_of_ended s'.count in recounted g s' (ended s'.count) d.ready k.0 k.1;
    since = since_then g.width s none_arrays _ none_stored.since (since_then g.width none_arrays s' _ d.since (since_still g.width s' (ended s'.count) (logged_of_ended s'.count).0));
  }
    where
      list : check_at (first e) ++ check_at (second g.width e) ≡ check_pad (first e) ∷ check_pad (second g.width e) ∷ []
      list = rw (check_once (first e) (omega (arith, first_inside g s e y on z, y.few_pads)), check_once (second g.width e) (omega (arith, second_inside g s e y on z, y.few_pads))) refl

      seen : view none_arrays ≡ set_edge (view s) e (state_of 2)
      seen = view_stored s e 2 (log_stored s.log (logged s) (slot e)) (going s.count + 1) (slot_inside g s e y on z) same_flag

      same : (f : ℕ) → 2 * undecided_in s.edges < f → view (with_count s' (ended s'.count)) ≡ decide g f e none (view s)
      same zero k = absurd (not-suc-le-zero k)
      same (suc f) k = view_recounted g s' (ended s'.count) (flag_of_ended s'.count)
          ∙ (after_row g none_arrays s' _ d next.1 f (omega (arith, none_stored.less))
          ∙ (ap (λ (is : List Item). do_items g (decide g f) (check g f) is (view none_arrays)) list
          ∙ (ap (do_items g (decide g f) (check g f) (check_pad (first e) ∷ check_pad (second g.width e) ∷ [])) seen
          ∙ sym (decide_open g f e (view s) on none opened))))

  -- A LINE that cannot be
  ends_alone : unjoinable (end_at s.ends (first e)) (end_at s.ends (second g.width e)) (second g.width e) ≡ cannot_join g e (set_edge (view s) e line)
  unfolding unjoinable cannot_join set_edge view
  ends_alone = refl

  abbrev pub stopped_arrays : Arrays
  stopped_arrays = record { edges = set s.edges (slot e) 1; ends = s.ends; log = log_stored s.log (logged s) (slot e); count = stopped s.count + 1 }

  pub line_stopped : unjoinable (end_at s.ends (first e)) (end_at s.ends (second g.width e)) (second g.width e) ≡ true → Decided g s e line stopped_arrays
  unfolding after_store state_of set_edge view
  line_stopped b = record {
    same = same;
    ends_if_flagged = le-leb 2048 (stopped s.count + 1) (omega arith) ∙ sym (le-leb 1024 (stopped s.count + 1) (omega arith));
    fewer = omega (arith, stored.less);
    ready = stored.ready;
    since = stored.since;
  }
    where
      stored : Stored g s stopped_arrays
      stored = edge_is_stored g s e y on z 1 (stopped s.count + 1) (omega arith) (omega arith) (omega (arith, few_logged g s e y on z)) (omega (arith, few_logged g s e y on z))

      same : (f : ℕ) → 2 * undecided_in s.edges < f → view stopped_arrays ≡ decide g f e line (view s)
      same zero k = absurd (not-suc-le-zero k)
      same (suc f) k = view_stopped g (record { edges = set s.edges (slot e) 1; ends = s.ends; log = log_stored s.log (logged s) (slot e); count = s.count }) (stopped s.count + 1) (omega arith)
          ∙ (ap set_flag (view_stored s e 1 (log_stored s.log (logged s) (slot e)) s.count (slot_inside g s e y on z) refl)
          ∙ sym (decide_open g f e (view s) on line opened ∙ elim_true (cannot_join g e (set_edge (view s) e line)) (set_flag (set_edge (view s) e line)) _ (sym ends_alone ∙ b)))

  -- A LINE whose ends are joined
  abbrev pub line_arrays : Arrays
  line_arrays = record {
    edges = set s.edges (slot e) 1;
    ends = joined (first e) (second g.width e) s.ends;
    log = log_joined s.log (logged s) (slot e) (get_or s.ends (first e) (pos (first e))) (get_or s.ends (second g.width e) (pos (second g.width e)));
    count = going s.count + 1;
  }

  module _ (b : unjoinable (end_at s.ends (first e)) (end_at s.ends (second g.width e)) (second g.width e) ≡ false) where
    not_passed : is_through (end_at s.ends (first e)) ≡ false
    unfolding unjoinable
    not_passed = (neither _ _ b).0

    pub line_stored : Stored g s line_arrays
    line_stored = line_is_joined g s e y on z (going s.count + 1) counted (omega (arith, next.1)) not_passed

    first_near : (a : ℕ) → end_at s.ends (first e) ≡ at_pad a → a < 512
    first_near a h = omega (arith, y.near (first e) a (first_inside g s e y on z) h, y.few_pads)

    second_near : (a : ℕ) → end_at s.ends (second g.width e) ≡ at_pad a → a < 512
    second_near a h = omega (arith, y.near (second g.width e) a (second_inside g s e y on z) h, y.few_pads)

    pub decided_line : (s' : Arrays) → Done g 1 line_arrays (shape_items g e ++ (check_at (first e) ++ (check_at (second g.width e)
        ++ (check_at (pad_number (end_at s.ends (first e))) ++ check_at (pad_number (end_at s.ends (second g.width e))))))) s'
        → Decided g s e line (with_count s' (ended s'.count))
    unfolding after_store state_of set_edge view
    decided_line s' d = record {
      same = same;
      ends_if_flagged = ended_of_ended s'.count;
      fewer = omega (arith, d.fewer, line_stored.less);
      ready = let k = logged_of_ended s'.count in recounted g s' (ended s'.count) d.ready k.0 k.1;
      since = since_then g.width s line_arrays _ line_stored.since (since_then g.width line_arrays s' _ d.since (since_still g.width s' (ended s'.count) (logged_of_ended s'.count).0));
    }
      where
        list : shape_items g e ++ (check_at (first e) ++ (check_at (second g.width e) ++ (check_at (pad_number (end_at s.ends (first e))) ++ check_at (pad_number (end_at s.ends (second g.width e))))))
            ≡ shape_items g e ++ (check_pad (first e) ∷ check_pad (second g.width e) ∷ (check_end (end_at s.ends (first e)) ++ check_end (end_at s.ends (second g.width e))))
        list = rw (
          check_once (first e) (omega (arith, first_inside g s e y on z, y.few_pads)),
          check_once (second g.width e) (omega (arith, second_inside g s e y on z, y.few_pads)),
          check_pad_number (end_at s.ends (first e)) first_near,
          check_pad_number (end_at s.ends (second g.width e)) second_near,
        ) refl

        seen : view line_arrays ≡ join_ends g e (set_edge (view s) e (state_of 1))
        seen = joined_view g s e y on z (going s.count + 1) counted (omega (arith, next.1)) not_passed same_flag

        same : (f : ℕ) → 2 * undecided_in s.edges < f → view (with_count s' (ended s'.count)) ≡ decide g f e line (view s)
        same zero k = absurd (not-suc-le-zero k)
        same (suc f) k = view_recounted g s' (ended s'.count) (flag_of_ended s'.count)
            ∙ (after_row g line_arrays s' _ d next.1 f (omega (arith, line_stored.less))
            ∙ (ap (λ (is : List Item). do_items g (decide g f) (check g f) is (view line_arrays)) list
            ∙ (ap (do_items g (decide g f) (check g f) (shape_items g e ++ (check_pad (first e) ∷ check_pad (second g.width e) ∷ (check_end (end_at s.ends (first e)) ++ check_end (end_at s.ends (second g.width e)))))) seen
            ∙ sym (decide_open g f e (view s) on line opened ∙ elim_false (cannot_join g e (set_edge (view s) e line)) (set_flag (set_edge (view s) e line)) _ (sym ends_alone ∙ b)))))
