-- Laws of one step of the search: what is left of the board after an attempt is undone, where the search of a board begins, an m that is
-- not tried, that leaves the flag set or that goes on, and a board that is spent, in the last row or tried with its four m. They rest on
-- runs' Progress.antt and Turns.antt, on NextPad.antt and on what a decision promises.
use Rattle.std.specs.Prelude.{ℕ, zero, suc, ◌+◌, ◌*◌, ◌-◌, ◌%◌, ◌/◌, ◌≤◌, ◌<◌, ◌≡◌, Bool, true, false, ◌||◌, eqb, leb, length, ℤ}
use Rattle.std.proofs.Math.Path.{refl, sym, ap}
use Rattle.std.proofs.Common.{◌∙◌}
use mathlib.Core.List.{List, [], ◌∷◌}
use native.Mathlib.Omega.{arith}
use borrow.Author.Tests.{lt-ltb, le-ltb, eq-eqb, ne_eqb, le-leb, lt-leb}
use Rattle.rules.specs.Grid.{right, down, Grid, pads, places}
use Rattle.rules.specs.Drawing.{num}
use Rattle.model.specs.PadTests.{on_board}
use Rattle.model.specs.Board.{State, is_undecided, line_or_none, decide, enough}
use Rattle.model.specs.Runs.{Event, layout}
use Rattle.model.specs.Search.{board_record, degree_so_far, next_pad, try, backtrack, search_from}
use Rattle.model.specs.SearchStart.{flagged_search, clear_search}
use Rattle.boardview.specs.declared.Arrays.{Arrays}
use Rattle.boardview.specs.View.{logged, view, unwound, Entry, Since, Ready, Decided}
use Rattle.boardview.specs.Unwind.{back_to, kept_unwound}
use Rattle.runs.specs.Progress.{Progress, advance, entered, stopped, goes_on}
use Rattle.runs.specs.Turns.{turns_left, four_turns, one_turn}
use Rattle.boardview.specs.ShownRecord.{edges_only, record_shown}
use Rattle.runs.specs.Layouts.{progress}
use Rattle.searchview.specs.Shown.{EdgesReady, is_tried, last_row, NextPad, Restored}
use Rattle.searchview.specs.Searched.{Above, Entered, Attempted, Backtracked, Going, events_left}
use Rattle.boardview.specs.Undecided.{enough_here}
use Rattle.searchview.specs.EdgeSet.{right_decided}
use Rattle.searchview.specs.NextPad.{below_some, below_none, last_below_pads, right_there, scan_same, next_same}

-- THE BOARD AGAIN AS IT WAS
pub ready_edges : (g : Grid) (s : Arrays) → Ready g s → EdgesReady g s.edges
ready_edges g s ready = record { long = ready.edges_long; bytes = ready.bytes; rim = ready.rim }

pub restored_same : (s : Arrays) → Restored s s
restored_same s = record { edges_back = refl; ends_back = refl; log_kept = λ i h. refl; log_long = refl }

pub restored_then : (s s₁ s₂ : Arrays) → s₁.count ≡ s.count → Restored s s₁ → Restored s₁ s₂ → Restored s s₂
restored_then s s₁ s₂ count a b = record {
  edges_back = b.edges_back ∙ a.edges_back;
  ends_back = b.ends_back ∙ a.ends_back;
  log_kept = λ i h. b.log_kept i (rw count h) ∙ a.log_kept i h;
  log_long = b.log_long ∙ a.log_long;
}

pub view_restored : (s s' : Arrays) → s'.count ≡ s.count → Restored s s' → view s' ≡ view s
unfolding view
view_restored s s' count r = rw (r.edges_back, r.ends_back, count) refl

-- an entry of the log is as it was
entry_restored : (g : Grid) (s s' : Arrays) (k : ℕ) → Restored s s' → k < logged s → Entry g s.log k → Entry g s'.log k
entry_restored g s s' k r below e =
    let a = r.log_kept (3 * k) (omega arith) in
    let b = r.log_kept (3 * k + 1) (omega arith) in
    let c = r.log_kept (3 * k + 2) (omega arith) in
    record { number = rw a e.number; on = rw a e.on; first = rw b e.first; second = rw (b, c) e.second }

pub ready_restored : (g : Grid) (s s' : Arrays) → s'.count ≡ s.count → Restored s s' → Ready g s → Ready g s'
ready_restored g s s' count r ready = record {
  edges_long = rw r.edges_back ready.edges_long;
  ends_long = rw r.ends_back ready.ends_long;
  log_long = r.log_long ∙ ready.log_long;
  least_width = ready.least_width;
  largest_width = ready.largest_width;
  few_pads = ready.few_pads;
  mode = rw count ready.mode;
  room = rw (r.edges_back, count) ready.room;
  entries = λ k h. let below : k < logged s = rw count at h in entry_restored g s s' k r below (ready.entries k below);
  bytes = λ n. rw r.edges_back (ready.bytes n);
  rim = λ n h k. rw r.edges_back (ready.rim n h k);
  near = λ v w h. rw r.ends_back (ready.near v w h);
  paired = λ v w. rw r.ends_back (ready.paired v w);
}

-- the log since s, after the search below has been and gone
pub since_restored : (w : ℕ) (s s₁ s₂ : Arrays) → s₂.count ≡ s₁.count → Since w s s₁ → Restored s₁ s₂ → Since w s s₂
since_restored w s s₁ s₂ count since r = record {
  more = since.more;
  longer = rw count since.longer;
  kept = λ i h. r.log_kept i (let k = since.longer in omega arith) ∙ since.kept i h;
  back = rw (r.edges_back, r.ends_back)
      (kept_unwound w s₁.log s₂.log (logged s) since.more (s₁.edges, s₁.ends) (λ i h. r.log_kept i (let k = since.longer in omega arith)) ∙ since.back);
}

-- undone: edges and ends are those of s again
pub undone_restored : (w : ℕ) (s s₁ s₂ : Arrays) → Since w s s₁ → length s₁.log ≡ length s.log → s₂.log ≡ s₁.log
    → (more : ℕ) → logged s₁ ≡ logged s + more → ◌≡◌ {A = List ℕ × List ℤ} (s₂.edges, s₂.ends) (unwound w s₁.log (logged s) more (s₁.edges, s₁.ends)) → Restored s s₂
undone_restored w s s₁ s₂ since long log more longer back =
    let same : more ≡ since.more = let k = since.longer in omega arith in
    let both : ◌≡◌ {A = List ℕ × List ℤ} (s₂.edges, s₂.ends) (s.edges, s.ends) = back ∙ ap (λ (n : ℕ). unwound w s₁.log (logged s) n (s₁.edges, s₁.ends)) same ∙ since.back in
    record {
      edges_back = ap (λ (p : List ℕ × List ℤ). p.0) both;
      ends_back = ap (λ (p : List ℕ × List ℤ). p.1) both;
      log_kept = λ i h. rw log (since.kept i h);
      log_long = ap length log ∙ long;
    }

-- WHERE A SEARCH BEGINS: nowhere on a flagged board, else at the first pad that the scan finds
module _ (g : Grid) (s : Arrays) (ready : Ready g s) (high : 2 ≤ g.height) where
  few_slots : 32 + 2 * last_row g ≤ 1024
  few_slots = omega (arith, last_below_pads g high ready.least_width, ready.few_pads)

  view_shown : (k : ℕ) → (view s).edge (right k) ≡ (edges_only s.edges).edge (right k)
  unfolding view edges_only
  view_shown k = refl

  -- a pad that the scan finds may be entered
  pub found_entered : {from u : ℕ} → NextPad s.edges (last_row g) from u → Entered g u
  found_entered {u = u} next = record {
    low = next.above;
    has_next = λ h. right_there g high s.edges (ready_edges g s ready) few_slots (view s) view_shown u h (next.found h);
  }

  flag_shown : (view s).flag ≡ leb 1024 s.count
  unfolding view
  flag_shown = refl

  pub search_flagged : 1024 ≤ s.count → search_from g (view s) ≡ []
  search_flagged h = flagged_search g (view s) (flag_shown ∙ le-leb 1024 s.count h)

  pub search_clear : s.count < 1024 → (u : ℕ) → NextPad s.edges (last_row g) 0 u → search_from g (view s) ≡ backtrack g (pads g) u (view s)
  search_clear h u next = clear_search g (view s) (flag_shown ∙ lt-leb 1024 s.count h) ∙ ap (λ (k : ℕ). backtrack g (pads g) k (view s))
      (scan_same g high s.edges (ready_edges g s ready) few_slots (view s) view_shown (pads g) 0 u (omega arith) (omega (arith, last_below_pads g high ready.least_width)) next)

-- ONE m
module _ (g : Grid) (v : ℕ) (go_right go_down : Bool) (s : Arrays) where
  tried_shown : is_tried g v (edges_only s.edges) go_right go_down ≡ (eqb (degree_so_far g v (view s) + num go_right + num go_down) 0 || eqb (degree_so_far g v (view s) + num go_right + num go_down) 2)
  unfolding is_tried degree_so_far edges_only view
  tried_shown = refl

  -- an m that is not tried
  pub not_tried : (limit : ℕ) (P : Progress) → P.used ≤ length P.buffer → is_tried g v (edges_only s.edges) go_right go_down ≡ false → Attempted g limit v go_right go_down s P s P
  unfolding try advance
  not_tried limit P inside h = record
      { advanced = λ n left. rw (sym tried_shown ∙ h, try) refl; restored = restored_same s; inside = inside; same_length = refl }

  module _ (tried : is_tried g v (edges_only s.edges) go_right go_down ≡ true) (ready : Ready g s) (s₁ s₂ : Arrays)
      (first : Decided g s (right v) (line_or_none go_right) s₁) (second : Decided g s₁ (down v) (line_or_none go_down) s₂) where
    abbrev after : State
    after = decide g (enough g) (down v) (line_or_none go_down) (decide g (enough g) (right v) (line_or_none go_right) (view s))

    both_decided : view s₂ ≡ after
    both_decided = second.same (enough g) (enough_here g s₁ first.ready)
        ∙ ap (λ (S : State). decide g (enough g) (down v) (line_or_none go_down) S) (first.same (enough g) (enough_here g s ready))

    -- the flag is set
    pub flagged : (limit : ℕ) (P : Progress) → P.used ≤ length P.buffer → 1024 ≤ s₂.count → (s₃ : Arrays) → Restored s s₃ → Attempted g limit v go_right go_down s P s₃ P
    unfolding try advance view
    flagged limit P inside h s₃ r = record {
      advanced = λ n left. rw (sym tried_shown ∙ tried, try) (rw (sym (ap (λ (S : State). S.flag) both_decided) ∙ le-leb 1024 s₂.count h) refl);
      restored = r;
      inside = inside;
      same_length = refl;
    }

    -- the flag is clear, and the search goes on at the next pad
    module _ (wide : 2 ≤ g.width) (high : 2 ≤ g.height) (few : 32 + 2 * last_row g ≤ 1024) (clear : s₂.count < 1024) (above : v < last_row g)
        (u : ℕ) (next : NextPad s₂.edges (last_row g) (v + 1) u) where
      flag_clear : after.flag ≡ false
      unfolding view
      flag_clear = sym (ap (λ (S : State). S.flag) both_decided) ∙ lt-leb 1024 s₂.count clear

      decided_right : is_undecided ((view s₂).edge (right v)) ≡ false
      decided_right = ap (λ (S : State). is_undecided (S.edge (right v))) both_decided ∙ right_decided g wide v go_right go_down (view s) flag_clear

      pub at_next : next_pad g (pads g) v (view s₂) ≡ u
      at_next = next_same g high s₂.edges (ready_edges g s₂ second.ready) few (view s₂) (view_shown g s₂ second.ready high) v u above decided_right next

      pub next_entered : Entered g u
      next_entered = found_entered g s₂ second.ready high next

      pub went_on : (limit : ℕ) (P : Progress) (s₃ s₄ : Arrays) (P' : Progress) → Backtracked g limit u s₂ P s₃ P' → Restored s s₄ → Attempted g limit v go_right go_down s P s₄ P'
      unfolding try
      went_on limit P s₃ s₄ P' below back = record {
        advanced = λ n left. below.advanced n (let k = next.later in omega arith) ∙ ap (advance limit (places g.height g.width) P) (sym (events n));
        restored = back;
        inside = below.inside;
        same_length = below.same_length;
      }
        where
          events : (n : ℕ) → try g (λ u T. backtrack g n u T) v (view s) go_right go_down ≡ backtrack g n u (view s₂)
          events n = rw (sym tried_shown ∙ tried, try) (rw flag_clear (ap (λ (S : State). backtrack g n (next_pad g (pads g) v S) S) (sym both_decided)
              ∙ ap (λ (k : ℕ). backtrack g n k (view s₂)) at_next))

-- the record that the arrays show is the model's
record_same : (g : Grid) (s : Arrays) → record_shown g s.edges ≡ board_record g (view s)
unfolding record_shown edges_only view board_record
record_same g s = refl

-- ALL OF A PAD
module _ (g : Grid) (limit v : ℕ) (s : Arrays) (P : Progress) (inside : P.used ≤ length P.buffer) (clear : P.outcome ≡ 0) (high : 2 ≤ g.height) (wide : 2 ≤ g.width) (entry : Entered g v) where
  abbrev size : ℕ
  size = places g.height g.width

  some_left : 0 < pads g - v
  some_left = let k = last_below_pads g high wide in let h = entry.low in omega arith

  -- a fact about every bound from one that is no zero
  for_each : (P' : Progress) → ((m : ℕ) → pads g - (v + 1) ≤ m → P' ≡ advance limit size P (backtrack g (suc m) v (view s))) → (n : ℕ) → pads g - v ≤ n → P' ≡ advance limit size P (backtrack g n v (view s))
  for_each P' each zero left = absurd (let k = some_left in omega arith)
  for_each P' each (suc m) left = each m (omega arith)

  -- the next entry would pass the limit
  pub spent : limit ≤ P.visited → Backtracked g limit v s P s (stopped 1 P)
  unfolding advance backtrack
  spent h = record {
    advanced = for_each (stopped 1 P) (λ m left. rw (le-ltb P.visited limit h, advance) refl);
    restored = restored_same s;
    inside = inside;
    same_length = refl;
  }

  -- in the last row the layout is complete
  pub last_row_reached : P.visited < limit → last_row g ≤ v → (P' : Progress) → P' ≡ advance limit size (entered P) (layout (record_shown g s.edges) ∷ [])
      → P'.used ≤ length P'.buffer → length P'.buffer ≡ length P.buffer → Backtracked g limit v s P s P'
  unfolding advance backtrack
  last_row_reached h row P' is inside' same = record {
    advanced = for_each P' (λ m left. is ∙ ap (λ (r : List ℕ). advance limit size (entered P) (layout r ∷ [])) (record_same g s) ∙ sym (rw (below_none g high v row) (rw (lt-ltb P.visited limit h, advance) refl)));
    restored = restored_same s;
    inside = inside';
    same_length = same;
  }

  -- the events of one m
  abbrev events : Bool → Bool → ℕ → List Event
  events go_right go_down n = try g (λ u T. backtrack g n u T) v (view s) go_right go_down

  -- above the last row, with the entry counted, the four m are left
  module _ (counted : P.visited < limit) (above : v < last_row g) where
    four_left : (n : ℕ) → advance limit size P (backtrack g (suc n) v (view s)) ≡ advance limit size (entered P) (events_left g v (view s) 4 0 n)
    unfolding advance backtrack
    four_left n = (rw (below_some g high v above) (rw (lt-ltb P.visited limit counted, advance) refl)) ∙ ap (advance limit size (entered P)) (four_turns (λ k. events (eqb (k % 2) 1) (eqb (k / 2) 1) n))

    pub begun : Going g limit v s (entered P) (events_left g v (view s) 4 0) s (entered P)
    begun = record { so_far = λ n left. refl; restored = restored_same s; inside = inside; same_length = refl; clear = clear }

    -- the loop over m is over
    pub loop_over : (m : ℕ) → m ≤ 4 → 4 ≤ m → (s' : Arrays) (Q : Progress) → Going g limit v s (entered P) (events_left g v (view s) (4 - m) m) s' Q
        → Backtracked g limit v s P s' Q
    unfolding advance turns_left
    loop_over m low high' s' Q going = let four : m ≡ 4 = omega arith in let over = rw four at going in record {
      advanced = for_each Q (λ n left. sym (four_left n ∙ over.so_far n left));
      restored = over.restored;
      inside = over.inside;
      same_length = over.same_length;
    }

    -- one turn of it
    module _ (m : ℕ) (less : m < 4) (s₁ s₂ : Arrays) (Q : Progress) (o visited layouts fewest_lines : ℕ) (buffer : List ℕ) (count : s₁.count ≡ s.count)
        (attempted : Attempted g limit v (eqb (m % 2) 1) (eqb (m / 2) 1) s₁ Q s₂ (progress size o visited layouts fewest_lines buffer))
        (going : Going g limit v s (entered P) (events_left g v (view s) (4 - m) m) s₁ Q) where
      abbrev Q' : Progress
      Q' = progress size o visited layouts fewest_lines buffer

      abbrev rest : ℕ → List Event
      rest n = events_left g v (view s) (4 - (m + 1)) (m + 1) n

      after_one : (n : ℕ) → pads g - (v + 1) ≤ n → Q' ≡ advance limit size Q (events (eqb (m % 2) 1) (eqb (m / 2) 1) n)
      after_one n left = attempted.advanced n left
          ∙ ap (λ (S : State). advance limit size Q (try g (λ u T. backtrack g n u T) v S (eqb (m % 2) 1) (eqb (m / 2) 1))) (view_restored s s₁ count going.restored)

      joined : (n : ℕ) → pads g - (v + 1) ≤ n → advance limit size (entered P) (events_left g v (view s) 4 0 n) ≡ goes_on limit size (rest n) Q'
      joined n left = one_turn limit size (λ k. events (eqb (k % 2) 1) (eqb (k / 2) 1) n) m less (entered P) Q Q' going.clear (going.so_far n left) (after_one n left)

      -- an outcome ends it
      pub stops_at : (o ≡ 0 → ⊥) → Backtracked g limit v s P s₂ Q'
      unfolding goes_on
      stops_at stop = record {
        advanced = for_each Q' (λ n left. sym (four_left n ∙ joined n left ∙ (rw (ne_eqb o 0 stop, goes_on) refl)));
        restored = restored_then s s₁ s₂ count going.restored attempted.restored;
        inside = attempted.inside;
        same_length = attempted.same_length ∙ going.same_length;
      }

      -- with none the next m is tried
      pub next_one : o ≡ 0 → Going g limit v s (entered P) rest s₂ (progress size 0 visited layouts fewest_lines buffer)
      unfolding goes_on
      next_one go = record {
        so_far = λ n left. joined n left
            ∙ (rw (eq-eqb o 0 go, goes_on) (ap (λ (k : ℕ). advance limit size (progress size k visited layouts fewest_lines buffer) (rest n)) go));
        restored = restored_then s s₁ s₂ count going.restored attempted.restored;
        inside = attempted.inside;
        same_length = attempted.same_length ∙ going.same_length;
        clear = refl;
      }

-- SMALL NUMBERS
module _ (g : Grid) (s : Arrays) (ready : Ready g s) (high : 2 ≤ g.height) where
  pub row_small : last_row g < pads g
  row_small = last_below_pads g high ready.least_width

  pub row_few : 32 + 2 * last_row g ≤ 1024
  row_few = let k = row_small in let h = ready.few_pads in omega arith

  pub row_below : last_row g ≤ 256
  row_below = let k = row_small in let h = ready.few_pads in omega arith

  module _ (v : ℕ) (above : Above g v) where
    pub pad_small : v < 256
    pad_small = let k = row_small in let h = ready.few_pads in let low = above.low in omega arith

    pub right_on_board : on_board g (right v) ≡ true
    right_on_board = rw (above.has_next, lt-ltb v (pads g) (let k = row_small in let low = above.low in omega arith)) refl

    pub down_on_board : on_board g (down v) ≡ true
    down_on_board = below_some g high v above.low

-- the next pad, with the last row as the code has computed it
pub next_in_row : (edges : List ℕ) (last row from r : ℕ) → last ≡ row → NextPad edges last from r → NextPad edges row from r
next_in_row edges last row from r same next = rw same at next

-- undone as the code does it, from a board with a clear flag
pub taken_back : (w : ℕ) (s s₁ : Arrays) (edges : List ℕ) (ends : List ℤ) (count : ℕ) → Since w s s₁ → length s₁.log ≡ length s.log → s.count < 1024
    → ◌≡◌ {A = List ℕ × List ℤ} (edges, ends) (unwound w s₁.log s.count (s₁.count % 1024 - s.count) (s₁.edges, s₁.ends))
    → Restored s (record { edges = edges; ends = ends; log = s₁.log; count = count })
taken_back w s s₁ edges ends count since long clear back =
    let mark : s.count % 1024 ≡ s.count = native.Mathlib.Nat.mod-eq_of_lt clear in
    undone_restored w s s₁ (record { edges = edges; ends = ends; log = s₁.log; count = count }) since long refl (s₁.count % 1024 - s.count)
    (let k = since.longer in omega arith)
    (back ∙ ap (λ (n : ℕ). unwound w s₁.log n (s₁.count % 1024 - s.count) (s₁.edges, s₁.ends)) (sym mark))

-- back to the count that stood then
pub gone_back : (w : ℕ) (s s₁ s₂ : Arrays) → Since w s s₁ → length s₁.log ≡ length s.log → s₂ ≡ back_to w s₁ s.count → Restored s s₂ × (s₂.count ≡ s.count)
unfolding back_to
gone_back w s s₁ s₂ since long is = rw is (
  undone_restored w s s₁ (back_to w s₁ s.count) since long refl (logged s₁ - logged s) (let k = since.longer in omega arith) refl,
  refl,
)

pub log_longer : (w : ℕ) (s s₁ : Arrays) → Since w s s₁ → s.count < 1024 → s.count ≤ s₁.count % 1024
log_longer w s s₁ since clear = let mark : s.count % 1024 ≡ s.count = native.Mathlib.Nat.mod-eq_of_lt clear in let k = since.longer in omega arith
