-- Storing an edge's state and joining two chains: what was true of the arrays of a board stays true, one edge fewer is undecided, and the
-- log tells how to go back. It rests on Bytes.antt, Ends.antt, Unwind.antt and Geometry.antt.
use Rattle.std.specs.Prelude.{ℕ, ◌+◌, ◌*◌, ◌-◌, ◌%◌, ◌/◌, ◌≤◌, ◌<◌, refl, Bool, true, false, List, eqb, ltb, leb, get_or, set, length, ℤ, pos, negsuc, nat_abs}
use Rattle.std.proofs.Math.Path.{◌≡◌}
use Rattle.std.proofs.Common.{sym, ap, ◌∙◌, subst, arith, length-set, get_or-set_same, get_or-set_other, eqb-true, eq-eqb, ne_eqb, le-leb, leb-true, leb-false, ltb-true, ltb-false}
use Rattle.std.proofs.lemmas.Bool.{eqb-false, lt-leb}
use Rattle.rules.specs.Grid.{Edge, right, down, first, second, Grid, pads}
use Rattle.rules.specs.Tests.{conflict}
use Rattle.model.specs.JoinedEnds.{at_pad, is_through, joined_ends}
use Rattle.model.specs.PadTests.{on_board}
use Rattle.model.specs.Board.{set_edge, join_ends}
use Rattle.boardview.specs.declared.Arrays.{Arrays}
use Rattle.boardview.specs.Told.{pick}
use Rattle.boardview.specs.View.{logged, flag_in, ended_in, stopped, ended, going, slot, slot_on, state_of, view, end_of, end_at, second_pad, joined, undecided_in, Entry, Ready, Since}
use Rattle.boardview.specs.Bytes.{edge_on, one_fewer, some_undecided, edge_stored}
use Rattle.boardview.specs.Ends.{stay_paired, stay_near, joined_long, joined_at, unjoined_is}
use Rattle.boardview.specs.Unwind.{log_stored, log_joined, slot_stored, mark_stored, slot_joined, first_joined, second_joined, stored_kept, stored_back, joined_kept, joined_back, since_one}
use Rattle.boardview.specs.Geometry.{right_on, down_on, beyond_right}

-- THE COUNT
pub flag_of_ended : (c : ℕ) → flag_in (ended c) ≡ flag_in c
unfolding ended
flag_of_ended c = go (ltb c 1024) refl
  where
    go : (b : Bool) → ltb c 1024 ≡ b → flag_in (pick b c (stopped c)) ≡ flag_in c
    go true e = refl
    go false e = le-leb 1024 (stopped c) (omega arith) ∙ sym (le-leb 1024 c (ltb-false c 1024 e))

pub ended_of_ended : (c : ℕ) → ended_in (ended c) ≡ flag_in (ended c)
unfolding ended
ended_of_ended c = go (ltb c 1024) refl
  where
    go : (b : Bool) → ltb c 1024 ≡ b → ended_in (pick b c (stopped c)) ≡ flag_in (pick b c (stopped c))
    go true e = let h = ltb-true c 1024 e in lt-leb 2048 c (omega arith) ∙ sym (lt-leb 1024 c h)
    go false e = le-leb 2048 (stopped c) (omega arith) ∙ sym (le-leb 1024 (stopped c) (omega arith))

pub logged_of_ended : (c : ℕ) → (ended c % 1024 ≡ c % 1024) × (ended c < 3072)
unfolding ended
logged_of_ended c = go (ltb c 1024) refl
  where
    go : (b : Bool) → ltb c 1024 ≡ b → (pick b c (stopped c) % 1024 ≡ c % 1024) × (pick b c (stopped c) < 3072)
    go true e = let h = ltb-true c 1024 e in omega arith
    go false e = omega arith

pub going_count : (c : ℕ) → c < 3072 → (going c % 1024 ≡ c % 1024) × (going c < 2048) × (flag_in (going c) ≡ flag_in c)
unfolding going
going_count c h = go (ltb c 2048) refl
  where
    go : (b : Bool) → ltb c 2048 ≡ b → (pick b c (c - 1024) % 1024 ≡ c % 1024) × (pick b c (c - 1024) < 2048) × (flag_in (pick b c (c - 1024)) ≡ flag_in c)
    go true e = let k = ltb-true c 2048 e in (refl, k, refl)
    go false e = let k = ltb-false c 2048 e in (omega arith, omega arith, le-leb 1024 (c - 1024) (omega arith) ∙ sym (le-leb 1024 c (omega arith)))

-- one entry more
pub next_count : (c : ℕ) → c % 1024 < 1000 → c < 2048 → ((c + 1) % 1024 ≡ c % 1024 + 1) × (c + 1 < 2048) × (flag_in (c + 1) ≡ flag_in c)
next_count c h k = (omega arith, omega arith, go (leb 1024 c) refl)
  where
    go : (b : Bool) → leb 1024 c ≡ b → flag_in (c + 1) ≡ b
    go true e = le-leb 1024 (c + 1) (omega (arith, leb-true 1024 c e))
    go false e = lt-leb 1024 (c + 1) (omega (arith, leb-false 1024 c e))

-- THE SAME EDGES AND ENDS with another log and another count, of no more entries
pub relogged : (g : Grid) (s : Arrays) (log : List ℤ) (c : ℕ) → Ready g s → length log ≡ 1440 → c < 3072 → c % 1024 ≤ logged s
    → ((k : ℕ) → k < c % 1024 → Entry g log k) → Ready g (record { edges = s.edges; ends = s.ends; log = log; count = c })
relogged g s log c y long mode fewer entries = record {
  edges_long = y.edges_long;
  ends_long = y.ends_long;
  log_long = long;
  least_width = y.least_width;
  largest_width = y.largest_width;
  few_pads = y.few_pads;
  mode = mode;
  room = omega (arith, y.room);
  entries = entries;
  bytes = y.bytes;
  rim = y.rim;
  near = y.near;
  paired = y.paired;
}

-- the same arrays with another count of the same length
pub recounted : (g : Grid) (s : Arrays) (c : ℕ) → Ready g s → c % 1024 ≡ logged s → c < 3072 → Ready g (record { edges = s.edges; ends = s.ends; log = s.log; count = c })
recounted g s c y h k = relogged g s s.log c y y.log_long k (omega arith) (λ n l. y.entries n (omega arith))

-- ONE EDGE FEWER
pub record Stored (g : Grid) (s s₀ : Arrays) : Type 0 where
  pub less : undecided_in s₀.edges + 1 ≡ undecided_in s.edges
  pub ready : Ready g s₀
  pub since : Since g.width s s₀

module _ (g : Grid) (s : Arrays) (e : Edge) (y : Ready g s) (on : on_board g e ≡ true) (z : get_or s.edges (slot e) 0 ≡ 0) where
  pads_inside : (e : Edge) → on_board g e ≡ true → (first e < pads g) × (second g.width e < pads g) × (slot e < 544)
  pads_inside (right v) on = let b = right_on g y.least_width y.largest_width v on in (b.1, beyond_right g y.least_width y.largest_width v on, omega (arith, b.1, y.few_pads))
  pads_inside (down v) on = let b = down_on g y.least_width y.largest_width v on in (omega (arith, b), b, omega (arith, b, y.few_pads))

  pub first_inside : first e < pads g
  first_inside = (pads_inside e on).0

  pub second_inside : second g.width e < pads g
  second_inside = (pads_inside e on).1

  pub slot_inside : slot e < length s.edges
  slot_inside = omega (arith, (pads_inside e on).2, y.edges_long)

  pub log_room : 3 * logged s + 2 < length s.log
  log_room = omega (arith, some_undecided s.edges (slot e) slot_inside z, y.room, y.log_long)

  pub few_logged : logged s < 480
  few_logged = omega (arith, some_undecided s.edges (slot e) slot_inside z, y.room)

  less_stored : (b : ℕ) → 0 < b → undecided_in (set s.edges (slot e) b) + 1 ≡ undecided_in s.edges
  less_stored b h = one_fewer s.edges (slot e) b slot_inside z h

  bytes_stored : (b : ℕ) → b ≤ 2 → (n : ℕ) → get_or (set s.edges (slot e) b) n 2 ≤ 2
  bytes_stored b h n = go (eqb n (slot e)) refl
    where
      go : (t : Bool) → eqb n (slot e) ≡ t → get_or (set s.edges (slot e) b) n 2 ≤ 2
      go true q = rw (eqb-true n (slot e) q, get_or-set_same s.edges (slot e) b 2 slot_inside) h
      go false q = rw (get_or-set_other s.edges (slot e) n b 2 (eqb-false n (slot e) q)) (y.bytes n)

  rim_stored : (b : ℕ) (n : ℕ) → n < 1024 → slot_on g n ≡ false → get_or (set s.edges (slot e) b) n 0 ≡ 2
  rim_stored b n h off = get_or-set_other s.edges (slot e) n b 0 (λ q. conflict (edge_on g e ∙ on) (ap (slot_on g) (sym q) ∙ off)) ∙ y.rim n h off

  -- the entries of a longer log
  entry_kept : (log : List ℤ) (n : ℕ) → ((i : ℕ) → i < 3 * logged s → get_or log i (pos 0) ≡ get_or s.log i (pos 0)) → n < logged s → Entry g log n
  entry_kept log n h l = let t = y.entries n l in
      let a : get_or log (3 * n) (pos 0) ≡ get_or s.log (3 * n) (pos 0) = h (3 * n) (omega arith) in
      let b : get_or log (3 * n + 1) (pos 0) ≡ get_or s.log (3 * n + 1) (pos 0) = h (3 * n + 1) (omega arith) in
      let d : get_or log (3 * n + 2) (pos 0) ≡ get_or s.log (3 * n + 2) (pos 0) = h (3 * n + 2) (omega arith) in
      record {
        number = a ∙ (t.number ∙ ap (λ (z : ℤ). pos (nat_abs z)) (sym a));
        on = ap (λ (z : ℤ). slot_on g (nat_abs z)) a ∙ t.on;
        first = λ x e. t.first x (sym (ap end_of b) ∙ e);
        second = λ m x e. t.second (sym (ap (λ (z : ℤ). is_through (end_of z)) b) ∙ m) x (sym (ap end_of d) ∙ e);
      }

  entry_new : (log : List ℤ) (A B : ℤ) → get_or log (3 * logged s) (pos 0) ≡ pos (slot e) → get_or log (3 * logged s + 1) (pos 0) ≡ A
      → ((a : ℕ) → end_of A ≡ at_pad a → a < pads g) → (is_through (end_of A) ≡ false → (b : ℕ) → end_of (get_or log (3 * logged s + 2) (pos 0)) ≡ at_pad b → b < pads g) → Entry g log (logged s)
  entry_new log A B p q ha hb = record {
    number = p ∙ ap (λ (z : ℤ). pos (nat_abs z)) (sym p);
    on = ap (λ (z : ℤ). slot_on g (nat_abs z)) p ∙ (edge_on g e ∙ on);
    first = λ a h. ha a (sym (ap end_of q) ∙ h);
    second = λ m b h. hb (sym (ap (λ (z : ℤ). is_through (end_of z)) q) ∙ m) b h;
  }

  last_or_kept : (c n : ℕ) (P : ℕ → Type 0) → c % 1024 ≡ logged s + 1 → n < c % 1024 → P (logged s) → (n < logged s → P n) → P n
  last_or_kept c n P hc l new old = go (ltb n (logged s)) refl
    where
      go : (b : Bool) → ltb n (logged s) ≡ b → P n
      go true q = old (ltb-true n (logged s) q)
      go false q = let same : logged s ≡ n = omega (arith, ltb-false n (logged s) q) in subst P same new

  entries_stored : (c : ℕ) → c % 1024 ≡ logged s + 1 → (n : ℕ) → n < c % 1024 → Entry g (log_stored s.log (logged s) (slot e)) n
  unfolding end_of
  entries_stored c hc n l = last_or_kept c n (λ x. Entry g (log_stored s.log (logged s) (slot e)) x) hc l
      (entry_new (log_stored s.log (logged s) (slot e)) (negsuc 0) (negsuc 0) (slot_stored s.log (logged s) (slot e) log_room) (mark_stored s.log (logged s) (slot e) log_room)
      (λ a h. absurd (let z : ◌≡◌ {A = ℕ} 0 1 = cc in omega arith)) (λ m. absurd (let z : ◌≡◌ {A = ℕ} 0 1 = cc in omega arith)))
      (entry_kept (log_stored s.log (logged s) (slot e)) n (stored_kept s.log (logged s) (slot e) log_room))

  -- an edge stored, its ends as they were
  module _ (b c : ℕ) (hb : 0 < b) (lb : b ≤ 2) (hc : c % 1024 ≡ logged s + 1) (mc : c < 3072) where
    abbrev with_edge_stored : Arrays
    with_edge_stored = record { edges = set s.edges (slot e) b; ends = s.ends; log = log_stored s.log (logged s) (slot e); count = c }

    pub edge_is_stored : Stored g s with_edge_stored
    edge_is_stored = record {
      less = less_stored b hb;
      ready = record {
        edges_long = length-set s.edges (slot e) b ∙ y.edges_long;
        ends_long = y.ends_long;
        log_long = simp length-set y.log_long;
        least_width = y.least_width;
        largest_width = y.largest_width;
        few_pads = y.few_pads;
        mode = mc;
        room = omega (arith, less_stored b hb, y.room);
        entries = entries_stored c hc;
        bytes = bytes_stored b lb;
        rim = rim_stored b;
        near = y.near;
        paired = y.paired;
      };
      since = since_one g.width s with_edge_stored hc (stored_kept s.log (logged s) (slot e) log_room)
          (stored_back s.log (logged s) (slot e) log_room g.width b s.edges s.ends z);
    }

  -- a line stored, and the ends joined
  apart_pads : (e : Edge) → first e ≡ second g.width e → ⊥
  apart_pads (right v) q = omega arith
  apart_pads (down v) q = omega (arith, y.least_width)

  first_of_slot : (e : Edge) → slot e / 2 - 16 ≡ first e
  first_of_slot (right v) = omega arith
  first_of_slot (down v) = omega arith

  second_of_slot : (e : Edge) → second_pad g.width (slot e) ≡ second g.width e
  second_of_slot (right v) = rw (eq-eqb ((32 + 2 * v) % 2) 0 (omega arith)) (omega arith)
  second_of_slot (down v) = rw (ne_eqb ((33 + 2 * v) % 2) 0 (omega arith)) (omega arith)

  abbrev v : ℕ
  v = first e

  abbrev q : ℕ
  q = second g.width e

  first_in_list : v < length s.ends
  first_in_list = omega (arith, first_inside, y.few_pads, y.ends_long)

  second_in_list : q < length s.ends
  second_in_list = omega (arith, second_inside, y.few_pads, y.ends_long)

  first_end_in_list : (a : ℕ) → end_at s.ends v ≡ at_pad a → a < length s.ends
  first_end_in_list a h = omega (arith, y.near v a first_inside h, y.few_pads, y.ends_long)

  second_end_in_list : (b : ℕ) → end_at s.ends q ≡ at_pad b → b < length s.ends
  second_end_in_list b h = omega (arith, y.near q b second_inside h, y.few_pads, y.ends_long)

  ends_at : (x : ℕ) → end_at (joined v q s.ends) x ≡ joined_ends (λ u. end_at s.ends u) v q (end_at s.ends v) (end_at s.ends q) x
  ends_at = joined_at v q s.ends first_in_list second_in_list first_end_in_list second_end_in_list

  abbrev joined_log : List ℤ
  joined_log = log_joined s.log (logged s) (slot e) (get_or s.ends v (pos v)) (get_or s.ends q (pos q))

  entries_joined : (c : ℕ) → c % 1024 ≡ logged s + 1 → (n : ℕ) → n < c % 1024 → Entry g joined_log n
  entries_joined c hc n l = last_or_kept c n (λ x. Entry g joined_log x) hc l
      (entry_new joined_log (get_or s.ends v (pos v)) (get_or s.ends q (pos q)) (slot_joined s.log (logged s) (slot e) log_room _ _) (first_joined s.log (logged s) (slot e) log_room _ _)
      (λ a h. y.near v a first_inside h) (λ m b h. y.near q b second_inside (sym (ap end_of (second_joined s.log (logged s) (slot e) log_room _ _)) ∙ h)))
      (entry_kept joined_log n (joined_kept s.log (logged s) (slot e) log_room _ _))

  module _ (c : ℕ) (hc : c % 1024 ≡ logged s + 1) (mc : c < 3072) (t : is_through (end_at s.ends v) ≡ false) where
    abbrev with_line_joined : Arrays
    with_line_joined = record {
      edges = set s.edges (slot e) 1;
      ends = joined v q s.ends;
      log = log_joined s.log (logged s) (slot e) (get_or s.ends v (pos v)) (get_or s.ends q (pos q));
      count = c;
    }

    pub line_is_joined : Stored g s with_line_joined
    line_is_joined = record {
      less = less_stored 1 (omega arith);
      ready = record {
        edges_long = length-set s.edges (slot e) 1 ∙ y.edges_long;
        ends_long = joined_long v q s.ends first_in_list second_in_list first_end_in_list second_end_in_list ∙ y.ends_long;
        log_long = simp length-set y.log_long;
        least_width = y.least_width;
        largest_width = y.largest_width;
        few_pads = y.few_pads;
        mode = mc;
        room = omega (arith, less_stored 1 (omega arith), y.room);
        entries = entries_joined c hc;
        bytes = bytes_stored 1 (omega arith);
        rim = rim_stored 1;
        near = λ x w h k. stay_near (λ u. end_at s.ends u) v q (pads g) first_inside second_inside y.near x w h (sym (ends_at x) ∙ k);
        paired = λ x w k. ends_at w ∙ stay_paired (λ u. end_at s.ends u) v q y.paired (apart_pads e) x w (sym (ends_at x) ∙ k);
      };
      since = since_one g.width s with_line_joined hc (joined_kept s.log (logged s) (slot e) log_room _ _)
          (joined_back s.log (logged s) (slot e) log_room _ _ g.width 1 s.edges s.ends (joined v q s.ends) z
          (rw (second_of_slot e, first_of_slot e) (unjoined_is v q s.ends first_in_list second_in_list first_end_in_list second_end_in_list y.paired t)));
    }

    pub joined_view : flag_in c ≡ flag_in s.count → view with_line_joined ≡ join_ends g e (set_edge (view s) e (state_of 1))
    unfolding view join_ends set_edge
    joined_view k = λ i. record { edge = λ x. edge_stored s.edges e 1 slot_inside x i; end = λ u. ends_at u i; flag = k i }
