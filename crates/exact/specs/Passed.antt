-- The search goes from pad to pad. On a board at rest, once the right edge of a pad is decided and all edges of the pads before it are,
-- its downward edge is decided too: no pad at rest has exactly one undecided edge. So in the last row every edge is decided.
use Rattle.std.specs.Prelude.{ℕ, zero, suc, ◌+◌, ◌-◌, ◌%◌, ◌≤◌, ◌<◌, ◌≡◌, refl, Bool, true, false}
use Rattle.std.proofs.Common.{ap, arith, add-zero, add-suc, lt-ltb, ltb-true}
use Rattle.std.proofs.Math.Logic.{⊎_elim}
use mathlib.Core.List.{Memᴰ}
use Rattle.std.proofs.Math.Decide.{ℕ_discrete}
use Rattle.rules.specs.Grid.{Edge, first, Grid, pads, OnBoard, right, down}
use Rattle.rules.specs.Tests.{conflict, not_so}
use Rattle.rules.specs.Places.{previous_column}
use Rattle.model.specs.PadTests.{has_right, has_left, has_down, has_up}
use Rattle.model.specs.Board.{is_undecided, State, undecideds, around}
use Rattle.propagation.specs.Objects.{AtRest}
use Rattle.propagation.specs.Squares.{Neighbour, neighbour, one_before, row_before, to_left, to_right, to_above, to_below}
use Rattle.propagation.specs.Counting.{undecideds_among, one_to, some_among, right_around, down_around, around_apart}

module _ (g : Grid) (wide : 2 ≤ g.width) (S : State) where
  abbrev W : ℕ
  W = g.width

  abbrev undecided_at : Edge → Bool
  undecided_at e = is_undecided (S.edge e)

  -- PASSED: the edges of all pads before v are decided
  pub record Passed (v : ℕ) : Type 0 where
    pub right : (u : ℕ) → u < v → has_right g u ≡ true → undecided_at (right u) ≡ false
    pub down : (u : ℕ) → u < v → has_down g u ≡ true → undecided_at (down u) ≡ false

  pub passed_edge : (v : ℕ) → Passed v → (e : Edge) → first e < v → OnBoard g e → undecided_at e ≡ false
  unfolding OnBoard
  passed_edge v b (right u) before (below, inside) = b.right u before (lt-ltb (u % W + 1) W inside)
  passed_edge v b (down u) before below = b.down u before (lt-ltb (u + W) (pads g) below)

  -- at a pad at rest no edge is the only undecided one
  never_alone : (v : ℕ) → AtRest g S v → (a : ℕ) → ((p : Edge × ℕ) → Memᴰ p (around g v) → undecided_at p.0 ≡ true → p.1 ≡ a)
      → (p : Edge × ℕ) → Memᴰ p (around g v) → undecided_at p.0 ≡ false
  unfolding AtRest
  never_alone v rest a only p m = not_so (undecided_at p.0) (λ h.
      let k : 1 ≤ undecideds S (around g v) = rw (undecideds_among S (around g v)) (some_among undecided_at (around g v) p m h) in
      ⊎_elim (λ (z, w). omega (arith, few)) (λ (z, w). omega (arith, few)) rest)
    where
      few : undecideds S (around g v) ≤ 1
      few = rw (undecideds_among S (around g v)) (one_to undecided_at (around g v) a (around_apart g wide v) only)

  -- the edges to the left and upward are those of pads before
  pub left_decided : (v : ℕ) → Passed v → has_left g v ≡ true → undecided_at (right (v - 1)) ≡ false
  left_decided v b h =
      let j : 0 < v % W = ltb-true 0 (v % W) h in
      let e = one_before g wide v h in
      b.right (v - 1) (omega arith) (lt-ltb ((v - 1) % W + 1) W (previous_column W (v - 1) (omega arith) (rw e at j)))

  pub up_decided : (v : ℕ) → v < pads g → Passed v → has_up g v ≡ true → undecided_at (down (v - W)) ≡ false
  up_decided v o b h = let j = row_before g wide v h in b.down (v - W) (omega arith) (lt-ltb (v - W + W) (pads g) (omega arith))

  -- PAST ONE PAD whose right edge is decided, or that stands in the last row
  pub pass : (v : ℕ) → v < pads g → AtRest g S v → Passed v → (has_right g v ≡ true → has_down g v ≡ true → undecided_at (right v) ≡ false) → Passed (suc v)
  pass v o rest b h = record {
    right = λ u l r. elim (ℕ_discrete u v) [ yes e ↦ rw e (right_here (rw e at r)) | no n ↦ b.right u (omega arith) r ];
    down = λ u l d. elim (ℕ_discrete u v) [ yes e ↦ rw e (down_here (rw e at d)) | no n ↦ b.down u (omega arith) d ];
  }
    where
      only_down : has_down g v ≡ true → (p : Edge × ℕ) → Memᴰ p (around g v) → undecided_at p.0 ≡ true → p.1 ≡ v + W
      only_down d p m t = go (neighbour g wide v p m)
        where
          go : Neighbour g wide v p → p.1 ≡ v + W
          go (to_left k e) = conflict (rw e at t) (left_decided v b k)
          go (to_right k e) = conflict (rw e at t) (h k d)
          go (to_above k e) = conflict (rw e at t) (up_decided v o b k)
          go (to_below k e) = ap (λ (x : Edge × ℕ). x.1) e

      only_right : has_down g v ≡ false → (p : Edge × ℕ) → Memᴰ p (around g v) → undecided_at p.0 ≡ true → p.1 ≡ v + 1
      only_right d p m t = go (neighbour g wide v p m)
        where
          go : Neighbour g wide v p → p.1 ≡ v + 1
          go (to_left k e) = conflict (rw e at t) (left_decided v b k)
          go (to_right k e) = ap (λ (x : Edge × ℕ). x.1) e
          go (to_above k e) = conflict (rw e at t) (up_decided v o b k)
          go (to_below k e) = conflict k d

      down_here : has_down g v ≡ true → undecided_at (down v) ≡ false
      down_here d = never_alone v rest (v + W) (only_down d) (down v, v + W) (down_around g wide v d)

      right_here : has_right g v ≡ true → undecided_at (right v) ≡ false
      right_here r = go (has_down g v) refl
        where
          go : (d : Bool) → has_down g v ≡ d → undecided_at (right v) ≡ false
          go true d = h r d
          go false d = never_alone v rest (v + 1) (only_right d) (right v, v + 1) (right_around g wide v r)

  -- FROM THE LAST ROW ON nothing is left to decide
  no_down : (v u : ℕ) → has_down g v ≡ false → v ≤ u → has_down g u ≡ false
  no_down v u h l = not_so (has_down g u) (λ k. let j = ltb-true (u + W) (pads g) k in conflict (lt-ltb (v + W) (pads g) (omega arith)) h)

  pub pass_last_row : ((u : ℕ) → AtRest g S u) → (v : ℕ) → v < pads g → has_down g v ≡ false → Passed v → Passed (pads g)
  pass_last_row rest v o h b = rw (fit (pads g) v o) at (go (pads g - v) (omega arith))
    where
      fit : (n v : ℕ) → v < n → v + (n - v) ≡ n
      fit n v l = omega arith

      go : (k : ℕ) → v + k ≤ pads g → Passed (v + k)
      go zero l = rw (add-zero v) b
      go (suc k) l = rw (add-suc v k) (pass (v + k) (omega arith) (rest (v + k)) (go k (omega arith)) (λ r d. conflict d (no_down v (v + k) h (omega arith))))
