-- Laws of what the arrays show: the degree that an m is tried by. They rest on Shown.antt and on the board's view.
use Rattle.std.specs.Prelude.{ℕ, zero, suc, ◌+◌, ◌*◌, ◌-◌, ◌%◌, ◌≤◌, ◌<◌, ◌≡◌, Bool, true, false, ◌&&◌, ◌||◌, List, ltb, get_or}
use Rattle.std.proofs.Math.Path.{refl, ap}
use Rattle.std.proofs.Common.{◌∙◌, arith, le-ltb, ltb-true, ltb-false, leb-true, leb-false}
use Rattle.std.proofs.Math.Dec.{eqb}
use Rattle.rules.specs.Grid.{Edge, right, down, Grid, pads}
use Rattle.rules.specs.Drawing.{num}
use Rattle.model.specs.PadTests.{has_left, has_up}
use Rattle.model.specs.Board.{is_line}
use Rattle.model.specs.Search.{degree_so_far}
use Rattle.boardview.specs.View.{slot, slot_on, view, grid_in}
use Rattle.boardview.specs.declared.kinds.Kinds.{Kinds}
use Rattle.boardview.specs.Told.{has_bit, clue_bit}
use Rattle.model.specs.Lists.{default_free}
use Rattle.boardview.specs.Bytes.{line_byte_test}
use Rattle.boardview.specs.Geometry.{last_before, low_off, slot_is}
use Rattle.boardview.specs.Items.{clue_test}
use Rattle.boardview.specs.ShownRecord.{edges_only}
use Rattle.searchview.specs.Shown.{EdgesReady, is_tried}

-- THE DEGREE SO FAR
module _ (g : Grid) (wide : 2 ≤ g.width) (narrow : g.width ≤ 16) (edges : List ℕ) (ready : EdgesReady g edges) where
  -- the byte of an edge says whether it is a line
  line_shown : (e : Edge) (s : ℕ) → s ≡ slot e → s < 1024 → is_line ((edges_only edges).edge e) ≡ eqb (get_or edges s 0) 1
  unfolding edges_only view
  line_shown e s at inside = rw (← at) (line_byte_test (get_or edges s 2)
      ∙ ap (λ (b : ℕ). eqb b 1) (default_free edges s 2 0 (let long = ready.long in omega arith)))

  -- a slot off the board holds no line
  no_line : (s : ℕ) → s < 1024 → slot_on g s ≡ false → false ≡ eqb (get_or edges s 0) 1
  no_line s inside off = rw (ready.rim s inside off) refl

  pub left_line : (v : ℕ) → v < 256 → (has_left g v && is_line ((edges_only edges).edge (right (v - 1)))) ≡ eqb (get_or edges (30 + 2 * v) 0) 1
  left_line v inside = go (has_left g v) refl
    where
      before_off : (b : Bool) → ltb 0 v ≡ b → v % g.width ≡ 0 → slot_on g (30 + 2 * v) ≡ false
      before_off false is_zero first = low_off g wide narrow (30 + 2 * v) (let z = ltb-false 0 v is_zero in omega arith)
      before_off true some first = slot_is g wide narrow (30 + 2 * v) (right (v - 1)) (let z = ltb-true 0 v some in omega arith)
          ∙ ap (λ (b : Bool). b && ltb (v - 1) (pads g)) (le-ltb ((v - 1) % g.width + 1) g.width (not_before (ltb-true 0 v some) first))
        where
          not_before : 0 < v → v % g.width ≡ 0 → g.width ≤ (v - 1) % g.width + 1
          not_before p z = test (ltb ((v - 1) % g.width + 1) g.width) refl
            where
              test : (b : Bool) → ltb ((v - 1) % g.width + 1) g.width ≡ b → g.width ≤ (v - 1) % g.width + 1
              test true h = absurd (last_before g.width v p z (ltb-true _ _ h))
              test false h = ltb-false _ _ h

      go : (b : Bool) → has_left g v ≡ b → (b && is_line ((edges_only edges).edge (right (v - 1)))) ≡ eqb (get_or edges (30 + 2 * v) 0) 1
      go true h = line_shown (right (v - 1)) (30 + 2 * v) (let k = ltb-true 0 (v % g.width) h in let m = positive v k in omega arith) (omega arith)
        where
          positive : (u : ℕ) → 0 < u % g.width → 0 < u
          positive zero k = absurd (zero_mod k)
            where
              zero_mod : 0 < 0 % g.width → ⊥
              zero_mod k = let z : 0 % g.width ≡ 0 = native.Mathlib.Nat.zero-mod g.width in omega arith
          positive (suc u) k = omega arith
      go false h = no_line (30 + 2 * v) (omega arith) (before_off (ltb 0 v) refl (let k = ltb-false 0 (v % g.width) h in omega arith))

  pub up_line : (v : ℕ) → v < 256 → (has_up g v && is_line ((edges_only edges).edge (down (v - g.width)))) ≡ eqb (get_or edges (33 + 2 * v - 2 * g.width) 0) 1
  up_line v inside = go (has_up g v) refl
    where
      go : (b : Bool) → has_up g v ≡ b → (b && is_line ((edges_only edges).edge (down (v - g.width)))) ≡ eqb (get_or edges (33 + 2 * v - 2 * g.width) 0) 1
      go true h = line_shown (down (v - g.width)) (33 + 2 * v - 2 * g.width) (let k = leb-true g.width v h in omega arith) (omega arith)
      go false h = no_line (33 + 2 * v - 2 * g.width) (omega arith) (low_off g wide narrow (33 + 2 * v - 2 * g.width) (let k = leb-false g.width v h in omega arith))

module _ (kinds : Kinds) (edges : List ℕ) (ready : EdgesReady (grid_in kinds) edges) (v : ℕ) (inside : v < 256) where
  pub degree_shown : degree_so_far (grid_in kinds) v (edges_only edges)
      ≡ num (has_bit kinds.bits v clue_bit) + num (eqb (get_or edges (30 + 2 * v) 0) 1) + num (eqb (get_or edges (33 + 2 * v - 2 * (grid_in kinds).width) 0) 1)
  unfolding degree_so_far
  degree_shown = rw (
    clue_test kinds v inside,
    left_line (grid_in kinds) kinds.told.least_width kinds.told.largest_width edges ready v inside,
    up_line (grid_in kinds) kinds.told.least_width kinds.told.largest_width edges ready v inside,
  ) refl

  -- an m is tried, as the code adds it up
  pub tried_as : (go_right go_down : Bool) (degree : ℕ)
      → degree ≡ num (has_bit kinds.bits v clue_bit) + num (eqb (get_or edges (30 + 2 * v) 0) 1) + num (eqb (get_or edges (33 + 2 * v - 2 * (grid_in kinds).width) 0) 1) + num go_right + num go_down
      → (eqb degree 0 || eqb degree 2) ≡ is_tried (grid_in kinds) v (edges_only edges) go_right go_down
  unfolding is_tried
  tried_as go_right go_down degree is = rw (is, degree_shown) refl
