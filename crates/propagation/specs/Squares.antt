-- The items of steps d and e at an edge, read by the unit square that they stand in: which items an edge has, and that each rule can be
-- read from either of its edges. The two sides of a corner are one case, over the side. Pads are flat indexes, so all geometry is
-- arithmetic; only columns need a remainder.
use Rattle.std.specs.Prelude.{ℕ, ◌+◌, ◌-◌, ◌%◌, ◌≤◌, ◌<◌, ◌≡◌, ◌⊎◌, Bool, true, false, ◌&&◌, ltb}
use Rattle.std.proofs.Math.Path.{refl, ap}
use Rattle.std.proofs.Common.{sym, ◌∙◌, inl, inr, arith, le-leb, leb-true, lt-ltb, ltb-true}
use Rattle.std.proofs.Math.Logic.{⊎_elim, ⊎_map}
use mathlib.Core.List.Memᴰ
use mathlib.Core.List.{List, [], ◌∷◌, Memᴰ}
use Rattle.std.proofs.Math.Nat.{add-mod_right, mod-le}
use Rattle.rules.specs.Grid.{Edge, first, second, Grid, pads, right, down}
use Rattle.rules.specs.Drawing.{Side, on_left, on_right}
use Rattle.rules.specs.Places.{zero≢one, next_in_row, previous_column}
use Rattle.rules.proofs.Places.{pads_apart, one_edge}
use Rattle.rules.specs.Tests.{both, both_on}
use Rattle.model.specs.PadTests.{has_right, has_left, has_down, has_up, on_board}
use Rattle.model.specs.Board.{Item, detours, when, with_edge, has_side, barred, corner_right, corner_left, shape_items, around, detour, corner, bar}
use Rattle.model.specs.BoardLaws.{left_of_next}
use Rattle.propagation.specs.Objects.{Plain, Geometry, is_detour, is_corner, is_bar}

module _ (g : Grid) (wide : 2 ≤ g.width) where
  abbrev W : ℕ
  W = g.width

  -- UNIT SQUARES, named by their upper left pad u
  pub record SquareAt (u : ℕ) : Type 0 where
    pub column : u % W + 1 < W
    pub lower : u + W + 1 < pads g

  pub square_at : (u : ℕ) → u % W + 1 < W → u + W < pads g → SquareAt u
  square_at u h k = record { column = h; lower = next_in_row W (u + W) g.height (rw (add-mod_right u W) h) k }

  -- which neighbours its pads have
  module _ {u : ℕ} (s : SquareAt u) where
    pub upper_right : has_right g u ≡ true
    upper_right = lt-ltb (u % W + 1) W s.column

    pub lower_right : has_right g (u + W) ≡ true
    lower_right = lt-ltb ((u + W) % W + 1) W (rw (add-mod_right u W) s.column)

    pub left_down : has_down g u ≡ true
    left_down = lt-ltb (u + W) (pads g) (let h = s.lower in omega arith)

    pub right_down : has_down g (u + 1) ≡ true
    right_down = lt-ltb (u + 1 + W) (pads g) (let h = s.lower in omega arith)

    lower_up : has_up g (u + W) ≡ true
    lower_up = le-leb W (u + W) (omega arith)

    right_left : has_left g (u + 1) ≡ true
    right_left = left_of_next g u s.column

    pub upper_in : ltb u (pads g) ≡ true
    upper_in = lt-ltb u (pads g) (let h = s.lower in omega arith)

    pub lower_in : ltb (u + W) (pads g) ≡ true
    lower_in = lt-ltb (u + W) (pads g) (let h = s.lower in omega arith)

  -- the unit square above an edge to the right, to the left of an edge downward, below or to the right of it
  square_above : (v : ℕ) → has_right g v ≡ true → ltb v (pads g) ≡ true → has_up g v ≡ true → SquareAt (v - W) × (v ≡ v - W + W)
  square_above v r i u =
      let k : W ≤ v = leb-true W v u in
      let e : v ≡ v - W + W = omega arith in
      (square_at (v - W) (rw add-mod_right at (rw e at (ltb-true (v % W + 1) W r))) (let q = ltb-true v (pads g) i in omega arith), e)

  square_before : (v : ℕ) → has_down g v ≡ true → has_left g v ≡ true → SquareAt (v - 1) × (v ≡ v - 1 + 1)
  square_before v d l =
      let h : 0 < v % W = ltb-true 0 (v % W) l in
      let k : v % W ≤ v = mod-le v W in
      let e : v ≡ v - 1 + 1 = omega arith in
      let q : v + W < pads g = ltb-true (v + W) (pads g) d in
      (square_at (v - 1) (previous_column W (v - 1) (omega arith) (rw e at h)) (omega arith), e)

  square_here : (v : ℕ) → has_right g v ≡ true → has_down g v ≡ true → SquareAt v
  square_here v r d = square_at v (ltb-true (v % W + 1) W r) (ltb-true (v + W) (pads g) d)

  -- the four edges of a unit square, by their role
  pub data Role : Type 0 where
    upper_edge : Role
    left_edge : Role
    right_edge : Role
    lower_edge : Role

  abbrev pub square_edge : Role → ℕ → Edge
  square_edge upper_edge u = right u
  square_edge lower_edge u = right (u + W)
  square_edge left_edge u = down u
  square_edge right_edge u = down (u + 1)

  -- the items of step d at the edge of that role: the other three edges
  abbrev pub detours_at : Role → ℕ → List Item
  detours_at upper_edge u = detours (down u) (down (u + 1)) (right (u + W))
  detours_at lower_edge u = detours (down u) (down (u + 1)) (right u)
  detours_at left_edge u = detours (right u) (right (u + W)) (down (u + 1))
  detours_at right_edge u = detours (right u) (right (u + W)) (down u)

  -- CORNERS of a unit square: the upper pad that has the corner of that side, the pad diagonally below it, and the edge of a pad to that
  -- side
  abbrev pub corner_pad : Side → ℕ → ℕ
  corner_pad on_right u = u
  corner_pad on_left u = u + 1

  abbrev pub lower_pad : Side → ℕ → ℕ
  lower_pad on_right u = u + W + 1
  lower_pad on_left u = u + W

  abbrev pub edge_beside : Side → ℕ → Edge
  edge_beside on_right q = right q
  edge_beside on_left q = right (q - 1)

  -- the corner's item, completed by edge a, and the bar's
  abbrev pub corner_item : Side → ℕ → Edge → Item
  corner_item side u a = corner (lower_pad side u) a (has_down g (lower_pad side u) && has_side g side (lower_pad side u))
      (edge_beside side (lower_pad side u)) (down (lower_pad side u))

  abbrev pub bar_item : Side → ℕ → Edge → Item
  bar_item side u a = bar (barred g side g.height (corner_pad side u)) a

  -- WHERE AN ITEM STANDS: of step d, or of a corner or a bar, seen from its edge across or from its edge downward
  pub data Standing (x : Edge) (it : Item) : Type 0 where
    in_square : (u : ℕ) (r : Role) → SquareAt u → x ≡ square_edge r u → Memᴰ it (detours_at r u) → Standing x it
    corner_across : (side : Side) (u : ℕ) → SquareAt u → x ≡ right u → it ≡ corner_item side u (down (corner_pad side u)) → Standing x it
    corner_downward : (side : Side) (u : ℕ) → SquareAt u → x ≡ down (corner_pad side u) → it ≡ corner_item side u (right u) → Standing x it
    bar_across : (side : Side) (u : ℕ) → SquareAt u → x ≡ right u → it ≡ bar_item side u (down (corner_pad side u)) → Standing x it
    bar_downward : (side : Side) (u : ℕ) → SquareAt u → x ≡ down (corner_pad side u) → it ≡ bar_item side u (right u) → Standing x it

  mem_when : (b : Bool) (l : List Item) (it : Item) → Memᴰ it (when b l) → (b ≡ true) × Memᴰ it l
  mem_when true l it m = (refl, m)
  mem_when false l it m = absurd (Memᴰ.not-nil m)

  when_mem : (b : Bool) (l : List Item) (it : Item) → b ≡ true → Memᴰ it l → Memᴰ it (when b l)
  when_mem b l it h m = rw h m

  mem_single : {a b : Item} → Memᴰ a (b ∷ []) → a ≡ b
  mem_single k = ⊎_elim (λ e. e) (λ n. absurd (Memᴰ.not-nil n)) (Memᴰ.cases_cons k)

  pub standing : (x : Edge) (it : Item) → Memᴰ it (shape_items g x) → Standing x it
  unfolding shape_items
  standing (right v) it m =
      let (c, m1) = mem_when _ _ it m in
      let (r, i) = both (has_right g v) (ltb v (pads g)) c in
      ⊎_elim
      (λ k. let (u, m2) = mem_when _ _ it k in let (s, e) = square_above v r i u in in_square (v - W) lower_edge s (ap right e) m2)
      (λ k. ⊎_elim
      (λ k. let (d, m2) = mem_when _ _ it k in in_square v upper_edge (square_here v r d) refl m2)
      (λ k. let (d, m2) = mem_when _ _ it k in last_four (square_here v r d) m2)
      (Memᴰ.append_cases (when (has_down g v) (detours (down v) (down (v + 1)) (right (v + W)))) k))
      (Memᴰ.append_cases (when (has_up g v) (detours (down (v - W)) (down (v - W + 1)) (right (v - W)))) m1)
    where
      last_four : SquareAt v
          → Memᴰ it (corner_item on_right v (down v) ∷ corner_item on_left v (down (v + 1)) ∷ bar_item on_right v (down v) ∷ bar_item on_left v (down (v + 1)) ∷ [])
          → Standing (right v) it
      last_four s k = ⊎_elim (corner_across on_right v s refl) (λ k. ⊎_elim (corner_across on_left v s refl) (λ k. ⊎_elim (bar_across on_right v s refl)
          (λ k. bar_across on_left v s refl (mem_single k)) (Memᴰ.cases_cons k)) (Memᴰ.cases_cons k)) (Memᴰ.cases_cons k)
  standing (down v) it m =
      let (d, m1) = mem_when _ _ it m in
      ⊎_elim
      (λ k. let (l, m2) = mem_when _ _ it k in let (s, e) = square_before v d l in in_square (v - 1) right_edge s (ap down e) m2)
      (λ k. ⊎_elim
      (λ k. let (r, m2) = mem_when _ _ it k in in_square v left_edge (square_here v r d) refl m2)
      (λ k. ⊎_elim
      (λ k. let (l, m2) = mem_when _ _ it k in let (s, e) = square_before v d l in corner_downward on_left (v - 1) s (ap down e) (mem_single m2))
      (λ k. ⊎_elim
      (λ k. let (r, m2) = mem_when _ _ it k in corner_downward on_right v (square_here v r d) refl (mem_single m2))
      (λ k. ⊎_elim
      (λ k. let (l, m2) = mem_when _ _ it k in let (s, e) = square_before v d l in
      bar_downward on_left (v - 1) s (ap down e) (mem_single m2 ∙ ap (λ x. bar (barred g on_left g.height x) (right (v - 1))) e))
      (λ k. let (r, m2) = mem_when _ _ it k in bar_downward on_right v (square_here v r d) refl (mem_single m2))
      (Memᴰ.append_cases (when (has_left g v) (bar (barred g on_left g.height v) (right (v - 1)) ∷ [])) k))
      (Memᴰ.append_cases (when (has_right g v) (corner_right g v (right v) ∷ [])) k))
      (Memᴰ.append_cases (when (has_left g v) (corner_left g (v - 1) (right (v - 1)) ∷ [])) k))
      (Memᴰ.append_cases (when (has_right g v) (detours (right v) (right (v + W)) (down (v + 1)))) k))
      (Memᴰ.append_cases (when (has_left g v) (detours (right (v - 1)) (right (v - 1 + W)) (down (v - 1)))) m1)

  -- AND EACH OF THEM STANDS THERE
  back_up : (u : ℕ) → u + W - W ≡ u
  back_up u = omega arith

  back_left : (u : ℕ) → u + 1 - 1 ≡ u
  back_left u = omega arith

  pub square_items : (u : ℕ) (r : Role) (it : Item) → SquareAt u → Memᴰ it (detours_at r u) → Memᴰ it (shape_items g (square_edge r u))
  unfolding shape_items
  square_items u upper_edge it s m = when_mem _ _ it (both_on (upper_right s) (upper_in s)) (Memᴰ.append_right (when (has_up g u) _) (Memᴰ.append_left _ (when_mem _ _ it (left_down s) m)))
  square_items u lower_edge it s m = when_mem _ _ it (both_on (lower_right s) (lower_in s)) (Memᴰ.append_left _ (when_mem _ _ it (lower_up s) (rw (back_up u) m)))
  square_items u left_edge it s m = when_mem _ _ it (left_down s) (Memᴰ.append_right (when (has_left g u) _) (Memᴰ.append_left _ (when_mem _ _ it (upper_right s) m)))
  square_items u right_edge it s m = when_mem _ _ it (right_down s) (Memᴰ.append_left _ (when_mem _ _ it (right_left s) (rw (back_left u) m)))

  pub corner_items_across : (side : Side) (u : ℕ) → SquareAt u → Memᴰ (corner_item side u (down (corner_pad side u))) (shape_items g (right u))
  unfolding shape_items
  corner_items_across on_right u s = when_mem _ _ _ (both_on (upper_right s) (upper_in s))
      (Memᴰ.append_right (when (has_up g u) _) (Memᴰ.append_right (when (has_down g u) _) (when_mem _ _ _ (left_down s) (Memᴰ.head refl))))
  corner_items_across on_left u s = when_mem _ _ _ (both_on (upper_right s) (upper_in s))
      (Memᴰ.append_right (when (has_up g u) _) (Memᴰ.append_right (when (has_down g u) _) (when_mem _ _ _ (left_down s) (Memᴰ.tail (Memᴰ.head refl)))))

  corner_items_downward : (side : Side) (u : ℕ) → SquareAt u → Memᴰ (corner_item side u (right u)) (shape_items g (down (corner_pad side u)))
  unfolding shape_items
  corner_items_downward on_right u s = when_mem _ _ _ (left_down s) (Memᴰ.append_right (when (has_left g u) _) (Memᴰ.append_right (when (has_right g u) _)
      (Memᴰ.append_right (when (has_left g u) _) (Memᴰ.append_left _ (when_mem _ _ _ (upper_right s) (Memᴰ.head refl))))))
  corner_items_downward on_left u s = when_mem _ _ _ (right_down s) (Memᴰ.append_right (when (has_left g (u + 1)) _) (Memᴰ.append_right (when (has_right g (u + 1)) _)
      (Memᴰ.append_left _ (when_mem _ _ _ (right_left s) (rw (back_left u) (Memᴰ.head refl))))))

  -- WHAT KIND OF ITEM it is
  pub one_of_three : {p q t : Edge} {it : Item} → Memᴰ it (detours p q t) → (it ≡ detour p q t) ⊎ (it ≡ detour q p t) ⊎ (it ≡ detour t p q)
  one_of_three m = ⊎_elim (λ e. inl e) (λ m. inr (⊎_elim (λ e. inl e) (λ m. inr (mem_single m)) (Memᴰ.cases_cons m))) (Memᴰ.cases_cons m)

  -- the items of step d are detours
  pub detours_only : (u : ℕ) (r : Role) {it : Item} → Memᴰ it (detours_at r u) → (a : Edge) × (b : Edge) × (c : Edge) × (it ≡ detour a b c)
  detours_only u r {it} m = by r m
    where
      any : {p q t : Edge} → Memᴰ it (detours p q t) → (a : Edge) × (b : Edge) × (c : Edge) × (it ≡ detour a b c)
      any {p} {q} {t} k = ⊎_elim (λ e. (p, q, t, e)) (⊎_elim (λ e. (q, p, t, e)) (λ e. (t, p, q, e))) (one_of_three k)

      by : (r : Role) → Memᴰ it (detours_at r u) → (a : Edge) × (b : Edge) × (c : Edge) × (it ≡ detour a b c)
      by upper_edge k = any k
      by lower_edge k = any k
      by left_edge k = any k
      by right_edge k = any k

  pub detour_parts : {a b c p q t : Edge} → detour a b c ≡ detour p q t → (a ≡ p) × (b ≡ q) × (c ≡ t)
  detour_parts e = ((cc), (cc), (cc))

  pub corner_parts : {q q' : ℕ} {a a' : Edge} {ok ok' : Bool} {b b' c c' : Edge} → corner q a ok b c ≡ corner q' a' ok' b' c'
      → (q ≡ q') × (a ≡ a') × (ok ≡ ok') × (b ≡ b') × (c ≡ c')
  corner_parts e = ((cc), (cc), (cc), (cc), (cc))

  pub bar_parts : {o o' : Bool} {a a' : Edge} → bar o a ≡ bar o' a' → (o ≡ o') × (a ≡ a')
  bar_parts e = ((cc), (cc))

  pub detour_no_corner : {a b c : Edge} {q : ℕ} {d : Edge} {ok : Bool} {x y : Edge} {A : Type 0} → detour a b c ≡ corner q d ok x y → A
  detour_no_corner e = zero≢one (cc)

  pub detour_no_bar : {a b c d : Edge} {o : Bool} {A : Type 0} → detour a b c ≡ bar o d → A
  detour_no_bar e = zero≢one (cc)

  pub corner_no_bar : {q : ℕ} {d : Edge} {ok : Bool} {x y a : Edge} {o : Bool} {A : Type 0} → corner q d ok x y ≡ bar o a → A
  corner_no_bar e = zero≢one (cc)

  -- EACH RULE READ FROM ITS OTHER EDGE
  abbrev Turned : Edge → Edge → Edge → Edge → Type 0
  Turned x a b c = Memᴰ (detour x b c) (shape_items g a) ⊎ Memᴰ (detour x c b) (shape_items g a)

  abbrev first_of : {A : Type 0} {a b c : A} → Memᴰ a (a ∷ b ∷ c ∷ [])
  first_of = Memᴰ.head refl

  abbrev second_of : {A : Type 0} {a b c : A} → Memᴰ b (a ∷ b ∷ c ∷ [])
  second_of = Memᴰ.tail (Memᴰ.head refl)

  abbrev third_of : {A : Type 0} {a b c : A} → Memᴰ c (a ∷ b ∷ c ∷ [])
  third_of = Memᴰ.tail (Memᴰ.tail (Memᴰ.head refl))

  turn : (x a b c : Edge) (u : ℕ) (r : Role) → SquareAt u → x ≡ square_edge r u → Memᴰ (detour a b c) (detours_at r u) → Turned x a b c
  turn x a b c u upper_edge s ex m = ⊎_elim (λ e. let (ea, eb, ec) = detour_parts e in rw (ex, ea, eb, ec) (inr (square_items u left_edge _ s first_of)))
      (⊎_elim (λ e. let (ea, eb, ec) = detour_parts e in rw (ex, ea, eb, ec) (inr (square_items u right_edge _ s first_of)))
      (λ e. let (ea, eb, ec) = detour_parts e in rw (ex, ea, eb, ec) (inl (square_items u lower_edge _ s third_of)))) (one_of_three m)
  turn x a b c u lower_edge s ex m = ⊎_elim (λ e. let (ea, eb, ec) = detour_parts e in rw (ex, ea, eb, ec) (inr (square_items u left_edge _ s second_of)))
      (⊎_elim (λ e. let (ea, eb, ec) = detour_parts e in rw (ex, ea, eb, ec) (inr (square_items u right_edge _ s second_of)))
      (λ e. let (ea, eb, ec) = detour_parts e in rw (ex, ea, eb, ec) (inl (square_items u upper_edge _ s third_of)))) (one_of_three m)
  turn x a b c u left_edge s ex m = ⊎_elim (λ e. let (ea, eb, ec) = detour_parts e in rw (ex, ea, eb, ec) (inr (square_items u upper_edge _ s first_of)))
      (⊎_elim (λ e. let (ea, eb, ec) = detour_parts e in rw (ex, ea, eb, ec) (inr (square_items u lower_edge _ s first_of)))
      (λ e. let (ea, eb, ec) = detour_parts e in rw (ex, ea, eb, ec) (inl (square_items u right_edge _ s third_of)))) (one_of_three m)
  turn x a b c u right_edge s ex m = ⊎_elim (λ e. let (ea, eb, ec) = detour_parts e in rw (ex, ea, eb, ec) (inr (square_items u upper_edge _ s second_of)))
      (⊎_elim (λ e. let (ea, eb, ec) = detour_parts e in rw (ex, ea, eb, ec) (inr (square_items u lower_edge _ s second_of)))
      (λ e. let (ea, eb, ec) = detour_parts e in rw (ex, ea, eb, ec) (inl (square_items u left_edge _ s third_of)))) (one_of_three m)

  detour_turned : (x a b c : Edge) → Memᴰ (detour a b c) (shape_items g x) → Turned x a b c
  detour_turned x a b c m = go (standing x (detour a b c) m)
    where
      go : Standing x (detour a b c) → Turned x a b c
      go (in_square u r s e k) = turn x a b c u r s e k
      go (corner_across side u s e k) = detour_no_corner k
      go (corner_downward side u s e k) = detour_no_corner k
      go (bar_across side u s e k) = detour_no_bar k
      go (bar_downward side u s e k) = detour_no_bar k

  corner_turned : (x : Edge) (q : ℕ) (a : Edge) (ok : Bool) (b c : Edge) → Memᴰ (corner q a ok b c) (shape_items g x) → Memᴰ (corner q x ok b c) (shape_items g a)
  corner_turned x q a ok b c m = go (standing x (corner q a ok b c) m)
    where
      go : Standing x (corner q a ok b c) → Memᴰ (corner q x ok b c) (shape_items g a)
      go (in_square u r s e k) = let (p, t, w, h) = detours_only u r k in detour_no_corner (sym h)
      go (corner_across side u s e k) = let (p1, p2, p3, p4, p5) = corner_parts k in rw (e, p1, p2, p3, p4, p5) (corner_items_downward side u s)
      go (corner_downward side u s e k) = let (p1, p2, p3, p4, p5) = corner_parts k in rw (e, p1, p2, p3, p4, p5) (corner_items_across side u s)
      go (bar_across side u s e k) = corner_no_bar k
      go (bar_downward side u s e k) = corner_no_bar k

  kind_of : (x : Edge) (it : Item) → Standing x it → Plain it
  kind_of x it (in_square u r s e k) = let (p, t, w, h) = detours_only u r k in rw h is_detour
  kind_of x it (corner_across side u s e k) = rw k is_corner
  kind_of x it (corner_downward side u s e k) = rw k is_corner
  kind_of x it (bar_across side u s e k) = rw k is_bar
  kind_of x it (bar_downward side u s e k) = rw k is_bar

  -- THE EDGES AROUND A PAD
  pub mem_with_edge : (b : Bool) (e : Edge) (u : ℕ) (l : List (Edge × ℕ)) (p : Edge × ℕ) → Memᴰ p (with_edge b e u l) → ((b ≡ true) × (p ≡ (e, u))) ⊎ Memᴰ p l
  mem_with_edge true e u l p m = ⊎_map (λ q. (refl, q)) (λ k. k) (Memᴰ.cases_cons m)
  mem_with_edge false e u l p m = inr m

  pub data Neighbour (v : ℕ) (p : Edge × ℕ) : Type 0 where
    to_left : has_left g v ≡ true → p ≡ (right (v - 1), v - 1) → Neighbour v p
    to_right : has_right g v ≡ true → p ≡ (right v, v + 1) → Neighbour v p
    to_above : has_up g v ≡ true → p ≡ (down (v - W), v - W) → Neighbour v p
    to_below : has_down g v ≡ true → p ≡ (down v, v + W) → Neighbour v p

  pub neighbour : (v : ℕ) (p : Edge × ℕ) → Memᴰ p (around g v) → Neighbour v p
  unfolding around
  neighbour v p m = ⊎_elim (λ (b, e). to_left b e)
      (λ m. ⊎_elim (λ (b, e). to_right b e)
      (λ m. ⊎_elim (λ (b, e). to_above b e)
      (λ m. ⊎_elim (λ (b, e). to_below b e) (λ n. absurd (Memᴰ.not-nil n)) (mem_with_edge (has_down g v) (down v) (v + W) _ p m))
      (mem_with_edge (has_up g v) (down (v - W)) (v - W) _ p m)) (mem_with_edge (has_right g v) (right v) (v + 1) _ p m)) (mem_with_edge (has_left g v) (right (v - 1)) (v - 1) _ p m)

  -- its index: one before, or a row before
  pub one_before : (v : ℕ) → has_left g v ≡ true → v ≡ v - 1 + 1
  one_before v b = let h : 0 < v % W = ltb-true 0 (v % W) b in let k : v % W ≤ v = mod-le v W in omega arith

  pub row_before : (v : ℕ) → has_up g v ≡ true → v ≡ v - W + W
  row_before v b = let h : W ≤ v = leb-true W v b in omega arith

  near : (v : ℕ) (p : Edge × ℕ) → Memᴰ p (around g v) → (first p.0 ≡ v) ⊎ (second W p.0 ≡ v)
  near v p m = go (neighbour v p m)
    where
      go : Neighbour v p → (first p.0 ≡ v) ⊎ (second W p.0 ≡ v)
      go (to_left b e) = rw e (inr (sym (one_before v b)))
      go (to_right b e) = rw e (inl refl)
      go (to_above b e) = rw e (inr (sym (row_before v b)))
      go (to_below b e) = rw e (inl refl)

  -- the edges around a pad of the grid are edges of the board, and lead to pads of the grid
  pub left_on : (v : ℕ) → v < pads g → has_left g v ≡ true → on_board g (right (v - 1)) ≡ true
  left_on v o b =
      let h : 0 < v % W = ltb-true 0 (v % W) b in
      let e = one_before v b in
      both_on (lt-ltb ((v - 1) % W + 1) W (previous_column W (v - 1) (omega arith) (rw e at h))) (lt-ltb (v - 1) (pads g) (omega arith))

  pub right_on : (v : ℕ) → v < pads g → has_right g v ≡ true → on_board g (right v) ≡ true
  right_on v o b = both_on b (lt-ltb v (pads g) o)

  pub up_on : (v : ℕ) → v < pads g → has_up g v ≡ true → on_board g (down (v - W)) ≡ true
  up_on v o b = let h = row_before v b in lt-ltb (v - W + W) (pads g) (omega arith)

  -- the edges around a pad are on the board
  pub around_on : (v : ℕ) (p : Edge × ℕ) → v < pads g → Memᴰ p (around g v) → (on_board g p.0 ≡ true) × (p.1 < pads g)
  around_on v p o m = go (neighbour v p m)
    where
      go : Neighbour v p → (on_board g p.0 ≡ true) × (p.1 < pads g)
      go (to_left b e) = rw e (left_on v o b, (let k = one_before v b in omega arith))
      go (to_right b e) = rw e (right_on v o b, next_in_row W v g.height (ltb-true (v % W + 1) W b) o)
      go (to_above b e) = rw e (up_on v o b, (let k = row_before v b in omega arith))
      go (to_below b e) = rw e (b, ltb-true (v + W) (pads g) b)

  -- WHAT THE INDUCTION ASKS of the geometry
  pub geometry : Geometry g
  geometry = record {
    apart = pads_apart g wide;
    one_edge = one_edge g wide;
    near = near;
    plain = λ x it m. kind_of x it (standing x it m);
    detour_turned = detour_turned;
    corner_turned = corner_turned;
  }
