-- A drawing checked by computing: where the check says true, the drawing is ordinary. The check is given a number for each pad that
-- rises along each chain (so no chain closes), and the code of each pad's chain. It is there for the example drawings of Examples.antt;
-- it rests on Drawing.antt and Tests.antt.
use Rattle.std.specs.Prelude.{ℕ, zero, suc, ◌+◌, ◌*◌, ◌-◌, ◌%◌, ◌≤◌, ◌<◌, ◌≡◌, ◌≢◌, ◌⊎◌, Bool, true, false, ◌&&◌, ◌||◌, not, eqb, leb, get_or, ℤ}
use Rattle.std.proofs.Math.Path.{refl, sym, ap}
use Rattle.std.proofs.Common.{◌∙◌}
use Rattle.std.proofs.Math.Logic.{inl, inr, ⊎_elim}
use mathlib.Core.List.Memᴰ
use mathlib.Core.List.{List, [], ◌∷◌, Memᴰ}
use native.Mathlib.Omega.{arith}
use Rattle.std.proofs.Math.Decide.{dec_lt}
use borrow.Author.Tests.{ltb-true, leb-true, eqb-true, eqb-false, not-true, le-leb}
use Rattle.std.proofs.Math.Dec.{ltb}
use Rattle.std.proofs.Math.ListN.{length, get_or-eq_default}
use Rattle.rules.specs.Grid.{right, down, Cell, blank, clue, hole, cell_of, blank_cell, Grid, grid_of, OnBoard}
use Rattle.rules.specs.Drawing.{Drawing, Placed, Line, rightward, leftward, downward, upward, NoLine, OneLine, TwoLines, Joined, here, more, Loop, Ordinary}
use Rattle.rules.specs.Tests.{both, either, all_below, all_below_at}
use Rattle.rules.specs.Places.{zero≢one}

-- is x in the list, and a test of every member
unfoldable pub elem : ℕ → List ℕ → Bool
elem x [] = false
elem x (a ∷ l) = eqb x a || elem x l

unfoldable pub all_in : (ℕ → Bool) → List ℕ → Bool
all_in test [] = true
all_in test (a ∷ l) = test a && all_in test l

all_in_at : (test : ℕ → Bool) (l : List ℕ) → all_in test l ≡ true → (x : ℕ) → elem x l ≡ true → test x ≡ true
unfolding elem all_in
all_in_at test [] h x m = zero≢one (cc)
all_in_at test (a ∷ l) h x m = ⊎_elim
    (λ e. rw (eqb-true x a e) (both (test a) (all_in test l) h).0)
    (λ e. all_in_at test l (both (test a) (all_in test l) h).1 x e) (either (eqb x a) (elem x l) m)

-- the drawing with lines to the right of these pads and downward of those
unfoldable pub lines_at : List ℕ → List ℕ → Drawing
lines_at rights downs = record { right = λ v. elem v rights; down = λ v. elem v downs }

-- THE PADS that the lines at v lead to
unfoldable pub if_line : Bool → ℕ → List ℕ → List ℕ
if_line true x l = x ∷ l
if_line false x l = l

if_line_here : (b : Bool) (x : ℕ) (l : List ℕ) → b ≡ true → Memᴰ x (if_line b x l)
unfolding if_line
if_line_here true x l h = Memᴰ.head refl
if_line_here false x l h = zero≢one (cc)

if_line_later : (b : Bool) (x y : ℕ) (l : List ℕ) → Memᴰ y l → Memᴰ y (if_line b x l)
unfolding if_line
if_line_later true x y l m = Memᴰ.tail m
if_line_later false x y l m = m

if_line_cases : (b : Bool) (x y : ℕ) (l : List ℕ) → Memᴰ y (if_line b x l) → ((b ≡ true) × (y ≡ x)) ⊎ Memᴰ y l
unfolding if_line
if_line_cases true x y l m = ⊎_elim (λ e. inl (refl, e)) (λ k. inr k) (Memᴰ.cases_cons m)
if_line_cases false x y l m = inr m

module _ (width : ℕ) (D : Drawing) (v : ℕ) where
  unfoldable pub to_up : List ℕ
  to_up = if_line (leb width v && D.down (v - width)) (v - width) []

  unfoldable pub to_down : List ℕ
  to_down = if_line (D.down v) (v + width) to_up

  unfoldable pub to_left : List ℕ
  to_left = if_line (leb 1 v && D.right (v - 1)) (v - 1) to_down

  unfoldable pub neighbours : List ℕ
  neighbours = if_line (D.right v) (v + 1) to_left

  line_in : (y : ℕ) → Line width D v y → Memᴰ y neighbours
  unfolding neighbours to_up to_down to_left
  line_in y (rightward e h) = rw e (if_line_here (D.right v) (v + 1) to_left h)
  line_in y (leftward e h) =
      let q : y ≡ v - 1 = omega arith in
      if_line_later (D.right v) (v + 1) y to_left (rw q (if_line_here (leb 1 v && D.right (v - 1)) (v - 1) to_down
      (rw (le-leb 1 v (omega arith), ← q) h)))
  line_in y (downward e h) =
      if_line_later (D.right v) (v + 1) y to_left (if_line_later (leb 1 v && D.right (v - 1)) (v - 1) y to_down
      (rw e (if_line_here (D.down v) (v + width) to_up h)))
  line_in y (upward e h) =
      let q : y ≡ v - width = omega arith in
      if_line_later (D.right v) (v + 1) y to_left (if_line_later (leb 1 v && D.right (v - 1)) (v - 1) y to_down
      (if_line_later (D.down v) (v + width) y to_up (rw q (if_line_here (leb width v && D.down (v - width)) (v - width) []
      (rw (le-leb width v (omega arith), ← q) h)))))

  in_line : (y : ℕ) → Memᴰ y neighbours → Line width D v y
  unfolding neighbours to_up to_down to_left
  in_line y m =
      ⊎_elim (λ (h, e). rightward e h) (λ m.
      ⊎_elim (λ (h, e). let (a, b) = both (leb 1 v) (D.right (v - 1)) h in
      leftward (omega (arith, leb-true 1 v a)) (rw e b)) (λ m.
      ⊎_elim (λ (h, e). downward e h) (λ m.
      ⊎_elim (λ (h, e). let (a, b) = both (leb width v) (D.down (v - width)) h in
      upward (omega (arith, leb-true width v a)) (rw e b)) (λ m. absurd (Memᴰ.not-nil m))
      (if_line_cases (leb width v && D.down (v - width)) (v - width) y [] m))
      (if_line_cases (D.down v) (v + width) y to_up m))
      (if_line_cases (leb 1 v && D.right (v - 1)) (v - 1) y to_down m))
      (if_line_cases (D.right v) (v + 1) y to_left m)

-- THE CHECK of one pad, given what it holds and the pads that its lines lead to
unfoldable pub pad_check : (rank chain : ℕ → ℕ) → ℕ → Cell → List ℕ → Bool
pad_check rank chain v (clue code) (a ∷ []) = eqb (chain v) code && eqb (chain a) (chain v)
pad_check rank chain v (clue code) [] = false
pad_check rank chain v (clue code) (a ∷ b ∷ l) = false
pad_check rank chain v blank [] = true
pad_check rank chain v blank (a ∷ []) = false
pad_check rank chain v blank (a ∷ b ∷ []) =
    not (eqb a b) && ((ltb (rank v) (rank a) || ltb (rank v) (rank b)) && (eqb (chain a) (chain v) && eqb (chain b) (chain v)))
pad_check rank chain v blank (a ∷ b ∷ c ∷ l) = false
pad_check rank chain v hole [] = true
pad_check rank chain v hole (a ∷ l) = false

module _ (rank chain : ℕ → ℕ) (v : ℕ) where
  clue_checked : (code : ℕ) (l : List ℕ) → pad_check rank chain v (clue code) l ≡ true
      → (a : ℕ) × (l ≡ (a ∷ [])) × (chain v ≡ code) × (chain a ≡ chain v)
  unfolding pad_check
  clue_checked code (a ∷ []) h =
      let (p, q) = both (eqb (chain v) code) (eqb (chain a) (chain v)) h in (a, refl, eqb-true _ _ p, eqb-true _ _ q)
  clue_checked code [] h = zero≢one (cc)
  clue_checked code (a ∷ b ∷ l) h = zero≢one (cc)

  pub record Passed (l : List ℕ) (a b : ℕ) : Type 0 where
    pub those : l ≡ (a ∷ b ∷ [])
    pub apart : a ≢ b
    pub rises : (rank v < rank a) ⊎ (rank v < rank b)
    pub same_a : chain a ≡ chain v
    pub same_b : chain b ≡ chain v

  blank_checked : (l : List ℕ) → pad_check rank chain v blank l ≡ true → (l ≡ []) ⊎ ((a : ℕ) × (b : ℕ) × Passed l a b)
  unfolding pad_check
  blank_checked [] h = inl refl
  blank_checked (a ∷ []) h = zero≢one (cc)
  blank_checked (a ∷ b ∷ c ∷ l) h = zero≢one (cc)
  blank_checked (a ∷ b ∷ []) h =
      let (p, h) = both (not (eqb a b)) _ h in
      let (q, h) = both (ltb (rank v) (rank a) || ltb (rank v) (rank b)) _ h in
      let (r, s) = both (eqb (chain a) (chain v)) (eqb (chain b) (chain v)) h in
      inr (
        a,
        b,
        record {
          those = refl;
          apart = eqb-false a b (not-true (eqb a b) p);
          rises = ⊎_elim (λ k. inl (ltb-true _ _ k)) (λ k. inr (ltb-true _ _ k)) (either (ltb (rank v) (rank a)) _ q);
          same_a = eqb-true _ _ r;
          same_b = eqb-true _ _ s;
        },
      )

  hole_checked : (l : List ℕ) → pad_check rank chain v hole l ≡ true → l ≡ []
  unfolding pad_check
  hole_checked [] h = refl
  hole_checked (a ∷ l) h = zero≢one (cc)

-- THE WHOLE CHECK: the lines are on the board, and every pad passes
unfoldable pub checked : (height width : ℕ) → List ℤ → (rights downs ranks chains : List ℕ) → Bool
unfolding all_below elem all_in lines_at if_line to_up to_down to_left neighbours pad_check cell_of
checked height width cells rights downs ranks chains =
    eqb (length cells) (height * width)
    && (all_in (λ v. ltb v (height * width) && (ltb (v % width + 1) width && ltb (v + 1) (height * width))) rights
    && (all_in (λ v. ltb (v + width) (height * width)) downs
    && all_below (λ v. ltb (get_or ranks v 0) (height * width) && pad_check (λ u. get_or ranks u 0) (λ u. get_or chains u 0) v
    (cell_of (get_or cells v blank_cell)) (neighbours width (lines_at rights downs) v)) (height * width)))

module _ (height width : ℕ) (cells : List ℤ) (rights downs ranks chains : List ℕ) (ok : checked height width cells rights downs ranks chains ≡ true) where
  abbrev g : Grid
  g = grid_of height width cells

  abbrev D : Drawing
  D = lines_at rights downs

  rank : ℕ → ℕ
  rank v = get_or ranks v 0

  chain : ℕ → ℕ
  chain v = get_or chains v 0

  record Parts : Type 0 where
    as_many : length cells ≡ height * width
    rights_on : (v : ℕ) → elem v rights ≡ true → (v < height * width) × (v % width + 1 < width) × (v + 1 < height * width)
    downs_on : (v : ℕ) → elem v downs ≡ true → v + width < height * width
    low : (v : ℕ) → v < height * width → rank v < height * width
    pad : (v : ℕ) → v < height * width → pad_check rank chain v (cell_of (get_or cells v blank_cell)) (neighbours width (lines_at rights downs) v) ≡ true

  parts : Parts
  unfolding checked rank chain
  parts =
      let (a, h) = both (eqb (length cells) (height * width)) _ ok in
      let (b, h) = both (all_in (λ v. ltb v (height * width) && (ltb (v % width + 1) width && ltb (v + 1) (height * width))) rights) _ h in
      let (c, d) = both (all_in (λ v. ltb (v + width) (height * width)) downs) _ h in
      record {
        as_many = eqb-true _ _ a;
        rights_on = λ v m. let (p, q) = both (ltb v (height * width)) _ (all_in_at _ rights b v m) in
            let (r, s) = both (ltb (v % width + 1) width) _ q in (ltb-true _ _ p, ltb-true _ _ r, ltb-true _ _ s);
        downs_on = λ v m. ltb-true _ _ (all_in_at _ downs c v m);
        low = λ v l. ltb-true _ _ (both (ltb (get_or ranks v 0) (height * width)) _ (all_below_at _ (height * width) d v l)).0;
        pad = λ v l. (both (ltb (get_or ranks v 0) (height * width)) _ (all_below_at _ (height * width) d v l)).1;
      }

  placed : Placed g D
  unfolding grid_of lines_at OnBoard
  placed (right v) h = let (a, b, c) = parts.rights_on v h in (a, b)
  placed (down v) h = parts.downs_on v h

  in_range : (v y : ℕ) → Line width D v y → v < height * width
  unfolding lines_at
  in_range v y (rightward e h) = (parts.rights_on v h).0
  in_range v y (leftward e h) = omega (arith, (parts.rights_on y h).2)
  in_range v y (downward e h) = omega (arith, parts.downs_on v h)
  in_range v y (upward e h) = omega (arith, parts.downs_on y h)

  past_blank : (v : ℕ) → height * width ≤ v → g.cell v ≡ blank
  unfolding grid_of cell_of
  past_blank v past =
      let short : length cells ≤ v = omega (arith, parts.as_many) in rw (get_or-eq_default cells blank_cell short) refl

  clue_in_range : (v code : ℕ) → g.cell v ≡ clue code → v < height * width
  clue_in_range v code e = elim (dec_lt v (height * width)) [ yes l ↦ l | no past ↦ zero≢one (cc (past_blank v (omega arith))) ]

  -- the pads that a clue's line, and a blank pad's lines, lead to
  clue_pad : (v code : ℕ) → g.cell v ≡ clue code
      → (a : ℕ) × (neighbours width D v ≡ (a ∷ [])) × (chain v ≡ code) × (chain a ≡ chain v)
  unfolding grid_of
  clue_pad v code e = clue_checked rank chain v code (neighbours width D v) (rw e at (parts.pad v (clue_in_range v code e)))

  blank_pad : (v : ℕ) → v < height * width → g.cell v ≡ blank
      → (neighbours width D v ≡ []) ⊎ ((a : ℕ) × (b : ℕ) × Passed rank chain v (neighbours width D v) a b)
  unfolding grid_of
  blank_pad v l e = blank_checked rank chain v (neighbours width D v) (rw e at (parts.pad v l))

  one_line : (v a : ℕ) → neighbours width D v ≡ (a ∷ []) → OneLine (Line width D) v
  one_line v a e = record {
    to = a;
    line = in_line width D v a (rw e (Memᴰ.head refl));
    only = λ u l. ⊎_elim (λ q. q) (λ m. absurd (Memᴰ.not-nil m)) (Memᴰ.cases_cons (rw e at (line_in width D v u l)));
  }

  two_lines : (v a b : ℕ) → Passed rank chain v (neighbours width D v) a b → TwoLines (Line width D) v
  two_lines v a b p = record {
    to = a;
    also_to = b;
    apart = p.apart;
    line = in_line width D v a (rw p.those (Memᴰ.head refl));
    also_line = in_line width D v b (rw p.those (Memᴰ.tail (Memᴰ.head refl)));
    only = λ u l. ⊎_elim (λ q. inl q) (λ m. inr (⊎_elim (λ q. q) (λ k. absurd (Memᴰ.not-nil k)) (Memᴰ.cases_cons m)))
        (Memᴰ.cases_cons (rw p.those at (line_in width D v u l)));
  }

  no_line : (v : ℕ) → neighbours width D v ≡ [] → NoLine (Line width D) v
  no_line v e u l = Memᴰ.not-nil (rw e at (line_in width D v u l))

  blank_lines : (v : ℕ) → g.cell v ≡ blank → NoLine (Line width D) v ⊎ TwoLines (Line width D) v
  blank_lines v e = elim (dec_lt v (height * width)) [
    | no past ↦ inl (λ u l. past (in_range v u l))
    | yes inside ↦ ⊎_elim (λ none. inl (no_line v none)) (λ (a, b, p). inr (two_lines v a b p)) (blank_pad v inside e)
  ]

  hole_lines : (v : ℕ) → g.cell v ≡ hole → NoLine (Line width D) v
  unfolding grid_of
  hole_lines v e u l = no_line v (hole_checked rank chain v (neighbours width D v) (rw e at (parts.pad v (in_range v u l)))) u l

  -- one chain, one code
  same_chain : (v y : ℕ) → Line width D v y → chain y ≡ chain v
  unfolding one_line two_lines
  same_chain v y l = go (g.cell v) refl
    where
      go : (C : Cell) → g.cell v ≡ C → chain y ≡ chain v
      go (clue code) e = let (a, q, r, s) = clue_pad v code e in ap chain ((one_line v a q).only y l) ∙ s
      go blank e = ⊎_elim (λ none. absurd (no_line v none y l))
          (λ (a, b, p). ⊎_elim (λ q. ap chain q ∙ p.same_a) (λ q. ap chain q ∙ p.same_b) ((two_lines v a b p).only y l))
          (blank_pad v (in_range v y l) e)
      go hole e = absurd (hole_lines v e y l)

  joined_chain : {u v : ℕ} → Joined (Line width D) u v → chain u ≡ chain v
  joined_chain here = refl
  joined_chain (more {a = a} {b = b} l j) = sym (same_chain a b l) ∙ joined_chain j

  -- a closed loop would rise for ever
  rise : (Family : ℕ → Type 0) → Loop (Line width D) Family → (v : ℕ) → Family v → (y : ℕ) × Family y × (rank v < rank y)
  unfolding one_line two_lines
  rise Family loop v in_v = let (x, y, x≢y, in_x, in_y, lx, ly) = loop.two v in_v in go x y x≢y in_x in_y lx ly (g.cell v) refl
    where
      go : (x y : ℕ) → x ≢ y → Family x → Family y → Line width D v x → Line width D v y → (C : Cell) → g.cell v ≡ C
          → (y : ℕ) × Family y × (rank v < rank y)
      go x y x≢y in_x in_y lx ly (clue code) e =
          let (a, q, r, s) = clue_pad v code e in absurd (x≢y ((one_line v a q).only x lx ∙ sym ((one_line v a q).only y ly)))
      go x y x≢y in_x in_y lx ly hole e = absurd (hole_lines v e x lx)
      go x y x≢y in_x in_y lx ly blank e = ⊎_elim (λ none. absurd (no_line v none x lx))
          (λ (a, b, p). higher a b p ((two_lines v a b p).only x lx) ((two_lines v a b p).only y ly)) (blank_pad v (in_range v x lx) e)
        where
          higher : (a b : ℕ) → Passed rank chain v (neighbours width D v) a b → (x ≡ a) ⊎ (x ≡ b) → (y ≡ a) ⊎ (y ≡ b)
              → (y : ℕ) × Family y × (rank v < rank y)
          higher a b p (inl ex) (inl ey) = absurd (x≢y (ex ∙ sym ey))
          higher a b p (inr ex) (inr ey) = absurd (x≢y (ex ∙ sym ey))
          higher a b p (inl ex) (inr ey) = ⊎_elim (λ h. (a, (rw ex at in_x), h)) (λ h. (b, (rw ey at in_y), h)) p.rises
          higher a b p (inr ex) (inl ey) = ⊎_elim (λ h. (a, (rw ey at in_y), h)) (λ h. (b, (rw ex at in_x), h)) p.rises

  climb : (n : ℕ) (Family : ℕ → Type 0) → Loop (Line width D) Family → (v : ℕ) → Family v → height * width ≤ n + rank v → ⊥
  climb zero Family loop v in_v h = let (x, y, x≢y, in_x, in_y, lx, ly) = loop.two v in_v in
      omega (arith, parts.low v (in_range v x lx))
  climb (suc n) Family loop v in_v h = let (y, in_y, up) = rise Family loop v in_v in climb n Family loop y in_y (omega arith)

  -- a drawing that passes is ordinary
  pub checked_ordinary : Ordinary (grid_of height width cells) (lines_at rights downs)
  unfolding grid_of lines_at
  checked_ordinary = record {
    placed = placed;
    wired = record {
      clue_one = λ v code e. let (a, q, r, s) = clue_pad v code e in one_line v a q;
      blank_none_or_two = blank_lines;
      hole_none = λ v e u l. absurd (hole_lines v e u l);
      no_loop = λ Family loop. absurd (climb (height * width) Family loop loop.pad loop.inside (omega arith));
      equal_codes = λ u v c d e f j. let (a, q, r, s) = clue_pad u c e in let (b, w, x, y) = clue_pad v d f in
          omega (arith, sym r ∙ joined_chain j ∙ x);
    };
  }
