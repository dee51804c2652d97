-- A board at rest whose edges are all decided, and none at a hole a line, is a listed drawing: its degrees are right, its ends say that it is ordinary, and the rules
-- of steps d and e hold of its lines.
use Rattle.std.specs.Prelude.{ℕ, ◌+◌, ◌≤◌, ◌<◌, ◌≡◌, ◌≢◌, ◌⊎◌, Bool, true, false}
use Rattle.std.proofs.Math.Path.{refl}
use Rattle.std.proofs.Common.{sym, ◌∙◌, ap, inl, inr, ⊎_elim, arith}
use mathlib.Core.List.{Memᴰ}
use Rattle.std.proofs.Math.Decide.{dec_lt}
use Rattle.rules.specs.Grid.{Edge, first, second, Grid, pads, right, down, blank, hole}
use Rattle.rules.specs.Drawing.{drawn, NoLine, num, Listed}
use Rattle.rules.specs.Places.{zero≢one, next_in_row}
use Rattle.rules.specs.Tests.{conflict, num_none}
use Rattle.model.specs.JoinedEnds.{End, through, at_pad, at_clue}
use Rattle.model.specs.PadTests.{is_clue}
use Rattle.model.specs.Board.{is_line, is_undecided, State, undecideds, around, degree, line}
use Rattle.ends.specs.Ends.{Room, other_room, clue_room}
use Rattle.ends.specs.Refutation.{finished_wired}
use Rattle.propagation.specs.Edges.{drawing, board_lines, edge_of}
use Rattle.propagation.specs.Objects.{AtRest, AllHold}
use Rattle.propagation.specs.Squares.{Neighbour, neighbour, to_left, to_right, to_above, to_below}
use Rattle.propagation.specs.Counting.{among, lines_among, undecideds_among, none_among, one_among, some_among, around_apart, beside, leads}
use Rattle.propagation.specs.BoardAtRest.{ends_say, pad_at_rest, right_place, down_place, board_placed, at_most_two, board_corners}
use Rattle.propagation.specs.Preparing.{HolesShut}
use Rattle.exact.specs.Passed.{Passed, left_decided, up_decided}

module _ (g : Grid) (wide : 2 ≤ g.width) (S : State) (past : (v : ℕ) → pads g ≤ v → g.cell v ≡ blank)
    (holds : AllHold g S) (shut : HolesShut g S) (whole : Passed g wide S (pads g)) where
  abbrev W : ℕ
  W = g.width

  abbrev lined : Edge → Bool
  lined e = is_line (S.edge e)

  drawn_lined : (e : Edge) → drawn (drawing S) e ≡ lined e
  unfolding drawing
  drawn_lined (right v) = refl
  drawn_lined (down v) = refl

  leads_on : (v : ℕ) (p : Edge × ℕ) → Memᴰ p (around g v) → lined p.0 ≡ true → board_lines g S v p.1
  leads_on v p m h = leads g wide (drawing S) (board_placed g wide S holds) v p m (drawn_lined p.0 ∙ h)

  -- EVERY PAD IS FINISHED: passed through, a clue with its line, or without a line and no clue
  decided_around : (v : ℕ) → v < pads g → (p : Edge × ℕ) → Memᴰ p (around g v) → is_undecided (S.edge p.0) ≡ false
  decided_around v o p m = go (neighbour g wide v p m)
    where
      before : Passed g wide S v
      before = record { right = λ u l. whole.right u (omega arith); down = λ u l. whole.down u (omega arith) }

      go : Neighbour g wide v p → is_undecided (S.edge p.0) ≡ false
      go (to_left k e) = rw e (left_decided g wide S v before k)
      go (to_right k e) = rw e (whole.right v o k)
      go (to_above k e) = rw e (up_decided g wide S v o before k)
      go (to_below k e) = rw e (whole.down v o k)

  nothing_undecided : (v : ℕ) → v < pads g → undecideds S (around g v) ≡ 0
  nothing_undecided v o = rw (undecideds_among S (around g v)) (none_among (λ e. is_undecided (S.edge e)) (around g v) (λ p m h. conflict h (decided_around v o p m)))

  rest_cases : (v : ℕ) → AtRest g S v
      → ((undecideds S (around g v) ≡ 0) × ((degree g S v ≡ 0) ⊎ (degree g S v ≡ 2))) ⊎ ((2 ≤ undecideds S (around g v)) × (degree g S v ≤ 1))
  unfolding AtRest
  rest_cases v q = q

  off_the_board : (v : ℕ) → ¬ (v < pads g) → (e : Edge) → S.edge e ≡ line → (v ≡ first e) ⊎ (v ≡ second W e) → ⊥
  off_the_board v n (right u) h w = let (c, i) = right_place g wide S holds u (ap is_line h) in let k = next_in_row W u g.height c i in ⊎_elim (λ p. n (omega arith)) (λ p. n (omega arith)) w
  off_the_board v n (down u) h w = let i = down_place g wide S holds u (ap is_line h) in ⊎_elim (λ p. n (omega arith)) (λ p. n (omega arith)) w

  finished : (v : ℕ) → (S.end v ≡ through) ⊎ ((is_clue (g.cell v) ≡ false) × NoLine (board_lines g S) v)
  finished v = elim (dec_lt v (pads g)) [
    | no n ↦ inr (ap is_clue (past v (omega arith)), λ y l. let t = edge_of g S v y l in off_the_board v n t.edge t.is (⊎_elim (λ (p, q). inl p) (λ (p, q). inr p) t.ends))
    | yes o ↦ at o (nothing_undecided v o) (pad_at_rest g wide S holds v)
  ]
    where
      its_degree : ℕ
      its_degree = num (is_clue (g.cell v)) + among lined (around g v)

      is_degree : degree g S v ≡ its_degree
      is_degree = unfold degree in (rw (lines_among S (around g v)) refl)

      no_room_left : its_degree ≡ 2 → S.end v ≢ through → ⊥
      no_room_left d n = go ((ends_say g wide S holds).else_room v n)
        where
          go : Room g.cell (board_lines g S) v → ⊥
          go (other_room e short) = let k : num (is_clue (g.cell v)) ≡ 0 = rw e refl in
              let j = one_among lined (around g v) (around_apart g wide v) (λ p q m n a b. short p.1 q.1 (leads_on v p m a) (leads_on v q n b)) in omega arith
          go (clue_room c e z) = let k : num (is_clue (g.cell v)) ≡ 1 = rw e refl in
              let j = none_among lined (around g v) (λ p m a. z p.1 (leads_on v p m a)) in omega arith

      passed_through : its_degree ≡ 2 → S.end v ≡ through
      passed_through d = go (S.end v) refl
        where
          go : (X : End) → S.end v ≡ X → S.end v ≡ through
          go through h = h
          go (at_pad a) h = absurd (no_room_left d (λ k. zero≢one (cc)))
          go (at_clue c) h = absurd (no_room_left d (λ k. zero≢one (cc)))

      bare : its_degree ≡ 0 → (is_clue (g.cell v) ≡ false) × NoLine (board_lines g S) v
      bare d = (
        num_none (is_clue (g.cell v)) (omega arith),
        λ y l. let b = beside g wide (drawing S) (board_placed g wide S holds) v y l in let k = some_among lined (around g v) b.at b.member (sym (drawn_lined b.at.0) ∙ b.lined) in omega arith,
      )

      at : v < pads g → undecideds S (around g v) ≡ 0 → AtRest g S v → (S.end v ≡ through) ⊎ ((is_clue (g.cell v) ≡ false) × NoLine (board_lines g S) v)
      at o z q = ⊎_elim (λ (a, d). ⊎_elim (λ k. inr (bare (sym is_degree ∙ k))) (λ k. inl (passed_through (sym is_degree ∙ k))) d) (λ (a, b). absurd (omega arith)) (rest_cases v q)

  no_line_at_holes : (v : ℕ) → g.cell v ≡ hole → NoLine (board_lines g S) v
  no_line_at_holes v hole_is y l =
      let b = beside g wide (drawing S) (board_placed g wide S holds) v y l in
      conflict (sym (drawn_lined b.at.0) ∙ b.lined) (ap is_line (shut v hole_is b.at b.member))

  pub whole_listed : Listed g (drawing S)
  whole_listed = record {
    ordinary = record { placed = board_placed g wide S holds; wired = finished_wired (ends_say g wide S holds) finished no_line_at_holes };
    squares = λ v sq. unfold drawing in (at_most_two g wide S holds v);
    corners = board_corners g wide S holds;
  }
