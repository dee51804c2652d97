-- The bare board is at rest: nothing is decided on it, every rule holds, and each listed drawing agrees with it. Its
-- pads have at least two undecided edges, since a grid has at least two rows and two columns.
use Rattle.std.specs.Prelude.{ℕ, ◌+◌, ◌*◌, ◌-◌, ◌%◌, ◌≤◌, ◌<◌, ◌≡◌, ◌⊎◌, Bool, ◌&&◌, ltb}
use Rattle.std.proofs.Math.Path.{refl, sym}
use Rattle.std.proofs.Common.{◌∙◌, ap, ⊎_elim, arith, mul-le-mul_right, zero-add, le-leb, le-ltb, lt-ltb}
use Rattle.std.proofs.Math.Logic.{inl, inr}
use Rattle.std.proofs.Math.Bool.{true, false}
use mathlib.Core.List.{List, [], ◌∷◌}
use Rattle.std.proofs.Math.Decide.{dec_le, dec_lt, ℕ_discrete}
use Rattle.std.proofs.Math.Nat.{mul-mod_left}
use Rattle.rules.specs.Grid.{Edge, Cell, Grid, pads, right, down, blank, clue, hole}
use Rattle.rules.specs.Drawing.{Drawing, drawn, num, Listed}
use Rattle.rules.specs.Places.{zero≢one}
use Rattle.rules.specs.Tests.{both_on, both_off, not_so, num_small}
use Rattle.model.specs.JoinedEnds.{at_pad, at_clue}
use Rattle.model.specs.PadTests.{is_clue, has_right, has_left, has_down, has_up, on_board}
use Rattle.model.specs.Board.{is_line, is_undecided, with_edge, lines, undecideds, around, degree, bare, undecided, line, none}
use Rattle.model.specs.BoardLaws.{clue_is_clue}
use Rattle.ends.specs.Storing.{bare_ends}
use Rattle.propagation.specs.Edges.{board_lines, edge_of}
use Rattle.propagation.specs.Objects.{AtRest, Holds, AllHold, rule, pad, chains, board}
use Rattle.propagation.specs.Squares.{left_on, right_on, up_on}
use Rattle.propagation.specs.Agreement.{Agrees}
use Rattle.propagation.specs.ListedDrawing.{line_on}

module _ (g : Grid) (tall : 2 ≤ g.height) (big : 2 ≤ g.width) (out : (v : ℕ) → pads g ≤ v → g.cell v ≡ blank) where
  abbrev W : ℕ
  W = g.width

  -- an edge of the board is undecided, any other holds none; none is a line
  bare_edge : (e : Edge) (b : Bool) → on_board g e ≡ b → ((b ≡ true) × ((bare g).edge e ≡ undecided)) ⊎ ((b ≡ false) × ((bare g).edge e ≡ none))
  unfolding bare
  bare_edge e true h = inl (refl, (rw (h, bare)))
  bare_edge e false h = inr (refl, (rw (h, bare)))

  not_lined : {A : Type 0} (e : Edge) → (bare g).edge e ≡ line → A
  not_lined e h = ⊎_elim (λ (b, k). zero≢one (cc)) (λ (b, k). zero≢one (cc)) (bare_edge e (on_board g e) refl)

  bare_undecided : (e : Edge) → is_undecided ((bare g).edge e) ≡ on_board g e
  bare_undecided e = ⊎_elim (λ (b, k). rw (b, k) refl) (λ (b, k). rw (b, k) refl) (bare_edge e (on_board g e) refl)

  bare_not_line : (e : Edge) → is_line ((bare g).edge e) ≡ false
  bare_not_line e = ⊎_elim (λ (b, k). rw k refl) (λ (b, k). rw k refl) (bare_edge e (on_board g e) refl)

  no_lines : (l : List (Edge × ℕ)) → lines (bare g) l ≡ 0
  unfolding lines
  no_lines [] = refl
  no_lines (p ∷ l) = rw (no_lines l, bare_not_line p.0) refl

  undecided_with : (b : Bool) (e : Edge) (u : ℕ) (l : List (Edge × ℕ)) → undecideds (bare g) (with_edge b e u l) ≡ num (b && on_board g e) + undecideds (bare g) l
  unfolding undecideds
  undecided_with true e u l = rw (bare_undecided e) refl
  undecided_with false e u l = sym (zero-add _)

  undecided_around : (v : ℕ) → undecideds (bare g) (around g v) ≡ num (has_left g v && on_board g (right (v - 1))) + num (has_right g v && on_board g (right v))
      + num (has_up g v && on_board g (down (v - W))) + num (has_down g v && on_board g (down v))
  unfolding around
  undecided_around v =
      let a = undecided_with (has_left g v) (right (v - 1)) (v - 1) (with_edge (has_right g v) (right v) (v + 1) (with_edge (has_up g v) (down (v - W)) (v - W) (with_edge (has_down g v) (down v) (v + W) []))) in
      let b = undecided_with (has_right g v) (right v) (v + 1) (with_edge (has_up g v) (down (v - W)) (v - W) (with_edge (has_down g v) (down v) (v + W) [])) in
      let c = undecided_with (has_up g v) (down (v - W)) (v - W) (with_edge (has_down g v) (down v) (v + W) []) in
      let d = undecided_with (has_down g v) (down v) (v + W) [] in
      let e : undecideds (bare g) [] ≡ 0 = (unfold undecideds in refl) in
      omega (arith, a, b, c, d, e)

  -- a pad of the grid has a neighbour on the left or on the right, and one above or below
  rows : 2 * W ≤ pads g
  rows = mul-le-mul_right W tall

  across : (v : ℕ) → v < pads g → 1 ≤ num (has_left g v && on_board g (right (v - 1))) + num (has_right g v && on_board g (right v))
  across v o = elim (ℕ_discrete (v % W) 0) [
    | yes e ↦ let h : has_right g v ≡ true = lt-ltb (v % W + 1) W (omega arith) in let k = ap num (both_on h (right_on g big v o h)) in omega (arith, k)
    | no n ↦ let h : has_left g v ≡ true = lt-ltb 0 (v % W) (omega arith) in let k = ap num (both_on h (left_on g big v o h)) in omega (arith, k)
  ]

  along : (v : ℕ) → v < pads g → 1 ≤ num (has_up g v && on_board g (down (v - W))) + num (has_down g v && on_board g (down v))
  along v o = elim (dec_le W v) [
    | yes l ↦ let h : has_up g v ≡ true = le-leb W v l in let k = ap num (both_on h (up_on g big v o h)) in omega (arith, k)
    | no n ↦ let h : has_down g v ≡ true = lt-ltb (v + W) (pads g) (let k = rows in omega arith) in let j = ap num (both_on h h) in omega (arith, j)
  ]

  past_left : (v : ℕ) → pads g ≤ v → (has_left g v && on_board g (right (v - 1))) ≡ false
  past_left v o = elim (ℕ_discrete v (pads g)) [
    | yes e ↦ (let k : has_left g v ≡ false = le-ltb 0 (v % W) (let z = ap (λ x. x % W) e ∙ mul-mod_left g.height W in omega arith) in rw k refl)
    | no n ↦ both_off (has_left g v) (on_board g (right (v - 1))) (both_off (has_right g (v - 1)) (ltb (v - 1) (pads g)) (le-ltb (v - 1) (pads g) (omega arith)))
  ]

  past_around : (v : ℕ) → pads g ≤ v → undecideds (bare g) (around g v) ≡ 0
  past_around v o =
      let a = undecided_around v in
      let b = ap num (past_left v o) in
      let c = ap num (both_off (has_right g v) (on_board g (right v)) (both_off (has_right g v) (ltb v (pads g)) (le-ltb v (pads g) o))) in
      let d = ap num (both_off (has_up g v) (on_board g (down (v - W))) (le-ltb (v - W + W) (pads g) (omega arith))) in
      let e = ap num (both_off (has_down g v) (on_board g (down v)) (le-ltb (v + W) (pads g) (omega arith))) in
      omega (arith, a, b, c, d, e)

  quiet : (v : ℕ) → AtRest g (bare g) v
  unfolding AtRest degree
  quiet v = elim (dec_lt v (pads g)) [
    | yes o ↦ inr ((let a = undecided_around v in let x = across v o in let y = along v o in omega arith), (rw (no_lines (around g v)) (let k = num_small (is_clue (g.cell v)) in omega arith)))
    | no n ↦ inl (past_around v (omega arith), inl (rw (no_lines (around g v), out v (omega arith)) refl))
  ]

  no_line : (x y : ℕ) → board_lines g (bare g) x y → ⊥
  no_line x y l = let t = edge_of g (bare g) x y l in not_lined t.edge t.is

  end_itself : (v : ℕ) → is_clue (g.cell v) ≡ false → (bare g).end v ≡ at_pad v
  unfolding bare
  end_itself v no_clue = go (g.cell v) refl
    where
      go : (C : Cell) → g.cell v ≡ C → (bare g).end v ≡ at_pad v
      go blank e = rw e refl
      go hole e = rw e refl
      go (clue c) e = clue_is_clue no_clue e

  end_clue : (v c : ℕ) → g.cell v ≡ clue c → (bare g).end v ≡ at_clue c
  unfolding bare
  end_clue v c e = rw e refl

  pub bare_holds : AllHold g (bare g)
  unfolding Holds
  bare_holds (rule x it m) = λ h. not_lined x h
  bare_holds (pad v) = quiet v
  bare_holds chains = bare_ends g.cell (board_lines g (bare g)) no_line (bare g).end end_itself end_clue
  bare_holds board = λ e h. not_lined e h

  -- every drawing whose lines are at edges of the board agrees with it
  pub agrees_with_bare : (D : Drawing) → Listed g D → Agrees D (bare g)
  agrees_with_bare D listed = record { where_line = λ e h. not_lined e h; where_none = λ e h. not_so (drawn D e) (off e h) }
    where
      off : (e : Edge) → (bare g).edge e ≡ none → drawn D e ≡ true → ⊥
      off e h k = ⊎_elim (λ (b, j). zero≢one (cc)) (λ (b, j). let i = line_on g big D listed e k in zero≢one (cc)) (bare_edge e (on_board g e) refl)
