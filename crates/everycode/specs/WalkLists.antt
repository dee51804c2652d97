-- The walk from a pad on lists exactly the listed drawings that agree with the drawing so far at every edge of the board whose first pad is
-- before: with all pads given, the one that the test of the rules marks 2; at a pad, what its four codes list, one after the other. A code with a
-- line off the board is no listed drawing's. It rests on the verdict's theory (ruletest's Verdict.antt) and on runs' Branches.antt; no board, no
-- propagation and no pruning is spoken of.
use Prim.Native.Nat.{ℕ, zero, suc, ◌+◌, ◌≤◌, ◌<◌}
use Rattle.std.specs.Prelude.{◌≡◌, ◌≢◌, Bool, ◌||◌, not, List, get_or}
use Rattle.std.proofs.Math.Path.{refl, sym, ap, subst}
use Rattle.std.proofs.Common.{◌∙◌, arith, add-zero}
use Rattle.std.proofs.Math.Logic.{⊎_elim}
use Rattle.std.proofs.Math.Bool.{true, false}
use mathlib.Core.List.Memᴰ
use Rattle.std.proofs.Math.Decide.{ℕ_discrete}
use borrow.Author.Tests.{eq-eqb, eqb-false, eqb-true, ne_eqb, lt-ltb, ltb-true}
use Rattle.std.proofs.Math.Dec.{eqb}
use Rattle.rules.specs.Grid.{Edge, right, down, first, Grid, pads, OnBoard}
use Rattle.rules.specs.Drawing.{Drawing, drawn, Placed, Listed}
use Rattle.rules.specs.Record.{undecided_byte, line_byte, byte_of, place_number, record_of, pad_code, Ascending}
use Rattle.rules.proofs.RecordLaws.{field_edge, is_line_byte, drawing_determines}
use Rattle.rules.specs.Places.{first_inside}
use Rattle.rules.specs.ProperGrid.{Proper}
use Rattle.rules.specs.Tests.{both, both_on, conflict, not_so}
use Rattle.model.specs.PadTests.{has_right, has_down}
use Rattle.model.specs.Runs.{Event}
use Rattle.model.specs.Judge.{verdict}
use Rattle.model.specs.Walk.{no_lines, with_code, may_give, tested, give, walk_on, every_code}
use Rattle.ruletest.specs.Verdict.{listed_verdict}
use Rattle.runs.specs.Events.{layouts_of}
use Rattle.runs.specs.Branches.{Lists, Coded, lists_none, lists_alike, lists_counted, four_branches}

-- E AGREES WITH D BEFORE PAD v: at every edge of the board whose first pad is before it
abbrev pub AgreesBefore : Grid → ℕ → Drawing → Drawing → Type 0
AgreesBefore g v D E = (e : Edge) → OnBoard g e → first e < v → drawn E e ≡ drawn D e

-- a pad that is given a code has it, and nothing else changes
module _ (D : Drawing) (v : ℕ) (r d : Bool) where
  pub right_given : (u : ℕ) → u ≡ v → (with_code D v r d).right u ≡ r
  unfolding with_code
  right_given u e = rw (eq-eqb u v e) refl

  pub down_given : (u : ℕ) → u ≡ v → (with_code D v r d).down u ≡ d
  unfolding with_code
  down_given u e = rw (eq-eqb u v e) refl

  pub others_kept : (e : Edge) → first e ≢ v → drawn (with_code D v r d) e ≡ drawn D e
  unfolding with_code
  others_kept (right u) n = rw (ne_eqb u v n) refl
  others_kept (down u) n = rw (ne_eqb u v n) refl

-- a line only where there is an edge, as a test
test_says : (r has : Bool) → not r || has ≡ true → r ≡ true → has ≡ true
test_says true has h e = h
test_says false has h e = conflict e refl

says_test : (r has : Bool) → (r ≡ true → has ≡ true) → not r || has ≡ true
says_test true has h = h refl
says_test false has h = refl

module _ (g : Grid) (proper : Proper g) where
  abbrev wide : 2 ≤ g.width
  wide = proper.wide

  -- ## A full drawing

  -- drawings of one record are alike on the board
  one_record : (D E : Drawing) → record_of g D ≡ record_of g E → AgreesBefore g (pads g) D E
  unfolding record_of
  one_record D E same e on before = sym (shown E) ∙ ap (λ r. eqb (get_or r (place_number g.width e) undecided_byte) line_byte) (sym same) ∙ shown D
    where
      shown : (F : Drawing) → eqb (get_or (record_of g F) (place_number g.width e) undecided_byte) line_byte ≡ drawn F e
      shown F = rw (field_edge g wide (λ x. byte_of (drawn F x)) e on) (is_line_byte g wide (drawn F e))

  -- and drawings that are alike before the last pad have one record
  record_same : (D E : Drawing) → AgreesBefore g (pads g) D E → record_of g E ≡ record_of g D
  record_same D E agrees = drawing_determines g wide E D (λ e on. agrees e on (first_inside g e on))

  tested_lists : (D : Drawing) → Lists g (AgreesBefore g (pads g) D) (tested g D)
  unfolding tested layouts_of Ascending
  tested_lists D = go (eqb (verdict g (record_of g D)) 2) refl
    where
      go : (b : Bool) → eqb (verdict g (record_of g D)) 2 ≡ b → Lists g (AgreesBefore g (pads g) D) (tested g D)
      go true h = rw (h, tested) (record {
        truly = λ bytes m. let l = (listed_verdict g proper (record_of g D)).0 (eqb-true _ 2 h) in
            (l.drawing, l.listed, one_record D l.drawing l.shown, ⊎_elim (λ e. e ∙ l.shown) (λ n. absurd (Memᴰ.not-nil n)) (Memᴰ.cases_cons m));
        wholly = λ E listed agrees. Memᴰ.head (record_same D E agrees);
        ascending = ((λ y m. absurd (Memᴰ.not-nil m)), tt);
      })
      go false h = rw (h, tested) (lists_none g _ (λ E listed agrees. eqb-false _ 2 h
          ((listed_verdict g proper (record_of g D)).1 (record { drawing = E; listed = listed; shown = sym (record_same D E agrees) }))))

  -- ## One code at a pad

  module _ (v : ℕ) (inside : v < pads g) (D : Drawing) (r d : Bool) where
    abbrev given : Drawing
    given = with_code D v r d

    -- what may be given is on the board, and what a drawing on the board has may be given
    given_on_board : may_give g v r d ≡ true → ((r ≡ true → OnBoard g (right v)) × (d ≡ true → OnBoard g (down v)))
    unfolding may_give OnBoard
    given_on_board may = let (m, n) = both (not r || has_right g v) (not d || has_down g v) may in
        ((λ e. (inside, ltb-true _ _ (test_says r (has_right g v) m e))), λ e. ltb-true _ _ (test_says d (has_down g v) n e))

    may_have : (E : Drawing) → Placed g E → E.right v ≡ r → E.down v ≡ d → may_give g v r d ≡ true
    unfolding may_give OnBoard
    may_have E placed p q = both_on (says_test r (has_right g v) (λ e. lt-ltb _ _ (placed (right v) (p ∙ e)).1)) (says_test d (has_down g v) (λ e. lt-ltb _ _ (placed (down v) (q ∙ e))))

    -- a drawing on the board that agrees with the given one has its edges at the pad, also where they are off the board
    has_given : (E : Drawing) → Placed g E → AgreesBefore g (v + 1) given E → (e : Edge) → first e < v + 1 → (way : Bool) → drawn given e ≡ way → (way ≡ true → OnBoard g e) → drawn E e ≡ way
    has_given E placed agrees e before true is on = agrees e (on refl) before ∙ is
    has_given E placed agrees e before false is on = not_so (drawn E e) (λ h. conflict h (agrees e (placed e h) before ∙ is))

    given_kind : may_give g v r d ≡ true → (E : Drawing) → Listed g E → AgreesBefore g (v + 1) given E → Coded (AgreesBefore g v D) v r d E
    given_kind may E listed agrees = let placed = listed.ordinary.placed in let on = given_on_board may in (
      (λ e on before. agrees e on (omega arith) ∙ others_kept D v r d e (λ h. omega arith)),
      has_given E placed agrees (right v) (omega arith) r (right_given D v r d v refl) on.0,
      has_given E placed agrees (down v) (omega arith) d (down_given D v r d v refl) on.1,
    )

    kind_given : (E : Drawing) → Listed g E → Coded (AgreesBefore g v D) v r d E → AgreesBefore g (v + 1) given E
    kind_given E listed (agrees, p, q) e on before = elim (ℕ_discrete (first e) v) [
      | yes at ↦ here e at
      | no n ↦ agrees e on (omega arith) ∙ sym (others_kept D v r d e n)
    ]
      where
        here : (e : Edge) → first e ≡ v → drawn E e ≡ drawn given e
        here (right u) at = ap (λ x. E.right x) at ∙ p ∙ sym (right_given D v r d u at)
        here (down u) at = ap (λ x. E.down x) at ∙ q ∙ sym (down_given D v r d u at)

    give_lists : (continue : Drawing → List Event) → Lists g (AgreesBefore g (v + 1) given) (continue given) → Lists g (Coded (AgreesBefore g v D) v r d) (give g continue v D r d)
    unfolding give
    give_lists continue found = go (may_give g v r d) refl
      where
        go : (b : Bool) → may_give g v r d ≡ b → Lists g (Coded (AgreesBefore g v D) v r d) (give g continue v D r d)
        go true may = rw (may, give) (lists_counted g _ _ (lists_alike g (AgreesBefore g (v + 1) given) (Coded (AgreesBefore g v D) v r d) (continue given) (given_kind may) kind_given found))
        go false may = rw (may, give) (lists_none g _ (λ E listed (agrees, p, q). conflict (may_have E listed.ordinary.placed p q) may))

  -- ## The walk

  -- drawings on the board that agree with one before a pad have the same codes there
  same_codes : (v : ℕ) (D E F : Drawing) → Placed g E → Placed g F → AgreesBefore g v D E → AgreesBefore g v D F → (u : ℕ) → u < v → pad_code E u ≡ pad_code F u
  same_codes v D E F placed also_placed agrees also_agrees u before = rw (same (right u) before, same (down u) before) refl
    where
      same : (e : Edge) → first e < v → drawn E e ≡ drawn F e
      same e before = go (drawn E e) refl (drawn F e) refl
        where
          at : OnBoard g e → drawn E e ≡ drawn F e
          at on = agrees e on before ∙ sym (also_agrees e on before)

          go : (b : Bool) → drawn E e ≡ b → (c : Bool) → drawn F e ≡ c → drawn E e ≡ drawn F e
          go true h c k = at (placed e h)
          go false h true k = at (also_placed e k)
          go false h false k = h ∙ sym k

  walk_lists : (n v : ℕ) (D : Drawing) → v + n ≡ pads g → Lists g (AgreesBefore g v D) (walk_on g n v D)
  unfolding walk_on
  walk_lists zero v D full = subst (λ w. Lists g (AgreesBefore g w D) (tested g D)) (sym (sym (add-zero v) ∙ full)) (tested_lists D)
  walk_lists (suc n) v D more = let on : (r d : Bool) → Lists g (AgreesBefore g (v + 1) (with_code D v r d)) (walk_on g n (v + 1) (with_code D v r d)) = λ r d. walk_lists n (v + 1) (with_code D v r d) (omega arith) in
      four_branches g wide (AgreesBefore g v D) v (omega arith) (same_codes v D)
      (code false false (on false false)) (code true false (on true false)) (code false true (on false true)) (code true true (on true true))
    where
      code : (r d : Bool) → Lists g (AgreesBefore g (v + 1) (with_code D v r d)) (walk_on g n (v + 1) (with_code D v r d)) → Lists g (Coded (AgreesBefore g v D) v r d) (give g (λ E. walk_on g n (v + 1) E) v D r d)
      code r d on = give_lists v (omega arith) D r d (λ E. walk_on g n (v + 1) E) on

  -- EVERY LISTED DRAWING agrees with no lines before the first pad
  pub every_code_lists : Lists g (AgreesBefore g 0 no_lines) (every_code g)
  unfolding every_code
  every_code_lists = walk_lists (pads g) 0 no_lines (omega arith)
