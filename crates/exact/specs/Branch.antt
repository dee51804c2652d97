-- One branch of the search, one m: it lists exactly the listed drawings that agree with the board and have m's two edges at the pad. Where
-- the degree test fails or a decision sets the flag there is no such drawing; else the branch goes on from the next pad.
use Rattle.std.specs.Prelude.{ℕ, ◌+◌, ◌-◌, ◌%◌, ◌≤◌, ◌<◌, ◌≡◌, Bool, ◌&&◌, ◌||◌}
use Rattle.std.proofs.Math.Path.{refl, sym, ap}
use Rattle.std.proofs.Common.{◌∙◌, arith, zero-add}
use Rattle.std.proofs.Math.Logic.{⊎_map}
use Rattle.std.proofs.Math.Bool.{true, false}
use mathlib.Core.List.{List, []}
use borrow.Author.Tests.{eq-eqb, ltb-true}
use Rattle.std.proofs.Math.Dec.{eqb}
use Rattle.rules.specs.Grid.{Edge, Grid, pads, OnBoard, right, down}
use Rattle.rules.specs.Drawing.{Drawing, drawn, num, Listed}
use Rattle.rules.specs.Tests.{either_on, conflict}
use Rattle.model.specs.PadTests.{has_right, has_left, has_down, has_up}
use Rattle.model.specs.Board.{EdgeState, is_line, is_undecided, State, with_edge, line_or_none, around, decide, enough, undecided, line, none}
use Rattle.model.specs.Runs.{Event}
use Rattle.model.specs.Search.{next_pad, degree_so_far, try}
use Rattle.propagation.specs.Edges.{line_or_none_decided}
use Rattle.propagation.specs.Objects.{AllHold}
use Rattle.propagation.specs.Items.{Onward, onward_trans}
use Rattle.propagation.specs.Kept.{calls_keep}
use Rattle.propagation.specs.Squares.{geometry}
use Rattle.propagation.specs.Counting.{among}
use Rattle.propagation.specs.Agreement.{Agrees, drawn_degree}
use Rattle.propagation.specs.ListedDrawing.{its_degree}
use Rattle.rules.specs.ProperGrid.{Proper}
use Rattle.propagation.proofs.Decisions.{one_decision_sound}
use Rattle.propagation.specs.Preparing.{HolesShut}
use Rattle.runs.specs.Branches.{Lists, Coded, lists_none, lists_alike}
use Rattle.exact.specs.Passed.{Passed, left_decided, up_decided}
use Rattle.exact.specs.NextPad.{StandsAt, NextFrom, next_is_later}

module _ (g : Grid) (proper : Proper g) where
  abbrev wide : 2 ≤ g.width
  wide = proper.wide

  -- a branch lists the listed drawings that agree with the board and have r to the right and d downward at pad v
  abbrev pub ListsBranch : State → ℕ → Bool → Bool → List Event → Type 1
  ListsBranch S v r d events = Lists g (Coded (λ D. Agrees D S) v r d) events

  among_with : (has : Edge → Bool) (b : Bool) (e : Edge) (u : ℕ) (l : List (Edge × ℕ)) → among has (with_edge b e u l) ≡ num (b && has e) + among has l
  unfolding among
  among_with has true e u l = refl
  among_with has false e u l = sym (zero-add (among has l))

  module _ (S : State) (v : ℕ) (at : StandsAt g proper S v) (above_last : has_down g v ≡ true) (r d : Bool) where
    -- the states after the right edge and after both
    after_right : State
    after_right = decide g (enough g) (right v) (line_or_none r) S

    after_both : State
    after_both = decide g (enough g) (down v) (line_or_none d) after_right

    right_onward : Onward g S after_right
    unfolding after_right
    right_onward = (calls_keep g (geometry g wide) (enough g)).decide_onward (right v) (line_or_none r) S (line_or_none_decided r)

    down_onward : Onward g after_right after_both
    unfolding after_both
    down_onward = (calls_keep g (geometry g wide) (enough g)).decide_onward (down v) (line_or_none d) after_right (line_or_none_decided d)

    onward : Onward g S after_both
    onward = onward_trans g right_onward down_onward

    right_set : after_both.flag ≡ false → after_both.edge (right v) ≡ line_or_none r
    right_set z =
        let e : after_right.edge (right v) ≡ line_or_none r = (unfold after_right in
        ((calls_keep g (geometry g wide) (enough g)).decide_sets (right v) (line_or_none r) S (line_or_none_decided r) (down_onward.was_clear z))) in
        down_onward.decided_stay (right v) (ap is_undecided e ∙ line_or_none_decided r) ∙ e

    down_set : after_both.flag ≡ false → after_both.edge (down v) ≡ line_or_none d
    down_set z = unfold after_both in ((calls_keep g (geometry g wide) (enough g)).decide_sets (down v) (line_or_none d) after_right (line_or_none_decided d) z)

    -- what agrees with the branch agrees with the board, and has the branch's two edges
    agrees_before : (D : Drawing) → Agrees D after_both → Agrees D S
    agrees_before D a = record {
      where_line = λ e h. a.where_line e (onward.decided_stay e (ap is_undecided h) ∙ h);
      where_none = λ e h. a.where_none e (onward.decided_stay e (ap is_undecided h) ∙ h);
    }

    agrees_there : (way : Bool) (x : Edge) (D : Drawing) → Agrees D after_both → after_both.edge x ≡ line_or_none way → drawn D x ≡ way
    agrees_there true x D a h = a.where_line x h
    agrees_there false x D a h = a.where_none x h

    -- A LISTED DRAWING THAT TAKES THE BRANCH goes through it: both decisions are sound
    goes_through : (D : Drawing) → Listed g D → Agrees D S → D.right v ≡ r → D.down v ≡ d → (after_both.flag ≡ false) × Agrees D after_both
    goes_through D listed a p q =
        let first = one_decision_sound g proper D listed S at.holds at.clear a (right v) r on_right_edge p in
        unfold after_both after_right in (one_decision_sound g proper D listed (decide g (enough g) (right v) (line_or_none r) S) (held first) first.0 first.1 (down v) d on_down_edge q)
      where
        on_right_edge : OnBoard g (right v)
        on_right_edge = unfold OnBoard in (at.inside, ltb-true (v % g.width + 1) g.width (at.right_there above_last))

        on_down_edge : OnBoard g (down v)
        on_down_edge = unfold OnBoard in (ltb-true (v + g.width) (pads g) above_last)

        held : ((decide g (enough g) (right v) (line_or_none r) S).flag ≡ false) × Agrees D (decide g (enough g) (right v) (line_or_none r) S) → AllHold g (decide g (enough g) (right v) (line_or_none r) S)
        held (clear, a) o = ((calls_keep g (geometry g wide) (enough g)).decide_onward (right v) (line_or_none r) S (line_or_none_decided r)).still_holds clear o (at.holds o)

    -- and passes the degree test: what the search counts is the drawing's degree at the pad
    decided_same : (D : Drawing) → Agrees D S → (b : Bool) (e : Edge) → (b ≡ true → is_undecided (S.edge e) ≡ false) → (b && drawn D e) ≡ (b && is_line (S.edge e))
    decided_same D a false e h = refl
    decided_same D a true e h = go (S.edge e) refl
      where
        go : (m : EdgeState) → S.edge e ≡ m → drawn D e ≡ is_line (S.edge e)
        go line k = rw k (a.where_line e k)
        go none k = rw k (a.where_none e k)
        go undecided k = conflict {b = is_undecided (S.edge e)} (ap is_undecided k) (h refl)

    tried_degree : ℕ
    tried_degree = degree_so_far g v S + num r + num d

    its_whole_degree : (D : Drawing) → Agrees D S → D.right v ≡ r → D.down v ≡ d → tried_degree ≡ drawn_degree D g v
    unfolding tried_degree degree_so_far around
    its_whole_degree D a p q =
        let e1 = among_with (drawn D) (has_left g v) (right (v - 1)) (v - 1) (with_edge (has_right g v) (right v) (v + 1) (with_edge (has_up g v) (down (v - g.width)) (v - g.width) (with_edge (has_down g v) (down v) (v + g.width) []))) in
        let e2 = among_with (drawn D) (has_right g v) (right v) (v + 1) (with_edge (has_up g v) (down (v - g.width)) (v - g.width) (with_edge (has_down g v) (down v) (v + g.width) [])) in
        let e3 = among_with (drawn D) (has_up g v) (down (v - g.width)) (v - g.width) (with_edge (has_down g v) (down v) (v + g.width) []) in
        let e4 = among_with (drawn D) (has_down g v) (down v) (v + g.width) [] in
        let e5 : among (drawn D) [] ≡ 0 = (unfold among in refl) in
        let l1 = ap num (decided_same D a (has_left g v) (right (v - 1)) (λ h. left_decided g wide S v at.passed h)) in
        let l2 = ap num (decided_same D a (has_up g v) (down (v - g.width)) (λ h. up_decided g wide S v at.inside at.passed h)) in
        let l3 : num (has_right g v && D.right v) ≡ num r = rw (at.right_there above_last, p) refl in
        let l4 : num (has_down g v && D.down v) ≡ num d = rw (above_last, q) refl in
        omega (arith, e1, e2, e3, e4, e5, l1, l2, l3, l4)

    passes_test : (D : Drawing) → Listed g D → Agrees D S → D.right v ≡ r → D.down v ≡ d → (eqb tried_degree 0 || eqb tried_degree 2) ≡ true
    passes_test D listed a p q = let e = its_whole_degree D a p q in
        either_on _ _ (⊎_map (λ h. eq-eqb tried_degree 0 (e ∙ h)) (λ h. eq-eqb tried_degree 2 (e ∙ h)) (its_degree g wide D listed v))

    -- THE BRANCH GOES ON at a later pad
    still_passed : Passed g wide after_both v
    still_passed = record {
      right = λ u l h. let k = at.passed.right u l h in ap is_undecided (onward.decided_stay (right u) k) ∙ k;
      down = λ u l h. let k = at.passed.down u l h in ap is_undecided (onward.decided_stay (down u) k) ∙ k;
    }

    still_shut : HolesShut g after_both
    still_shut u hole_is p m = let h = at.holes_shut u hole_is p m in onward.decided_stay p.0 (ap is_undecided h) ∙ h

    goes_on_at : after_both.flag ≡ false → NextFrom g proper after_both (v + 1) (next_pad g (pads g) v after_both)
    goes_on_at z = next_is_later g proper (pads g) after_both v (λ o. onward.still_holds z o (at.holds o)) still_passed at.inside
        (let k = at.inside in omega arith) (omega arith) above_last (ap is_undecided (right_set z) ∙ line_or_none_decided r)

    stands_next : after_both.flag ≡ false → StandsAt g proper after_both (next_pad g (pads g) v after_both)
    stands_next z = let p = goes_on_at z in
        record { clear = z; holds = λ o. onward.still_holds z o (at.holds o); holes_shut = still_shut; passed = p.passed; inside = p.inside; right_there = p.right_there }

    -- WHAT THE BRANCH LISTS
    pub branch_lists : (continue : ℕ → State → List Event) → ((w : ℕ) (T : State) → v < w → StandsAt g proper T w → Lists g (λ D. Agrees D T) (continue w T)) → ListsBranch S v r d (try g continue v S r d)
    unfolding try
    branch_lists continue later_lists = go (eqb tried_degree 0 || eqb tried_degree 2) refl after_both.flag refl
      where
        go : (b : Bool) → (eqb tried_degree 0 || eqb tried_degree 2) ≡ b → (f : Bool) → after_both.flag ≡ f → ListsBranch S v r d (try g continue v S r d)
        go false h f z = unfold after_right after_both tried_degree in (rw (h, try) (lists_none g _ (λ D listed (a, p, q). conflict (passes_test D listed a p q) h)))
        go true h true z = unfold after_right after_both tried_degree in (rw (h, try) (rw z (lists_none g _ (λ D listed (a, p, q). conflict z (goes_through D listed a p q).0))))
        go true h false z = unfold after_right after_both tried_degree in (rw (h, try) (rw z those))
          where
            those : ListsBranch S v r d (continue (next_pad g (pads g) v after_both) after_both)
            those = lists_alike g (λ D. Agrees D after_both) (Coded (λ D. Agrees D S) v r d) (continue (next_pad g (pads g) v after_both) after_both)
                (λ D listed a. (agrees_before D a, agrees_there r (right v) D a (right_set z), agrees_there d (down v) D a (down_set z)))
                (λ D listed (a, p, q). (goes_through D listed a p q).1)
                (later_lists (next_pad g (pads g) v after_both) after_both (let q = (goes_on_at z).on_to in omega arith) (stands_next z))
