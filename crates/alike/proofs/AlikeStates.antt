-- What is proved of the definitions in specs/AlikeStates.antt.
use Prim.Native.Nat.{ℕ, zero, suc, ◌+◌}
use Rattle.std.specs.Prelude.{◌≡◌, Bool, ◌&&◌, ◌||◌, not}
use Rattle.std.proofs.Math.Path.{refl, sym, ap}
use Rattle.std.proofs.Math.Bool.{true, false}
use mathlib.Core.List.{List, [], ◌∷◌, ◌++◌}
use Rattle.std.proofs.Math.Dec.{eqb, ltb, leb}
use Rattle.rules.specs.Grid.{Edge, right, down, first, second, Cell, clue, Grid, pads}
use Rattle.rules.specs.Drawing.{Side, on_left, on_right}
use Rattle.model.specs.JoinedEnds.{End}
use Rattle.model.specs.PadTests.{is_blank, is_hole, has_left, has_right, has_down, has_up, on_board}
use Rattle.model.specs.Board.{EdgeState, undecided, line, none, is_line, is_undecided, same_state, same_edge, State, set_edge, set_flag, Item, detour, corner, bar, check_pad, keep_apart, settle, detours, when, check_end, other_clue, lines, undecideds, Decide, Check, decide_first, line_or_none, keep_aparts, has_side, diagonal, barred, shape_items, around, degree, settled, do_item, do_items, check_items, cannot_join, join_ends, after_store, decide, check, enough, bare, shut, shut_at, prepared, fresh}
use Rattle.alike.specs.Alike.{Alike, same_clues, recoded, of_one_size}
use Rattle.alike.specs.AlikeEnds.{AlikeEnds, both_through, both_at_pad, both_at_clue, joined_alike, bare_end_alike}
use Rattle.alike.proofs.AlikeEnds.{unjoinable_alike}
use Rattle.alike.specs.AlikeStates.{AlikeStates, OneByOne, no_more, one_more}

-- what an item leaves: alike states, and the calls both end there or both go on
abbrev AlikeDone : Grid → Grid → State × Bool → State × Bool → Type 0
AlikeDone g h p q = AlikeStates g h p.0 q.0 × (p.1 ≡ q.1)

-- the decisions and checks of two grids keep states alike
record KeepAlike (g h : Grid) (dec dec' : Decide) (chk chk' : Check) : Type 0 where
  decisions : {S T : State} (e : Edge) (m : EdgeState) → AlikeStates g h S T → AlikeStates g h (dec e m S) (dec' e m T)
  checks : {S T : State} (v : ℕ) → AlikeStates g h S T → AlikeStates g h (chk v S) (chk' v T)

-- what is counted by the edges alone
module _ {g h : Grid} {S T : State} (r : AlikeStates g h S T) where
  pub edge_same : (e : Edge) → T.edge e ≡ S.edge e
  edge_same e = ap (λ (edge : Edge → EdgeState). edge e) (sym r.same_edges)

  lines_same : (l : List (Edge × ℕ)) → lines T l ≡ lines S l
  unfolding lines
  lines_same [] = refl
  lines_same (p ∷ l) = rw (edge_same p.0, lines_same l) refl

  undecideds_same : (l : List (Edge × ℕ)) → undecideds T l ≡ undecideds S l
  unfolding undecideds
  undecideds_same [] = refl
  undecideds_same (p ∷ l) = rw (edge_same p.0, undecideds_same l) refl

module _ (g : Grid) (cell : ℕ → Cell) (alike : Alike g (recoded g cell)) where
  abbrev h : Grid
  h = recoded g cell

  abbrev Ends : End → End → Type 0
  Ends A B = AlikeEnds g h A B

  abbrev States : State → State → Type 0
  States S T = AlikeStates g h S T

  other_clue_alike : {A B : End} (v c d : ℕ) → g.cell v ≡ clue c → cell v ≡ clue d → Ends A B → other_clue d B ≡ other_clue c A
  other_clue_alike v c d m n both_through = refl
  other_clue_alike v c d m n (both_at_pad u) = refl
  other_clue_alike v c d m n (both_at_clue u p q) = ap not (sym (alike.equal_codes v u _ _ _ _ m p n q))

  -- STATES
  flag_alike : {S T : State} → States S T → States (set_flag S) (set_flag T)
  unfolding set_flag
  flag_alike r = record { same_edges = r.same_edges; alike_ends = r.alike_ends; same_flag = refl }

  set_alike : {S T : State} (e : Edge) (m : EdgeState) → States S T → States (set_edge S e m) (set_edge T e m)
  unfolding set_edge
  set_alike e m r = record {
    same_edges = ap {B = Edge → EdgeState} (λ (edge : Edge → EdgeState) x. elim (same_edge x e) [ true ↦ m | false ↦ edge x ]) r.same_edges;
    alike_ends = r.alike_ends;
    same_flag = r.same_flag;
  }

  join_alike : {S T : State} (e : Edge) → States S T → States (join_ends g e S) (join_ends h e T)
  unfolding join_ends
  join_alike e r = record {
    same_edges = r.same_edges;
    alike_ends = joined_alike (first e) (second g.width e) r.alike_ends (r.alike_ends (first e)) (r.alike_ends (second g.width e));
    same_flag = r.same_flag;
  }

  cannot_join_alike : {S T : State} (e : Edge) → States S T → cannot_join h e T ≡ cannot_join g e S
  unfolding cannot_join
  cannot_join_alike e r = unjoinable_alike alike (r.alike_ends (first e)) (r.alike_ends (second g.width e)) (second g.width e)

  barred_alike : (side : Side) (n v : ℕ) → barred h side n v ≡ barred g side n v
  unfolding barred
  barred_alike side zero v = sym (alike.same_blanks v)
  barred_alike side (suc n) v = rw (← alike.same_blanks v)
      (ap (λ b. is_blank (g.cell v) && (elim (has_down g v && has_side g side v) [ true ↦ b | false ↦ true ])) (barred_alike side n (diagonal g side v)))

  degree_alike : {S T : State} → States S T → (v : ℕ) → degree h T v ≡ degree g S v
  unfolding degree around
  degree_alike r v = rw (← same_clues alike v, lines_same r (around g v)) refl

  -- ITEMS, by what the decisions and checks below them do
  module _ {dec dec' : Decide} {chk chk' : Check} (calls : KeepAlike g h dec dec' chk chk') where
    abbrev AlikeItem : Item → Item → Type 0
    AlikeItem a b = (S T : State) → States S T → AlikeDone g h (do_item g dec chk a S) (do_item h dec' chk' b T)

    with_flag : {S T : State} → States S T → AlikeDone g h (S, S.flag) (T, T.flag)
    with_flag r = (r, r.same_flag)

    detour_alike : (a b c : Edge) → AlikeItem (detour a b c) (detour a b c)
    unfolding do_item
    detour_alike a b c S T r = go (is_line (S.edge a)) refl (dec b none S).flag refl
      where
        go : (t : Bool) → is_line (S.edge a) ≡ t → (f : Bool) → (dec b none S).flag ≡ f → AlikeDone g h (do_item g dec chk (detour a b c) S) (do_item h dec' chk' (detour a b c) T)
        go false k f w = rw (edge_same r a, k, do_item) (r, refl)
        go true k true w = rw (edge_same r a, k, do_item) (rw (← (calls.decisions b none r).same_flag, w) (calls.decisions b none r, refl))
        go true k false w = rw (edge_same r a, k, do_item) (rw (← (calls.decisions b none r).same_flag, w) (with_flag (calls.decisions c none (calls.decisions b none r))))

    corner_alike : (q : ℕ) (a : Edge) (exist : Bool) (b c : Edge) → AlikeItem (corner q a exist b c) (corner q a exist b c)
    unfolding do_item
    corner_alike q a exist b c S T r = go (is_blank (g.cell q) && is_line (S.edge a)) refl exist
      where
        go : (t : Bool) → (is_blank (g.cell q) && is_line (S.edge a)) ≡ t → (exist : Bool)
            → AlikeDone g h (do_item g dec chk (corner q a exist b c) S) (do_item h dec' chk' (corner q a exist b c) T)
        go false k exist = rw (edge_same r a, ← alike.same_blanks q, k, do_item) (r, refl)
        go true k true = rw (edge_same r a, ← alike.same_blanks q, k, do_item) (calls.decisions c line (calls.decisions b line r), refl)
        go true k false = rw (edge_same r a, ← alike.same_blanks q, k, do_item) (flag_alike r, refl)

    bar_alike : (b c : Bool) (a : Edge) → c ≡ b → AlikeItem (bar b a) (bar c a)
    unfolding do_item
    bar_alike true c a k S T r = rw k (with_flag (calls.decisions a none r))
    bar_alike false c a k S T r = rw k (r, refl)

    check_pad_alike : (v : ℕ) → AlikeItem (check_pad v) (check_pad v)
    unfolding do_item
    check_pad_alike v S T r = with_flag (calls.checks v r)

    keep_apart_alike : (v c d : ℕ) → g.cell v ≡ clue c → cell v ≡ clue d → (e : Edge) (u : ℕ) → AlikeItem (keep_apart c e u) (keep_apart d e u)
    unfolding do_item
    keep_apart_alike v c d m n e u S T r = go (is_undecided (S.edge e) && other_clue c (S.end u)) refl
      where
        go : (t : Bool) → (is_undecided (S.edge e) && other_clue c (S.end u)) ≡ t → AlikeDone g h (do_item g dec chk (keep_apart c e u) S) (do_item h dec' chk' (keep_apart d e u) T)
        go true k = rw (edge_same r e, other_clue_alike v c d m n (r.alike_ends u), k, do_item) (with_flag (calls.decisions e none r))
        go false k = rw (edge_same r e, other_clue_alike v c d m n (r.alike_ends u), k, do_item) (r, refl)

    first_alike : (m : EdgeState) (l : List (Edge × ℕ)) (S T : State) → States S T → States (decide_first dec m l S) (decide_first dec' m l T)
    unfolding decide_first
    first_alike m [] S T r = r
    first_alike m (p ∷ l) S T r = go (is_undecided (S.edge p.0)) refl (first_alike m l S T r)
      where
        go : (t : Bool) → is_undecided (S.edge p.0) ≡ t → States (decide_first dec m l S) (decide_first dec' m l T) → States (decide_first dec m (p ∷ l) S) (decide_first dec' m (p ∷ l) T)
        go true k rest = rw (edge_same r p.0, k, decide_first) (calls.decisions p.0 m r)
        go false k rest = rw (edge_same r p.0, k, decide_first) rest

    settle_alike : (v : ℕ) → AlikeItem (settle v) (settle v)
    unfolding do_item settled around
    settle_alike v S T r = (go (ltb 2 d || (eqb d 1 && eqb n 0)) refl (eqb n 1 || leb 2 d) refl, refl)
      where
        d : ℕ
        d = degree g S v

        n : ℕ
        n = undecideds S (around g v)

        go : (t : Bool) → (ltb 2 d || (eqb d 1 && eqb n 0)) ≡ t → (y : Bool) → (eqb n 1 || leb 2 d) ≡ y → States (settled g dec v S) (settled h dec' v T)
        go true k y w = rw (degree_alike r v, undecideds_same r (around g v), k, settled) (flag_alike r)
        go false k false w = rw (degree_alike r v, undecideds_same r (around g v), k, settled) (rw (degree_alike r v, undecideds_same r (around g v), w) r)
        go false k true w = rw (degree_alike r v, undecideds_same r (around g v), k, settled) (rw (degree_alike r v, undecideds_same r (around g v), w) (rw (degree_alike r v) (first_alike (line_or_none (eqb d 1)) (around g v) S T r)))

    -- LISTS OF ITEMS
    abbrev AlikeItems : List Item → List Item → Type 0
    AlikeItems is js = OneByOne AlikeItem is js

    append_alike : {is js more others : List Item} → AlikeItems is js → AlikeItems more others → AlikeItems (is ++ more) (js ++ others)
    append_alike no_more b = b
    append_alike (one_more x a) b = one_more x (append_alike a b)

    when_alike : (b : Bool) {is js : List Item} → AlikeItems is js → AlikeItems (when b is) (when b js)
    when_alike true a = a
    when_alike false a = no_more

    items_alike : {is js : List Item} → AlikeItems is js → (S T : State) → States S T → States (do_items g dec chk is S) (do_items h dec' chk' js T)
    unfolding do_items
    items_alike no_more S T r = r
    items_alike (one_more {a} {b} {more} {others} x rest) S T r = go (do_item g dec chk a S).1 refl (items_alike rest _ _ (x S T r).0)
      where
        go : (t : Bool) → (do_item g dec chk a S).1 ≡ t → States (do_items g dec chk more (do_item g dec chk a S).0) (do_items h dec' chk' others (do_item h dec' chk' b T).0)
            → States (do_items g dec chk (a ∷ more) S) (do_items h dec' chk' (b ∷ others) T)
        go true k later = rw (← (x S T r).1, k, do_items) (x S T r).0
        go false k later = rw (← (x S T r).1, k, do_items) later

    detours_alike : (a b c : Edge) → AlikeItems (detours a b c) (detours a b c)
    detours_alike a b c = one_more (detour_alike a b c) (one_more (detour_alike b a c) (one_more (detour_alike c a b) no_more))

    shape_alike : (e : Edge) → AlikeItems (shape_items g e) (shape_items h e)
    unfolding shape_items
    shape_alike (right v) = when_alike (has_right g v && ltb v (pads g))
        (append_alike (when_alike (has_up g v) (detours_alike _ _ _))
        (append_alike (when_alike (has_down g v) (detours_alike _ _ _))
        (when_alike (has_down g v) (one_more (corner_alike _ _ _ _ _) (one_more (corner_alike _ _ _ _ _)
        (one_more (bar_alike _ _ _ (barred_alike on_right g.height v)) (one_more (bar_alike _ _ _ (barred_alike on_left g.height (v + 1))) no_more)))))))
    shape_alike (down v) = when_alike (has_down g v)
        (append_alike (when_alike (has_left g v) (detours_alike _ _ _))
        (append_alike (when_alike (has_right g v) (detours_alike _ _ _))
        (append_alike (when_alike (has_left g v) (one_more (corner_alike _ _ _ _ _) no_more))
        (append_alike (when_alike (has_right g v) (one_more (corner_alike _ _ _ _ _) no_more))
        (append_alike (when_alike (has_left g v) (one_more (bar_alike _ _ _ (barred_alike on_left g.height v)) no_more))
        (when_alike (has_right g v) (one_more (bar_alike _ _ _ (barred_alike on_right g.height v)) no_more)))))))

    check_end_alike : {A B : End} → Ends A B → AlikeItems (check_end A) (check_end B)
    check_end_alike both_through = no_more
    check_end_alike (both_at_pad v) = one_more (check_pad_alike v) no_more
    check_end_alike (both_at_clue v p q) = no_more

    keep_aparts_alike : (v c d : ℕ) → g.cell v ≡ clue c → cell v ≡ clue d → (l : List (Edge × ℕ)) → AlikeItems (keep_aparts c l) (keep_aparts d l)
    unfolding keep_aparts
    keep_aparts_alike v c d m n [] = no_more
    keep_aparts_alike v c d m n (p ∷ l) = one_more (keep_apart_alike v c d m n p.0 p.1) (keep_aparts_alike v c d m n l)

    check_items_alike : (v : ℕ) {A B : End} → Ends A B → AlikeItems (check_items g v A) (check_items h v B)
    unfolding check_items around
    check_items_alike v both_through = one_more (settle_alike v) no_more
    check_items_alike v (both_at_pad u) = one_more (settle_alike v) no_more
    check_items_alike v (both_at_clue u p q) = append_alike (keep_aparts_alike u _ _ p q (around g v)) (one_more (settle_alike v) no_more)

    -- A DECISION after its state is stored
    two_checks : (u v : ℕ) {is js : List Item} → AlikeItems is js → AlikeItems (check_pad u ∷ check_pad v ∷ is) (check_pad u ∷ check_pad v ∷ js)
    two_checks u v a = one_more (check_pad_alike u) (one_more (check_pad_alike v) a)

    after_alike : (e : Edge) (m : EdgeState) (S T : State) → States S T → States (after_store g dec chk e m S) (after_store h dec' chk' e m T)
    unfolding after_store
    after_alike e undecided S T r = r
    after_alike e none S T r = items_alike (two_checks (first e) (second g.width e) no_more) S T r
    after_alike e line S T r = go (cannot_join g e S) refl
      where
        go : (b : Bool) → cannot_join g e S ≡ b → States (after_store g dec chk e line S) (after_store h dec' chk' e line T)
        go true k = rw (cannot_join_alike e r, k, after_store) (flag_alike r)
        go false k = rw (cannot_join_alike e r, k, after_store) (items_alike
            (append_alike (shape_alike e) (two_checks (first e) (second g.width e)
            (append_alike (check_end_alike (r.alike_ends (first e))) (check_end_alike (r.alike_ends (second g.width e))))))
            _ _ (join_alike e r))

  -- THE INDUCTION over the bound on the nesting
  calls_alike : (f : ℕ) → KeepAlike g h (λ e m S. decide g f e m S) (λ e m S. decide h f e m S) (λ v S. check g f v S) (λ v S. check h f v S)
  unfolding decide
  calls_alike zero = record { decisions = λ e m r. flag_alike r; checks = λ v r. flag_alike r }
  calls_alike (suc f) = record { decisions = λ e m r. decided (calls_alike f) e m _ _ r; checks = λ v r. items_alike (calls_alike f) (check_items_alike (calls_alike f) v (r.alike_ends v)) _ _ r }
    where
      decided : KeepAlike g h (λ e m S. decide g f e m S) (λ e m S. decide h f e m S) (λ v S. check g f v S) (λ v S. check h f v S)
          → (e : Edge) (m : EdgeState) (S T : State) → States S T → States (decide g (suc f) e m S) (decide h (suc f) e m T)
      decided calls e m S T r = go (on_board g e) refl (is_undecided (S.edge e)) refl (same_state (S.edge e) m) refl
        where
          go : (b : Bool) → on_board g e ≡ b → (o : Bool) → is_undecided (S.edge e) ≡ o → (s : Bool) → same_state (S.edge e) m ≡ s → States (decide g (suc f) e m S) (decide h (suc f) e m T)
          go false on o k s w = rw (on, decide) (flag_alike r)
          go true on true k s w = rw (on, edge_same r e, k, decide) (after_alike calls e m _ _ (set_alike e m r))
          go true on false k true w = rw (on, edge_same r e, k, decide) (rw (edge_same r e, w) r)
          go true on false k false w = rw (on, edge_same r e, k, decide) (rw (edge_same r e, w) (flag_alike r))

  -- THE FRESH BOARD
  bare_alike : States (bare g) (bare h)
  unfolding bare
  bare_alike = record { same_edges = refl; alike_ends = bare_end_alike alike; same_flag = refl }

  shut_alike : (l : List (Edge × ℕ)) (S T : State) → States S T → States (shut g l S) (shut h l T)
  unfolding shut enough
  shut_alike [] S T r = r
  shut_alike (p ∷ l) S T r = shut_alike l _ _ ((calls_alike (enough g)).decisions p.0 none r)

  shut_at_alike : (v : ℕ) (S T : State) → States S T → States (shut_at g v S) (shut_at h v T)
  unfolding shut_at around
  shut_at_alike v S T r = go (is_hole (g.cell v)) refl
    where
      go : (b : Bool) → is_hole (g.cell v) ≡ b → States (shut_at g v S) (shut_at h v T)
      go true k = rw (← alike.same_holes v, k, shut_at) (shut_alike (around g v) S T r)
      go false k = rw (← alike.same_holes v, k, shut_at) r

  prepared_alike : (n v : ℕ) (S T : State) → States S T → States (prepared g n v S) (prepared h n v T)
  unfolding prepared
  prepared_alike zero v S T r = r
  prepared_alike (suc n) v S T r = prepared_alike n (v + 1) _ _ (shut_at_alike v S T r)

  fresh_boards : States (fresh g) (fresh h)
  unfolding fresh
  fresh_boards = prepared_alike (pads g) 0 _ _ bare_alike

-- THE THEOREMS, for two alike grids
module _ {g h : Grid} (alike : Alike g h) where
  pub decide_alike : (fuel : ℕ) (e : Edge) (m : EdgeState) (S T : State) → AlikeStates g h S T → AlikeStates g h (decide g fuel e m S) (decide h fuel e m T)
  decide_alike fuel e m S T = of_one_size (λ k. AlikeStates g k S T → AlikeStates g k (decide g fuel e m S) (decide k fuel e m T)) alike
      (λ cell a r. (calls_alike g cell a fuel).decisions e m r)

  pub check_alike : (fuel v : ℕ) (S T : State) → AlikeStates g h S T → AlikeStates g h (check g fuel v S) (check h fuel v T)
  check_alike fuel v S T = of_one_size (λ k. AlikeStates g k S T → AlikeStates g k (check g fuel v S) (check k fuel v T)) alike
      (λ cell a r. (calls_alike g cell a fuel).checks v r)

  pub fresh_alike : AlikeStates g h (fresh g) (fresh h)
  fresh_alike = of_one_size (λ k. AlikeStates g k (fresh g) (fresh k)) alike (fresh_boards g)
