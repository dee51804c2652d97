-- The bound on the nesting of decisions and checks: any number above the weight, 2 × undecided edges for a decision and one more for a
-- check, gives the same result as any other, so `enough` is enough. What code does for every number above the weight, it does for
-- `enough`: decide-enough, check-enough. One induction over the two bounds at once, with one lemma for each kind of item.
use Prim.Native.Nat.{ℕ, zero, suc, ◌+◌, ◌*◌, ◌≤◌, ◌<◌}
use Rattle.std.specs.Prelude.{◌≡◌, Bool, ◌&&◌, ◌||◌, ltb}
use Rattle.std.proofs.Math.Path.{refl, ap}
use Rattle.std.proofs.Common.{sym, ◌∙◌, arith}
use Rattle.std.proofs.Math.Logic.{⊎_elim}
use Rattle.std.proofs.Math.Bool.{true, false}
use mathlib.Core.List.Memᴰ
use mathlib.Core.List.{List, [], ◌∷◌, ◌++◌, Memᴰ}
use Rattle.std.proofs.Math.Decide.{dec_le}
use Rattle.std.proofs.Math.Dec.{eqb, leb}
use Rattle.rules.specs.Grid.{Edge, Grid}
use Rattle.model.specs.JoinedEnds.{End, through, at_pad, at_clue}
use Rattle.model.specs.PadTests.{is_blank, on_board}
use Rattle.model.specs.Board.{EdgeState, is_line, is_undecided, State, set_edge, Item, other_clue, undecideds, Decide, Check, decide_first, line_or_none, keep_aparts, around, degree, settled, do_item, do_items, check_items, cannot_join, join_ends, after_store, decide, check, enough, undecided, line, none, detour, corner, bar, check_pad, keep_apart, settle}
use Rattle.propagation.specs.Undecided.{undecided_edges, undecided_no_more, undecided_less, enough_is_more}
use Rattle.propagation.specs.Edges.{set_here, set_stays, line_or_none_decided}
use Rattle.propagation.specs.Items.{Onward, CallsKeep, item_done}
use Rattle.propagation.specs.Kept.{calls_keep}
use Rattle.propagation.specs.Squares.{geometry}

module _ (g : Grid) (wide : 2 ≤ g.width) where
  -- ONE ITEM under two bounds, where the decisions below the first bound b are the same
  module _ (dec dec' : Decide) (chk chk' : Check) (calls : CallsKeep g dec chk) (b c : ℕ) (some : 1 ≤ c)
      (same_decision : (e : Edge) (m : EdgeState) (S : State) → is_undecided m ≡ false → 2 * undecided_edges g S + 1 ≤ b → dec e m S ≡ dec' e m S) where
    abbrev SameItem : Item → Type 0
    SameItem it = (S : State) → 2 * undecided_edges g S + c ≤ b → do_item g dec chk it S ≡ do_item g dec' chk' it S

    still_below : (S T : State) → Onward g S T → 2 * undecided_edges g S + c ≤ b → 2 * undecided_edges g T + 1 ≤ b
    still_below S T p h = let k = undecided_no_more g S T p.decided_stay in omega arith

    same_bar : (barred : Bool) (a : Edge) → SameItem (bar barred a)
    unfolding do_item
    same_bar true a S h = rw (same_decision a none S refl (omega arith)) refl
    same_bar false a S h = refl

    same_detour : (x p q : Edge) → SameItem (detour x p q)
    unfolding do_item
    same_detour x p q S h = go (is_line (S.edge x)) refl (dec p none S).flag refl
      where
        first_same : dec p none S ≡ dec' p none S
        first_same = same_decision p none S refl (omega arith)

        both_same : dec q none (dec p none S) ≡ dec' q none (dec' p none S)
        both_same = same_decision q none (dec p none S) refl (still_below S (dec p none S) (calls.decide_onward p none S refl) h) ∙ ap (dec' q none) first_same

        go : (t : Bool) → is_line (S.edge x) ≡ t → (f : Bool) → (dec p none S).flag ≡ f → do_item g dec chk (detour x p q) S ≡ do_item g dec' chk' (detour x p q) S
        go false k f w = rw (k, do_item) refl
        go true k true w = rw (k, do_item) (rw (w, sym (ap (λ (T : State). T.flag) first_same) ∙ w) (ap (λ (T : State). (T, true)) first_same))
        go true k false w = rw (k, do_item) (rw (w, sym (ap (λ (T : State). T.flag) first_same) ∙ w) (ap (λ (T : State). (T, T.flag)) both_same))

    same_corner : (d : ℕ) (x : Edge) (exist : Bool) (p q : Edge) → SameItem (corner d x exist p q)
    unfolding do_item
    same_corner d x exist p q S h = go (is_blank (g.cell d) && is_line (S.edge x)) refl exist refl
      where
        both_same : dec q line (dec p line S) ≡ dec' q line (dec' p line S)
        both_same = same_decision q line (dec p line S) refl (still_below S (dec p line S) (calls.decide_onward p line S refl) h) ∙ ap (dec' q line) (same_decision p line S refl (omega arith))

        go : (t : Bool) → (is_blank (g.cell d) && is_line (S.edge x)) ≡ t → (y : Bool) → exist ≡ y → do_item g dec chk (corner d x exist p q) S ≡ do_item g dec' chk' (corner d x exist p q) S
        go false k y w = rw (k, do_item) refl
        go true k true w = rw (k, do_item) (rw w (ap (λ (T : State). (T, false)) both_same))
        go true k false w = rw (k, do_item) (rw w refl)

    same_keep_apart : (code : ℕ) (e : Edge) (u : ℕ) → SameItem (keep_apart code e u)
    unfolding do_item
    same_keep_apart code e u S h = go (is_undecided (S.edge e) && other_clue code (S.end u)) refl
      where
        go : (t : Bool) → (is_undecided (S.edge e) && other_clue code (S.end u)) ≡ t → do_item g dec chk (keep_apart code e u) S ≡ do_item g dec' chk' (keep_apart code e u) S
        go false k = rw (k, do_item) refl
        go true k = rw (k, do_item) (ap (λ (T : State). (T, T.flag)) (same_decision e none S refl (omega arith)))

    same_check_pad : (v : ℕ) → ((S : State) → 2 * undecided_edges g S + c ≤ b → chk v S ≡ chk' v S) → SameItem (check_pad v)
    unfolding do_item
    same_check_pad v same_check S h = ap (λ (T : State). (T, T.flag)) (same_check S h)

    same_first : (m : EdgeState) (l : List (Edge × ℕ)) (S : State) → is_undecided m ≡ false → 2 * undecided_edges g S + c ≤ b → decide_first dec m l S ≡ decide_first dec' m l S
    unfolding decide_first
    same_first m [] S o h = refl
    same_first m (p ∷ l) S o h = go (is_undecided (S.edge p.0)) refl (same_first m l S o h)
      where
        go : (t : Bool) → is_undecided (S.edge p.0) ≡ t → decide_first dec m l S ≡ decide_first dec' m l S → decide_first dec m (p ∷ l) S ≡ decide_first dec' m (p ∷ l) S
        go true k r = rw (k, decide_first) (same_decision p.0 m S o (omega arith))
        go false k r = rw (k, decide_first) r

    same_settle : (v : ℕ) → SameItem (settle v)
    unfolding do_item settled
    same_settle v S h = ap (λ (T : State). (T, false)) (go (ltb 2 d || (eqb d 1 && eqb n 0)) refl (eqb n 1 || leb 2 d) refl)
      where
        d : ℕ
        d = degree g S v

        n : ℕ
        n = undecideds S (around g v)

        go : (t : Bool) → (ltb 2 d || (eqb d 1 && eqb n 0)) ≡ t → (y : Bool) → (eqb n 1 || leb 2 d) ≡ y → settled g dec v S ≡ settled g dec' v S
        go true k y w = rw (k, settled) refl
        go false k false w = rw (k, settled) (rw w refl)
        go false k true w = rw (k, settled) (rw w (same_first (line_or_none (eqb d 1)) (around g v) S (line_or_none_decided (eqb d 1)) h))

    -- A LIST OF ITEMS
    same_items : (is : List Item) → ((it : Item) → Memᴰ it is → SameItem it) → (S : State) → 2 * undecided_edges g S + c ≤ b → do_items g dec chk is S ≡ do_items g dec' chk' is S
    unfolding do_items
    same_items [] all S h = refl
    same_items (it ∷ is) all S h = go (do_item g dec chk it S).1 refl
        (same_items is (λ i m. all i (Memᴰ.tail m)) (do_item g dec chk it S).0
        (let k = undecided_no_more g S (do_item g dec chk it S).0 (item_done g dec chk calls S it).onward.decided_stay in omega arith))
      where
        e : do_item g dec chk it S ≡ do_item g dec' chk' it S
        e = all it (Memᴰ.head refl) S h

        go : (t : Bool) → (do_item g dec chk it S).1 ≡ t → do_items g dec chk is (do_item g dec chk it S).0 ≡ do_items g dec' chk' is (do_item g dec chk it S).0
            → do_items g dec chk (it ∷ is) S ≡ do_items g dec' chk' (it ∷ is) S
        go true k r = rw (k, do_items) (rw (sym (ap (λ (p : State × Bool). p.1) e) ∙ k, do_items) (ap (λ (p : State × Bool). p.0) e))
        go false k r = rw (k, do_items) (rw (sym (ap (λ (p : State × Bool). p.1) e) ∙ k, do_items) (r ∙ ap (λ (p : State × Bool). do_items g dec' chk' is p.0) e))

    every_item : ((v : ℕ) (S : State) → 2 * undecided_edges g S + c ≤ b → chk v S ≡ chk' v S) → (it : Item) → SameItem it
    every_item same_check (detour x p q) = same_detour x p q
    every_item same_check (corner d x exist p q) = same_corner d x exist p q
    every_item same_check (bar barred a) = same_bar barred a
    every_item same_check (check_pad v) = same_check_pad v (same_check v)
    every_item same_check (keep_apart code e u) = same_keep_apart code e u
    every_item same_check (settle v) = same_settle v

    -- the items of a pad check, which checks no other pad
    apart_items : (code : ℕ) (l : List (Edge × ℕ)) (v : ℕ) (it : Item) → Memᴰ it (keep_aparts code l ++ (settle v ∷ [])) → SameItem it
    unfolding keep_aparts
    apart_items code [] v it m = ⊎_elim (λ e. rw e (same_settle v)) (λ n. absurd (Memᴰ.not-nil n)) (Memᴰ.cases_cons m)
    apart_items code (p ∷ l) v it m = ⊎_elim (λ e. rw e (same_keep_apart code p.0 p.1)) (apart_items code l v it) (Memᴰ.cases_cons m)

    items_of_check : (v : ℕ) (X : End) (it : Item) → Memᴰ it (check_items g v X) → SameItem it
    unfolding check_items
    items_of_check v through it m = ⊎_elim (λ e. rw e (same_settle v)) (λ n. absurd (Memᴰ.not-nil n)) (Memᴰ.cases_cons m)
    items_of_check v (at_pad a) it m = ⊎_elim (λ e. rw e (same_settle v)) (λ n. absurd (Memᴰ.not-nil n)) (Memᴰ.cases_cons m)
    items_of_check v (at_clue code) it m = apart_items code (around g v) v it m

  -- THE INDUCTION over two bounds f ≤ f'
  abbrev SameDecide : ℕ → ℕ → Type 0
  SameDecide f f' = (e : Edge) (m : EdgeState) (S : State) → is_undecided m ≡ false → 2 * undecided_edges g S + 1 ≤ f → decide g f e m S ≡ decide g f' e m S

  abbrev SameCheck : ℕ → ℕ → Type 0
  SameCheck f f' = (v : ℕ) (S : State) → 2 * undecided_edges g S + 2 ≤ f → check g f v S ≡ check g f' v S

  module _ (f f' : ℕ) (same_decision : SameDecide f f') (same_check : SameCheck f f') where
    abbrev dec : Decide
    dec a k T = decide g f a k T

    abbrev dec' : Decide
    dec' a k T = decide g f' a k T

    abbrev chk : Check
    chk v T = check g f v T

    abbrev chk' : Check
    chk' v T = check g f' v T

    calls : CallsKeep g dec chk
    calls = calls_keep g (geometry g wide) f

    check_step : SameCheck (suc f) (suc f')
    unfolding decide
    check_step v S h = same_items dec dec' chk chk' calls f 1 (omega arith) same_decision (check_items g v (S.end v))
        (items_of_check dec dec' chk chk' calls f 1 (omega arith) same_decision v (S.end v)) S (omega arith)

    ends_decide_nothing : (e : Edge) (S : State) → undecided_edges g (join_ends g e S) ≡ undecided_edges g S
    unfolding undecided_edges join_ends
    ends_decide_nothing e S = refl

    after_step : (e : Edge) (m : EdgeState) (S : State) → 2 * undecided_edges g S + 2 ≤ f → after_store g dec chk e m S ≡ after_store g dec' chk' e m S
    unfolding after_store
    after_step e undecided S h = refl
    after_step e none S h = same_items dec dec' chk chk' calls f 2 (omega arith) same_decision _ (λ it m. every_item dec dec' chk chk' calls f 2 (omega arith) same_decision same_check it) S h
    after_step e line S h = go (cannot_join g e S) refl
      where
        go : (b : Bool) → cannot_join g e S ≡ b → after_store g dec chk e line S ≡ after_store g dec' chk' e line S
        go true k = rw (k, after_store) refl
        go false k = rw (k, after_store) (same_items dec dec' chk chk' calls f 2 (omega arith) same_decision _
            (λ it m. every_item dec dec' chk chk' calls f 2 (omega arith) same_decision same_check it) (join_ends g e S) (rw (ends_decide_nothing e S) h))

    decide_step : SameDecide (suc f) (suc f')
    unfolding decide
    decide_step e m S mo h = go (on_board g e) refl (is_undecided (S.edge e)) refl
      where
        less : on_board g e ≡ true → is_undecided (S.edge e) ≡ true → undecided_edges g (set_edge S e m) < undecided_edges g S
        less on o = undecided_less g S (set_edge S e m) e on o (ap is_undecided (set_here S e m) ∙ mo) (set_stays S e m o)

        go : (b : Bool) → on_board g e ≡ b → (o : Bool) → is_undecided (S.edge e) ≡ o → decide g (suc f) e m S ≡ decide g (suc f') e m S
        go false on o k = rw (on, decide) refl
        go true on false k = rw (on, decide) (rw k refl)
        go true on true k = rw (on, decide) (rw k (after_step e m (set_edge S e m) (let q = less on k in omega arith)))

  more_is_the_same : (f f' : ℕ) → f ≤ f' → SameDecide f f' × SameCheck f f'
  more_is_the_same zero f' l = ((λ e m S o h. absurd (omega arith)), (λ v S h. absurd (omega arith)))
  more_is_the_same (suc f) zero l = absurd (omega arith)
  more_is_the_same (suc f) (suc f') l = let r = more_is_the_same f f' (omega arith) in (decide_step f f' r.0 r.1, check_step f f' r.0 r.1)

  undecided_same : (f f' : ℕ) (e : Edge) (S : State) → 1 ≤ f → 1 ≤ f' → decide g f e undecided S ≡ decide g f' e undecided S
  unfolding decide after_store
  undecided_same zero f' e S h k = absurd (omega arith)
  undecided_same (suc f) zero e S h k = absurd (omega arith)
  undecided_same (suc f) (suc f') e S h k = refl

  -- ANY NUMBER ABOVE THE WEIGHT gives the same as any other
  pub decide_same : (f f' : ℕ) (e : Edge) (m : EdgeState) (S : State) → 2 * undecided_edges g S < f → 2 * undecided_edges g S < f' → decide g f e m S ≡ decide g f' e m S
  decide_same f f' e m S h k = by m
    where
      decided_same : (m : EdgeState) → is_undecided m ≡ false → decide g f e m S ≡ decide g f' e m S
      decided_same m d = elim (dec_le f f') [
        | yes l ↦ (more_is_the_same f f' l).0 e m S d (omega arith)
        | no n ↦ sym ((more_is_the_same f' f (omega arith)).0 e m S d (omega arith))
      ]

      by : (m : EdgeState) → decide g f e m S ≡ decide g f' e m S
      by undecided = undecided_same f f' e S (omega arith) (omega arith)
      by line = decided_same line refl
      by none = decided_same none refl

  pub check_same : (f f' v : ℕ) (S : State) → 2 * undecided_edges g S + 1 < f → 2 * undecided_edges g S + 1 < f' → check g f v S ≡ check g f' v S
  check_same f f' v S h k = elim (dec_le f f') [
    | yes l ↦ (more_is_the_same f f' l).1 v S (omega arith)
    | no n ↦ sym ((more_is_the_same f' f (omega arith)).1 v S (omega arith))
  ]

  -- SO `enough` IS ENOUGH
  pub decide_enough : (f : ℕ) (e : Edge) (m : EdgeState) (S : State) → 2 * undecided_edges g S < f → decide g f e m S ≡ decide g (enough g) e m S
  decide_enough f e m S h = decide_same f (enough g) e m S h (let k = enough_is_more g S in omega arith)

  pub check_enough : (f v : ℕ) (S : State) → 2 * undecided_edges g S + 1 < f → check g f v S ≡ check g (enough g) v S
  check_enough f v S h = check_same f (enough g) v S h (let k = enough_is_more g S in omega arith)
