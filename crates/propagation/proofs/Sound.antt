-- No listed drawing is lost: a decision that a listed drawing agrees with leaves the flag clear, and the drawing agrees with the result.
-- The same induction as in Kept.antt, with one lemma for each kind of item; the bound on the nesting must exceed the weight here,
-- 2 × undecided edges for a decision and one more for a check, since running out of it would set the flag. What a state must
-- fulfil is specs/Sound.antt.
use Prim.Native.Nat.{ℕ, zero, suc, ◌+◌, ◌*◌, ◌≤◌, ◌<◌}
use Rattle.std.specs.Prelude.{◌≡◌, ◌≢◌, Bool, ◌&&◌, ◌||◌, not, ltb}
use Rattle.std.proofs.Math.Path.{refl}
use Rattle.std.proofs.Common.{sym, ◌∙◌, ap, inl, inr, arith, eq-eqb, eqb-true, leb-true, ltb-true}
use Rattle.std.proofs.Math.Logic.{⊎_elim}
use Rattle.std.proofs.Math.Bool.{true, false}
use mathlib.Core.List.Memᴰ
use mathlib.Core.List.{List, [], ◌∷◌, ◌++◌, Memᴰ}
use Rattle.std.proofs.Math.Dec.{eqb, leb}
use Rattle.rules.specs.Grid.{Edge, first, second, Grid, pads, clue}
use Rattle.rules.specs.Drawing.{Drawing, drawn, Line, Joined, Wired, Listed, more}
use Rattle.rules.specs.Places.{zero≢one}
use Rattle.rules.specs.Tests.{both, either, conflict, not_so}
use Rattle.model.specs.JoinedEnds.{End, through, at_pad, at_clue}
use Rattle.model.specs.PadTests.{is_blank, on_board}
use Rattle.model.specs.Board.{EdgeState, is_line, is_undecided, same_state, State, set_edge, Item, check_end, other_clue, undecideds, Decide, Check, line_or_none, keep_aparts, shape_items, around, degree, settled, do_item, do_items, check_items, cannot_join, join_ends, after_store, decide, check, undecided, line, none, detour, corner, bar, check_pad, keep_apart, settle}
use Rattle.propagation.specs.Undecided.{undecided_edges, undecided_no_more, undecided_less}
use Rattle.rules.specs.Chains.{Symmetric, join_trans, join_sym, join_mono, line_back}
use Rattle.ends.specs.Refutation.{nothing_against}
use Rattle.propagation.specs.Edges.{same_or_not, set_here, set_elsewhere, set_stays, is_line-true, line_or_none_decided, drawing, board_lines, Along, edge_of, is_way}
use Rattle.propagation.specs.Objects.{Holds, Plain, is_detour, is_corner, is_bar}
use Rattle.propagation.specs.Items.{Onward, CallsKeep, item_done, goes_on}
use Rattle.propagation.specs.Settling.{FirstUndecided, find_first}
use Rattle.propagation.specs.StoredState.{flag_kept, none_chains, with_line, line_here, line_flag, line_stays, line_chains, no_line_before}
use Rattle.propagation.specs.Kept.{calls_keep}
use Rattle.propagation.specs.Squares.{around_on, geometry}
use Rattle.propagation.specs.Counting.{leads}
use Rattle.propagation.specs.Agreement.{Agrees, drawn_degree, NoneOrTwo, DegreeLeft, degree_left, must_be}
use Rattle.propagation.specs.ListedDrawing.{its_line, both_pads, reach, its_degree, detours_right, corners_right, bars_right}
use Rattle.propagation.specs.Sound.{Fits}

module _ (g : Grid) (wide : 2 ≤ g.width) (D : Drawing) (listed : Listed g D) where
  abbrev Linked : ℕ → ℕ → Type 0
  Linked = Line g.width D

  abbrev wired : Wired g.cell Linked
  wired = listed.ordinary.wired

  abbrev both_ways : Symmetric Linked
  both_ways = line_back g.width D

  -- the board's lines are lines of the drawing
  along : (S : State) → Fits g D S → (x y : ℕ) → Along g S x y → Linked x y
  along S f x y t = let d = its_line g wide D listed t.edge (f.agrees.where_line t.edge t.is) in
      ⊎_elim (λ (p, q). rw (p, q) d) (λ (p, q). rw (p, q) (both_ways _ _ d)) t.ends

  within : (S : State) → Fits g D S → (x y : ℕ) → board_lines g S x y → Linked x y
  within S f x y l = along S f x y (edge_of g S x y l)

  other_code : (c : ℕ) (X : End) → other_clue c X ≡ true → (d : ℕ) × (X ≡ at_clue d) × (c ≢ d)
  other_code c through h = zero≢one (cc)
  other_code c (at_pad a) h = zero≢one (cc)
  other_code c (at_clue d) h = (d, refl, λ e. let k = eq-eqb c d e in let j : not (eqb c d) ≡ false = rw k refl in zero≢one (cc))

  -- ONE ITEM, below the bound f by at least b
  module _ (dec : Decide) (chk : Check) (calls : CallsKeep g dec chk) (f b : ℕ) (some : 1 ≤ b)
      (sound_decide : (e : Edge) (m : EdgeState) (S : State) → on_board g e ≡ true → is_undecided m ≡ false → drawn D e ≡ is_line m → Fits g D S
      → 2 * undecided_edges g S + 1 ≤ f → Fits g D (dec e m S)) where
    abbrev SoundItem : Item → Type 0
    SoundItem it = (S : State) → Fits g D S → 2 * undecided_edges g S + b ≤ f → Fits g D (do_item g dec chk it S).0 × ((do_item g dec chk it S).1 ≡ false)

    still_below : (S T : State) → Onward g S T → 2 * undecided_edges g S + b ≤ f → 2 * undecided_edges g T + b ≤ f
    still_below S T p h = let k = undecided_no_more g S T p.decided_stay in omega arith

    sound_bar : (barred : Bool) (a : Edge) → (barred ≡ true → (on_board g a ≡ true) × (drawn D a ≡ false)) → SoundItem (bar barred a)
    unfolding do_item
    sound_bar true a h S fits n = let T = sound_decide a none S (h refl).0 refl (h refl).1 fits (omega arith) in (T, T.clear)
    sound_bar false a h S fits n = (fits, refl)

    sound_detour : (a p q : Edge) → (on_board g p ≡ true) × (on_board g q ≡ true) × (drawn D a ≡ true → (drawn D p ≡ false) × (drawn D q ≡ false)) → SoundItem (detour a p q)
    unfolding do_item
    sound_detour a p q (op, oq, ruled) S fits n = go (is_line (S.edge a)) refl
      where
        go : (t : Bool) → is_line (S.edge a) ≡ t → Fits g D (do_item g dec chk (detour a p q) S).0 × ((do_item g dec chk (detour a p q) S).1 ≡ false)
        go false h = rw (h, do_item) (fits, refl)
        go true h =
            let i = ruled (fits.agrees.where_line a (is_line-true (S.edge a) h)) in
            let T = sound_decide p none S op refl i.0 fits (omega arith) in
            let R = sound_decide q none (dec p none S) oq refl i.1 T (let k = still_below S (dec p none S) (calls.decide_onward p none S refl) n in omega arith) in
            rw (h, do_item) (rw T.clear (R, R.clear))

    sound_corner : (d : ℕ) (a : Edge) (exist : Bool) (p q : Edge)
        → (is_blank (g.cell d) ≡ true → drawn D a ≡ true → (exist ≡ true) × (on_board g p ≡ true) × (on_board g q ≡ true) × (drawn D p ≡ true) × (drawn D q ≡ true))
        → SoundItem (corner d a exist p q)
    unfolding do_item
    sound_corner d a exist p q forced S fits n = go (is_blank (g.cell d)) refl (is_line (S.edge a)) refl
      where
        go : (s : Bool) → is_blank (g.cell d) ≡ s → (t : Bool) → is_line (S.edge a) ≡ t
            → Fits g D (do_item g dec chk (corner d a exist p q) S).0 × ((do_item g dec chk (corner d a exist p q) S).1 ≡ false)
        go false k t h = rw (k, do_item) (fits, refl)
        go true k false h = rw (k, do_item) (rw h (fits, refl))
        go true k true h =
            let (o, op, oq, dp, dq) = forced k (fits.agrees.where_line a (is_line-true (S.edge a) h)) in
            let T = sound_decide p line S op refl dp fits (omega arith) in
            let R = sound_decide q line (dec p line S) oq refl dq T (let z = still_below S (dec p line S) (calls.decide_onward p line S refl) n in omega arith) in
            rw (k, do_item) (rw h (rw o (R, refl)))

    -- an edge to a chain of another code: the drawing has a clue of code c in the chain of v
    sound_keep_apart : (v c : ℕ) (e : Edge) (u : ℕ) → on_board g e ≡ true → ((k : ℕ) × Joined Linked v k × (g.cell k ≡ clue c)) → (drawn D e ≡ true → Linked v u) → SoundItem (keep_apart c e u)
    unfolding do_item
    sound_keep_apart v c e u oe (k, joined, clue_is) leads_there S fits n = go (is_undecided (S.edge e) && other_clue c (S.end u)) refl
      where
        never : other_clue c (S.end u) ≡ true → drawn D e ≡ true → ⊥
        never h d = let (x, ex, differ) = other_code c (S.end u) h in let o = fits.ends_say.clue_end u x ex in
            differ (wired.equal_codes k o.pad c x clue_is o.clue_at
            (join_trans (join_sym both_ways joined) (more (leads_there d) (join_mono (within S fits) o.joined))))

        go : (t : Bool) → (is_undecided (S.edge e) && other_clue c (S.end u)) ≡ t → Fits g D (do_item g dec chk (keep_apart c e u) S).0 × ((do_item g dec chk (keep_apart c e u) S).1 ≡ false)
        go false h = rw (h, do_item) (fits, refl)
        go true h = let T = sound_decide e none S oe refl (not_so (drawn D e) (never (both (is_undecided (S.edge e)) (other_clue c (S.end u)) h).1)) fits (omega arith) in rw (h, do_item) (T, T.clear)

    sound_settle : (v : ℕ) → v < pads g → SoundItem (settle v)
    unfolding do_item settled
    sound_settle v inside S fits n = (go (ltb 2 d || (eqb d 1 && eqb k 0)) refl (eqb k 1 || leb 2 d) refl, refl)
      where
        d : ℕ
        d = degree g S v

        k : ℕ
        k = undecideds S (around g v)

        degrees : NoneOrTwo D (drawn_degree D g v)
        degrees = its_degree g wide D listed v

        left : DegreeLeft D g S v
        left = degree_left D g S fits.agrees v

        no_flag : (ltb 2 d || (eqb d 1 && eqb k 0)) ≡ true → ⊥
        no_flag h = let low = left.no_more in let high = left.no_less in ⊎_elim
            (λ t. let q : 2 < d = ltb-true 2 d t in ⊎_elim (λ y. omega (arith, low, high, y)) (λ y. omega (arith, low, high, y)) degrees)
            (λ t. let (x, y) = both (eqb d 1) (eqb k 0) t in let q : d ≡ 1 = eqb-true d 1 x in let r : k ≡ 0 = eqb-true k 0 y in
            ⊎_elim (λ y. omega (arith, low, high, y)) (λ y. omega (arith, low, high, y)) degrees) (either (ltb 2 d) (eqb d 1 && eqb k 0) h)

        go : (a : Bool) → (ltb 2 d || (eqb d 1 && eqb k 0)) ≡ a → (c : Bool) → (eqb k 1 || leb 2 d) ≡ c → Fits g D (settled g dec v S)
        go true h c w = absurd (no_flag h)
        go false h false w = rw (h, settled) (rw w fits)
        go false h true w = rw (h, settled) (rw w (⊎_elim
            (λ (o : FirstUndecided dec (line_or_none (eqb d 1)) (around g v) S). rw o.decides_it (sound_decide o.at.0 (line_or_none (eqb d 1)) S
            (around_on g wide v o.at inside o.member).0 (line_or_none_decided (eqb d 1))
            (must_be D g S fits.agrees v degrees o.at o.member o.undecided_there
            (⊎_elim (λ t. inl (eqb-true k 1 t)) (λ t. inr (leb-true 2 d t)) (either (eqb k 1) (leb 2 d) w))
            ∙ is_way (eqb d 1)) fits (omega arith)))
            (λ (z, e). rw e fits) (find_first dec (line_or_none (eqb d 1)) (around g v) S)))

    sound_check_pad : (v : ℕ) → ((S : State) → Fits g D S → 2 * undecided_edges g S + b ≤ f → Fits g D (chk v S)) → SoundItem (check_pad v)
    unfolding do_item
    sound_check_pad v sound_check S fits n = let T = sound_check S fits n in (T, T.clear)

    sound_items : (is : List Item) → ((it : Item) → Memᴰ it is → SoundItem it) → (S : State) → Fits g D S → 2 * undecided_edges g S + b ≤ f → Fits g D (do_items g dec chk is S)
    sound_items [] all S fits n = unfold do_items in fits
    sound_items (it ∷ is) all S fits n = let p = all it (Memᴰ.head refl) S fits n in
        rw (goes_on g dec chk calls it is S p.1) (sound_items is (λ i m. all i (Memᴰ.tail m)) (do_item g dec chk it S).0 p.0
        (still_below S (do_item g dec chk it S).0 (item_done g dec chk calls S it).onward n))

  -- STORING what the drawing has
  stored_agrees : (S : State) (e : Edge) (m : EdgeState) → Agrees D S → drawn D e ≡ is_line m → Agrees D (set_edge S e m)
  stored_agrees S e m a d = record {
    where_line = λ x h. ⊎_elim (λ p. rw p (d ∙ ap is_line (new x p h))) (λ n. a.where_line x (sym (set_elsewhere S e m x n) ∙ h)) (same_or_not x e);
    where_none = λ x h. ⊎_elim (λ p. rw p (d ∙ ap is_line (new x p h))) (λ n. a.where_none x (sym (set_elsewhere S e m x n) ∙ h)) (same_or_not x e);
  }
    where
      new : (x : Edge) → x ≡ e → {k : EdgeState} → (set_edge S e m).edge x ≡ k → m ≡ k
      new x p h = sym (set_here S e m) ∙ ap (λ y. (set_edge S e m).edge y) (sym p) ∙ h

  -- STEP c finds nothing against a line of the drawing
  module _ (S : State) (e : Edge) (fits : Fits g D S) (free : is_undecided (S.edge e) ≡ true) (is_drawn : drawn D e ≡ true) where
    no_line_yet : board_lines g S (first e) (second g.width e) → ⊥
    no_line_yet = no_line_before g S e free (geometry g wide)

    can_join : cannot_join g e (set_edge S e line) ≡ false
    unfolding cannot_join set_edge
    can_join = nothing_against (line_back g.width (drawing S)) fits.ends_say wired (within S fits) both_ways (first e) (second g.width e) ((geometry g wide).apart e)
        no_line_yet (its_line g wide D listed e is_drawn)

  -- THE INDUCTION over the bound
  abbrev SoundDecide : ℕ → Type 0
  SoundDecide f = (e : Edge) (m : EdgeState) (S : State) → on_board g e ≡ true → is_undecided m ≡ false → drawn D e ≡ is_line m → Fits g D S
      → 2 * undecided_edges g S + 1 ≤ f → Fits g D (decide g f e m S)

  abbrev SoundCheck : ℕ → Type 0
  SoundCheck f = (v : ℕ) (S : State) → v < pads g → Fits g D S → 2 * undecided_edges g S + 2 ≤ f → Fits g D (check g f v S)

  apart_item : (c : ℕ) (l : List (Edge × ℕ)) (it : Item) → Memᴰ it (keep_aparts c l) → (p : Edge × ℕ) × Memᴰ p l × (it ≡ keep_apart c p.0 p.1)
  unfolding keep_aparts
  apart_item c [] it m = elim m [ ]
  apart_item c (p ∷ l) it m = ⊎_elim (λ e. (p, Memᴰ.head refl, e)) (λ w. let (q, k, e) = apart_item c l it w in (q, Memᴰ.tail k, e)) (Memᴰ.cases_cons m)

  module _ (f : ℕ) (sound_decide : SoundDecide f) (sound_check : SoundCheck f) where
    abbrev dec : Decide
    dec a k T = decide g f a k T

    abbrev chk : Check
    chk v T = check g f v T

    calls : CallsKeep g dec chk
    calls = calls_keep g (geometry g wide) f

    -- within a check the bound is one above the weight, within a decision two
    abbrev InCheck : Item → Type 0
    InCheck it = SoundItem dec chk calls f 1 (omega arith) sound_decide it

    abbrev InDecision : Item → Type 0
    InDecision it = SoundItem dec chk calls f 2 (omega arith) sound_decide it

    check_sound : SoundCheck (suc f)
    unfolding decide
    check_sound v S inside fits n = sound_items dec chk calls f 1 (omega arith) sound_decide (check_items g v (S.end v)) (all (S.end v) refl) S fits (omega arith)
      where
        settles : (it : Item) → Memᴰ it (settle v ∷ []) → InCheck it
        settles it m = ⊎_elim (λ e. rw e (sound_settle dec chk calls f 1 (omega arith) sound_decide v inside)) (λ w. elim w [ ]) (Memᴰ.cases_cons m)

        aparts : (c : ℕ) → S.end v ≡ at_clue c → (it : Item) → Memᴰ it (keep_aparts c (around g v)) → InCheck it
        aparts c e it m = let (p, k, q) = apart_item c (around g v) it m in let o = fits.ends_say.clue_end v c e in
            rw q (sound_keep_apart dec chk calls f 1 (omega arith) sound_decide v c p.0 p.1 (around_on g wide v p inside k).0
            (o.pad, join_mono (within S fits) o.joined, o.clue_at) (leads g wide D listed.ordinary.placed v p k))

        all : (X : End) → S.end v ≡ X → (it : Item) → Memᴰ it (check_items g v X) → InCheck it
        all through e it m = unfold check_items in (settles it m)
        all (at_pad a) e it m = unfold check_items in (settles it m)
        all (at_clue c) e it m = ⊎_elim (aparts c e it) (settles it) (Memᴰ.append_cases (keep_aparts c (around g v)) (as_list m))
          where
            as_list : Memᴰ it (check_items g v (at_clue c)) → Memᴰ it (keep_aparts c (around g v) ++ (settle v ∷ []))
            as_list m = unfold check_items in m

    check_in_decision : (v : ℕ) → v < pads g → InDecision (check_pad v)
    check_in_decision v inside = sound_check_pad dec chk calls f 2 (omega arith) sound_decide v (λ S fits n. sound_check v S inside fits n)

    shapes_sound : (e : Edge) → drawn D e ≡ true → (it : Item) → Plain it → Memᴰ it (shape_items g e) → InDecision it
    shapes_sound e d (detour a p q) is_detour m = sound_detour dec chk calls f 2 (omega arith) sound_decide a p q (detours_right g wide D listed e a p q d m)
    shapes_sound e d (corner x a exist p q) is_corner m = sound_corner dec chk calls f 2 (omega arith) sound_decide x a exist p q (corners_right g wide D listed e x a exist p q d m)
    shapes_sound e d (bar barred a) is_bar m = sound_bar dec chk calls f 2 (omega arith) sound_decide barred a (bars_right g wide D listed e a barred d m)
    shapes_sound e d (check_pad _) plain m = elim plain [ ]
    shapes_sound e d (keep_apart code _ u) plain m = elim plain [ ]
    shapes_sound e d (settle _) plain m = elim plain [ ]

    none_sound : (e : Edge) (S : State) → on_board g e ≡ true → drawn D e ≡ false → Fits g D S → 2 * undecided_edges g S + 1 ≤ suc f → is_undecided (S.edge e) ≡ true → Fits g D (decide g (suc f) e none S)
    unfolding decide after_store
    none_sound e S on d fits n o = rw (on, decide) (rw o (sound_items dec chk calls f 2 (omega arith) sound_decide (check_pad (first e) ∷ check_pad (second g.width e) ∷ []) all (set_edge S e none) stored_fits small))
      where
        stored_fits : Fits g D (set_edge S e none)
        stored_fits = record { clear = flag_kept g S e o none ∙ fits.clear; agrees = stored_agrees S e none fits.agrees d; ends_say = unfold Holds in (none_chains g S e o fits.ends_say) }

        small : 2 * undecided_edges g (set_edge S e none) + 2 ≤ f
        small = let k = undecided_less g S (set_edge S e none) e on o (ap is_undecided (set_here S e none)) (set_stays S e none o) in omega arith

        all : (it : Item) → Memᴰ it (check_pad (first e) ∷ check_pad (second g.width e) ∷ []) → InDecision it
        all it m = ⊎_elim (λ p. rw p (check_in_decision (first e) (both_pads g wide D listed e on).0))
            (λ m. ⊎_elim (λ p. rw p (check_in_decision (second g.width e) (both_pads g wide D listed e on).1)) (λ w. absurd (Memᴰ.not-nil w)) (Memᴰ.cases_cons m)) (Memᴰ.cases_cons m)

    line_sound : (e : Edge) (S : State) → on_board g e ≡ true → drawn D e ≡ true → Fits g D S → 2 * undecided_edges g S + 1 ≤ suc f → is_undecided (S.edge e) ≡ true → Fits g D (decide g (suc f) e line S)
    unfolding decide after_store
    line_sound e S on d fits n o = rw (on, decide) (rw o (rw (can, after_store) (unfold with_line set_edge in (sound_items dec chk calls f 2 (omega arith) sound_decide
        (shape_items g e ++ (check_pad (first e) ∷ check_pad (second g.width e) ∷ (check_end (S.end (first e)) ++ check_end (S.end (second g.width e)))))
        all (with_line g S e o) stored_fits small))))
      where
        can : cannot_join g e (set_edge S e line) ≡ false
        can = can_join S e fits o d

        stored_fits : Fits g D (with_line g S e o)
        stored_fits = record {
          clear = line_flag g S e o ∙ fits.clear;
          agrees = unfold with_line join_ends in (again (stored_agrees S e line fits.agrees d));
          ends_say = unfold Holds in (line_chains g S e o (geometry g wide) can fits.ends_say);
        }
          where
            again : Agrees D (set_edge S e line) → Agrees D (join_ends g e (set_edge S e line))
            again a = unfold join_ends in (record { where_line = a.where_line; where_none = a.where_none })

        small : 2 * undecided_edges g (with_line g S e o) + 2 ≤ f
        small = let k = undecided_less g S (with_line g S e o) e on o (ap is_undecided (line_here g S e o)) (line_stays g S e o) in omega arith

        end_checks : (v : ℕ) → v < pads g → (it : Item) → Memᴰ it (check_end (S.end v)) → InDecision it
        end_checks v inside it m = go (S.end v) refl m
          where
            go : (X : End) → S.end v ≡ X → Memᴰ it (check_end X) → InDecision it
            go through p m = elim m [ ]
            go (at_clue c) p m = elim m [ ]
            go (at_pad a) p m = ⊎_elim (λ q. rw q (check_in_decision a (reach g wide D listed S fits.agrees inside (fits.ends_say.pad_end v a p).joined))) (λ w. absurd (Memᴰ.not-nil w)) (Memᴰ.cases_cons m)

        all : (it : Item) → Memᴰ it (shape_items g e ++ (check_pad (first e) ∷ check_pad (second g.width e) ∷ (check_end (S.end (first e)) ++ check_end (S.end (second g.width e))))) → InDecision it
        all it m = ⊎_elim (λ k. shapes_sound e d it ((geometry g wide).plain e it k) k)
            (λ m. ⊎_elim (λ p. rw p (check_in_decision (first e) (both_pads g wide D listed e on).0))
            (λ m. ⊎_elim (λ p. rw p (check_in_decision (second g.width e) (both_pads g wide D listed e on).1))
            (λ m. ⊎_elim (end_checks (first e) (both_pads g wide D listed e on).0 it) (end_checks (second g.width e) (both_pads g wide D listed e on).1 it)
            (Memᴰ.append_cases (check_end (S.end (first e))) m))
            (Memᴰ.cases_cons m)) (Memᴰ.cases_cons m)) (Memᴰ.append_cases (shape_items g e) m)

    -- an edge that is decided already has the drawing's state
    again_sound : (e : Edge) (m : EdgeState) (S : State) → on_board g e ≡ true → is_undecided m ≡ false → drawn D e ≡ is_line m → Fits g D S → is_undecided (S.edge e) ≡ false → Fits g D (decide g (suc f) e m S)
    unfolding decide
    again_sound e m S on mo d fits o = rw (on, decide) (rw o (rw (same (S.edge e) m refl mo o d) fits))
      where
        same : (a k : EdgeState) → S.edge e ≡ a → is_undecided k ≡ false → is_undecided a ≡ false → drawn D e ≡ is_line k → same_state a k ≡ true
        same line line p h j q = refl
        same none none p h j q = refl
        same line none p h j q = conflict (fits.agrees.where_line e p) q
        same none line p h j q = conflict q (fits.agrees.where_none e p)
        same line undecided p h j q = zero≢one (cc)
        same none undecided p h j q = zero≢one (cc)
        same undecided k p h j q = zero≢one (cc)

    decide_sound : SoundDecide (suc f)
    decide_sound e m S on mo d fits n = go (is_undecided (S.edge e)) refl m mo d
      where
        go : (b : Bool) → is_undecided (S.edge e) ≡ b → (m : EdgeState) → is_undecided m ≡ false → drawn D e ≡ is_line m → Fits g D (decide g (suc f) e m S)
        go false o m mo d = again_sound e m S on mo d fits o
        go true o undecided mo d = zero≢one (cc)
        go true o line mo d = line_sound e S on d fits n o
        go true o none mo d = none_sound e S on d fits n o

  pub sound : (f : ℕ) → SoundDecide f × SoundCheck f
  sound zero = ((λ e m S on mo d fits n. absurd (omega arith)), (λ v S inside fits n. absurd (omega arith)))
  sound (suc f) = (decide_sound f (sound f).0 (sound f).1, check_sound f (sound f).0 (sound f).1)
