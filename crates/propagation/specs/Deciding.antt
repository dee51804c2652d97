-- A decision of an undecided edge, if the nested calls keep what they should: what held still holds, the edge has its state, and both its
-- pads are at rest. One argument serves a none and a line; they differ in the items that are done and in what step c does.
use Rattle.std.specs.Prelude.{ℕ, ◌≡◌, ◌≢◌, ◌⊎◌, Bool}
use Rattle.std.proofs.Math.Path.{refl, sym}
use Rattle.std.proofs.Common.{◌∙◌, ap}
use Rattle.std.proofs.Math.Logic.{inl, inr, ⊎_elim}
use Rattle.std.proofs.Math.Bool.{true, false}
use mathlib.Core.List.Memᴰ
use mathlib.Core.List.{List, [], ◌∷◌, ◌++◌, Memᴰ}
use Rattle.std.proofs.Math.Decide.{ℕ_discrete}
use Rattle.rules.specs.Grid.{Edge, first, second, Grid}
use Rattle.rules.specs.Places.{zero≢one}
use Rattle.model.specs.JoinedEnds.{End, through, at_pad, at_clue}
use Rattle.model.specs.PadTests.{on_board}
use Rattle.model.specs.Board.{EdgeState, is_undecided, State, set_edge, set_flag, Item, check_end, Decide, Check, shape_items, do_items, cannot_join, after_store, line, none, detour, corner, bar, check_pad, keep_apart, settle}
use Rattle.propagation.specs.Undecided.{DecidedStay}
use Rattle.propagation.specs.Edges.{same_or_not, set_here, set_elsewhere, decided_elsewhere, set_stays}
use Rattle.propagation.specs.Objects.{AtRest, Achieved, Object, Holds, guard, Plain, Geometry, same_rest, rule, pad, chains, board, is_detour, is_corner, is_bar}
use Rattle.propagation.specs.Items.{Onward, onward_refl, CallsKeep, items_onward, items_achieved}
use Rattle.propagation.specs.Settling.{PadOf}
use Rattle.propagation.specs.StoredState.{flag_kept, line_before, none_chains, none_board, with_line, line_elsewhere, line_here, line_flag, line_stays, line_board, line_chains}

module _ (g : Grid) (geo : Geometry g) where
  pub record Decided (S : State) (e : Edge) (m : EdgeState) (R : State) : Type 0 where
    pub onward : Onward g S R
    pub set : R.flag ≡ false → R.edge e ≡ m
    pub rests : (v : ℕ) → PadOf g e v → R.flag ≡ false → AtRest g R v

  -- A RULE at which nothing new stands holds on
  rule_stays : (S T : State) (x : Edge) (it : Item) → Plain it → DecidedStay S T
      → (T.edge x ≡ line → S.edge x ≡ line) → (T.edge (guard it) ≡ line → S.edge (guard it) ≡ line)
      → (S.edge x ≡ line → Achieved g S it) → T.edge x ≡ line → Achieved g T it
  unfolding Achieved guard
  rule_stays S T x (detour a b c) is_detour stay hx ha ok tx = λ ta. let (p, q) = ok (hx tx) (ha ta) in
      (stay b (ap is_undecided p) ∙ p, stay c (ap is_undecided q) ∙ q)
  rule_stays S T x (corner q a o b c) is_corner stay hx ha ok tx = λ bl ta. let (y, p, r) = ok (hx tx) bl (ha ta) in
      (y, stay b (ap is_undecided p) ∙ p, stay c (ap is_undecided r) ∙ r)
  rule_stays S T x (bar o a) is_bar stay hx ha ok tx = tt
  rule_stays S T x (check_pad _) plain stay hx ha ok tx = elim plain [ ]
  rule_stays S T x (keep_apart code e u) plain stay hx ha ok tx = elim plain [ ]
  rule_stays S T x (settle _) plain stay hx ha ok tx = elim plain [ ]

  -- and can be read from the line that guards it
  rule_turned : (T : State) (e x : Edge) (it : Item) → Plain it → Memᴰ it (shape_items g x) → guard it ≡ e
      → ((i : Item) → Memᴰ i (shape_items g e) → Achieved g T i) → T.edge x ≡ line → Achieved g T it
  unfolding Achieved guard
  rule_turned T e x (detour a b c) is_detour m q all tx = λ ta. ⊎_elim
      (λ n. all (detour x b c) (rw q at n) tx)
      (λ n. let (y, z) = all (detour x c b) (rw q at n) tx in (z, y)) (geo.detour_turned x a b c m)
  rule_turned T e x (corner d a o b c) is_corner m q all tx = λ bl ta. all (corner d x o b c) (rw q at (geo.corner_turned x d a o b c m)) bl tx
  rule_turned T e x (bar o a) is_bar m q all tx = tt
  rule_turned T e x (check_pad _) plain m q all tx = elim plain [ ]
  rule_turned T e x (keep_apart code _ u) plain m q all tx = elim plain [ ]
  rule_turned T e x (settle _) plain m q all tx = elim plain [ ]

  -- an item after the store is one of steps d and e, and then the edge is a line, or it is a pad check
  abbrev AfterStore : State → Edge → Item → Type 0
  AfterStore T e it = (Memᴰ it (shape_items g e) × (T.edge e ≡ line)) ⊎ ((w : ℕ) × (it ≡ check_pad w))

  -- AFTER THE STORE: T is S but for the edge e; the items are done from T on
  module _ (dec : Decide) (chk : Check) (calls : CallsKeep g dec chk) (S T : State) (e : Edge) (m : EdgeState) (decided_now : is_undecided m ≡ false)
      (undecided_before : is_undecided (S.edge e) ≡ true) (elsewhere : (x : Edge) → x ≢ e → T.edge x ≡ S.edge x) (here : T.edge e ≡ m)
      (flag_same : T.flag ≡ S.flag) (is : List Item) where
    result : State
    result = do_items g dec chk is T

    rest_onward : Onward g T result
    unfolding result
    rest_onward = items_onward g dec chk calls is T

    store_stays : DecidedStay S T
    store_stays x h = elsewhere x (decided_elsewhere S e x undecided_before h)

    all_stay : DecidedStay S result
    all_stay x h = rest_onward.decided_stay x (ap is_undecided (store_stays x h) ∙ h) ∙ store_stays x h

    module _ (kinds : (it : Item) → Memᴰ it is → AfterStore T e it)
        (first_checked : Memᴰ (check_pad (first e)) is) (second_checked : Memᴰ (check_pad (second g.width e)) is) where
      stays_achieved : (it : Item) → Memᴰ it is → (Q R : State) → Onward g T Q → Onward g Q R → R.flag ≡ false → Achieved g Q it → Achieved g R it
      stays_achieved it k Q R p q z n = go (kinds it k)
        where
          still_line : T.edge e ≡ line → R.edge e ≡ line
          still_line h = let t = p.decided_stay e (ap is_undecided h) ∙ h in q.decided_stay e (ap is_undecided t) ∙ t

          as_rule : (w : Memᴰ it (shape_items g e)) → R.edge e ≡ line → Achieved g R it
          as_rule w = unfold Holds in (q.still_holds z (rule e it w) (λ y. n))

          as_pad : (w : ℕ) → it ≡ check_pad w → Achieved g R it
          as_pad w y = rw y (unfold Holds Achieved in (q.still_holds z (pad w) (rw y at n)))

          go : AfterStore T e it → Achieved g R it
          go (inl (w, h)) = as_rule w (still_line h)
          go (inr (w, y)) = as_pad w y

      all_achieved : result.flag ≡ false → (it : Item) → Memᴰ it is → Achieved g result it
      unfolding result
      all_achieved z it k = items_achieved g dec chk calls is T T (onward_refl g T) stays_achieved z it k

      pads_rest : result.flag ≡ false → (v : ℕ) → PadOf g e v → AtRest g result v
      unfolding Achieved
      pads_rest z v (inl p) = rw p at (all_achieved z (check_pad (first e)) first_checked)
      pads_rest z v (inr p) = rw p at (all_achieved z (check_pad (second g.width e)) second_checked)

      -- a pad of the edge is at rest since it was checked, any other since its edges are as before
      pad_stays : result.flag ≡ false → (v : ℕ) → AtRest g S v → AtRest g result v
      unfolding Holds
      pad_stays z v q = elim (ℕ_discrete (first e) v) [
        | yes p ↦ pads_rest z v (inl p)
        | no n ↦ elim (ℕ_discrete (second g.width e) v) [
          | yes p ↦ pads_rest z v (inr p)
          | no k ↦ rest_onward.still_holds z (pad v) (same_rest g S T v (λ p w. elsewhere p.0
              (λ y. ⊎_elim (λ a. n (ap first (sym y) ∙ a)) (λ a. k (ap (second g.width) (sym y) ∙ a)) (geo.near v p w))) q)
        ]
      ]

      module _ (rules : result.flag ≡ false → (x : Edge) (it : Item) (w : Memᴰ it (shape_items g x)) → Holds g S (rule x it w) → Holds g result (rule x it w))
          (its_chains : Holds g S chains → Holds g T chains) (its_board : Holds g S board → Holds g T board) where
        all_hold : result.flag ≡ false → (o : Object g) → Holds g S o → Holds g result o
        all_hold z (rule x it w) ok = rules z x it w ok
        all_hold z chains ok = rest_onward.still_holds z chains (its_chains ok)
        all_hold z board ok = rest_onward.still_holds z board (its_board ok)
        all_hold z (pad v) ok = unfold Holds in (pad_stays z v ok)

        decided : Decided S e m result
        decided = record {
          onward = record { was_clear = λ z. sym flag_same ∙ rest_onward.was_clear z; decided_stay = all_stay; still_holds = all_hold };
          set = λ z. rest_onward.decided_stay e (ap is_undecided here ∙ decided_now) ∙ here;
          rests = λ v p z. pads_rest z v p;
        }

  module _ (dec : Decide) (chk : Check) (calls : CallsKeep g dec chk) (S : State) (e : Edge) (on : on_board g e ≡ true) (free : is_undecided (S.edge e) ≡ true) where
    -- A NONE: both pads are checked
    unfoldable two_checks : List Item
    two_checks = check_pad (first e) ∷ check_pad (second g.width e) ∷ []

    none_kinds : (it : Item) → Memᴰ it two_checks → AfterStore (set_edge S e none) e it
    unfolding two_checks
    none_kinds it k = ⊎_elim (λ p. inr (first e, p)) (λ k. ⊎_elim (λ p. inr (second g.width e, p)) (λ n. elim n [ ]) (Memᴰ.cases_cons k)) (Memᴰ.cases_cons k)

    pub none_decided : Decided S e none (after_store g dec chk e none (set_edge S e none))
    unfolding after_store two_checks result Holds
    none_decided = decided dec chk calls S (set_edge S e none) e none refl free (set_elsewhere S e none) (set_here S e none) (flag_kept g S e free none) two_checks
        none_kinds (Memᴰ.head refl) (Memᴰ.tail (Memᴰ.head refl))
        (λ z x it w ok. (rest_onward dec chk calls S (set_edge S e none) e none refl free (set_elsewhere S e none) (set_here S e none) (flag_kept g S e free none) two_checks
        ).still_holds z (rule x it w)
        (rule_stays S (set_edge S e none) x it (geo.plain x it w) (set_stays S e none free) (line_before g S e free x) (line_before g S e free (guard it)) ok))
        (none_chains g S e free) (none_board g S e free)

    -- A LINE: the items of steps d and e, then the checks of the two pads and of A and B
    unfoldable pub line_items : List Item
    line_items = shape_items g e ++ (check_pad (first e) ∷ check_pad (second g.width e) ∷ (check_end (S.end (first e)) ++ check_end (S.end (second g.width e))))

    only_checks : (X : End) (it : Item) → Memᴰ it (check_end X) → (w : ℕ) × (it ≡ check_pad w)
    only_checks through it k = elim k [ ]
    only_checks (at_clue c) it k = elim k [ ]
    only_checks (at_pad a) it k = ⊎_elim (λ p. (a, p)) (λ n. elim n [ ]) (Memᴰ.cases_cons k)

    line_kinds : (it : Item) → Memᴰ it line_items → AfterStore (with_line g S e free) e it
    unfolding line_items
    line_kinds it k = ⊎_elim (λ m. inl (m, line_here g S e free))
        (λ m. ⊎_elim (λ p. inr (first e, p))
        (λ m. ⊎_elim (λ p. inr (second g.width e, p)) (λ m. inr (⊎_elim (only_checks (S.end (first e)) it) (only_checks (S.end (second g.width e)) it)
        (Memᴰ.append_cases (check_end (S.end (first e))) m)))
        (Memᴰ.cases_cons m)) (Memᴰ.cases_cons m)) (Memᴰ.append_cases (shape_items g e) k)

    shape_in : (it : Item) → Memᴰ it (shape_items g e) → Memᴰ it line_items
    unfolding line_items
    shape_in it m = Memᴰ.append_left _ m

    first_in : Memᴰ (check_pad (first e)) line_items
    unfolding line_items
    first_in = Memᴰ.append_right (shape_items g e) (Memᴰ.head refl)

    second_in : Memᴰ (check_pad (second g.width e)) line_items
    unfolding line_items
    second_in = Memᴰ.append_right (shape_items g e) (Memᴰ.tail (Memᴰ.head refl))

    line_result : State
    line_result = do_items g dec chk line_items (with_line g S e free)

    line_rules : line_result.flag ≡ false → (x : Edge) (it : Item) (w : Memᴰ it (shape_items g x)) → Holds g S (rule x it w) → Holds g line_result (rule x it w)
    unfolding line_result result Holds
    line_rules z x it w ok = ⊎_elim
        (λ p t. achieved it (shape_in it (rw p at w)))
        (λ n. ⊎_elim
        (λ q t. rule_turned line_result e x it (geo.plain x it w) w q (λ i k. achieved i (shape_in i k)) t)
        (λ q. onward.still_holds z (rule x it w) (rule_stays S (with_line g S e free) x it (geo.plain x it w) (line_stays g S e free)
        (λ t. sym (line_elsewhere g S e free x n) ∙ t) (λ t. sym (line_elsewhere g S e free (guard it) q) ∙ t) ok))
        (same_or_not (guard it) e)) (same_or_not x e)
      where
        onward : Onward g (with_line g S e free) line_result
        onward = rest_onward dec chk calls S (with_line g S e free) e line refl free (line_elsewhere g S e free) (line_here g S e free) (line_flag g S e free) line_items

        achieved : (i : Item) → Memᴰ i line_items → Achieved g line_result i
        achieved i k = all_achieved dec chk calls S (with_line g S e free) e line refl free (line_elsewhere g S e free) (line_here g S e free) (line_flag g S e free) line_items
            line_kinds first_in second_in z i k

    line_done : cannot_join g e (set_edge S e line) ≡ false → Decided S e line line_result
    unfolding line_result result
    line_done can = decided dec chk calls S (with_line g S e free) e line refl free (line_elsewhere g S e free) (line_here g S e free) (line_flag g S e free) line_items
        line_kinds first_in second_in line_rules (line_chains g S e free geo can) (line_board g S e free on)

    pub line_decided : Decided S e line (after_store g dec chk e line (set_edge S e line))
    unfolding after_store set_flag
    line_decided = go (cannot_join g e (set_edge S e line)) refl
      where
        go : (b : Bool) → cannot_join g e (set_edge S e line) ≡ b → Decided S e line (after_store g dec chk e line (set_edge S e line))
        go true h = rw (h, after_store) (record {
          onward = record { was_clear = λ z. zero≢one (cc); decided_stay = set_stays S e line free; still_holds = λ z. zero≢one (cc) };
          set = λ z. zero≢one (cc);
          rests = λ v p z. zero≢one (cc);
        })
        go false h = rw (h, after_store) (unfold line_result line_items with_line set_edge in (line_done h))
