-- One item, and a list of items: where the nested calls keep what the induction says, so does the item, an item that ends the call leaves
-- the flag set, and what each item has brought about stands at the end of the list.
use Rattle.std.specs.Prelude.{ℕ, ◌≡◌, Bool, ◌&&◌}
use Rattle.std.proofs.Math.Path.{refl}
use Rattle.std.proofs.Common.{◌∙◌, ap, ⊎_elim}
use Rattle.std.proofs.Math.Bool.{true, false}
use mathlib.Core.List.Memᴰ
use mathlib.Core.List.{List, [], ◌∷◌, Memᴰ}
use Rattle.rules.specs.Grid.{Edge, Grid}
use Rattle.rules.specs.Places.{zero≢one}
use Rattle.model.specs.PadTests.{is_blank}
use Rattle.model.specs.Board.{EdgeState, is_line, is_undecided, State, set_flag, Item, other_clue, Decide, Check, settled, do_item, do_items, line, none, detour, corner, bar, check_pad, keep_apart, settle}
use Rattle.propagation.specs.Undecided.{DecidedStay}
use Rattle.propagation.specs.Objects.{AtRest, Achieved, Object, Holds}

-- T FOLLOWS S: a clear flag was clear before, decided edges stay, and with a clear flag every object that held still holds
pub record Onward (g : Grid) (S T : State) : Type 0 where
  pub was_clear : T.flag ≡ false → S.flag ≡ false
  pub decided_stay : DecidedStay S T
  pub still_holds : T.flag ≡ false → (o : Object g) → Holds g S o → Holds g T o

module _ (g : Grid) where
  pub onward_refl : (S : State) → Onward g S S
  onward_refl S = record { was_clear = λ h. h; decided_stay = λ e h. refl; still_holds = λ h o k. k }

  pub onward_trans : {S T R : State} → Onward g S T → Onward g T R → Onward g S R
  onward_trans p q = record {
    was_clear = λ h. p.was_clear (q.was_clear h);
    decided_stay = λ e h. q.decided_stay e (ap is_undecided (p.decided_stay e h) ∙ h) ∙ p.decided_stay e h;
    still_holds = λ h o k. q.still_holds h o (p.still_holds (q.was_clear h) o k);
  }

  pub onward_flag : (S : State) → Onward g S (set_flag S)
  unfolding set_flag
  onward_flag S = record { was_clear = λ h. zero≢one (cc); decided_stay = λ e h. refl; still_holds = λ h. zero≢one (cc) }

  -- WHAT IS KNOWN OF THE NESTED CALLS
  pub record CallsKeep (dec : Decide) (chk : Check) : Type 0 where
    pub decide_onward : (e : Edge) (m : EdgeState) (S : State) → is_undecided m ≡ false → Onward g S (dec e m S)
    pub decide_sets : (e : Edge) (m : EdgeState) (S : State) → is_undecided m ≡ false → (dec e m S).flag ≡ false → (dec e m S).edge e ≡ m
    pub check_onward : (v : ℕ) (S : State) → Onward g S (chk v S)
    pub check_rests : (v : ℕ) (S : State) → (chk v S).flag ≡ false → AtRest g (chk v S) v
    pub settle_keeps : (v : ℕ) (S : State) → Onward g S (settled g dec v S) × ((settled g dec v S).flag ≡ false → AtRest g (settled g dec v S) v)

  -- ONE ITEM: where it leads, that its end is a set flag, and what it brings about
  pub record ItemDone (S : State) (it : Item) (p : State × Bool) : Type 0 where
    pub onward : Onward g S p.0
    pub halt : p.1 ≡ true → p.0.flag ≡ true
    pub achieved : p.0.flag ≡ false → Achieved g p.0 it

  flagged : (S : State) → (set_flag S).flag ≡ true
  unfolding set_flag
  flagged S = refl

  module _ (dec : Decide) (chk : Check) (calls : CallsKeep dec chk) where
    -- two decisions: the first edge still has its state
    both_set : (b : Edge) (m : EdgeState) (S : State) (c : Edge) (n : EdgeState) → is_undecided m ≡ false → is_undecided n ≡ false
        → (dec c n (dec b m S)).flag ≡ false → (dec c n (dec b m S)).edge b ≡ m
    both_set b m S c n hm hn z =
        let q = calls.decide_onward c n (dec b m S) hn in
        let e = calls.decide_sets b m S hm (q.was_clear z) in
        q.decided_stay b (ap is_undecided e ∙ hm) ∙ e

    pub item_done : (S : State) (it : Item) → ItemDone S it (do_item g dec chk it S)
    unfolding do_item Achieved
    item_done S (check_pad v) = record { onward = calls.check_onward v S; halt = λ h. h; achieved = calls.check_rests v S }
    item_done S (settle v) = record { onward = (calls.settle_keeps v S).0; halt = λ h. zero≢one (cc); achieved = (calls.settle_keeps v S).1 }
    item_done S (keep_apart c e u) = go (is_undecided (S.edge e) && other_clue c (S.end u)) refl
      where
        go : (b : Bool) → (is_undecided (S.edge e) && other_clue c (S.end u)) ≡ b → ItemDone S (keep_apart c e u) (do_item g dec chk (keep_apart c e u) S)
        go true h = rw (h, do_item) (record { onward = calls.decide_onward e none S refl; halt = λ h. h; achieved = λ h. tt })
        go false h = rw (h, do_item) (record { onward = onward_refl S; halt = λ h. zero≢one (cc); achieved = λ h. tt })
    item_done S (bar true a) = record { onward = calls.decide_onward a none S refl; halt = λ h. h; achieved = λ h. tt }
    item_done S (bar false a) = record { onward = onward_refl S; halt = λ h. zero≢one (cc); achieved = λ h. tt }
    item_done S (corner q a exist b c) = go exist refl (is_blank (g.cell q) && is_line (S.edge a)) refl
      where
        off : (is_blank (g.cell q) && is_line (S.edge a)) ≡ false → is_blank (g.cell q) ≡ true → S.edge a ≡ line → (exist ≡ true) × (S.edge b ≡ line) × (S.edge c ≡ line)
        off h p q = let k = rw (p, q) at h in zero≢one (cc)

        go : (o : Bool) → exist ≡ o → (t : Bool) → (is_blank (g.cell q) && is_line (S.edge a)) ≡ t → ItemDone S (corner q a exist b c) (do_item g dec chk (corner q a exist b c) S)
        go o k false h = rw (h, do_item) (record { onward = onward_refl S; halt = λ h. zero≢one (cc); achieved = λ z. off h })
        go false k true h = rw (h, do_item) (rw k (record { onward = onward_flag S; halt = λ h. flagged S; achieved = λ z. zero≢one (cc (flagged S)) }))
        go true k true h = rw (h, do_item) (rw k (record {
          onward = onward_trans (calls.decide_onward b line S refl) (calls.decide_onward c line (dec b line S) refl);
          halt = λ h. zero≢one (cc);
          achieved = λ z p q. (refl, both_set b line S c line refl refl z, calls.decide_sets c line (dec b line S) refl z);
        }))
    item_done S (detour a b c) = go (is_line (S.edge a)) refl (dec b none S).flag refl
      where
        off : is_line (S.edge a) ≡ false → S.edge a ≡ line → (S.edge b ≡ none) × (S.edge c ≡ none)
        off h p = let k = rw p at h in zero≢one (cc)

        go : (t : Bool) → is_line (S.edge a) ≡ t → (u : Bool) → (dec b none S).flag ≡ u → ItemDone S (detour a b c) (do_item g dec chk (detour a b c) S)
        go false h u k = rw (h, do_item) (record { onward = onward_refl S; halt = λ h. zero≢one (cc); achieved = λ z. off h })
        go true h true k = rw (h, do_item) (rw k (record { onward = calls.decide_onward b none S refl; halt = λ z. k; achieved = λ z. zero≢one (cc) }))
        go true h false k = rw (h, do_item) (rw k (record {
          onward = onward_trans (calls.decide_onward b none S refl) (calls.decide_onward c none (dec b none S) refl);
          halt = λ h. h;
          achieved = λ z p. (both_set b none S c none refl refl z, calls.decide_sets c none (dec b none S) refl z);
        }))

    -- A LIST OF ITEMS: the call ends at the first that says so
    pub ends_here : (it : Item) (is : List Item) (S : State) → (do_item g dec chk it S).1 ≡ true → do_items g dec chk (it ∷ is) S ≡ (do_item g dec chk it S).0
    unfolding do_items
    ends_here it is S h = rw (h, do_items)

    pub goes_on : (it : Item) (is : List Item) (S : State) → (do_item g dec chk it S).1 ≡ false → do_items g dec chk (it ∷ is) S ≡ do_items g dec chk is (do_item g dec chk it S).0
    unfolding do_items
    goes_on it is S h = rw (h, do_items)

    pub items_onward : (is : List Item) (S : State) → Onward g S (do_items g dec chk is S)
    items_onward [] S = unfold do_items in (onward_refl S)
    items_onward (it ∷ is) S = go (do_item g dec chk it S).1 refl (items_onward is (do_item g dec chk it S).0)
      where
        go : (t : Bool) → (do_item g dec chk it S).1 ≡ t → Onward g (do_item g dec chk it S).0 (do_items g dec chk is (do_item g dec chk it S).0) → Onward g S (do_items g dec chk (it ∷ is) S)
        go true h r = rw (ends_here it is S h) (item_done S it).onward
        go false h r = rw (goes_on it is S h) (onward_trans (item_done S it).onward r)

    -- and what each of them has brought about stands at the end, if nothing that follows undoes it
    pub items_achieved : (is : List Item) (start S : State) → Onward g start S
        → ((it : Item) → Memᴰ it is → (T R : State) → Onward g start T → Onward g T R → R.flag ≡ false → Achieved g T it → Achieved g R it)
        → (do_items g dec chk is S).flag ≡ false → (it : Item) → Memᴰ it is → Achieved g (do_items g dec chk is S) it
    items_achieved [] start S so_far stay z it m = elim m [ ]
    items_achieved (i ∷ is) start S so_far stay z it m =
        go (do_item g dec chk i S).1 refl
        (λ y n. items_achieved is start (do_item g dec chk i S).0 (onward_trans so_far (item_done S i).onward) (λ j k. stay j (Memᴰ.tail k)) y it n)
      where
        go : (t : Bool) → (do_item g dec chk i S).1 ≡ t
            → ((do_items g dec chk is (do_item g dec chk i S).0).flag ≡ false → Memᴰ it is → Achieved g (do_items g dec chk is (do_item g dec chk i S).0) it)
            → Achieved g (do_items g dec chk (i ∷ is) S) it
        go true h r = let e = ap (λ (T : State). T.flag) (ends_here i is S h) in let k = (item_done S i).halt h in zero≢one (cc)
        go false h r = rw (goes_on i is S h) (⊎_elim
            (λ e. rw e (stay i (Memᴰ.head refl) (do_item g dec chk i S).0 (do_items g dec chk is (do_item g dec chk i S).0)
            (onward_trans so_far (item_done S i).onward) rest y ((item_done S i).achieved (rest.was_clear y))))
            (λ n. r y n) (Memᴰ.cases_cons m))
          where
            rest : Onward g (do_item g dec chk i S).0 (do_items g dec chk is (do_item g dec chk i S).0)
            rest = items_onward is (do_item g dec chk i S).0

            y : (do_items g dec chk is (do_item g dec chk i S).0).flag ≡ false
            y = rw (goes_on i is S h) at z
