-- The induction: for every bound on the nesting, a decision and a pad check keep every object of the board, a decision sets its edge, and
-- a pad check leaves its pad at rest, wherever the flag is clear after it. Running out of the bound sets the flag, so nothing is asked of it.
use Rattle.std.specs.Prelude.{ℕ, zero, suc, ◌≡◌, ◌⊎◌, Bool}
use Rattle.std.proofs.Math.Path.{refl}
use Rattle.std.proofs.Common.{ap}
use Rattle.std.proofs.Math.Logic.{inl, inr, ⊎_elim}
use Rattle.std.proofs.Math.Bool.{true, false}
use mathlib.Core.List.Memᴰ
use mathlib.Core.List.{List, [], ◌∷◌, ◌++◌, Memᴰ}
use Rattle.rules.specs.Grid.{Edge, Grid}
use Rattle.rules.specs.Places.{zero≢one}
use Rattle.model.specs.JoinedEnds.{End, through, at_pad, at_clue}
use Rattle.model.specs.PadTests.{on_board}
use Rattle.model.specs.Board.{EdgeState, is_undecided, same_state, State, set_flag, Item, keep_aparts, around, check_items, decide, check, undecided, line, none, keep_apart, settle}
use Rattle.propagation.specs.Edges.{same_state-true}
use Rattle.propagation.specs.Objects.{AtRest, Achieved, Holds, Geometry, pad}
use Rattle.propagation.specs.Items.{Onward, onward_refl, onward_flag, CallsKeep, items_onward, items_achieved}
use Rattle.propagation.specs.Settling.{PadOf, DecideKeeps, settle_keeps}
use Rattle.propagation.specs.Deciding.{Decided, none_decided, line_decided}

module _ (g : Grid) (geo : Geometry g) where
  -- A PAD CHECK does items of two kinds
  abbrev CheckItem : ℕ → Item → Type 0
  CheckItem v it = ((a : ℕ) × (d : Edge) × (u : ℕ) × (it ≡ keep_apart a d u)) ⊎ (it ≡ settle v)

  apart_or_settle : (v c : ℕ) (l : List (Edge × ℕ)) (it : Item) → Memᴰ it (keep_aparts c l ++ (settle v ∷ [])) → CheckItem v it
  unfolding keep_aparts
  apart_or_settle v c [] it k = ⊎_elim (λ p. inr p) (λ n. elim n [ ]) (Memᴰ.cases_cons k)
  apart_or_settle v c (p ∷ l) it k = ⊎_elim (λ q. inl (c, p.0, p.1, q)) (apart_or_settle v c l it) (Memᴰ.cases_cons k)

  check_item : (v : ℕ) (X : End) (it : Item) → Memᴰ it (check_items g v X) → CheckItem v it
  unfolding check_items
  check_item v through it k = ⊎_elim (λ p. inr p) (λ n. elim n [ ]) (Memᴰ.cases_cons k)
  check_item v (at_pad a) it k = ⊎_elim (λ p. inr p) (λ n. elim n [ ]) (Memᴰ.cases_cons k)
  check_item v (at_clue c) it k = apart_or_settle v c (around g v) it k

  settles_last : (v : ℕ) (X : End) → Memᴰ (settle v) (check_items g v X)
  unfolding check_items
  settles_last v through = Memᴰ.head refl
  settles_last v (at_pad a) = Memᴰ.head refl
  settles_last v (at_clue c) = Memᴰ.append_right (keep_aparts c (around g v)) (Memᴰ.head refl)

  check_stays : (v : ℕ) (it : Item) (T R : State) → Onward g T R → R.flag ≡ false → CheckItem v it → Achieved g T it → Achieved g R it
  unfolding Achieved Holds
  check_stays v it T R q z (inl (a, d, u, p)) n = rw p tt
  check_stays v it T R q z (inr p) n = rw p (q.still_holds z (pad v) (rw p at n))

  -- a call that only sets the flag
  flag_keeps : DecideKeeps g (λ e m S. set_flag S)
  unfolding set_flag
  flag_keeps = record { goes_onward = λ e m S h. unfold set_flag in (onward_flag g S); sets = λ e m S h z. zero≢one (cc); pads_rest = λ e m S v h o p z. zero≢one (cc) }

  -- ONE STEP of the induction
  module _ (f : ℕ) (calls : CallsKeep g (λ a k T. decide g f a k T) (λ v T. check g f v T)) where
    -- an undecided edge of the board
    decide_free : (e : Edge) (m : EdgeState) (S : State) → on_board g e ≡ true → is_undecided m ≡ false → is_undecided (S.edge e) ≡ true → Decided g geo S e m (decide g (suc f) e m S)
    unfolding decide
    decide_free e undecided S on h o = zero≢one (cc)
    decide_free e line S on h o = rw (on, decide) (rw o (line_decided g geo (λ a k T. decide g f a k T) (λ v T. check g f v T) calls S e on o))
    decide_free e none S on h o = rw (on, decide) (rw o (none_decided g geo (λ a k T. decide g f a k T) (λ v T. check g f v T) calls S e on o))

    -- a decided edge: the flag or nothing
    abbrev Again : Edge → EdgeState → State → Type 0
    Again e m S = Onward g S (decide g (suc f) e m S) × ((decide g (suc f) e m S).flag ≡ false → (decide g (suc f) e m S).edge e ≡ m)

    decide_again : (e : Edge) (m : EdgeState) (S : State) → on_board g e ≡ true → is_undecided (S.edge e) ≡ false → Again e m S
    unfolding decide set_flag
    decide_again e m S on o = go (same_state (S.edge e) m) refl
      where
        go : (b : Bool) → same_state (S.edge e) m ≡ b → Again e m S
        go true h = rw (on, decide) (rw o (rw h (onward_refl g S, λ z. same_state-true (S.edge e) m h)))
        go false h = rw (on, decide) (rw o (rw h (onward_flag g S, λ z. zero≢one (cc))))

    -- no edge of the board
    decide_off : (e : Edge) (m : EdgeState) (S : State) → on_board g e ≡ false → decide g (suc f) e m S ≡ set_flag S
    unfolding decide
    decide_off e m S off = rw (off, decide)

    was_flagged : (S R : State) {X : Type 0} → R ≡ set_flag S → R.flag ≡ false → X
    was_flagged S R e z = let k = ap (λ (T : State). T.flag) e in let j : (set_flag S).flag ≡ true = (unfold set_flag in refl) in zero≢one (cc)

    decide_keeps : DecideKeeps g (λ e m S. decide g (suc f) e m S)
    decide_keeps = record {
      goes_onward = λ e m S h. onward e m S h (on_board g e) refl (is_undecided (S.edge e)) refl;
      sets = λ e m S h z. sets e m S h z (on_board g e) refl (is_undecided (S.edge e)) refl;
      pads_rest = λ e m S v h o p z. rests e m S v h o p z (on_board g e) refl;
    }
      where
        onward : (e : Edge) (m : EdgeState) (S : State) → is_undecided m ≡ false → (c : Bool) → on_board g e ≡ c → (b : Bool) → is_undecided (S.edge e) ≡ b → Onward g S (decide g (suc f) e m S)
        onward e m S h false off b o = rw (decide_off e m S off) (onward_flag g S)
        onward e m S h true on true o = (decide_free e m S on h o).onward
        onward e m S h true on false o = (decide_again e m S on o).0

        sets : (e : Edge) (m : EdgeState) (S : State) → is_undecided m ≡ false → (decide g (suc f) e m S).flag ≡ false → (c : Bool) → on_board g e ≡ c → (b : Bool) → is_undecided (S.edge e) ≡ b
            → (decide g (suc f) e m S).edge e ≡ m
        sets e m S h z false off b o = was_flagged S (decide g (suc f) e m S) (decide_off e m S off) z
        sets e m S h z true on true o = (decide_free e m S on h o).set z
        sets e m S h z true on false o = (decide_again e m S on o).1 z

        rests : (e : Edge) (m : EdgeState) (S : State) (v : ℕ) → is_undecided m ≡ false → is_undecided (S.edge e) ≡ true → PadOf g e v → (decide g (suc f) e m S).flag ≡ false
            → (c : Bool) → on_board g e ≡ c → AtRest g (decide g (suc f) e m S) v
        rests e m S v h o p z false off = was_flagged S (decide g (suc f) e m S) (decide_off e m S off) z
        rests e m S v h o p z true on = (decide_free e m S on h o).rests v p z

    check_onward : (v : ℕ) (S : State) → Onward g S (check g (suc f) v S)
    unfolding decide
    check_onward v S = items_onward g (λ a k T. decide g f a k T) (λ v T. check g f v T) calls (check_items g v (S.end v)) S

    check_rests : (v : ℕ) (S : State) → (check g (suc f) v S).flag ≡ false → AtRest g (check g (suc f) v S) v
    unfolding decide Achieved
    check_rests v S z = items_achieved g (λ a k T. decide g f a k T) (λ v T. check g f v T) calls (check_items g v (S.end v)) S S
        (onward_refl g S) (λ it k T R p q y n. check_stays v it T R q y (check_item v (S.end v) it k) n) z (settle v) (settles_last v (S.end v))

    one_more : CallsKeep g (λ a k T. decide g (suc f) a k T) (λ v T. check g (suc f) v T)
    one_more = record {
      decide_onward = decide_keeps.goes_onward;
      decide_sets = decide_keeps.sets;
      check_onward = check_onward;
      check_rests = check_rests;
      settle_keeps = settle_keeps g geo (λ e m S. decide g (suc f) e m S) decide_keeps;
    }

  with_none : CallsKeep g (λ a k T. decide g zero a k T) (λ v T. check g zero v T)
  unfolding decide set_flag
  with_none = record {
    decide_onward = λ e m S h. onward_flag g S;
    decide_sets = λ e m S h z. zero≢one (cc);
    check_onward = λ v S. onward_flag g S;
    check_rests = λ v S z. zero≢one (cc);
    settle_keeps = settle_keeps g geo (λ e m S. set_flag S) flag_keeps;
  }

  -- FOR EVERY BOUND on the nesting
  pub calls_keep : (f : ℕ) → CallsKeep g (λ a k T. decide g f a k T) (λ v T. check g f v T)
  calls_keep zero = with_none
  calls_keep (suc f) = one_more f (calls_keep f)
