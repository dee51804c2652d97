-- Laws of the ends: what the list of end numbers shows after two chains are joined, that the end of an end stays the pad itself, and that
-- undoing a join gives back the list. The laws are proved once for functions from pads to ends and then carried to the list.
use Prim.Native.Nat.{ℕ, zero, suc, ◌<◌}
use Rattle.std.specs.Prelude.{◌≡◌, refl, false, List, get_or, set, length, ℤ, pos, negsuc}
use Rattle.std.proofs.Common.{sym, ◌∙◌, arith, get_or-set_same, get_or-set_other, ext_get_or}
use Rattle.std.proofs.Math.Path.{ap}
use Rattle.std.proofs.Math.Decide.{ℕ_discrete}
use Rattle.std.proofs.Math.ListN.{length-set}
use Rattle.model.specs.JoinedEnds.{End, through, at_pad, at_clue, end_number, is_through, put_end, put_end_at, joined_ends}
use Rattle.model.specs.BoardLaws.{same_pad, is_pad_end, put_same, put_other, put_at_same, put_at_other}
use Rattle.boardview.specs.View.{end_of, end_at, put_number, joined, unjoined}
use Rattle.model.specs.Lists.{default_free}

-- AN END AND ITS NUMBER tell each other: -1, the index of a pad, -v - 2 for every code v, and no two ends have one number
pub end_of_number : (A : End) → end_of (end_number A) ≡ A
unfolding end_of end_number
end_of_number through = refl
end_of_number (at_pad v) = refl
end_of_number (at_clue code) = refl

pub number_of_end : (z : ℤ) → end_number (end_of z) ≡ z
unfolding end_of end_number
number_of_end (pos n) = refl
number_of_end (negsuc zero) = refl
number_of_end (negsuc (suc c)) = refl

pub same_number : (y z : ℤ) → end_of y ≡ end_of z → y ≡ z
same_number y z e = sym (number_of_end y) ∙ (ap end_number e ∙ number_of_end z)

not_through : {a : ℕ} → through ≡ at_pad a → ⊥
not_through e = let z : ◌≡◌ {A = ℕ} 0 1 = cc in omega arith

-- the end of an end is the pad itself
abbrev pub Paired : (ℕ → End) → Type 0
Paired E = (v w : ℕ) → E v ≡ at_pad w → E w ≡ at_pad v

-- JOINED CHAINS
module _ (E : ℕ → End) (v q : ℕ) where
  abbrev after : ℕ → End
  after = joined_ends E v q (E v) (E q)

  abbrev passed : ℕ → End
  passed = put_end (put_end E v through) q through

  at_b : (x : ℕ) → E q ≡ at_pad x → after x ≡ E v
  unfolding joined_ends
  at_b x h = put_at_same (put_end_at passed (E v) (E q)) (E q) (E v) x h

  at_a : (x : ℕ) → (E q ≡ at_pad x → ⊥) → E v ≡ at_pad x → after x ≡ E q
  unfolding joined_ends
  at_a x n h = put_at_other (put_end_at passed (E v) (E q)) (E q) (E v) x n ∙ put_at_same passed (E v) (E q) x h

  at_neither : (x : ℕ) → (E q ≡ at_pad x → ⊥) → (E v ≡ at_pad x → ⊥) → after x ≡ passed x
  unfolding joined_ends
  at_neither x n m = put_at_other (put_end_at passed (E v) (E q)) (E q) (E v) x n ∙ put_at_other passed (E v) (E q) x m

  at_second : (x : ℕ) → x ≡ q → passed x ≡ through
  at_second x h = put_same (put_end E v through) q through x h

  at_first : (x : ℕ) → (x ≡ q → ⊥) → x ≡ v → passed x ≡ through
  at_first x n h = put_other (put_end E v through) q through x n ∙ put_same E v through x h

  elsewhere : (x : ℕ) → (x ≡ q → ⊥) → (x ≡ v → ⊥) → passed x ≡ E x
  elsewhere x n m = put_other (put_end E v through) q through x n ∙ put_other E v through x m

  pub stay_paired : Paired E → (v ≡ q → ⊥) → Paired after
  stay_paired P d x y e = go (is_pad_end (E q) x) (is_pad_end (E v) x)
    where
      rest : (E q ≡ at_pad x → ⊥) → (E v ≡ at_pad x → ⊥) → Dec (x ≡ q) → Dec (x ≡ v) → after y ≡ at_pad x
      rest n m (yes h) r = absurd (not_through (sym (at_second x h) ∙ (sym (at_neither x n m) ∙ e)))
      rest n m (no k) (yes h) = absurd (not_through (sym (at_first x k h) ∙ (sym (at_neither x n m) ∙ e)))
      rest n m (no k) (no l) =
          let h : E x ≡ at_pad y = sym (elsewhere x k l) ∙ (sym (at_neither x n m) ∙ e) in
          let b : E y ≡ at_pad x = P x y h in
          at_neither y (λ z. k (same_pad (sym b ∙ P q y z))) (λ z. l (same_pad (sym b ∙ P v y z)))
          ∙ (elsewhere y (λ z. n (ap E (sym z) ∙ b)) (λ z. m (ap E (sym z) ∙ b)) ∙ b)

      go : Dec (E q ≡ at_pad x) → Dec (E v ≡ at_pad x) → after y ≡ at_pad x
      go (yes h) r =
          let a : E v ≡ at_pad y = sym (at_b x h) ∙ e in
          at_a y (λ z. d (same_pad (sym (P v y a) ∙ P q y z))) a ∙ h
      go (no n) (yes h) =
          let b : E q ≡ at_pad y = sym (at_a x n h) ∙ e in
          at_b y b ∙ h
      go (no n) (no m) = rest n m (ℕ_discrete x q) (ℕ_discrete x v)

  pub stay_near : (N : ℕ) → v < N → q < N → ((x w : ℕ) → x < N → E x ≡ at_pad w → w < N) → (x w : ℕ) → x < N → after x ≡ at_pad w → w < N
  stay_near N hv hq near x w hx e = go (is_pad_end (E q) x) (is_pad_end (E v) x)
    where
      rest : (E q ≡ at_pad x → ⊥) → (E v ≡ at_pad x → ⊥) → Dec (x ≡ q) → Dec (x ≡ v) → w < N
      rest n m (yes h) r = absurd (not_through (sym (at_second x h) ∙ (sym (at_neither x n m) ∙ e)))
      rest n m (no k) (yes h) = absurd (not_through (sym (at_first x k h) ∙ (sym (at_neither x n m) ∙ e)))
      rest n m (no k) (no l) = near x w hx (sym (elsewhere x k l) ∙ (sym (at_neither x n m) ∙ e))

      go : Dec (E q ≡ at_pad x) → Dec (E v ≡ at_pad x) → w < N
      go (yes h) r = near v w hv (sym (at_b x h) ∙ e)
      go (no n) (yes h) = near q w hq (sym (at_a x n h) ∙ e)
      go (no n) (no m) = rest n m (ℕ_discrete x q) (ℕ_discrete x v)

  -- undoing the join
  abbrev undone : ℕ → End
  undone = put_end_at (put_end_at (put_end (put_end after v (E v)) q (E q)) (E v) (at_pad v)) (E q) (at_pad q)

  pub undone_is : Paired E → (x : ℕ) → undone x ≡ E x
  undone_is P x = go (is_pad_end (E q) x) (is_pad_end (E v) x) (ℕ_discrete x q) (ℕ_discrete x v)
    where
      inner : ℕ → End
      inner = put_end (put_end after v (E v)) q (E q)

      go : Dec (E q ≡ at_pad x) → Dec (E v ≡ at_pad x) → Dec (x ≡ q) → Dec (x ≡ v) → undone x ≡ E x
      go (yes h) r s t = put_at_same (put_end_at inner (E v) (at_pad v)) (E q) (at_pad q) x h ∙ sym (P q x h)
      go (no n) (yes h) s t = put_at_other (put_end_at inner (E v) (at_pad v)) (E q) (at_pad q) x n ∙ (put_at_same inner (E v) (at_pad v) x h ∙ sym (P v x h))
      go (no n) (no m) (yes h) t = put_at_other (put_end_at inner (E v) (at_pad v)) (E q) (at_pad q) x n ∙ (put_at_other inner (E v) (at_pad v) x m
          ∙ (put_same (put_end after v (E v)) q (E q) x h ∙ ap E (sym h)))
      go (no n) (no m) (no k) (yes h) = put_at_other (put_end_at inner (E v) (at_pad v)) (E q) (at_pad q) x n ∙ (put_at_other inner (E v) (at_pad v) x m
          ∙ (put_other (put_end after v (E v)) q (E q) x k ∙ (put_same after v (E v) x h ∙ ap E (sym h))))
      go (no n) (no m) (no k) (no l) = put_at_other (put_end_at inner (E v) (at_pad v)) (E q) (at_pad q) x n ∙ (put_at_other inner (E v) (at_pad v) x m
          ∙ (put_other (put_end after v (E v)) q (E q) x k ∙ (put_other after v (E v) x l ∙ (at_neither x n m ∙ elsewhere x k l))))

-- THE LIST
pub number_stored : (l : List ℤ) (p : ℕ) (z : ℤ) (x : ℕ) → p < length l → end_at (set l p z) x ≡ put_end (λ u. end_at l u) p (end_of z) x
number_stored l p z x h = go (ℕ_discrete x p)
  where
    go : Dec (x ≡ p) → end_at (set l p z) x ≡ put_end (λ u. end_at l u) p (end_of z) x
    go (yes e) = rw e (ap end_of (get_or-set_same l p z (pos p) h)) ∙ sym (put_same (λ u. end_at l u) p (end_of z) x e)
    go (no n) = ap end_of (get_or-set_other l p x z (pos x) n) ∙ sym (put_other (λ u. end_at l u) p (end_of z) x n)

pub number_put : (A : End) (z : ℤ) (l : List ℤ) (x : ℕ) → ((a : ℕ) → A ≡ at_pad a → a < length l) → end_at (put_number A z l) x ≡ put_end_at (λ u. end_at l u) A (end_of z) x
unfolding put_number put_end_at
number_put through z l x h = refl
number_put (at_clue c) z l x h = refl
number_put (at_pad a) z l x h = number_stored l a z x (h a refl)

pub length_put : (A : End) (z : ℤ) (l : List ℤ) → length (put_number A z l) ≡ length l
unfolding put_number
length_put through z l = refl
length_put (at_clue c) z l = refl
length_put (at_pad a) z l = length-set l a z

ends_equal : (k l : List ℤ) → length k ≡ length l → ((x : ℕ) → end_at k x ≡ end_at l x) → k ≡ l
ends_equal k l h e = ext_get_or (pos 0) k l h (λ i b. default_free k i (pos 0) (pos i) b ∙ (same_number _ _ (e i) ∙ default_free l i (pos i) (pos 0) (omega arith)))

module _ (v q : ℕ) (ends : List ℤ) (hv : v < length ends) (hq : q < length ends)
    (hA : (a : ℕ) → end_at ends v ≡ at_pad a → a < length ends) (hB : (b : ℕ) → end_at ends q ≡ at_pad b → b < length ends) where
  abbrev passed_list : List ℤ
  passed_list = set (set ends v (negsuc 0)) q (negsuc 0)

  passed_long : length passed_list ≡ length ends
  passed_long = length-set (set ends v (negsuc 0)) q (negsuc 0) ∙ length-set ends v (negsuc 0)

  abbrev first_list : List ℤ
  first_list = put_number (end_at ends v) (get_or ends q (pos q)) passed_list

  first_long : length first_list ≡ length ends
  first_long = length_put (end_at ends v) (get_or ends q (pos q)) passed_list ∙ passed_long

  pub joined_long : length (joined v q ends) ≡ length ends
  unfolding joined
  joined_long = length_put (end_at ends q) (get_or ends v (pos v)) first_list ∙ first_long

  passed_at : (x : ℕ) → end_at passed_list x ≡ put_end (put_end (λ u. end_at ends u) v through) q through x
  unfolding end_of put_end
  passed_at x = number_stored (set ends v (negsuc 0)) q (negsuc 0) x (omega (arith, length-set ends v (negsuc 0)))
      ∙ ap (λ (E : ℕ → End). put_end E q through x) (λ i u. number_stored ends v (negsuc 0) u hv i)

  first_at : (x : ℕ) → end_at first_list x ≡ put_end_at (put_end (put_end (λ u. end_at ends u) v through) q through) (end_at ends v) (end_at ends q) x
  unfolding put_end put_end_at
  first_at x = number_put (end_at ends v) (get_or ends q (pos q)) passed_list x (λ a e. omega (arith, hA a e, passed_long))
      ∙ ap (λ (E : ℕ → End). put_end_at E (end_at ends v) (end_at ends q) x) (λ i u. passed_at u i)

  -- the view of the joined list is the model's joined ends
  pub joined_at : (x : ℕ) → end_at (joined v q ends) x ≡ joined_ends (λ u. end_at ends u) v q (end_at ends v) (end_at ends q) x
  unfolding joined joined_ends put_end put_end_at
  joined_at x = number_put (end_at ends q) (get_or ends v (pos v)) first_list x (λ b e. omega (arith, hB b e, first_long))
      ∙ ap (λ (E : ℕ → End). put_end_at E (end_at ends q) (end_at ends v) x) (λ i u. first_at u i)

  -- and undoing the join gives back the list
  abbrev given_list : List ℤ
  given_list = set (set (joined v q ends) v (get_or ends v (pos v))) q (get_or ends q (pos q))

  given_long : length given_list ≡ length ends
  given_long = length-set (set (joined v q ends) v (get_or ends v (pos v))) q (get_or ends q (pos q)) ∙ (length-set (joined v q ends) v (get_or ends v (pos v)) ∙ joined_long)

  abbrev back_list : List ℤ
  back_list = put_number (end_at ends v) (pos v) given_list

  back_long : length back_list ≡ length ends
  back_long = length_put (end_at ends v) (pos v) given_list ∙ given_long

  given_at : (x : ℕ) → end_at given_list x ≡ put_end (put_end (joined_ends (λ u. end_at ends u) v q (end_at ends v) (end_at ends q)) v (end_at ends v)) q (end_at ends q) x
  unfolding put_end joined_ends put_end_at
  given_at x = number_stored (set (joined v q ends) v (get_or ends v (pos v))) q (get_or ends q (pos q)) x (omega (arith, length-set (joined v q ends) v (get_or ends v (pos v)), joined_long))
      ∙ ap (λ (E : ℕ → End). put_end E q (end_at ends q) x) (λ i u. (number_stored (joined v q ends) v (get_or ends v (pos v)) u (omega (arith, joined_long))
      ∙ ap (λ (E : ℕ → End). put_end E v (end_at ends v) u) (λ j y. joined_at y j)) i)

  back_at : (x : ℕ) → end_at back_list x ≡ put_end_at (put_end (put_end (joined_ends (λ u. end_at ends u) v q (end_at ends v) (end_at ends q)) v (end_at ends v)) q (end_at ends q)) (end_at ends v) (at_pad v) x
  unfolding end_of put_end put_end_at
  back_at x = number_put (end_at ends v) (pos v) given_list x (λ a e. omega (arith, hA a e, given_long))
      ∙ ap (λ (E : ℕ → End). put_end_at E (end_at ends v) (at_pad v) x) (λ i u. given_at u i)

  unjoined_at : (x : ℕ) → end_at (put_number (end_at ends q) (pos q) back_list) x ≡ undone (λ u. end_at ends u) v q x
  unfolding end_of put_end put_end_at
  unjoined_at x = number_put (end_at ends q) (pos q) back_list x (λ b e. omega (arith, hB b e, back_long))
      ∙ ap (λ (E : ℕ → End). put_end_at E (end_at ends q) (at_pad q) x) (λ i u. back_at u i)

  pub unjoined_is : Paired (λ u. end_at ends u) → is_through (end_at ends v) ≡ false → unjoined v q (get_or ends v (pos v)) (get_or ends q (pos q)) (joined v q ends) ≡ ends
  unfolding unjoined
  unjoined_is P n = rw n (ends_equal (put_number (end_at ends q) (pos q) back_list) ends (length_put (end_at ends q) (pos q) back_list ∙ back_long)
      (λ x. unjoined_at x ∙ undone_is (λ u. end_at ends u) v q P x))
