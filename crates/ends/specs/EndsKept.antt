-- Step c keeps what the ends say: if a line is added between two pads that have room, whose chains are different and of no two codes, and
-- the ends are joined, then the new ends say the same of the new lines. Everything is shown for the side of u; the side of v is the same
-- step with u and v exchanged.
use Rattle.std.specs.Prelude.{ℕ, ◌≡◌, ◌≢◌, ◌⊎◌, false}
use Rattle.std.proofs.Common.{sym, ◌∙◌, ap, inl, inr, ⊎_elim}
use Rattle.std.proofs.Math.Logic.{⊎_map, ⊎_swap}
use Rattle.std.proofs.Math.Decide.{ℕ_discrete}
use Rattle.rules.specs.Grid.{Cell, clue}
use Rattle.rules.specs.Drawing.{Relation, NoLine, OneLine, TwoLines, Joined, here, more}
use Rattle.rules.specs.Places.{zero≢one}
use Rattle.model.specs.JoinedEnds.{End, through, at_pad, at_clue}
use Rattle.model.specs.PadTests.{is_clue}
use Rattle.model.specs.BoardLaws.{clue_is_clue, same_pad, is_pad_end}
use Rattle.rules.specs.Chains.{join_trans, join_sym, join_mono, first_line, by_pad}
use Rattle.ends.specs.Ends.{Short, Full, Room, PadEnd, ClueEnd, LoosePad, Ends, Added, Stored, Step, pad_or_clue, two_lines, one_line, other_room, clue_room}

pub added_swap : {L M : Relation} {u v : ℕ} → Added L M u v → Added L M v u
added_swap a = record {
  keep = a.keep;
  there = a.back;
  back = a.there;
  only = λ x y m. ⊎_elim (λ l. inl l) (λ s. inr (⊎_swap s)) (a.only x y m);
}

pub stored_swap : {end end' : ℕ → End} {u v : ℕ} {A B : End} → Stored end end' u v A B → Stored end end' v u B A
stored_swap s = record {
  pad_a = s.pad_b;
  pad_b = s.pad_a;
  pad_u = s.pad_v;
  pad_v = s.pad_u;
  others = λ x p q f g. s.others x q p g f;
}

-- a chain of the new drawing is one of the old, or two joined by the new line
pub parted : {L M : Relation} {u v : ℕ} → Added L M u v → {x y : ℕ} → Joined M x y
    → Joined L x y ⊎ (Joined L x u × Joined L v y) ⊎ (Joined L x v × Joined L u y)
parted {L} {M} {u} {v} a here = inl here
parted {L} {M} {u} {v} a {x} {y} (more {b = b} m p) = go (parted a p) (a.only x b m)
  where
    go : Joined L b y ⊎ (Joined L b u × Joined L v y) ⊎ (Joined L b v × Joined L u y)
        → L x b ⊎ ((x ≡ u) × (b ≡ v)) ⊎ ((x ≡ v) × (b ≡ u))
        → Joined L x y ⊎ (Joined L x u × Joined L v y) ⊎ (Joined L x v × Joined L u y)
    go (inl q) (inl l) = inl (more l q)
    go (inr (inl (q, r))) (inl l) = inr (inl (more l q, r))
    go (inr (inr (q, r))) (inl l) = inr (inr (more l q, r))
    go (inl q) (inr (inl (e, f))) = rw e (inr (inl (here, rw f at q)))
    go (inr (inl (q, r))) (inr (inl (e, f))) = rw e (inr (inl (here, r)))
    go (inr (inr (q, r))) (inr (inl (e, f))) = rw e (inl r)
    go (inl q) (inr (inr (e, f))) = rw e (inr (inr (here, rw f at q)))
    go (inr (inl (q, r))) (inr (inr (e, f))) = rw e (inl r)
    go (inr (inr (q, r))) (inr (inr (e, f))) = rw e (inr (inr (here, r)))

module _ {cell : ℕ → Cell} {L M : Relation} {end end' : ℕ → End} where
  swap : {u v : ℕ} {A B : End} → Step cell L M end end' u v A B → Step cell L M end end' v u B A
  swap {u} {v} s = record {
    both_ways = s.both_ways;
    ends = s.ends;
    added = added_swap s.added;
    stored = stored_swap s.stored;
    at_u = s.at_v;
    at_v = s.at_u;
    a_not_through = s.b_not_through;
    b_not_through = s.a_not_through;
    apart = λ e. s.apart (sym e);
    no_line_yet = λ l. s.no_line_yet (s.both_ways v u l);
    not_closing = λ e. s.not_closing (sym s.at_u ∙ (s.ends.pad_end v u (s.at_v ∙ e)).back);
    one_code = λ c d e f. sym (s.one_code d c f e);
  }

  module _ {u v : ℕ} {A B : End} (s : Step cell L M end end' u v A B) where
    pad_end_u : (a : ℕ) → A ≡ at_pad a → PadEnd cell L end u a
    pad_end_u a e = s.ends.pad_end u a (s.at_u ∙ e)

    clue_end_u : (c : ℕ) → A ≡ at_clue c → ClueEnd cell L end u c
    clue_end_u c e = s.ends.clue_end u c (s.at_u ∙ e)

    -- THE TWO CHAINS are different
    different_chains : Joined L u v → ⊥
    different_chains j = ⊎_elim
        (λ (a, e). ⊎_elim (λ p. s.apart (sym p)) (⊎_elim (λ p. s.not_closing (e ∙ ap at_pad (sym p))) (λ t. s.b_not_through (sym s.at_v ∙ t))) ((pad_end_u a e).others_passed v j))
        (λ (c, e). ⊎_elim (λ p. s.apart (sym p)) (λ t. s.b_not_through (sym s.at_v ∙ t)) ((clue_end_u c e).others_passed v j))
        (pad_or_clue A s.a_not_through)

    -- the pad at the other end of u's chain has u as its end
    other_end_back : (x : ℕ) → A ≡ at_pad x → end x ≡ at_pad u
    other_end_back x e = (pad_end_u x e).back

    -- a passed pad stays one
    stays_passed : (x : ℕ) → end x ≡ through → end' x ≡ through
    stays_passed x t = s.stored.others x
        (λ e. s.a_not_through (sym s.at_u ∙ ap end (sym e) ∙ t))
        (λ e. s.b_not_through (sym s.at_v ∙ ap end (sym e) ∙ t))
        (λ e. zero≢one (cc (other_end_back x e)))
        (λ e. zero≢one (cc (s.ends.pad_end v x (s.at_v ∙ e)).back))
        ∙ t

    -- a pad of u's chain is its other end, or passed through from now on
    side : (x : ℕ) → Joined L u x → (A ≡ at_pad x) ⊎ (end' x ≡ through)
    side x j = ⊎_elim
        (λ (a, e). ⊎_elim at_u (⊎_elim (λ p. inl (e ∙ ap at_pad (sym p))) (λ t. inr (stays_passed x t))) ((pad_end_u a e).others_passed x j))
        (λ (c, e). ⊎_elim at_u (λ t. inr (stays_passed x t)) ((clue_end_u c e).others_passed x j))
        (pad_or_clue A s.a_not_through)
      where
        at_u : x ≡ u → (A ≡ at_pad x) ⊎ (end' x ≡ through)
        at_u e = elim (is_pad_end A u) [ yes f ↦ inl (f ∙ ap at_pad (sym e)) | no n ↦ inr (ap end' e ∙ s.stored.pad_u n) ]

    clue_of_u : (x c : ℕ) → Joined L u x → cell x ≡ clue c → A ≡ at_clue c
    clue_of_u x c j k = ⊎_elim
        (λ (a, e). clue_is_clue ((pad_end_u a e).no_clue x j) k)
        (λ (d, e). let o = clue_end_u d e in
        e ∙ ap at_clue (s.ends.equal_codes o.pad x d c o.clue_at k (join_trans (join_sym s.both_ways o.joined) j)))
        (pad_or_clue A s.a_not_through)

    -- the lines of another pad stay
    line_elsewhere : (x y : ℕ) → x ≢ u → x ≢ v → M x y → L x y
    line_elsewhere x y p q m = ⊎_elim (λ l. l) (⊎_elim (λ (e, f). absurd (p e)) (λ (e, f). absurd (q e))) (s.added.only x y m)

    line_at_u : (y : ℕ) → M u y → L u y ⊎ (y ≡ v)
    line_at_u y m = ⊎_elim (λ l. inl l) (⊎_elim (λ (e, f). inr f) (λ (e, f). absurd (s.apart e))) (s.added.only u y m)

    short_keep : (x : ℕ) → x ≢ u → x ≢ v → Short L x → Short M x
    short_keep x p q h a b m n = h a b (line_elsewhere x a p q m) (line_elsewhere x b p q n)

    short_new : NoLine L u → Short M u
    short_new n a b m k = ⊎_elim (λ l. absurd (n a l)) (λ e. ⊎_elim (λ l. absurd (n b l)) (λ f. e ∙ sym f) (line_at_u b k)) (line_at_u a m)

    one_keep : (x : ℕ) → x ≢ u → x ≢ v → OneLine L x → OneLine M x
    one_keep x p q o = record { to = o.to; line = s.added.keep x o.to o.line; only = λ b m. o.only b (line_elsewhere x b p q m) }

    two_keep : (x : ℕ) → x ≢ u → x ≢ v → TwoLines L x → TwoLines M x
    two_keep x p q o = record {
      to = o.to;
      also_to = o.also_to;
      apart = o.apart;
      line = s.added.keep x o.to o.line;
      also_line = s.added.keep x o.also_to o.also_line;
      only = λ b m. o.only b (line_elsewhere x b p q m);
    }

    full_keep : (x : ℕ) → x ≢ u → x ≢ v → Full cell L x → Full cell M x
    full_keep x p q (two_lines e t) = two_lines e (two_keep x p q t)
    full_keep x p q (one_line c e o) = one_line c e (one_keep x p q o)

    room_keep : (x : ℕ) → x ≢ u → x ≢ v → Room cell L x → Room cell M x
    room_keep x p q (other_room e h) = other_room e (short_keep x p q h)
    room_keep x p q (clue_room c e n) = clue_room c e (λ a m. n a (line_elsewhere x a p q m))

    -- u after the line is added: full unless it stood alone
    room_at_u : Room cell L u
    room_at_u = s.ends.else_room u (λ e. s.a_not_through (sym s.at_u ∙ e))

    two_new : (y : ℕ) → L u y → Short L u → TwoLines M u
    two_new y l h = record {
      to = y;
      also_to = v;
      apart = λ e. s.no_line_yet (rw e at l);
      line = s.added.keep u y l;
      also_line = s.added.there;
      only = λ c m. ⊎_map (λ k. h c y k l) (λ e. e) (line_at_u c m);
    }

    full_new : A ≢ at_pad u → Full cell M u
    full_new n = go room_at_u
      where
        first : is_clue (cell u) ≡ false → (y : ℕ) × L u y
        first e = ⊎_elim
            (λ (a, f). first_line a (λ g. n (f ∙ ap at_pad g)) (pad_end_u a f).joined)
            (λ (c, f). let o = clue_end_u c f in first_line o.pad (λ g. clue_is_clue e (ap cell (sym g) ∙ o.clue_at)) o.joined)
            (pad_or_clue A s.a_not_through)

        go : Room cell L u → Full cell M u
        go (other_room e h) = let (y, l) = first e in two_lines e (two_new y l h)
        go (clue_room c e z) = one_line c e (record
            { to = v; line = s.added.there; only = λ b m. ⊎_elim (λ l. absurd (z b l)) (λ f. f) (line_at_u b m) })

    room_new : A ≡ at_pad u → Room cell M u
    room_new e = other_room ((pad_end_u u e).no_clue u here) (short_new (s.ends.alone u (s.at_u ∙ e)))

    -- an end of u's chain with at most one line
    tip : (t : ℕ) × Joined L u t × Short M t
    tip = ⊎_elim
        (λ (a, e). elim (ℕ_discrete a u) [
          | yes p ↦ (u, here, short_new (s.ends.alone u (s.at_u ∙ e ∙ ap at_pad p)))
          | no n ↦ (
            a,
            (pad_end_u a e).joined,
            short_keep a n (λ p. s.not_closing (e ∙ ap at_pad p))
                (shorts a (s.ends.else_room a (λ t. zero≢one (cc (other_end_back a e))))),
          )
        ])
        (λ (c, e). let o = clue_end_u c e in elim (ℕ_discrete o.pad u) [
          | yes p ↦ (u, here, short_new (bare_undecided c (ap cell (sym p) ∙ o.clue_at) room_at_u))
          | no n ↦ (
            o.pad,
            o.joined,
            short_keep o.pad n (λ p. different_chains (rw p at o.joined))
                (⊎_elim (λ p. absurd (n p)) (λ t. shortf c o.pad o.clue_at (s.ends.through_full o.pad t)) (o.others_passed o.pad o.joined)),
          )
        ])
        (pad_or_clue A s.a_not_through)
      where
        shorts : (x : ℕ) → Room cell L x → Short L x
        shorts x (other_room e h) = h
        shorts x (clue_room c e z) = λ a b l m. absurd (z a l)

        shortf : (c x : ℕ) → cell x ≡ clue c → Full cell L x → Short L x
        shortf c x k (two_lines e t) = clue_is_clue e k
        shortf c x k (one_line d e o) = λ a b l m. o.only a l ∙ sym (o.only b m)

        bare_undecided : (c : ℕ) → cell u ≡ clue c → Room cell L u → NoLine L u
        bare_undecided c k (other_room e h) = clue_is_clue e k
        bare_undecided c k (clue_room d e z) = z

    keep_joined : {x y : ℕ} → Joined L x y → Joined M x y
    keep_joined j = join_mono s.added.keep j

    joined_back : {x y : ℕ} → Joined L x y → Joined L y x
    joined_back j = join_sym s.both_ways j

    -- from a pad of u's or v's chain the new chain leads to pads of these two alone
    spread : (x y : ℕ) → Joined L u x ⊎ Joined L v x → Joined M x y → Joined L u y ⊎ Joined L v y
    spread x y p j = ⊎_elim
        (λ q. ⊎_map (λ k. join_trans k q) (λ k. join_trans k q) p)
        (⊎_elim (λ (q, r). inr r) (λ (q, r). inl r)) (parted s.added j)

    -- any other pad keeps its chain
    outside : (x y : ℕ) → (Joined L u x → ⊥) → (Joined L v x → ⊥) → Joined M x y → Joined L x y
    outside x y p q j = ⊎_elim (λ k. k) (⊎_elim (λ (k, r). absurd (p (joined_back k))) (λ (k, r). absurd (q (joined_back k)))) (parted s.added j)

  module _ {u v : ℕ} {A B : End} (s : Step cell L M end end' u v A B) where
    sides : (y : ℕ) → Joined L u y ⊎ Joined L v y → (A ≡ at_pad y) ⊎ (B ≡ at_pad y) ⊎ (end' y ≡ through)
    sides y p = ⊎_elim
        (λ j. ⊎_elim (λ e. inl e) (λ t. inr (inr t)) (side s y j))
        (λ j. inr (side (swap s) y j)) p

    -- not an end of either chain, and not passed: in neither chain
    away : (x : ℕ) → A ≢ at_pad x → B ≢ at_pad x → end' x ≢ through → Joined L u x ⊎ Joined L v x → ⊥
    away x p q n j = ⊎_elim p (⊎_elim q n) (sides x j)

    rest_at : (x : ℕ) → A ≢ at_pad x → B ≢ at_pad x → end' x ≢ through → end' x ≡ end x
    rest_at x p q n = s.stored.others x
        (λ e. away x p q n (inl (rw e here))) (λ e. away x p q n (inr (rw e here))) p q

    pad_end_new : (x w : ℕ) → B ≡ at_pad x → A ≡ at_pad w → PadEnd cell M end' x w
    pad_end_new x w b a = record {
      joined = join_trans (keep_joined s (joined_back s fv.joined)) (more s.added.back (keep_joined s fu.joined));
      back = s.stored.pad_a w a ∙ b;
      no_clue = λ y j. ⊎_elim (λ k. fu.no_clue y k) (λ k. fv.no_clue y k) (part y j);
      others_passed = λ y j. ⊎_elim (λ e. inr (inl (cc))) (⊎_elim (λ e. inl (cc)) (λ t. inr (inr t))) (sides y (part y j));
    }
      where
        fu : PadEnd cell L end u w
        fu = pad_end_u s w a

        fv : PadEnd cell L end v x
        fv = pad_end_u (swap s) x b

        part : (y : ℕ) → Joined M x y → Joined L u y ⊎ Joined L v y
        part y j = spread s x y (inr fv.joined) j

    clue_end_new : (x c : ℕ) → B ≡ at_pad x → A ≡ at_clue c → ClueEnd cell M end' x c
    clue_end_new x c b a = record {
      pad = ou.pad;
      joined = join_trans (keep_joined s (joined_back s fv.joined)) (more s.added.back (keep_joined s ou.joined));
      clue_at = ou.clue_at;
      others_passed = λ y j. ⊎_elim (λ e. zero≢one (cc)) (⊎_elim (λ e. inl (cc)) (λ t. inr t)) (sides y (part y j));
    }
      where
        ou : ClueEnd cell L end u c
        ou = clue_end_u s c a

        fv : PadEnd cell L end v x
        fv = pad_end_u (swap s) x b

        part : (y : ℕ) → Joined M x y → Joined L u y ⊎ Joined L v y
        part y j = spread s x y (inr fv.joined) j

  module _ {u v : ℕ} {A B : End} (s : Step cell L M end end' u v A B) where
    pad_end_old : (x w : ℕ) → A ≢ at_pad x → B ≢ at_pad x → end' x ≡ at_pad w → PadEnd cell M end' x w
    pad_end_old x w p q e = record {
      joined = keep_joined s f.joined;
      back = s.stored.others w
          (λ g. p (sym s.at_u ∙ ap end (sym g) ∙ f.back)) (λ g. q (sym s.at_v ∙ ap end (sym g) ∙ f.back))
          (λ g. p (thru g)) (λ g. q (thrv g))
          ∙ f.back;
      no_clue = λ y j. f.no_clue y (out y j);
      others_passed = λ y j. ⊎_map (λ g. g) (⊎_map (λ g. g) (stays_passed s y)) (f.others_passed y (out y j));
    }
      where
        nt : end' x ≢ through
        nt t = zero≢one (cc)

        f : PadEnd cell L end x w
        f = s.ends.pad_end x w (sym (rest_at s x p q nt) ∙ e)

        out : (y : ℕ) → Joined M x y → Joined L x y
        out y j = outside s x y (λ k. away s x p q nt (inl k)) (λ k. away s x p q nt (inr k)) j

        thru : A ≡ at_pad w → A ≡ at_pad x
        thru g = let h = other_end_back s w g in absurd (away s x p q nt (inl (rw (same_pad (sym f.back ∙ h)) here)))

        thrv : B ≡ at_pad w → B ≡ at_pad x
        thrv g = let h = other_end_back (swap s) w g in absurd (away s x p q nt (inr (rw (same_pad (sym f.back ∙ h)) here)))

    clue_end_old : (x c : ℕ) → A ≢ at_pad x → B ≢ at_pad x → end' x ≡ at_clue c → ClueEnd cell M end' x c
    clue_end_old x c p q e = record {
      pad = f.pad;
      joined = keep_joined s f.joined;
      clue_at = f.clue_at;
      others_passed = λ y j. ⊎_map (λ g. g) (stays_passed s y) (f.others_passed y (out y j));
    }
      where
        nt : end' x ≢ through
        nt t = zero≢one (cc)

        f : ClueEnd cell L end x c
        f = s.ends.clue_end x c (sym (rest_at s x p q nt) ∙ e)

        out : (y : ℕ) → Joined M x y → Joined L x y
        out y j = outside s x y (λ k. away s x p q nt (inl k)) (λ k. away s x p q nt (inr k)) j

    -- by the place of the pad
    cases : {X : Type 0} (x : ℕ) → (A ≡ at_pad x → X) → (B ≡ at_pad x → X) → (A ≢ at_pad x → B ≢ at_pad x → X) → X
    cases x f g h = elim (is_pad_end A x) [ yes a ↦ f a | no n ↦ elim (is_pad_end B x) [ yes b ↦ g b | no m ↦ h n m ] ]

    both : (x : ℕ) → A ≡ at_pad x → B ≡ at_pad x → ⊥
    both x a b = s.apart (same_pad (sym (other_end_back s x a) ∙ other_end_back (swap s) x b))

    full_at_u : (x : ℕ) → x ≡ u → end' x ≡ through → Full cell M x
    full_at_u x e t = rw e (full_new s (λ a. s.b_not_through (sym (s.stored.pad_a u a) ∙ ap end' (sym e) ∙ t)))

    room_u_after : (x : ℕ) → x ≡ u → end' x ≢ through → Room cell M x
    room_u_after x e n = elim (is_pad_end A u) [ yes a ↦ rw e (room_new s a) | no m ↦ absurd (n (ap end' e ∙ s.stored.pad_u m)) ]

    loose_u : (x t : ℕ) → Joined L x t → t ≡ u → LoosePad M x
    loose_u x t j e = let (p, k, h) = tip s in record { pad = p; joined = keep_joined s (join_trans (rw e at j) k); short = h }

    clash : (x y c d : ℕ) → cell x ≡ clue c → cell y ≡ clue d → Joined L x u → Joined L v y → c ≡ d
    clash x y c d e f j k = s.one_code c d (clue_of_u s x c (joined_back s j) e) (clue_of_u (swap s) y d k f)

  pub stored_ends : {u v : ℕ} {A B : End} → Step cell L M end end' u v A B → Ends cell M end'
  stored_ends {u} {v} {A} {B} s = record {
    through_full = λ x t. by_pad u v x (λ e. full_at_u s x e t) (λ e. full_at_u (swap s) x e t)
        (λ p q. cases s x
        (λ a. absurd (s.b_not_through (sym (s.stored.pad_a x a) ∙ t))) (λ b. absurd (s.a_not_through (sym (s.stored.pad_b x b) ∙ t)))
        (λ f g. full_keep s x p q (s.ends.through_full x (sym (s.stored.others x p q f g) ∙ t))));
    else_room = λ x n. by_pad u v x (λ e. room_u_after s x e n) (λ e. room_u_after (swap s) x e n)
        (λ p q. room_keep s x p q (s.ends.else_room x (λ t. n (stays_passed s x t))));
    alone = λ x e. cases s x
        (λ a. absurd (both s x a (sym (s.stored.pad_a x a) ∙ e))) (λ b. absurd (both s x (sym (s.stored.pad_b x b) ∙ e) b))
        (λ p q. let nt : end' x ≢ through = λ t. zero≢one (cc) in λ a m. s.ends.alone x (sym (rest_at s x p q nt) ∙ e) a
        (line_elsewhere s x a (λ g. away s x p q nt (inl (rw g here))) (λ g. away s x p q nt (inr (rw g here))) m));
    pad_end = λ x w e. cases s x
        (λ a. pad_end_new (swap s) x w a (sym (s.stored.pad_a x a) ∙ e))
        (λ b. pad_end_new s x w b (sym (s.stored.pad_b x b) ∙ e))
        (λ p q. pad_end_old s x w p q e);
    clue_end = λ x c e. cases s x
        (λ a. clue_end_new (swap s) x c a (sym (s.stored.pad_a x a) ∙ e))
        (λ b. clue_end_new s x c b (sym (s.stored.pad_b x b) ∙ e))
        (λ p q. clue_end_old s x c p q e);
    loose_pad = λ x. let o = s.ends.loose_pad x in by_pad u v o.pad
        (loose_u s x o.pad o.joined) (loose_u (swap s) x o.pad o.joined)
        (λ p q. record { pad = o.pad; joined = keep_joined s o.joined; short = short_keep s o.pad p q o.short });
    equal_codes = λ x y c d e f j. ⊎_elim (s.ends.equal_codes x y c d e f)
        (⊎_elim (λ (p, q). clash s x y c d e f p q) (λ (p, q). clash (swap s) x y c d e f p q)) (parted s.added j);
  }
