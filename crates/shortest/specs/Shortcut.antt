-- Three lines a-b, b-c, c-d in a row give way to the one line a-d, which was none: the pads b and c lose their lines, a and d keep their
-- number of lines, and the rules and the pairs are kept. This is why a unit square with three lines may give up two of them.
-- It rests on Chains.antt and on the exchange of two pads.
use Rattle.std.specs.Prelude.{ℕ, ◌≡◌, refl, ◌≢◌, ◌⊎◌}
use Rattle.std.proofs.Common.{sym, ◌∙◌, inl, inr, ⊎_elim}
use Rattle.std.proofs.Math.Logic.{⊎_map, ⊎_swap, ite, if_pos, if_neg}
use Rattle.std.proofs.Math.Decide.{ℕ_discrete}
use Rattle.rules.specs.Grid.{Cell, blank}
use Rattle.rules.specs.Drawing.{Relation, Joined, here, more, NoLine, Loop, Wired}
use Rattle.rules.specs.Chains.{join_trans, join_sym, Symmetric, by_pad}
use Rattle.shortest.specs.Chains.{ClueAt, JoinSame, clue_not_blank, hole_not_blank, other_than_blank, two_lines_blank, two_lines_only, LinesRenamed, carry_none, carry_one, carry_two, still_apart}
use Rattle.shortest.specs.Exchange.{swap, swap_first, swap_second, swap_else, swap_twice}

-- x and y are a and b, in one order or the other
abbrev pub Pair : ℕ → ℕ → ℕ → ℕ → Type 0
Pair a b x y = ((x ≡ a) × (y ≡ b)) ⊎ ((x ≡ b) × (y ≡ a))

-- four different pads
pub record Apart (a b c d : ℕ) : Type 0 where
  pub a≢b : a ≢ b
  pub a≢c : a ≢ c
  pub a≢d : a ≢ d
  pub b≢c : b ≢ c
  pub b≢d : b ≢ d
  pub c≢d : c ≢ d

-- M is L with the three lines given up for the fourth
pub record Shortcut (L M : Relation) (a b c d : ℕ) : Type 0 where
  pub symmetric_old : Symmetric L
  pub symmetric_new : Symmetric M
  pub apart : Apart a b c d
  pub ab : L a b
  pub bc : L b c
  pub cd : L c d
  pub no_ad : L a d → ⊥
  pub ad : M a d
  pub kept : (x y : ℕ) → L x y → x ≢ b → x ≢ c → y ≢ b → y ≢ c → M x y
  pub origin : (x y : ℕ) → M x y → (L x y × (x ≢ b) × (x ≢ c) × (y ≢ b) × (y ≢ c)) ⊎ Pair a d x y

-- the same read from the other end
pub turned : {L M : Relation} {a b c d : ℕ} → Shortcut L M a b c d → Shortcut L M d c b a
turned {L} {M} {a} {b} {c} {d} s = record {
  symmetric_old = s.symmetric_old;
  symmetric_new = s.symmetric_new;
  apart = record {
    a≢b = λ e. s.apart.c≢d (sym e);
    a≢c = λ e. s.apart.b≢d (sym e);
    a≢d = λ e. s.apart.a≢d (sym e);
    b≢c = λ e. s.apart.b≢c (sym e);
    b≢d = λ e. s.apart.a≢c (sym e);
    c≢d = λ e. s.apart.a≢b (sym e);
  };
  ab = s.symmetric_old c d s.cd;
  bc = s.symmetric_old b c s.bc;
  cd = s.symmetric_old a b s.ab;
  no_ad = λ l. s.no_ad (s.symmetric_old d a l);
  ad = s.symmetric_new a d s.ad;
  kept = λ x y l p q r t. s.kept x y l q p t r;
  origin = λ x y m. ⊎_map (λ (l, p, q, r, t). (l, q, p, t, r)) ⊎_swap (s.origin x y m);
}

-- the family of a loop of M, with b and c put back between a and d
abbrev Refilled : (a b c d : ℕ) → (ℕ → Type 0) → ℕ → Type 0
Refilled a b c d Family x = Family x ⊎ (((x ≡ b) ⊎ (x ≡ c)) × Family a × Family d)

-- how the lines of M at v stand for those of L at v, and where they lead in a loop
record Stands (L M : Relation) (a b c d v : ℕ) : Type 1 where
  lines : LinesRenamed L M v v
  within : (Family : ℕ → Type 0) (y : ℕ) → M v y → Family v → Family y → Refilled a b c d Family (lines.rename y)

module _ {cell : ℕ → Cell} {L M : Relation} (wired : Wired cell L) where
  -- pad b, and by turning round pad c: blank, with its two lines alone, and none in M
  module _ {a b c d : ℕ} (s : Shortcut L M a b c d) where
    b_blank : cell b ≡ blank
    b_blank = two_lines_blank wired {p = b} {a = a} {c = c} (s.symmetric_old a b s.ab) s.bc s.apart.a≢c

    b_lines : (y : ℕ) → L b y → (y ≡ a) ⊎ (y ≡ c)
    b_lines y l = two_lines_only wired {p = b} {a = a} {c = c} (s.symmetric_old a b s.ab) s.bc s.apart.a≢c y l

    b_none : NoLine M b
    b_none y m = ⊎_elim
        (λ (l, p, q, r, t). p refl) (⊎_elim (λ (e, f). s.apart.a≢b (sym e)) (λ (e, f). s.apart.b≢d e)) (s.origin b y m)

    has_line : (v x : ℕ) → M v x → v ≢ b
    has_line v x m e = b_none x (rw e at m)

    not_b : (x : ℕ) → cell x ≢ blank → x ≢ b
    not_b x n = other_than_blank cell x b n b_blank

  -- at a, the line to b gives way to the line to d
  module _ {a b c d : ℕ} (s : Shortcut L M a b c d) where
    a_old : (y : ℕ) → M a y → L a (swap b d y)
    a_old y m = ⊎_elim
        (λ (l, p, q, r, t). rw (swap_else b d y r (λ e. s.no_ad (rw e at l))) l)
        (⊎_elim (λ (e, f). rw (f, swap_second b d) s.ab) (λ (e, f). absurd (s.apart.a≢d e))) (s.origin a y m)

    a_new : (y : ℕ) → L a y → M a (swap b d y)
    a_new y l = by_pad b d y
        (λ e. rw (e, swap_first b d) s.ad)
        (λ e. absurd (s.no_ad (rw e at l)))
        (λ p q. rw (swap_else b d y p q) (s.kept a y l s.apart.a≢b s.apart.a≢c p
        (λ e. ⊎_elim s.apart.a≢d s.apart.a≢b (b_lines (turned s) a (s.symmetric_old a c (rw e at l))))))

    a_within : (Family : ℕ → Type 0) (y : ℕ) → M a y → Family a → Family y → Refilled a b c d Family (swap b d y)
    a_within Family y m in_a in_y = by_pad b d y
        (λ e. absurd (b_none s a (s.symmetric_new a b (rw e at m))))
        (λ e. inr (inl (rw (e, swap_second b d)), in_a, (rw e at in_y)))
        (λ p q. inl (rw (swap_else b d y p q) in_y))

    at_a : Stands L M a b c d a
    at_a = record
        { lines = record { rename = swap b d; twice = swap_twice b d; to_old = a_old; to_new = a_new }; within = a_within }

  module _ {a b c d : ℕ} (s : Shortcut L M a b c d) where
    at_d : Stands L M a b c d d
    unfolding at_a
    at_d = let t = at_a (turned s) in record {
      lines = t.lines;
      within = λ Family y m in_d in_y.
          ⊎_map (λ p. p) (λ (e, p, q). (⊎_swap e, q, p)) (t.within Family y m in_d in_y);
    }

    -- at every other pad but b and c, nothing changes
    elsewhere_new : (v y : ℕ) → v ≢ a → v ≢ b → v ≢ c → v ≢ d → L v y → M v y
    elsewhere_new v y na nb nc nd l = s.kept v y l nb nc
        (λ e. ⊎_elim na nc (b_lines s v (s.symmetric_old v b (rw e at l))))
        (λ e. ⊎_elim nd nb (b_lines (turned s) v (s.symmetric_old v c (rw e at l))))

    elsewhere_old : (v y : ℕ) → v ≢ a → v ≢ d → M v y → L v y
    elsewhere_old v y na nd m =
        ⊎_elim (λ (l, p, q, r, t). l) (⊎_elim (λ (e, f). absurd (na e)) (λ (e, f). absurd (nd e))) (s.origin v y m)

    elsewhere : (v : ℕ) → v ≢ a → v ≢ b → v ≢ c → v ≢ d → Stands L M a b c d v
    elsewhere v na nb nc nd = record {
      lines = record {
        rename = λ x. x;
        twice = λ x. refl;
        to_old = λ y m. elsewhere_old v y na nd m;
        to_new = λ y l. elsewhere_new v y na nb nc nd l;
      };
      within = λ Family y m in_v in_y. inl in_y;
    }

    at_pad : (v : ℕ) → v ≢ b → v ≢ c → Stands L M a b c d v
    at_pad v nb nc = elim (ℕ_discrete v a) [
      | yes e ↦ rw e (at_a s)
      | no na ↦ elim (ℕ_discrete v d) [ yes e ↦ rw e at_d | no nd ↦ elsewhere v na nb nc nd ]
    ]

    -- so a pad that is not blank has as many lines in M as in L
    lines_stay : (v : ℕ) → cell v ≢ blank → LinesRenamed L M v v
    lines_stay v n = (at_pad v (not_b s v n) (not_b (turned s) v n)).lines

    -- a loop of M, with b and c put back, is a loop of L
    loop : (Family : ℕ → Type 0) → Loop M Family → Loop L (Refilled a b c d Family)
    loop Family l = record { pad = l.pad; inside = inl l.inside; two = two }
      where
        In : ℕ → Type 0
        In = Refilled a b c d Family

        two : (v : ℕ) → In v → (x : ℕ) × (y : ℕ) × (x ≢ y) × In x × In y × L v x × L v y
        two v (inr (inl e, in_a, in_d)) =
            (a, c, s.apart.a≢c, inl in_a, inr (inr refl, in_a, in_d), rw e (s.symmetric_old a b s.ab), rw e s.bc)
        two v (inr (inr e, in_a, in_d)) =
            (d, b, (λ q. s.apart.b≢d (sym q)), inl in_d, inr (inl refl, in_a, in_d), rw e s.cd, rw e (s.symmetric_old b c s.bc))
        two v (inl in_v) =
            let (x, y, n, in_x, in_y, mx, my) = l.two v in_v in
            let t = at_pad v (has_line s v x mx) (has_line (turned s) v x mx) in (
              t.lines.rename x,
              t.lines.rename y,
              still_apart t.lines x y n,
              t.within Family x mx in_v in_x,
              t.within Family y my in_v in_y,
              t.lines.to_old x mx,
              t.lines.to_old y my,
            )

    -- a chain of M is one of L
    chain_old : {x y : ℕ} → Joined M x y → Joined L x y
    chain_old here = here
    chain_old (more {a = x} {b = y} m j) = ⊎_elim
        (λ (l, p, q, r, t). more l (chain_old j))
        (⊎_elim (λ (e, f). rw e (join_trans a_to_d (rw f at (chain_old j))))
        (λ (e, f). rw e (join_trans (join_sym s.symmetric_old a_to_d) (rw f at (chain_old j)))))
        (s.origin x y m)
      where
        a_to_d : Joined L a d
        a_to_d = more s.ab (more s.bc (more s.cd here))

    -- and a chain of L is one of M, with b read as a and c as d
    read_as : ℕ → ℕ
    read_as x = ite (ℕ_discrete x b) a (ite (ℕ_discrete x c) d x)

    read_b : (x : ℕ) → x ≡ b → read_as x ≡ a
    unfolding read_as
    read_b x e = if_pos (ℕ_discrete x b) e a _

    read_c : (x : ℕ) → x ≡ c → read_as x ≡ d
    unfolding read_as
    read_c x e = if_neg (ℕ_discrete x b) (λ f. s.apart.b≢c (sym f ∙ e)) a _ ∙ if_pos (ℕ_discrete x c) e d x

    read_else : (x : ℕ) → x ≢ b → x ≢ c → read_as x ≡ x
    unfolding read_as
    read_else x n m = if_neg (ℕ_discrete x b) n a _ ∙ if_neg (ℕ_discrete x c) m d x

    line_b : (y : ℕ) → L b y → Joined M a (read_as y)
    line_b y l = ⊎_elim
        (λ e. rw (read_else y (λ f. s.apart.a≢b (sym e ∙ f)) (λ f. s.apart.a≢c (sym e ∙ f)), e) here)
        (λ e. rw (read_c y e) (more s.ad here)) (b_lines s y l)

    line_c : (y : ℕ) → L c y → Joined M d (read_as y)
    line_c y l = ⊎_elim
        (λ e. rw (read_else y (λ f. s.apart.b≢d (sym f ∙ e)) (λ f. s.apart.c≢d (sym f ∙ e)), e) here)
        (λ e. rw (read_b y e) (more (s.symmetric_new a d s.ad) here)) (b_lines (turned s) y l)

    line_new : (x y : ℕ) → L x y → Joined M (read_as x) (read_as y)
    line_new x y l = by_pad b c x
        (λ e. rw (read_b x e) (line_b y (rw e at l)))
        (λ e. rw (read_c x e) (line_c y (rw e at l)))
        (λ nb nc. by_pad b c y
        (λ e. rw (read_b y e) (join_sym s.symmetric_new (line_b x (s.symmetric_old x b (rw e at l)))))
        (λ e. rw (read_c y e) (join_sym s.symmetric_new (line_c x (s.symmetric_old x c (rw e at l)))))
        (λ mb mc. rw (read_else x nb nc, read_else y mb mc) (more (s.kept x y l nb nc mb mc) here)))

    chain_new : {x y : ℕ} → Joined L x y → Joined M (read_as x) (read_as y)
    chain_new here = here
    chain_new (more {a = x} {b = y} l j) = join_trans (line_new x y l) (chain_new j)

    pub shortcut_join_same : JoinSame cell L M
    shortcut_join_same u v ku kv =
        ((λ j. rw (stays u ku, stays v kv) at (chain_new j)), chain_old)
      where
        stays : (x : ℕ) → ClueAt cell x → read_as x ≡ x
        stays x k = read_else x (not_b s x (clue_not_blank k)) (not_b (turned s) x (clue_not_blank k))

    pub shortcut_wired : Wired cell M
    shortcut_wired = record {
      clue_one = λ v k e. carry_one (lines_stay v (clue_not_blank (k, e))) (wired.clue_one v k e);
      blank_none_or_two = λ v e. by_pad b c v (λ f. inl (rw f (b_none s))) (λ f. inl (rw f (b_none (turned s))))
          (λ nb nc. let t = at_pad v nb nc in ⊎_map (carry_none t.lines) (carry_two t.lines) (wired.blank_none_or_two v e));
      hole_none = λ v e. carry_none (lines_stay v (hole_not_blank e)) (wired.hole_none v e);
      no_loop = λ Family l. wired.no_loop (Refilled a b c d Family) (loop Family l);
      equal_codes = λ u v k h e f j. wired.equal_codes u v k h e f (chain_old j);
    }
