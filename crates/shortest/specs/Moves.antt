-- The two moves that shorten or lower a drawing, each stated once for a ring, so for a unit square from every corner:
-- three lines of a unit square give way to the fourth, and a corner is flipped onto the bare blank pad opposite.
-- Each keeps the drawing ordinary and joins the same pads; lines come only to blank pads and to pads that have lines already, so a hole
-- stays without. It rests on Exchange.antt, Shortcut.antt and Ring.antt.
use Rattle.std.specs.Prelude.{ℕ, ◌≤◌, ◌≡◌, ◌≢◌, ◌⊎◌, true, false}
use Rattle.std.proofs.Math.Path.{refl}
use Rattle.std.proofs.Common.{sym, ◌∙◌}
use Rattle.std.proofs.Math.Logic.{inl, inr, ⊎_elim}
use Rattle.rules.specs.Grid.{Edge, Grid, blank}
use Rattle.rules.specs.Drawing.{Drawing, drawn, Relation, Line, NoLine, Ordinary, SamePairs}
use Rattle.rules.specs.Chains.{line_back}
use Rattle.rules.specs.Places.{zero≢one}
use Rattle.shortest.specs.Chains.{two_lines_blank, two_lines_only}
use Rattle.shortest.specs.Exchange.{Exchange, exchanged, exchanged_join_same}
use Rattle.shortest.specs.Shortcut.{Pair, Shortcut, shortcut_wired, shortcut_join_same}
use Rattle.shortest.specs.Edges.{Joins, joins_back, line_edge, edge_line, other_edge, other_end, same_edge, same_pads}
use Rattle.shortest.specs.Ring.{Ring, RingLines, redraw, OffRing, Origin, from_ab, from_bc, from_cd, from_da, from_old, redraw_origin, redraw_off, redraw_bc, redraw_cd, redraw_da, redraw_placed}

-- the fourth line alone
abbrev pub fourth_alone : RingLines
fourth_alone = record { on_ab = false; on_bc = false; on_cd = false; on_da = true }

-- the two lines at the pad opposite
abbrev pub corner_opposite : RingLines
corner_opposite = record { on_ab = false; on_bc = true; on_cd = true; on_da = false }

-- E is as good a drawing of the grid as D
pub record AsGood (g : Grid) (D E : Drawing) : Type 1 where
  pub ordinary : Ordinary g E
  pub same_pairs : SamePairs g D E

module _ {g : Grid} (wide : 2 ≤ g.width) (R : Ring g) (D : Drawing) (ordinary : Ordinary g D) where
  abbrev Lines : Drawing → Relation
  Lines E = Line g.width E

  edge_of : (E : Drawing) {x y : ℕ} {e : Edge} → Joins g.width e x y → drawn E e ≡ true → Lines E x y
  edge_of E {x} {y} {e} j h = edge_line g.width E x y e j h

  -- a line of D at a pad that has two lines of the ring is one of these two
  none_beside : {p x y : ℕ} (px py : Edge) → Joins g.width px p x → Joins g.width py p y → x ≢ y
      → drawn D px ≡ true → drawn D py ≡ true → {e : Edge} {z : ℕ} → Joins g.width e p z → drawn D e ≡ true → e ≢ px → e ≢ py → ⊥
  none_beside {p} {x} {y} px py jx jy n hx hy {e} {z} j h not_px not_py = ⊎_elim
      (λ f. not_px (same_edge g wide e px (rw f at j) jx)) (λ f. not_py (same_edge g wide e py (rw f at j) jy))
      (two_lines_only ordinary.wired {p = p} {a = x} {c = y} (edge_of D jx hx) (edge_of D jy hy) n z (edge_of D j h))

  -- three lines and the fourth edge none
  module _ (ab : drawn D R.ab ≡ true) (bc : drawn D R.bc ≡ true) (cd : drawn D R.cd ≡ true) (da : drawn D R.da ≡ false) where
    shrunk : Drawing
    shrunk = redraw R D fourth_alone

    at_b : {e : Edge} {z : ℕ} → OffRing R e → Joins g.width e R.b z → drawn D e ≡ true → ⊥
    at_b off j h =
        none_beside R.ab R.bc (joins_back R.joins_ab) R.joins_bc R.apart.a≢c ab bc j h off.not_ab off.not_bc

    at_c : {e : Edge} {z : ℕ} → OffRing R e → Joins g.width e R.c z → drawn D e ≡ true → ⊥
    at_c off j h =
        none_beside R.bc R.cd (joins_back R.joins_bc) R.joins_cd R.apart.b≢d bc cd j h off.not_bc off.not_cd

    kept : (x y : ℕ) → Lines D x y → x ≢ R.b → x ≢ R.c → y ≢ R.b → y ≢ R.c → Lines shrunk x y
    unfolding shrunk
    kept x y l xb xc yb yc = let (e, j, h) = line_edge l in
        let off : OffRing R e = record {
          not_ab = other_edge j (joins_back R.joins_ab) xb yb;
          not_bc = other_edge j R.joins_bc xb yb;
          not_cd = other_edge j R.joins_cd xc yc;
          not_da = λ q. zero≢one (cc);
        } in
        edge_of shrunk j (redraw_off R D fourth_alone e off ∙ h)

    origin : (x y : ℕ) → Lines shrunk x y
        → (Lines D x y × (x ≢ R.b) × (x ≢ R.c) × (y ≢ R.b) × (y ≢ R.c)) ⊎ Pair R.a R.d x y
    unfolding shrunk
    origin x y m = let (e, j, h) = line_edge m in go e j (redraw_origin R D fourth_alone e h)
      where
        go : (e : Edge) → Joins g.width e x y → Origin R D fourth_alone e
            → (Lines D x y × (x ≢ R.b) × (x ≢ R.c) × (y ≢ R.b) × (y ≢ R.c)) ⊎ Pair R.a R.d x y
        go e j (from_old off h) = inl (
          edge_of D j h,
          (λ q. at_b off (rw q at j) h),
          (λ q. at_c off (rw q at j) h),
          (λ q. at_b off (rw q at (joins_back j)) h),
          (λ q. at_c off (rw q at (joins_back j)) h),
        )
        go e j (from_da q l) = inr (same_pads (rw q at j) (joins_back R.joins_da))
        go e j (from_ab q l) = zero≢one (cc)
        go e j (from_bc q l) = zero≢one (cc)
        go e j (from_cd q l) = zero≢one (cc)

    pub three_lines_give_way : AsGood g D (redraw R D fourth_alone)
    unfolding shrunk
    three_lines_give_way = record {
      ordinary = record
          { placed = redraw_placed R D fourth_alone ordinary.placed; wired = shortcut_wired ordinary.wired shortcut };
      same_pairs = shortcut_join_same ordinary.wired shortcut;
    }
      where
        shortcut : Shortcut (Lines D) (Lines shrunk) R.a R.b R.c R.d
        shortcut = record {
          symmetric_old = line_back g.width D;
          symmetric_new = line_back g.width shrunk;
          apart = R.apart;
          ab = edge_of D R.joins_ab ab;
          bc = edge_of D R.joins_bc bc;
          cd = edge_of D R.joins_cd cd;
          no_ad = λ l. let (e, j, h) = line_edge l in let q = same_edge g wide e R.da j (joins_back R.joins_da) in zero≢one (cc);
          ad = edge_of shrunk (joins_back R.joins_da) (redraw_da R D fourth_alone);
          kept = kept;
          origin = origin;
        }

  -- four lines would be a closed loop
  OnRing : ℕ → Type 0
  OnRing x = (x ≡ R.a) ⊎ (x ≡ R.b) ⊎ (x ≡ R.c) ⊎ (x ≡ R.d)

  pub not_four_lines : drawn D R.ab ≡ true → drawn D R.bc ≡ true → drawn D R.cd ≡ true → drawn D R.da ≡ true → ⊥
  unfolding OnRing
  not_four_lines ab bc cd da = ordinary.wired.no_loop OnRing (record { pad = R.a; inside = inl refl; two = two })
    where
      a : OnRing R.a
      a = inl refl

      b : OnRing R.b
      b = inr (inl refl)

      c : OnRing R.c
      c = inr (inr (inl refl))

      d : OnRing R.d
      d = inr (inr (inr refl))

      line : {p x : ℕ} {e : Edge} → drawn D e ≡ true → Joins g.width e p x → (v : ℕ) → v ≡ p → Lines D v x
      line h j v q = rw q (edge_of D j h)

      two : (v : ℕ) → OnRing v → (x : ℕ) × (y : ℕ) × (x ≢ y) × OnRing x × OnRing y × Lines D v x × Lines D v y
      two v (inl q) = (R.b, R.d, R.apart.b≢d, b, d, line ab R.joins_ab v q, line da (joins_back R.joins_da) v q)
      two v (inr (inl q)) = (R.a, R.c, R.apart.a≢c, a, c, line ab (joins_back R.joins_ab) v q, line bc R.joins_bc v q)
      two v (inr (inr (inl q))) = (R.b, R.d, R.apart.b≢d, b, d, line bc (joins_back R.joins_bc) v q, line cd R.joins_cd v q)
      two v (inr (inr (inr q))) = (R.a, R.c, R.apart.a≢c, a, c, line da R.joins_da v q, line cd (joins_back R.joins_cd) v q)

  -- the two lines at a, and none at the pad c opposite
  module _ (ab : drawn D R.ab ≡ true) (da : drawn D R.da ≡ true) (c_none : NoLine (Lines D) R.c) where
    flipped : Drawing
    flipped = redraw R D corner_opposite

    none_at_a : NoLine (Lines flipped) R.a
    unfolding flipped
    none_at_a y m = let (e, j, h) = line_edge m in go e j (redraw_origin R D corner_opposite e h)
      where
        go : (e : Edge) → Joins g.width e R.a y → Origin R D corner_opposite e → ⊥
        go e j (from_ab q l) = zero≢one (cc)
        go e j (from_da q l) = zero≢one (cc)
        go e j (from_bc q l) = other_edge R.joins_bc j (λ f. R.apart.a≢b (sym f)) (λ f. R.apart.a≢c (sym f)) (sym q)
        go e j (from_cd q l) = other_edge R.joins_cd j (λ f. R.apart.a≢c (sym f)) (λ f. R.apart.a≢d (sym f)) (sym q)
        go e j (from_old off h) = none_beside R.ab R.da R.joins_ab (joins_back R.joins_da) R.apart.b≢d
            ab da j h off.not_ab off.not_da

    moved : (y : ℕ) → Lines D R.a y → Lines flipped R.c y
    unfolding flipped
    moved y l = ⊎_elim
        (λ e. rw e (edge_of flipped (joins_back R.joins_bc) (redraw_bc R D corner_opposite)))
        (λ e. rw e (edge_of flipped R.joins_cd (redraw_cd R D corner_opposite)))
        (two_lines_only ordinary.wired {p = R.a} {a = R.b} {c = R.d} (edge_of D R.joins_ab ab)
        (edge_of D (joins_back R.joins_da) da) R.apart.b≢d y l)

    moved_back : (y : ℕ) → Lines flipped R.c y → Lines D R.a y
    unfolding flipped
    moved_back y m = let (e, j, h) = line_edge m in go e j (redraw_origin R D corner_opposite e h)
      where
        go : (e : Edge) → Joins g.width e R.c y → Origin R D corner_opposite e → Lines D R.a y
        go e j (from_ab q l) = zero≢one (cc)
        go e j (from_da q l) = zero≢one (cc)
        go e j (from_bc q l) =
            rw (other_end (rw q at j) (joins_back R.joins_bc) (λ f. R.apart.b≢c (sym f))) (edge_of D R.joins_ab ab)
        go e j (from_cd q l) = rw (other_end (rw q at j) R.joins_cd R.apart.c≢d) (edge_of D (joins_back R.joins_da) da)
        go e j (from_old off h) = absurd (c_none y (edge_of D j h))

    elsewhere : (x y : ℕ) → x ≢ R.a → x ≢ R.c → y ≢ R.a → y ≢ R.c → Lines D x y → Lines flipped x y
    unfolding flipped
    elsewhere x y xa xc ya yc l = let (e, j, h) = line_edge l in
        let off : OffRing R e = record {
          not_ab = other_edge j R.joins_ab xa ya;
          not_bc = other_edge j (joins_back R.joins_bc) xc yc;
          not_cd = other_edge j R.joins_cd xc yc;
          not_da = other_edge j (joins_back R.joins_da) xa ya;
        } in
        edge_of flipped j (redraw_off R D corner_opposite e off ∙ h)

    elsewhere_back : (x y : ℕ) → x ≢ R.a → x ≢ R.c → y ≢ R.a → y ≢ R.c → Lines flipped x y → Lines D x y
    unfolding flipped
    elsewhere_back x y xa xc ya yc m = let (e, j, h) = line_edge m in go e j (redraw_origin R D corner_opposite e h)
      where
        go : (e : Edge) → Joins g.width e x y → Origin R D corner_opposite e → Lines D x y
        go e j (from_ab q l) = zero≢one (cc)
        go e j (from_da q l) = zero≢one (cc)
        go e j (from_bc q l) = absurd (other_edge j (joins_back R.joins_bc) xc yc q)
        go e j (from_cd q l) = absurd (other_edge j R.joins_cd xc yc q)
        go e j (from_old off h) = edge_of D j h

    exchange : Exchange (Lines D) (Lines flipped) R.a R.c
    exchange = record {
      symmetric_old = line_back g.width D;
      symmetric_new = line_back g.width flipped;
      none_old = c_none;
      none_new = none_at_a;
      moved = moved;
      moved_back = moved_back;
      kept = elsewhere;
      kept_back = elsewhere_back;
    }

    a_blank : g.cell R.a ≡ blank
    a_blank = two_lines_blank ordinary.wired {p = R.a} {a = R.b} {c = R.d} (edge_of D R.joins_ab ab)
        (edge_of D (joins_back R.joins_da) da) R.apart.b≢d

    pub corner_flips : g.cell R.c ≡ blank → AsGood g D (redraw R D corner_opposite)
    unfolding flipped
    corner_flips c_blank = record {
      ordinary = record {
        placed = redraw_placed R D corner_opposite ordinary.placed;
        wired = exchanged g.cell a_blank c_blank exchange ordinary.wired;
      };
      same_pairs = exchanged_join_same g.cell a_blank c_blank exchange;
    }
