-- The ring of a unit square: its four pads a, b, c, d in the order in which one walks round it, beginning with any of them, and the four
-- edges between them. A law about a ring holds of the unit square from every corner, so no case is proved twice. The four edges are
-- drawn anew and all others stay. It rests on Edges.antt.
use Rattle.std.specs.Prelude.{ℕ, ◌+◌, ◌%◌, ◌≤◌, ◌<◌, ◌≡◌, refl, ◌≢◌, Bool, true}
use Rattle.std.proofs.Common.{sym, ◌∙◌, ap, arith, mod-eq_of_lt}
use Rattle.std.proofs.Math.Logic.{⊎_elim}
use Rattle.std.proofs.Math.Decide.{ℕ_discrete}
use Rattle.std.proofs.Math.Nat.{add-mod_right, mod-add-mod, mul-mod_left}
use Rattle.rules.specs.Grid.{Edge, right, down, Grid, pads, OnBoard, HasRight, UnitSquare}
use Rattle.rules.specs.Drawing.{Drawing, drawn, Placed}
use Rattle.shortest.specs.Shortcut.{Apart}
use Rattle.shortest.specs.Edges.{Joins, forth, back, joins_back, other_edge, set_edge, set_same, set_other, set_origin}

pub record Ring (g : Grid) : Type 0 where
  pub a : ℕ
  pub b : ℕ
  pub c : ℕ
  pub d : ℕ
  pub apart : Apart a b c d
  pub ab : Edge
  pub bc : Edge
  pub cd : Edge
  pub da : Edge
  pub joins_ab : Joins g.width ab a b
  pub joins_bc : Joins g.width bc b c
  pub joins_cd : Joins g.width cd c d
  pub joins_da : Joins g.width da d a
  pub on_board_ab : OnBoard g ab
  pub on_board_bc : OnBoard g bc
  pub on_board_cd : OnBoard g cd
  pub on_board_da : OnBoard g da

-- the same ring, beginning one pad later
abbrev pub turn : {g : Grid} → Ring g → Ring g
turn R = record {
  a = R.b;
  b = R.c;
  c = R.d;
  d = R.a;
  apart = record {
    a≢b = R.apart.b≢c;
    a≢c = R.apart.b≢d;
    a≢d = λ e. R.apart.a≢b (sym e);
    b≢c = R.apart.c≢d;
    b≢d = λ e. R.apart.a≢c (sym e);
    c≢d = λ e. R.apart.a≢d (sym e);
  };
  ab = R.bc;
  bc = R.cd;
  cd = R.da;
  da = R.ab;
  joins_ab = R.joins_bc;
  joins_bc = R.joins_cd;
  joins_cd = R.joins_da;
  joins_da = R.joins_ab;
  on_board_ab = R.on_board_bc;
  on_board_bc = R.on_board_cd;
  on_board_cd = R.on_board_da;
  on_board_da = R.on_board_ab;
}

-- a pad that is not in the last column has its right neighbour on the board, and so has the pad below it
pub has_right_below : (g : Grid) (v : ℕ) → UnitSquare g v → HasRight g (v + g.width)
has_right_below g v (r, d) = (d, rw (add-mod_right v g.width) r.1)

pub right_on_board : (g : Grid) (v : ℕ) → HasRight g v → v + 1 < pads g
right_on_board g v (inside, column) = elim (ℕ_discrete (v + 1) (pads g)) [
  | yes e ↦ absurd (omega (
    arith,
    sym (mod-eq_of_lt column) ∙ mod-add-mod v g.width 1 ∙ ap (λ x. x % g.width) e ∙ mul-mod_left g.height g.width,
  ))
  | no n ↦ omega arith
]

-- the ring of the unit square of pad v: v, the pad to the right, the pad below that, the pad below v
unfoldable pub ring_at : (g : Grid) → 2 ≤ g.width → (v : ℕ) → UnitSquare g v → Ring g
unfolding OnBoard
ring_at g wide v u = record {
  a = v;
  b = v + 1;
  c = v + 1 + g.width;
  d = v + g.width;
  apart = record
      { a≢b = omega arith; a≢c = omega arith; a≢d = omega arith; b≢c = omega arith; b≢d = omega arith; c≢d = omega arith };
  ab = right v;
  bc = down (v + 1);
  cd = right (v + g.width);
  da = down v;
  joins_ab = forth refl refl;
  joins_bc = forth refl refl;
  joins_cd = back (omega arith) refl;
  joins_da = back refl refl;
  on_board_ab = u.0;
  on_board_bc = omega (arith, right_on_board g (v + g.width) (has_right_below g v u));
  on_board_cd = has_right_below g v u;
  on_board_da = u.1;
}

-- line or none at each of the ring's edges
pub record RingLines : Type 0 where
  pub on_ab : Bool
  pub on_bc : Bool
  pub on_cd : Bool
  pub on_da : Bool

-- as they are in the drawing D
abbrev pub ring_lines : {g : Grid} → Ring g → Drawing → RingLines
ring_lines R D = record { on_ab = drawn D R.ab; on_bc = drawn D R.bc; on_cd = drawn D R.cd; on_da = drawn D R.da }

-- the drawing D with the ring's edges set anew
unfoldable pub redraw : {g : Grid} → Ring g → Drawing → RingLines → Drawing
redraw R D new =
    set_edge (set_edge (set_edge (set_edge D R.ab new.on_ab) R.bc new.on_bc) R.cd new.on_cd) R.da new.on_da

-- e is none of the ring's edges
pub record OffRing {g : Grid} (R : Ring g) (e : Edge) : Type 0 where
  pub not_ab : e ≢ R.ab
  pub not_bc : e ≢ R.bc
  pub not_cd : e ≢ R.cd
  pub not_da : e ≢ R.da

-- where a line of the redrawn drawing comes from
pub data Origin {g : Grid} (R : Ring g) (D : Drawing) (new : RingLines) (e : Edge) : Type 0 where
  from_ab : e ≡ R.ab → new.on_ab ≡ true → Origin R D new e
  from_bc : e ≡ R.bc → new.on_bc ≡ true → Origin R D new e
  from_cd : e ≡ R.cd → new.on_cd ≡ true → Origin R D new e
  from_da : e ≡ R.da → new.on_da ≡ true → Origin R D new e
  from_old : OffRing R e → drawn D e ≡ true → Origin R D new e

module _ {g : Grid} (R : Ring g) (D : Drawing) (new : RingLines) where
  with_ab : Drawing
  with_ab = set_edge D R.ab new.on_ab

  with_bc : Drawing
  with_bc = set_edge with_ab R.bc new.on_bc

  with_cd : Drawing
  with_cd = set_edge with_bc R.cd new.on_cd

  pub redraw_origin : (e : Edge) → drawn (redraw R D new) e ≡ true → Origin R D new e
  unfolding redraw with_ab with_bc with_cd
  redraw_origin e h =
      ⊎_elim (λ (q, l). from_da q l) (λ (not_da, h).
      ⊎_elim (λ (q, l). from_cd q l) (λ (not_cd, h).
      ⊎_elim (λ (q, l). from_bc q l) (λ (not_bc, h).
      ⊎_elim (λ (q, l). from_ab q l) (λ (not_ab, h).
      from_old (record { not_ab = not_ab; not_bc = not_bc; not_cd = not_cd; not_da = not_da }) h)
      (set_origin D R.ab new.on_ab e h)) (set_origin with_ab R.bc new.on_bc e h))
      (set_origin with_bc R.cd new.on_cd e h)) (set_origin with_cd R.da new.on_da e h)

  pub redraw_off : (e : Edge) → OffRing R e → drawn (redraw R D new) e ≡ drawn D e
  unfolding redraw with_ab with_bc with_cd
  redraw_off e off =
      set_other with_cd R.da new.on_da e off.not_da ∙ set_other with_bc R.cd new.on_cd e off.not_cd
      ∙ set_other with_ab R.bc new.on_bc e off.not_bc ∙ set_other D R.ab new.on_ab e off.not_ab

  pub redraw_da : drawn (redraw R D new) R.da ≡ new.on_da
  unfolding redraw with_ab with_bc with_cd
  redraw_da = set_same with_cd R.da new.on_da

  pub redraw_cd : drawn (redraw R D new) R.cd ≡ new.on_cd
  unfolding redraw with_ab with_bc with_cd
  redraw_cd = set_other with_cd R.da new.on_da R.cd cd≢da ∙ set_same with_bc R.cd new.on_cd
    where
      cd≢da : R.cd ≢ R.da
      cd≢da = other_edge R.joins_cd (joins_back R.joins_da) (λ e. R.apart.a≢c (sym e)) (λ e. R.apart.a≢d (sym e))

  pub redraw_bc : drawn (redraw R D new) R.bc ≡ new.on_bc
  unfolding redraw with_ab with_bc with_cd
  redraw_bc = set_other with_cd R.da new.on_da R.bc bc≢da ∙ set_other with_bc R.cd new.on_cd R.bc bc≢cd ∙ set_same with_ab R.bc new.on_bc
    where
      bc≢da : R.bc ≢ R.da
      bc≢da = other_edge R.joins_bc R.joins_da R.apart.b≢d R.apart.c≢d

      bc≢cd : R.bc ≢ R.cd
      bc≢cd = other_edge R.joins_bc (joins_back R.joins_cd) R.apart.b≢d R.apart.c≢d

  pub redraw_placed : Placed g D → Placed g (redraw R D new)
  redraw_placed placed e h = go (redraw_origin e h)
    where
      go : Origin R D new e → OnBoard g e
      go (from_ab q l) = rw q R.on_board_ab
      go (from_bc q l) = rw q R.on_board_bc
      go (from_cd q l) = rw q R.on_board_cd
      go (from_da q l) = rw q R.on_board_da
      go (from_old off k) = placed e k
