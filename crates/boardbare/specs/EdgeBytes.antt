-- Laws of the bare edges' bytes: a slot of the board holds undecided, any other none. It rests on BareArrays.antt.
use Rattle.std.specs.Prelude.{ℕ, ◌+◌, ◌*◌, ◌-◌, ◌/◌, ◌%◌, ◌≤◌, ◌≡◌, refl, Bool, true, false, ◌&&◌, eqb, ltb, leb}
use Rattle.std.proofs.Common.{arith, mul-le-mul, le-ltb, ltb-true, ltb-false, le-leb}
use Rattle.std.proofs.lemmas.Bool.{lt-leb}
use Rattle.rules.specs.Grid.{Size, Edge, right, down, Grid, pads}
use Rattle.rules.specs.Tests.{both_off}
use Rattle.model.specs.PadTests.{on_board}
use Rattle.boardview.specs.Told.{pick}
use Rattle.boardview.specs.View.{edge_of, slot_on}
use Rattle.boardbare.specs.BareArrays.{right_byte, down_byte, edge_byte}

pub few_pads : (height width : ℕ) → Size height → Size width → height * width ≤ 256
few_pads height width h w = mul-le-mul h.1 w.1

-- THE BYTE OF A SLOT: 0 on the board, 2 elsewhere
pub edge_byte_is : (g : Grid) (s : ℕ) → edge_byte g.width (pads g) s ≡ pick (slot_on g s) 0 2
unfolding edge_byte right_byte down_byte slot_on edge_of
edge_byte_is g s = go (ltb s 32) refl
  where
    parity : (b : Bool) → pick b (right_byte g.width (pads g) (s / 2 - 16)) (down_byte g.width (pads g) (s / 2 - 16)) ≡ pick (on_board g (pick b (right (s / 2 - 16)) (down (s / 2 - 16)))) 0 2
    parity true = refl
    parity false = refl

    go : (b : Bool) → ltb s 32 ≡ b
        → pick b 2 (pick (eqb (s % 2) 0) (right_byte g.width (pads g) (s / 2 - 16)) (down_byte g.width (pads g) (s / 2 - 16))) ≡ pick (leb 32 s && on_board g (pick (eqb (s % 2) 0) (right (s / 2 - 16)) (down (s / 2 - 16)))) 0 2
    go true e = rw (lt-leb 32 s (ltb-true s 32 e)) refl
    go false e = rw (le-leb 32 s (ltb-false s 32 e)) (parity (eqb (s % 2) 0))

-- by whether the edge of the slot is on the board
pub byte_by_test : (g : Grid) (s : ℕ) → 32 ≤ s → (e : Edge) → e ≡ edge_of s → (on : Bool) → on_board g e ≡ on → pick on 0 2 ≡ edge_byte g.width (pads g) s
unfolding slot_on
byte_by_test g s far e is on test =
    rw (edge_byte_is g s, le-leb 32 s far, ← is, test) refl

-- past the last pad
pub past_the_edges : (width pads s : ℕ) → 32 + 2 * pads ≤ s → 2 ≡ edge_byte width pads s
unfolding edge_byte right_byte down_byte
past_the_edges width pads s h = rw (le-ltb s 32 (omega arith)) (go (eqb (s % 2) 0))
  where
    past : pads ≤ s / 2 - 16
    past = omega arith

    go : (b : Bool) → 2 ≡ pick b (right_byte width pads (s / 2 - 16)) (down_byte width pads (s / 2 - 16))
    go true = rw (both_off (ltb ((s / 2 - 16) % width + 1) width) (ltb (s / 2 - 16) pads) (le-ltb (s / 2 - 16) pads past)) refl
    go false = rw (le-ltb (s / 2 - 16 + width) pads (omega arith)) refl
