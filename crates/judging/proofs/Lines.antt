-- Laws of following a record: what the array of ends shows after a line, an edge, a place and a stretch of places, and that what was wrong
-- stays wrong. They rest on boardview's Ends.antt and on the model's Judge.antt.
use Prim.Native.Nat.{ℕ, ◌+◌, ◌≤◌, ◌<◌}
use mathlib.Core.Path.{◌≡◌, refl, sym, ◌∙◌}
use mathlib.Core.Bool.{Bool, true, false}
use mathlib.Core.List.{List}
use native.Mathlib.Omega.{arith}
use lib.Dec.{eqb}
use lib.ListN.{length}
use lib.IntN.{ℤ}
use borrow.Author.Tests.{eq-eqb, ne_eqb}
use Rattle.rules.specs.Grid.{Edge, right, down, first, Place, edge, no_edge}
use Rattle.rules.specs.Record.{undecided_byte, line_byte, none_byte}
use Rattle.rules.specs.Places.{zero≢one}
use Rattle.std.specs.Prelude.{if◌then◌else◌}
use Rattle.model.specs.JoinedEnds.{at_pad, unjoinable, joined_ends}
use Rattle.model.specs.Judge.{wrong, so_far, after_line, after_edge, after_place}
use Rattle.grid.specs.PadsAt.{pads_of}
use Rattle.std.proofs.Common.{Some, None}
use Rattle.grid.specs.declared.Pads.{Pads}
use Rattle.boardview.specs.View.{end_at, joined}
use Rattle.boardview.specs.Ends.{stay_near, joined_long, joined_at}
use Rattle.judging.specs.Following.{told, InUse, Stepped}

-- A LINE between pads v and q
module _ (v q : ℕ) (ends : List ℤ) (hv : v < 512) (hq : q < 512) (good : InUse ends) where
  pub line_refused : true ≡ unjoinable (end_at ends v) (end_at ends q) q → Stepped (after_line v q) ends false ends
  unfolding after_line
  line_refused h = record { says = rw (← h) refl; in_use = good }

  abbrev first_near : (a : ℕ) → end_at ends v ≡ at_pad a → a < length ends
  first_near a e = omega (arith, good.near v a hv e, good.long)

  abbrev second_near : (b : ℕ) → end_at ends q ≡ at_pad b → b < length ends
  second_near b e = omega (arith, good.near q b hq e, good.long)

  joined_shown : (x : ℕ) → end_at (joined v q ends) x ≡ joined_ends (λ u. end_at ends u) v q (end_at ends v) (end_at ends q) x
  joined_shown = joined_at v q ends (omega (arith, good.long)) (omega (arith, good.long)) first_near second_near

  pub line_joined : false ≡ unjoinable (end_at ends v) (end_at ends q) q → Stepped (after_line v q) ends true (joined v q ends)
  unfolding after_line
  line_joined h = record {
    says = rw (← h) (λ i. so_far (λ x. joined_shown x i));
    in_use = record {
      long = joined_long v q ends (omega (arith, good.long)) (omega (arith, good.long)) first_near second_near ∙ good.long;
      near = λ x w hx e. stay_near (λ u. end_at ends u) v q 512 hv hq good.near x w hx (sym (joined_shown x) ∙ e);
    };
  }

-- THE BYTE OF AN EDGE between pads v and q
module _ (v q byte : ℕ) {before : List ℤ} where
  pub edge_line : byte ≡ line_byte → {r : Bool} {after : List ℤ} → Stepped (after_line v q) before r after → Stepped (after_edge v q byte) before r after
  unfolding after_edge
  edge_line h stepped = record { says = rw (eq-eqb byte line_byte h) stepped.says; in_use = stepped.in_use }

  pub edge_other : (byte ≡ line_byte → ⊥) → InUse before → Stepped (after_edge v q byte) before (eqb byte none_byte) before
  unfolding after_edge
  edge_other h good = record { says = rw (ne_eqb byte line_byte h) (go (eqb byte none_byte)); in_use = good }
    where
      go : (b : Bool) → told b before ≡ (if b then so_far (λ u. end_at before u) else wrong)
      go true = refl
      go false = refl

-- THE BYTE OF A PLACE, by the pads that are found there
module _ (width byte : ℕ) {before : List ℤ} where
  pub place_joins : (p : Place) {pads : Pads} → Some pads ≡ pads_of width p → {r : Bool} {after : List ℤ} → Stepped (after_edge pads.first pads.second byte) before r after
      → Stepped (after_place width p byte) before r after
  unfolding pads_of after_place after_edge
  place_joins (edge (right u)) {pads} is stepped =
      let p : pads.first ≡ u = cc in
      let q : pads.second ≡ u + 1 = cc in
      record { says = stepped.says ∙ (λ i. after_edge (p i) (q i) byte (λ x. end_at before x)); in_use = stepped.in_use }
  place_joins (edge (down u)) {pads} is stepped =
      let p : pads.first ≡ u = cc in
      let q : pads.second ≡ u + width = cc in
      record { says = stepped.says ∙ (λ i. after_edge (p i) (q i) byte (λ x. end_at before x)); in_use = stepped.in_use }
  place_joins no_edge is stepped = zero≢one (cc)

  pub place_nowhere : (p : Place) → None ≡ pads_of width p → InUse before → Stepped (after_place width p byte) before (eqb byte undecided_byte) before
  unfolding pads_of after_place
  place_nowhere (edge (right u)) is good = zero≢one (cc)
  place_nowhere (edge (down u)) is good = zero≢one (cc)
  place_nowhere no_edge is good = record { says = go (eqb byte undecided_byte); in_use = good }
    where
      go : (b : Bool) → told b before ≡ (if b then so_far (λ u. end_at before u) else wrong)
      go true = refl
      go false = refl

-- the pads that are found have their ends in the array
module _ (width : ℕ) (narrow : width ≤ 16) (p : Place) (small : (e : Edge) → p ≡ edge e → first e < 256) where
  pub pads_small : {pads : Pads} → Some pads ≡ pads_of width p → (pads.first < 512) × (pads.second < 512)
  unfolding pads_of
  pads_small {pads} is = go p refl small is
    where
      go : (p' : Place) → p ≡ p' → ((e : Edge) → p' ≡ edge e → first e < 256) → Some pads ≡ pads_of width p' → (pads.first < 512) × (pads.second < 512)
      go (edge (right u)) same low e =
          let f : pads.first ≡ u = cc in
          let s : pads.second ≡ u + 1 = cc in
          let l : u < 256 = low (right u) refl in
          omega arith
      go (edge (down u)) same low e =
          let f : pads.first ≡ u = cc in
          let s : pads.second ≡ u + width = cc in
          let l : u < 256 = low (down u) refl in
          omega arith
      go no_edge same low e = zero≢one (cc)
