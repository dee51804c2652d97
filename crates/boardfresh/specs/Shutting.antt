-- Shutting holes on the lent arrays: the edge at a slot is put to a decision as none; the four edges at a pad are, if it is a hole. What
-- the arrays then show is the model's `shut_at`. It rests on boardview's laws of slots and decisions.
use Prim.Native.Nat.{ℕ, suc, ◌+◌, ◌*◌, ◌-◌, ◌≤◌, ◌<◌}
use Rattle.std.specs.Prelude.{◌≡◌, Bool, ◌&&◌, not}
use Rattle.std.proofs.Math.Path.{refl, sym, ap}
use Rattle.std.proofs.Common.{◌∙◌, lt-ltb}
use Rattle.std.proofs.Math.Bool.{true, false}
use mathlib.Core.List.{List, []}
use native.Mathlib.Omega.{arith}
use Rattle.std.proofs.Math.ListN.{get_or}
use Rattle.rules.specs.Grid.{Edge, right, down, Grid, pads}
use Rattle.rules.specs.Tests.{is_so}
use Rattle.model.specs.PadTests.{is_hole, has_left, has_right, has_up, has_down}
use Rattle.model.specs.Board.{State, none, with_edge, around, decide, enough, shut, shut_at, prepared}
use Rattle.boardview.specs.declared.Arrays.{Arrays}
use Rattle.boardview.specs.declared.kinds.Kinds.{Kinds}
use Rattle.boardview.specs.Told.{pick, has_bit, clue_bit, taken_bit, cell_in}
use Rattle.boardview.specs.View.{view, edge_of, slot, slot_on, state_of, ended, with_count, grid_in, Ready, Decided, NoneAt}
use Rattle.boardview.specs.Bytes.{elim_true, elim_false, slot_of_edge, on_slot, right_slot, down_slot}
use Rattle.boardview.specs.Geometry.{slot_left, slot_right, slot_up, slot_down, edge_left, edge_up}
use Rattle.boardview.specs.Stores.{flag_of_ended}
use Rattle.boardview.specs.Steps.{view_recounted}
use Rattle.boardview.specs.Items.{decided_same}
use Rattle.boardview.specs.Undecided.{enough_here}

-- THE ARRAYS SHOW A STATE, and are ready
pub record Shown (g : Grid) (s : Arrays) (S : State) : Type 0 where
  pub ready : Ready g s
  pub shows : view s ≡ S

-- the edge at a slot put to a decision as none; off the board nothing changes
unfoldable pub shut_slot : Grid → ℕ → State → State
shut_slot g n S = pick (slot_on g n) (decide g (enough g) (edge_of n) none S) S

-- A PAD IS A HOLE: taken, and no clue
pub hole_test : (kinds : Kinds) (v : ℕ) → v < 256 → is_hole ((grid_in kinds).cell v) ≡ (not (has_bit kinds.bits v clue_bit) && has_bit kinds.bits v taken_bit)
hole_test kinds v below = rw (lt-ltb v 256 below) (go (has_bit kinds.bits v clue_bit) (has_bit kinds.bits v taken_bit))
  where
    go : (clue taken : Bool) → is_hole (cell_in clue taken) ≡ (not clue && taken)
    go true taken = refl
    go false true = refl
    go false false = refl

-- ONE SLOT
module _ (g : Grid) (s : Arrays) (ready : Ready g s) (n : ℕ) (inside : n < 1024) where
  -- an edge that is none already, or a slot off the board: nothing is to be done
  pub none_there : get_or s.edges n 0 ≡ 2 → Shown g s (shut_slot g n (view s))
  unfolding shut_slot state_of
  none_there two = record { ready = ready; shows = go (slot_on g n) refl }
    where
      decided_already : slot_on g n ≡ true → view s ≡ decide g (enough g) (edge_of n) none (view s)
      decided_already on =
          let (low, on_the_board) = on_slot g n on in
          let at : slot (edge_of n) ≡ n = slot_of_edge n low in
          let byte : get_or s.edges (slot (edge_of n)) 0 ≡ 2 = ap (λ (i : ℕ). get_or s.edges i 0) at ∙ two in
          let same : Decided g s (edge_of n) none (with_count s (ended s.count)) =
          decided_same g s (edge_of n) ready on_the_board (rw at (omega (arith, ready.edges_long))) 2 (omega arith) (omega arith) (λ z. omega arith) byte in
          sym (view_recounted g s (ended s.count) (flag_of_ended s.count)) ∙ same.same (enough g) (enough_here g s ready)

      go : (b : Bool) → slot_on g n ≡ b → view s ≡ pick (slot_on g n) (decide g (enough g) (edge_of n) none (view s)) (view s)
      go true on = rw on (decided_already on)
      go false off = rw off refl

  -- else the slot is one of an edge of the board, and the edge is decided
  pub none_put : (get_or s.edges n 0 ≡ 2 → ⊥) → (s' : Arrays) → NoneAt g s n s' → Shown g s' (shut_slot g n (view s))
  unfolding shut_slot
  none_put other s' put =
      let on : slot_on g n ≡ true = is_so (slot_on g n) (λ off. absurd (other (ready.rim n inside off))) in
      let did = put.acts on in
      record { ready = did.ready; shows = did.same (enough g) (enough_here g s ready) ∙ sym (ap (λ (b : Bool). pick b (decide g (enough g) (edge_of n) none (view s)) (view s)) on) }

-- FOUR SLOTS are the edges at a pad
abbrev pub four_shut : Grid → ℕ → State → State
four_shut g v S = shut_slot g (33 + 2 * v) (shut_slot g (33 + 2 * v - 2 * g.width) (shut_slot g (32 + 2 * v) (shut_slot g (30 + 2 * v) S)))

module _ (g : Grid) (least : 2 ≤ g.width) (largest : g.width ≤ 16) (v : ℕ) (below : v < pads g) where
  one_slot : (n : ℕ) (b : Bool) (e : Edge) (u : ℕ) (l : List (Edge × ℕ)) → slot_on g n ≡ b → (b ≡ true → edge_of n ≡ e) → (S : State)
      → shut g (with_edge b e u l) S ≡ shut g l (shut_slot g n S)
  unfolding shut shut_slot
  one_slot n true e u l on is S = rw (on, is refl) refl
  one_slot n false e u l off is S = rw off refl

  four_sides : (S : State) → shut g (around g v) S ≡ four_shut g v S
  unfolding around
  four_sides S =
      one_slot (30 + 2 * v) (has_left g v) (right (v - 1)) (v - 1) _ (slot_left g least largest v below) (edge_left g least largest v below) S
      ∙ one_slot (32 + 2 * v) (has_right g v) (right v) (v + 1) _ (slot_right g least largest v below) (λ h. right_slot v) _
      ∙ one_slot (33 + 2 * v - 2 * g.width) (has_up g v) (down (v - g.width)) (v - g.width) _ (slot_up g least largest v below) (edge_up g least largest v below) _
      ∙ one_slot (33 + 2 * v) (has_down g v) (down v) (v + g.width) [] (slot_down g least largest v below) (λ h. down_slot v) _
      ∙ (unfold shut in refl)

  -- A HOLE, once its four edges have been decided
  hole_shut : is_hole (g.cell v) ≡ true → (S : State) → four_shut g v S ≡ shut_at g v S
  unfolding shut_at
  hole_shut is S = sym (elim_true (is_hole (g.cell v)) (shut g (around g v) S) S is ∙ four_sides S)

  pub four_done : is_hole (g.cell v) ≡ true → (width : ℕ) → width ≡ g.width → (s s₁ s₂ s₃ s₄ : Arrays)
      → Shown g s₁ (shut_slot g (30 + 2 * v) (view s)) → Shown g s₂ (shut_slot g (32 + 2 * v) (view s₁))
      → Shown g s₃ (shut_slot g (33 + 2 * v - 2 * width) (view s₂)) → Shown g s₄ (shut_slot g (33 + 2 * v) (view s₃)) → Shown g s₄ (shut_at g v (view s))
  four_done is width same s s₁ s₂ s₃ s₄ at_left at_right at_up at_down = record { ready = at_down.ready; shows = all ∙ hole_shut is (view s) }
    where
      all : view s₄ ≡ four_shut g v (view s)
      all = at_down.shows ∙ ap (shut_slot g (33 + 2 * v)) (at_up.shows
          ∙ ap (λ (w : ℕ). shut_slot g (33 + 2 * v - 2 * w) (view s₂)) same
          ∙ ap (shut_slot g (33 + 2 * v - 2 * g.width)) (at_right.shows ∙ ap (shut_slot g (32 + 2 * v)) at_left.shows))

-- A PAD THAT IS NONE stays as it is
pub no_hole_here : (g : Grid) (s : Arrays) (v : ℕ) → Ready g s → is_hole (g.cell v) ≡ false → Shown g s (shut_at g v (view s))
unfolding shut_at
no_hole_here g s v ready none_here = record { ready = ready; shows = sym (elim_false (is_hole (g.cell v)) (shut g (around g v) (view s)) (view s) none_here) }

-- ALL HOLES: once those before v are shut, what is left to do from v on is what was to be done from pad 0 on
pub record ShutBefore (g : Grid) (s₀ : Arrays) (v : ℕ) (s : Arrays) : Type 0 where
  pub ready : Ready g s
  pub left : prepared g (pads g - v) v (view s) ≡ prepared g (pads g) 0 (view s₀)

module _ (g : Grid) (s₀ : Arrays) where
  pub none_shut : Ready g s₀ → ShutBefore g s₀ 0 s₀
  none_shut ready = record { ready = ready; left = let all : pads g - 0 ≡ pads g = omega arith in ap (λ (n : ℕ). prepared g n 0 (view s₀)) all }

  pub one_more_shut : (v : ℕ) (s s' : Arrays) → v < pads g → ShutBefore g s₀ v s → Shown g s' (shut_at g v (view s)) → ShutBefore g s₀ (v + 1) s'
  unfolding prepared
  one_more_shut v s s' below before now = record {
    ready = now.ready;
    left = ap (λ (S : State). prepared g (pads g - (v + 1)) (v + 1) S) now.shows ∙ (ap (λ (n : ℕ). prepared g n v (view s)) (sym one_less) ∙ before.left);
  }
    where
      one_less : pads g - v ≡ suc (pads g - (v + 1))
      one_less = omega arith

  pub all_shut : (v : ℕ) (s : Arrays) → pads g ≤ v → ShutBefore g s₀ v s → Shown g s (prepared g (pads g) 0 (view s₀))
  unfolding prepared
  all_shut v s past before = record { ready = before.ready; shows = ap (λ (n : ℕ). prepared g n v (view s)) (sym none_left) ∙ before.left }
    where
      none_left : pads g - v ≡ 0
      none_left = omega arith
