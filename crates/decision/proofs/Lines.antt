-- A line in a direction from a pad: what boardview's Cycle.antt says of an edge, by the slot and the pads that the code counts. Assumes nothing.
use Rattle.std.specs.Prelude.{ℕ, ◌≤◌, ◌<◌, ◌≡◌, true, ◌++◌, get_or}
use Rattle.std.proofs.Common.{sym, ap, ◌∙◌, subst}
use Rattle.rules.specs.Grid.{Edge, first, second, Grid, pads}
use Rattle.model.specs.PadTests.{on_board}
use Rattle.model.specs.Board.{line, shape_items}
use Rattle.boardview.specs.declared.Arrays.{Arrays}
use Rattle.boardview.specs.declared.kinds.Kinds.{Kinds}
use Rattle.boardview.specs.View.{logged, stopped, ended, slot, end_at, grid_in, Ready, Decided, Done, pad_number, check_at, with_count}
use Rattle.model.specs.JoinedEnds.{End, at_pad}
use Rattle.boardview.specs.Unwind.{LineBegun}
use Rattle.boardview.specs.Stores.{Stored}
use Rattle.boardview.specs.Cycle.{line_again, line_raised, line_room, line_first, line_second, line_stops, line_is_stored, line_returns}
use Rattle.grid.specs.Directions.{edge_to, first_to}
use Rattle.grid.specs.declared.Direction.{Direction}

module _ (kind : Kinds) (s : Arrays) (d : Direction) (v : ℕ) (y : Ready (grid_in kind) s) (on : on_board (grid_in kind) (edge_to d v) ≡ true)
    (n : ℕ) (en : n ≡ slot (edge_to d v)) where
  abbrev g : Grid
  g = grid_in kind

  abbrev e : Edge
  e = edge_to d v

  byte_at : get_or s.edges n 0 ≡ get_or s.edges (slot e) 0
  byte_at = ap (λ (x : ℕ). get_or s.edges x 0) en

  pub again : get_or s.edges n 0 ≡ 1 → Decided g s e line (with_count s (ended s.count))
  again o = line_again kind s e y on (sym byte_at ∙ o)

  pub raised : (get_or s.edges n 0 ≡ 0 → ⊥) → (get_or s.edges n 0 ≡ 1 → ⊥) → Decided g s e line (with_count s (stopped s.count))
  raised z o = line_raised kind s e y on (λ h. z (byte_at ∙ h)) (λ h. o (byte_at ∙ h))

  module _ (z : get_or s.edges n 0 ≡ 0) (q : ℕ) (eq : q ≡ second kind.width e) where
    zero_byte : get_or s.edges (slot e) 0 ≡ 0
    zero_byte = sym byte_at ∙ z

    pub room : logged s < 480
    room = line_room kind s e y on zero_byte q eq

    pub first_in : v < pads g
    first_in = subst (λ (x : ℕ). x < pads g) (sym (first_to d v)) (line_first kind s e y on zero_byte q eq)

    pub second_in : q < pads g
    second_in = line_second kind s e y on zero_byte q eq

    -- the pads A and B
    pub first_end : (E : End) → E ≡ end_at s.ends v → (a : ℕ) → E ≡ at_pad a → a < pads g
    first_end E e a is = y.near v a first_in (sym e ∙ is)

    pub second_end : (E : End) → E ≡ end_at s.ends q → (b : ℕ) → E ≡ at_pad b → b < pads g
    second_end E e b is = y.near q b second_in (sym e ∙ is)

    module _ (s₁ : Arrays) (begun : LineBegun s n v q s₁) where
      begun_there : LineBegun s (slot e) (first e) q s₁
      begun_there = subst (λ (x : ℕ). LineBegun s (slot e) x q s₁) (first_to d v) (subst (λ (x : ℕ). LineBegun s x v q s₁) en begun)

      pub stops : 2048 ≤ s₁.count → Decided g s e line s₁
      stops = line_stops kind s e y on zero_byte q eq s₁ begun_there

      pub is_stored : s₁.count < 2048 → Stored g s s₁
      is_stored = line_is_stored kind s e y on zero_byte q eq s₁ begun_there

      pub all_done : s₁.count < 2048 → (A B : End) → A ≡ end_at s.ends v → B ≡ end_at s.ends q → (s' : Arrays)
          → Done g 1 s₁ (shape_items g e ++ (check_at v ++ (check_at q ++ (check_at (pad_number A) ++ check_at (pad_number B))))) s' → Decided g s e line (with_count s' (ended s'.count))
      all_done low A B eA eB s' done = line_returns kind s e y on zero_byte q eq s₁ begun_there low (pad_number A) (pad_number B)
          (subst (λ (x : ℕ). pad_number A ≡ pad_number (end_at s.ends x)) (first_to d v) (ap pad_number eA)) (ap pad_number eB) s'
          (subst (λ (x : ℕ). Done g 1 s₁ (shape_items g e ++ (check_at x ++ (check_at q ++ (check_at (pad_number A) ++ check_at (pad_number B))))) s') (first_to d v) done)
