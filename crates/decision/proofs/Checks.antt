-- The pad check's parts as the code comes to them: an end that names no pad, a side that is not there, and, after the first part, what each
-- action does. Assumes nothing.
use Rattle.std.specs.Prelude.{ℕ, ◌+◌, ◌<◌, ◌≡◌, Bool, true, false, get_or}
use Rattle.std.proofs.Common.{refl, arith}
use Rattle.rules.specs.Grid.{Edge, Grid, pads}
use Rattle.model.specs.JoinedEnds as model
use Rattle.model.specs.Board.{line}
use Rattle.boardview.specs.declared.Arrays.{Arrays}
use Rattle.boardview.specs.declared.kinds.Kinds.{Kinds}
use Rattle.boardview.specs.Told.{pick}
use Rattle.boardview.specs.View.{ended_in, stopped, ended, edge_of, slot_on, end_at, grid_in, Ready, Decided, Done, NoneAt, Settled, pad_number, detour_at, check_at, action_around, with_count}
use Rattle.boardview.specs.Bytes.{has_ended, goes_on}
use Rattle.boardview.specs.Steps.{done_nothing}
use Rattle.boardview.specs.Check.{first_items, settle_nothing, settle_raise, check_ends, check_settles}
use Rattle.boardview.specs.Cycle.{small_pad, clueless, settle_leaves, settle_draws}
use Rattle.boardparts.specs.Ends.{end_told}
use Rattle.boardparts.specs.declared.End.{End}
use Rattle.boardparts.specs.declared.End.TheVariants.{Through, Pad, Clue}

pub no_pad : (g : Grid) (s : Arrays) → Ready g s → (end : End) → ((v : ℕ) → end ≡ Pad v → ⊥) → Done g 1 s (check_at (pad_number (end_told end))) s
unfolding check_at pad_number
no_pad g s y Through other = done_nothing g 1 s y
no_pad g s y (Pad v) other = absurd (other v refl)
no_pad g s y (Clue code) other = done_nothing g 1 s y

pub no_clue : (kind : Kinds) (s : Arrays) → Ready (grid_in kind) s → (v : ℕ) → v < pads (grid_in kind) → (end : End) → end_told end ≡ end_at s.ends v → ((code : ℕ) → end ≡ Clue code → ⊥)
    → Done (grid_in kind) 0 s (first_items (grid_in kind) v (end_at s.ends v)) s
no_clue kind s y v inside Through e other = clueless kind s y v inside model.through e (λ code is. absurd (not_clue code is))
  where
    not_clue : (code : ℕ) → model.through ≡ model.at_clue code → ⊥
    not_clue code is = cc
no_clue kind s y v inside (Pad a) e other = clueless kind s y v inside (model.at_pad a) e (λ code is. absurd (not_clue code is))
  where
    not_clue : (code : ℕ) → model.at_pad a ≡ model.at_clue code → ⊥
    not_clue code is = cc
no_clue kind s y v inside (Clue code) e other = absurd (other code refl)

-- no far side
pub no_side : (g : Grid) (s : Arrays) → Ready g s → (far b c : ℕ) (t has : Bool) → has ≡ t → has ≡ false → Done g 1 s (detour_at g (pick t far 0) b c) s
unfolding detour_at slot_on
no_side g s y far b c t has e no_corner = rw (← e, no_corner) (done_nothing g 1 s y)

-- AFTER THE FIRST PART
module _ (kind : Kinds) (s s₁ : Arrays) (y : Ready (grid_in kind) s) (v : ℕ) (inside : v < pads (grid_in kind)) (low : s.count < 2048)
    (d : Done (grid_in kind) 0 s (first_items (grid_in kind) v (end_at s.ends v)) s₁) (t : Bool) (et : t ≡ ended_in s₁.count) where
  abbrev g : Grid
  g = grid_in kind

  small : v < 512
  small = omega (arith, small_pad kind s y v inside)

  pub ends : t ≡ true → Done g 1 s (check_at v) s₁
  ends h = check_ends g s s₁ v small low d (has_ended t s₁.count et h)

  module _ (h : t ≡ false) where
    settled : (s₂ : Arrays) → Settled g s₁ v s₂ → Done g 1 s (check_at v) s₂
    settled = check_settles g s s₁ v small low d (goes_on t s₁.count et h)

    pub nothing : 0 ≡ action_around kind.bits s₁.edges kind.width v → Done g 1 s (check_at v) (with_count s₁ (ended s₁.count))
    nothing a = settled _ (settle_nothing kind s₁ d.ready v 0 inside a refl)

    pub raises : 1 ≡ action_around kind.bits s₁.edges kind.width v → Done g 1 s (check_at v) (with_count s₁ (stopped s₁.count))
    raises a = settled _ (settle_raise kind s₁ d.ready v 1 inside a refl)

    module _ (n : ℕ) (there : (n < 1024) × (get_or s₁.edges n 0 ≡ 0)) (s₂ : Arrays) where
      pub leaves : n + 1024 ≡ action_around kind.bits s₁.edges kind.width v → NoneAt g s₁ n s₂ → Done g 1 s (check_at v) s₂
      leaves a none_there = settled s₂ (settle_leaves kind s₁ d.ready v inside n there.0 there.1 a s₂ none_there)

      pub draws : n ≡ action_around kind.bits s₁.edges kind.width v → (e : Edge) → e ≡ edge_of n → Decided g s₁ e line s₂ → Done g 1 s (check_at v) s₂
      draws a e is drawn = settled s₂ (settle_draws kind s₁ d.ready v inside n there.0 there.1 a s₂ (rw is at drawn))
