-- The slow walk of a grid depends on its codes only by which pads carry equal codes: it gives the same pads the same codes, and the test of the
-- rules says the same of every full drawing (AlikeJudge.antt), so on alike grids it is the same list of events, and `walk` answers the same for
-- both, with every byte that is lent; also for the grid with lowered codes (Lowered.antt).
use Prim.Native.Nat.{ℕ, zero, suc, ◌+◌}
use Rattle.std.specs.Prelude.{◌≡◌, refl, Bool, eqb, ℤ}
use Rattle.std.proofs.Math.Bool.{true, false}
use mathlib.Core.List.{List, [], ◌∷◌, ◌++◌}
use Rattle.rules.specs.Grid.{Cell, Grid, pads, grid_of, Accepted}
use Rattle.rules.specs.Drawing.{Drawing}
use Rattle.rules.specs.Record.{record_of}
use Rattle.model.specs.Runs.{Event, visit, layout, listed_by}
use Rattle.model.specs.Walk.{no_lines, with_code, may_give, tested, give, walk_on, every_code, walk}
use Rattle.model.specs.RefusalLaws.{accepted_is_not_refused}
use Rattle.alike.specs.Alike.{Alike, recoded, of_one_size}
use Rattle.alike.proofs.AlikeJudge.{verdict_alike}
use Rattle.alike.specs.Lowered.{lowered}
use Rattle.alike.proofs.Lowered.{lowered_alike, lowered_accepted}

module _ (g : Grid) (cell : ℕ → Cell) (alike : Alike g (recoded g cell)) where
  abbrev h : Grid
  h = recoded g cell

  tested_same : (D : Drawing) → tested g D ≡ tested h D
  unfolding tested record_of
  tested_same D = λ i. elim (eqb (verdict_alike alike (record_of g D) i) 2) [ true ↦ layout (record_of g D) ∷ [] | false ↦ [] ]

  give_same : (first second : Drawing → List Event) → ((E : Drawing) → first E ≡ second E) → (v : ℕ) (D : Drawing) (r d : Bool) → give g first v D r d ≡ give h second v D r d
  unfolding give may_give
  give_same first second same v D r d = λ i. elim (may_give g v r d) [ true ↦ visit ∷ same (with_code D v r d) i | false ↦ [] ]

  walk_on_same : (n v : ℕ) (D : Drawing) → walk_on g n v D ≡ walk_on h n v D
  unfolding walk_on
  walk_on_same zero v D = tested_same D
  walk_on_same (suc n) v D =
      let one : (r d : Bool) → give g (λ E. walk_on g n (v + 1) E) v D r d ≡ give h (λ E. walk_on h n (v + 1) E) v D r d = give_same _ _ (λ E. walk_on_same n (v + 1) E) v D in
      (λ i. one false false i ++ (one true false i ++ (one false true i ++ one true true i)))

-- THE WALK through every code
pub every_code_alike : {g h : Grid} → Alike g h → every_code g ≡ every_code h
unfolding every_code
every_code_alike {g} alike = of_one_size (λ k. every_code g ≡ every_code k) alike (λ cell a. walk_on_same g cell a (pads g) 0 no_lines)

-- WALK, at every limit and with every buffer
pub walk_alike : (height width : ℕ) (cells others : List ℤ) → Accepted height width cells → Accepted height width others
    → Alike (grid_of height width cells) (grid_of height width others)
    → (limit : ℕ) (buffer : List ℕ) → walk height width cells limit buffer ≡ walk height width others limit buffer
unfolding walk listed_by
walk_alike height width cells others accepted other_accepted alike limit buffer =
    rw (accepted_is_not_refused height width cells accepted, accepted_is_not_refused height width others other_accepted, listed_by) (rw (every_code_alike alike) refl)

-- and for the grid with lowered codes, each below 256
pub walk_lowered : (height width : ℕ) (cells : List ℤ) → Accepted height width cells
    → (limit : ℕ) (buffer : List ℕ) → walk height width cells limit buffer ≡ walk height width (lowered cells) limit buffer
walk_lowered height width cells accepted limit buffer =
    walk_alike height width cells (lowered cells) accepted (lowered_accepted cells height width accepted) (lowered_alike cells height width) limit buffer
