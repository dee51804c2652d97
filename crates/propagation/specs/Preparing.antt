-- The fresh board: the bare one after each edge at a hole was decided to be none. These are decisions like any others (Decisions.antt), and a
-- listed drawing agrees with them, since a hole has no line. So with a clear flag the fresh board is at rest, with a none at each edge of
-- a hole; each listed drawing agrees with it; and where preparing sets the flag there is no listed drawing.
use Prim.Native.Nat.{ℕ, zero, suc, ◌+◌, ◌≤◌, ◌<◌}
use Rattle.std.specs.Prelude.{◌≡◌, Bool}
use Rattle.std.proofs.Math.Path.{refl, ap}
use Rattle.std.proofs.Common.{sym, ◌∙◌}
use Rattle.std.proofs.Math.Logic.{⊎_elim}
use Rattle.std.proofs.Math.Bool.{true, false}
use mathlib.Core.List.Memᴰ
use mathlib.Core.List.{List, [], ◌∷◌, Memᴰ}
use native.Mathlib.Omega.{arith}
use Rattle.std.proofs.Math.Decide.{dec_lt, ℕ_discrete}
use Rattle.rules.specs.Grid.{Edge, hole, Grid, pads, OnBoard}
use Rattle.rules.specs.Drawing.{Drawing, drawn, Listed}
use Rattle.rules.specs.Places.{zero≢one}
use Rattle.rules.specs.Tests.{not_so}
use Rattle.model.specs.PadTests.{is_hole}
use Rattle.model.specs.Board.{State, none, around, bare, shut, shut_at, prepared, fresh, decide, enough, line_or_none}
use Rattle.model.specs.BoardLaws.{on_board_of_test, hole_of}
use Rattle.propagation.specs.Objects.{AllHold}
use Rattle.propagation.specs.Squares.{around_on}
use Rattle.propagation.specs.Counting.{leads}
use Rattle.rules.specs.ProperGrid.{Proper}
use Rattle.propagation.specs.BareBoard.{bare_holds}
use Rattle.propagation.specs.Decisions.{Decision, After, none_yet, one_more, AgreesWith, decisions_there, rests_after}

-- THE DECISIONS OF THE PREPARING, the last one first, before others: none at each of some edges,
unfoldable pub nones : List (Edge × ℕ) → List Decision → List Decision
nones [] decisions = decisions
nones (p ∷ l) decisions = nones l ((p.0, false) ∷ decisions)

-- none at each edge of pad v, if it is a hole,
unfoldable pub nones_at : Grid → ℕ → List Decision → List Decision
nones_at g v decisions = elim (is_hole (g.cell v)) [ true ↦ nones (around g v) decisions | false ↦ decisions ]

-- and at each edge of the holes among n pads, from v on
unfoldable pub hole_nones : Grid → ℕ → ℕ → List Decision → List Decision
hole_nones g zero v decisions = decisions
hole_nones g (suc n) v decisions = hole_nones g n (v + 1) (nones_at g v decisions)

unfoldable pub hole_decisions : Grid → List Decision
hole_decisions g = hole_nones g (pads g) 0 []

-- each edge at a hole is none
abbrev pub HolesShut : Grid → State → Type 0
HolesShut g S = (v : ℕ) → g.cell v ≡ hole → (p : Edge × ℕ) → Memᴰ p (around g v) → S.edge p.0 ≡ none

-- what is so of the decisions that were there, and of a none at each edge of a hole, is so of all
module _ (g : Grid) (Fact : Decision → Type 0) where
  nones_all : (l : List (Edge × ℕ)) (decisions : List Decision) → ((p : Edge × ℕ) → Memᴰ p l → Fact (p.0, false))
      → ((d : Decision) → Memᴰ d decisions → Fact d) → (d : Decision) → Memᴰ d (nones l decisions) → Fact d
  unfolding nones
  nones_all [] decisions at before d m = before d m
  nones_all (p ∷ l) decisions at before d m = nones_all l ((p.0, false) ∷ decisions) (λ q k. at q (Memᴰ.tail k))
      (λ d k. ⊎_elim (λ e. rw e (at p (Memᴰ.head refl))) (before d) (Memᴰ.cases_cons k)) d m

  module _ (at : (v : ℕ) → g.cell v ≡ hole → (p : Edge × ℕ) → Memᴰ p (around g v) → Fact (p.0, false)) where
    nones_at_all : (v : ℕ) (decisions : List Decision) → ((d : Decision) → Memᴰ d decisions → Fact d) → (d : Decision) → Memᴰ d (nones_at g v decisions) → Fact d
    unfolding nones_at
    nones_at_all v decisions before d m = go (is_hole (g.cell v)) refl
      where
        go : (b : Bool) → is_hole (g.cell v) ≡ b → Fact d
        go true h = nones_all (around g v) decisions (at v (hole_of (g.cell v) h)) before d (rw (h, nones_at) at m)
        go false h = before d (rw (h, nones_at) at m)

    hole_nones_all : (n v : ℕ) (decisions : List Decision) → ((d : Decision) → Memᴰ d decisions → Fact d) → (d : Decision) → Memᴰ d (hole_nones g n v decisions) → Fact d
    unfolding hole_nones
    hole_nones_all zero v decisions before d m = before d m
    hole_nones_all (suc n) v decisions before d m = hole_nones_all n (v + 1) (nones_at g v decisions) (nones_at_all v decisions before) d m

-- and every edge of a hole is among them
nones_keep : (l : List (Edge × ℕ)) (decisions : List Decision) (d : Decision) → Memᴰ d decisions → Memᴰ d (nones l decisions)
unfolding nones
nones_keep [] decisions d m = m
nones_keep (p ∷ l) decisions d m = nones_keep l ((p.0, false) ∷ decisions) d (Memᴰ.tail m)

nones_in : (l : List (Edge × ℕ)) (decisions : List Decision) (p : Edge × ℕ) → Memᴰ p l → Memᴰ (p.0, false) (nones l decisions)
unfolding nones
nones_in [] decisions p m = elim m [ ]
nones_in (q ∷ l) decisions p m = ⊎_elim
    (λ e. nones_keep l ((q.0, false) ∷ decisions) (p.0, false) (Memᴰ.head (ap (λ r. (r.0, false)) e)))
    (λ k. nones_in l ((q.0, false) ∷ decisions) p k) (Memᴰ.cases_cons m)

module _ (g : Grid) where
  nones_at_keep : (v : ℕ) (decisions : List Decision) (d : Decision) → Memᴰ d decisions → Memᴰ d (nones_at g v decisions)
  unfolding nones_at
  nones_at_keep v decisions d m = go (is_hole (g.cell v)) refl
    where
      go : (b : Bool) → is_hole (g.cell v) ≡ b → Memᴰ d (nones_at g v decisions)
      go true h = rw (h, nones_at) (nones_keep (around g v) decisions d m)
      go false h = rw (h, nones_at) m

  hole_nones_keep : (n v : ℕ) (decisions : List Decision) (d : Decision) → Memᴰ d decisions → Memᴰ d (hole_nones g n v decisions)
  unfolding hole_nones
  hole_nones_keep zero v decisions d m = m
  hole_nones_keep (suc n) v decisions d m = hole_nones_keep n (v + 1) (nones_at g v decisions) d (nones_at_keep v decisions d m)

  hole_nones_in : (n v : ℕ) (decisions : List Decision) (u : ℕ) → v ≤ u → u < v + n → g.cell u ≡ hole → (p : Edge × ℕ) → Memᴰ p (around g u)
      → Memᴰ (p.0, false) (hole_nones g n v decisions)
  unfolding hole_nones nones_at
  hole_nones_in zero v decisions u from below hole_is p m = absurd (omega arith)
  hole_nones_in (suc n) v decisions u from below hole_is p m = elim (ℕ_discrete u v) [
    | yes e ↦ (let h : is_hole (g.cell v) ≡ true = ap (λ w. is_hole (g.cell w)) (sym e) ∙ ap is_hole hole_is in
        hole_nones_keep n (v + 1) (nones_at g v decisions) (p.0, false) (rw (h, nones_at) (nones_in (around g v) decisions p (rw e at m))))
    | no ne ↦ hole_nones_in n (v + 1) (nones_at g v decisions) u (omega arith) (omega arith) hole_is p m
  ]

module _ (g : Grid) (proper : Proper g) where
  -- THE PREPARING IS THESE DECISIONS, from the bare board on
  shut_after : {start S : State} {decisions : List Decision} (l : List (Edge × ℕ)) → ((p : Edge × ℕ) → Memᴰ p l → OnBoard g p.0)
      → After g start S decisions → After g start (shut g l S) (nones l decisions)
  unfolding shut nones
  shut_after [] on after = after
  shut_after {S = S} (p ∷ l) on after = shut_after {S = decide g (enough g) p.0 (line_or_none false) S} l (λ q m. on q (Memᴰ.tail m)) (one_more p.0 false (on p (Memᴰ.head refl)) after)

  hole_after : {start S : State} {decisions : List Decision} (v : ℕ) → v < pads g → After g start S decisions → After g start (shut_at g v S) (nones_at g v decisions)
  unfolding shut_at nones_at
  hole_after {start} {S} {decisions} v inside after = go (is_hole (g.cell v)) refl
    where
      go : (b : Bool) → is_hole (g.cell v) ≡ b → After g start (shut_at g v S) (nones_at g v decisions)
      go true h = rw (h, shut_at, nones_at) (shut_after (around g v) (λ p m. on_board_of_test g p.0 (around_on g proper.wide v p inside m).0) after)
      go false h = rw (h, shut_at, nones_at) after

  prepared_after : {start S : State} {decisions : List Decision} (n v : ℕ) → v + n ≤ pads g → After g start S decisions → After g start (prepared g n v S) (hole_nones g n v decisions)
  unfolding prepared hole_nones
  prepared_after zero v inside after = after
  prepared_after {S = S} (suc n) v inside after = prepared_after {S = shut_at g v S} n (v + 1) (omega arith) (hole_after v (omega arith) after)

  pub fresh_after : After g (bare g) (fresh g) (hole_decisions g)
  unfolding fresh hole_decisions
  fresh_after = prepared_after (pads g) 0 (omega arith) none_yet

  -- a listed drawing agrees with them
  pub agrees_at_holes : (D : Drawing) → Listed g D → AgreesWith D (hole_decisions g)
  unfolding hole_decisions
  agrees_at_holes D listed = hole_nones_all g (λ d. drawn D d.0 ≡ d.1)
      (λ v hole_is p m. not_so (drawn D p.0) (λ h. listed.ordinary.wired.hole_none v hole_is p.1 (leads g proper.wide D listed.ordinary.placed v p m h)))
      (pads g) 0 [] (λ d m. elim m [ ])

  pub bare_rests : (bare g).flag ≡ false → AllHold g (bare g)
  bare_rests clear = bare_holds g proper.tall proper.wide proper.blank_past

  -- THE FRESH BOARD
  pub fresh_rests : (fresh g).flag ≡ false → AllHold g (fresh g)
  fresh_rests = rests_after g proper bare_rests fresh_after

  pub fresh_shuts_holes : (fresh g).flag ≡ false → HolesShut g (fresh g)
  fresh_shuts_holes clear v hole_is p m = decisions_there g proper fresh_after clear (p.0, false)
      (unfold hole_decisions in (hole_nones_in g (pads g) 0 [] v (omega arith) inside hole_is p m))
    where
      inside : v < 0 + pads g
      inside = elim (dec_lt v (pads g)) [ yes l ↦ omega arith | no n ↦ (let past = proper.blank_past v (omega arith) in zero≢one (cc)) ]
