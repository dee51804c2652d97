-- Laws of a cell and of an end as the code reads them, each an i64: when a pad is finished, and when it is a clue or a hole. They rest on
-- boardview's Signed.antt.
use Prim.Native.Nat.{ℕ, zero, suc, ◌-◌, ◌^◌, ◌≤◌, ◌<◌}
use mathlib.Core.Path.{◌≡◌, refl, ap}
use mathlib.Core.Bool.{true, false, not, false≢true}
use mathlib.Core.List.{List}
use native.Mathlib.Omega.{arith}
use lib.Dec.{eqb}
use lib.IntN.{ℤ, pos, negsuc}
use lib.ListN.{get_or, length, get_or-eq_default}
use lib.Signed.{lt_z, le_z}
use mir.Syntax.{w64}
use mir.Val.{SFits, to_z, of_z}
use borrow.Author.Tests.{le-ltb, le-leb, ne_eqb}
use Rattle.rules.specs.Grid.{blank_cell, cell_of}
use Rattle.rules.specs.CheckedListed.{not_blank}
use Rattle.rules.specs.Tests.{conflict}
use Rattle.model.specs.Judge.{finished}
use Rattle.boardview.specs.View.{end_of}
use Rattle.model.specs.Lists.{default_free}
use Rattle.boardview.specs.Signed.{back, from_bits}
use Rattle.judging.specs.Following.{finished_at}
use Rattle.judging.specs.Shape.{taken_at}

-- A PAD IS FINISHED
module _ (cells ends : List ℤ) (v : ℕ) (inside : v < length cells) (low : v < 512) (long : length ends ≡ 512) where
  abbrev cell : ℤ
  cell = get_or cells v (pos 0)

  abbrev end : ℤ
  end = get_or ends v (pos 0)

  as_read : finished_at cells ends v ≡ finished (cell_of cell) v (end_of end)
  unfolding finished_at
  as_read = λ i. finished (cell_of (default_free cells v blank_cell (pos 0) inside i)) v (end_of (default_free ends v (pos v) (pos 0) (omega arith) i))

  module _ (cell_fits : SFits w64 cell) (end_fits : SFits w64 end) where
    -- a line passes through it
    pub passed_through : of_z w64 end ≡ of_z w64 (negsuc 0) → lt_z (negsuc 1) (to_z w64 (of_z w64 cell)) ≡ finished_at cells ends v
    unfolding end_of cell_of
    passed_through h = rw (back cell cell_fits, as_read, from_bits end _ end_fits h) (go cell)
      where
        go : (z : ℤ) → lt_z (negsuc 1) z ≡ finished (cell_of z) v (end_of (negsuc 0))
        go (pos n) = refl
        go (negsuc zero) = refl
        go (negsuc (suc n)) = le-ltb (suc n) 1 (omega arith)

    module _ (h : of_z w64 end ≡ of_z w64 (negsuc 0) → ⊥) where
      -- a clue with no line
      pub clue_alone : le_z (pos 0) (to_z w64 (of_z w64 cell)) ≡ true → false ≡ finished_at cells ends v
      unfolding end_of cell_of
      clue_alone k = rw as_read (go cell (rw (back cell cell_fits) at k) end h)
        where
          go : (z : ℤ) → le_z (pos 0) z ≡ true → (e : ℤ) → (of_z w64 e ≡ of_z w64 (negsuc 0) → ⊥) → false ≡ finished (cell_of z) v (end_of e)
          go (pos n) k (pos a) h = refl
          go (pos n) k (negsuc zero) h = absurd (h refl)
          go (pos n) k (negsuc (suc a)) h = refl
          go (negsuc n) k e h = absurd (false≢true k)

      -- a blank pad or a hole: no line, or one
      pub own_end : le_z (pos 0) (to_z w64 (of_z w64 cell)) ≡ false → eqb (of_z w64 end) v ≡ finished_at cells ends v
      unfolding end_of cell_of
      own_end k = rw as_read (go cell (rw (back cell cell_fits) at k) end end_fits h)
        where
          far : (a : ℕ) → SFits w64 (negsuc (suc a)) → eqb (of_z w64 (negsuc (suc a))) v ≡ false
          far a fits = ne_eqb (of_z w64 (negsuc (suc a))) v (λ (e : 2 ^ 64 - suc (suc a) ≡ v). omega (arith, fits.sfits))

          go : (z : ℤ) → le_z (pos 0) z ≡ false → (e : ℤ) → SFits w64 e → (of_z w64 e ≡ of_z w64 (negsuc 0) → ⊥) → eqb (of_z w64 e) v ≡ finished (cell_of z) v (end_of e)
          go (pos n) k e f h = conflict (le-leb 0 n (omega arith)) k
          go (negsuc zero) k (pos a) f h = refl
          go (negsuc zero) k (negsuc zero) f h = absurd (h refl)
          go (negsuc zero) k (negsuc (suc a)) f h = far a f
          go (negsuc (suc n)) k (pos a) f h = refl
          go (negsuc (suc n)) k (negsuc zero) f h = absurd (h refl)
          go (negsuc (suc n)) k (negsuc (suc a)) f h = far a f

-- A PAD IS A CLUE OR A HOLE; past the list of cells it is blank
module _ (cells : List ℤ) (v : ℕ) where
  pub past_the_cells : length cells ≤ v → false ≡ taken_at cells v
  unfolding taken_at cell_of not_blank
  past_the_cells past = rw (get_or-eq_default cells blank_cell past) refl

  pub taken_there : v < length cells → SFits w64 (get_or cells v (pos 0)) → not (eqb (of_z w64 (get_or cells v (pos 0))) (of_z w64 (negsuc 0))) ≡ taken_at cells v
  unfolding taken_at cell_of not_blank
  taken_there inside fits = rw (default_free cells v blank_cell (pos 0) inside) (go (get_or cells v (pos 0)) fits)
    where
      go : (z : ℤ) → SFits w64 z → not (eqb (of_z w64 z) (of_z w64 (negsuc 0))) ≡ not_blank (cell_of z)
      go (pos n) f = ap not (ne_eqb n (of_z w64 (negsuc 0)) (λ e. omega (arith, f.sfits)))
      go (negsuc zero) f = refl
      go (negsuc (suc n)) f = ap not (ne_eqb (of_z w64 (negsuc (suc n))) (of_z w64 (negsuc 0)) (λ (e : 2 ^ 64 - suc (suc n) ≡ of_z w64 (negsuc 0)). omega arith))
