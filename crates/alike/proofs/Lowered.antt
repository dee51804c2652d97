-- What is proved of the definitions in specs/Lowered.antt.
use Rattle.std.specs.Prelude.{ℕ, zero, suc, ◌*◌, ◌≤◌, ◌<◌, ◌≡◌, Bool, true, false, List, [], ◌∷◌, eqb, get_or, length, ℤ, pos, negsuc}
use Rattle.std.proofs.Math.Path.{refl}
use Rattle.std.proofs.Common.{sym, ◌∙◌, ap, inl, inr, arith, mul-le-mul, eq-eqb, eqb-true, ne_eqb}
use Rattle.std.proofs.Math.Decide.{ℕ_discrete}
use Rattle.std.proofs.lemmas.List.{length-map}
use Rattle.std.proofs.Math.ListN.{get_or-map}
use Rattle.rules.specs.Grid.{clue, cell_of, blank_cell, CellInRange, grid_of, Accepted}
use Rattle.rules.specs.Tests.{conflict}
use Rattle.rules.specs.Places.{zero≢one}
use Rattle.model.specs.PadTests.{is_blank, is_hole}
use Rattle.model.specs.Search.{solve}
use Rattle.model.specs.Common.{common}
use Rattle.model.specs.Calls.{new}
use Rattle.model.specs.Judge.{judge}
use Rattle.alike.specs.Alike.{Alike}
use Rattle.alike.proofs.AlikeSearch.{solve_alike, common_alike}
use Rattle.alike.specs.AlikeCalls.{AlikeAnswers}
use Rattle.alike.proofs.AlikeCalls.{new_alike}
use Rattle.alike.proofs.AlikeJudge.{judge_alike}
use Rattle.alike.specs.Lowered.{carries, first_pad, lowered_cell, lowered}

-- for example
lowered_example : lowered (pos 4294967295 ∷ negsuc 0 ∷ negsuc 1 ∷ pos 0 ∷ pos 4294967295 ∷ pos 0 ∷ [])
    ≡ (pos 0 ∷ negsuc 0 ∷ negsuc 1 ∷ pos 3 ∷ pos 0 ∷ pos 3 ∷ [])
unfolding lowered first_pad
lowered_example = refl

-- a code as a cell, and as a pad of the grid
same_code : {a b : ℕ} → pos a ≡ pos b → a ≡ b
same_code e = cc

code_of : (z : ℤ) (code : ℕ) → cell_of z ≡ clue code → z ≡ pos code
unfolding cell_of
code_of (pos other) code e = cc
code_of (negsuc zero) code e = zero≢one (cc)
code_of (negsuc (suc below)) code e = zero≢one (cc)

carried : (code : ℕ) (cell : ℤ) → carries code cell ≡ true → cell ≡ pos code
carried code (pos other) h = ap pos (sym (eqb-true code other h))
carried code (negsuc below) h = conflict h refl

-- the first pad of a code that some pad carries does carry it
first_carries : (code : ℕ) (cells : List ℤ) (v : ℕ) → get_or cells v blank_cell ≡ pos code
    → (get_or cells (first_pad code cells) blank_cell ≡ pos code) × (first_pad code cells < length cells)
unfolding first_pad
first_carries code [] v e = zero≢one (cc)
first_carries code (cell ∷ cells) v e = go (carries code cell) refl v e (first_carries code cells)
  where
    go : (b : Bool) → carries code cell ≡ b → (v : ℕ) → get_or (cell ∷ cells) v blank_cell ≡ pos code
        → ((v : ℕ) → get_or cells v blank_cell ≡ pos code → (get_or cells (first_pad code cells) blank_cell ≡ pos code) × (first_pad code cells < length cells))
        → (get_or (cell ∷ cells) (first_pad code (cell ∷ cells)) blank_cell ≡ pos code) × (first_pad code (cell ∷ cells) < suc (length cells))
    go true k v e rest = rw (k, first_pad) (carried code cell k, omega arith)
    go false k zero e rest = conflict (ap (carries code) e ∙ eq-eqb code code refl) k
    go false k (suc v) e rest = let (found, inside) = rest v e in rw (k, first_pad) (found, omega arith)

module _ (cells : List ℤ) where
  lowered_at : (v : ℕ) → get_or (lowered cells) v blank_cell ≡ lowered_cell cells (get_or cells v blank_cell)
  unfolding lowered
  lowered_at v = get_or-map (lowered_cell cells) cells v blank_cell

  -- two codes that some pads carry are equal exactly where their first pads are
  equal_first : (u v a b : ℕ) → get_or cells u blank_cell ≡ pos a → get_or cells v blank_cell ≡ pos b → eqb a b ≡ eqb (first_pad a cells) (first_pad b cells)
  equal_first u v a b at_u at_v = elim (ℕ_discrete a b) [
    | yes e ↦ eq-eqb a b e ∙ sym (eq-eqb _ _ (ap (λ code. first_pad code cells) e))
    | no n ↦ ne_eqb a b n ∙ sym (ne_eqb _ _ (λ e. n (same_code (sym (first_carries a cells u at_u).0 ∙ ap (λ i. get_or cells i blank_cell) e ∙ (first_carries b cells v at_v).0))))
  ]

  module _ (height width : ℕ) where
    -- THE LOWERED GRID is alike,
    pub lowered_alike : Alike (grid_of height width cells) (grid_of height width (lowered cells))
    unfolding grid_of
    lowered_alike = record {
      same_height = refl;
      same_width = refl;
      same_blanks = λ v. rw (lowered_at v) (blanks (get_or cells v blank_cell));
      same_holes = λ v. rw (lowered_at v) (holes (get_or cells v blank_cell));
      equal_codes = λ u v a b c d at_u at_v low_u low_v.
          let m = code_of _ a at_u in
          let n = code_of _ b at_v in
          rw (low u a c m low_u, low v b d n low_v) (equal_first u v a b m n);
    }
      where
        blanks : (z : ℤ) → is_blank (cell_of z) ≡ is_blank (cell_of (lowered_cell cells z))
        blanks (pos code) = unfold cell_of in refl
        blanks (negsuc below) = refl

        holes : (z : ℤ) → is_hole (cell_of z) ≡ is_hole (cell_of (lowered_cell cells z))
        holes (pos code) = unfold cell_of in refl
        holes (negsuc below) = refl

        low : (v code other : ℕ) → get_or cells v blank_cell ≡ pos code → cell_of (get_or (lowered cells) v blank_cell) ≡ clue other → other ≡ first_pad code cells
        low v code other m l = same_code (sym (code_of _ other l) ∙ lowered_at v ∙ ap (lowered_cell cells) m)

    module _ (accepted : Accepted height width cells) where
      small : (v code : ℕ) → get_or cells v blank_cell ≡ pos code → first_pad code cells < 256
      small v code e =
          let below = (first_carries code cells v e).1 in
          let count = accepted.one_cell_a_pad in
          let most : height * width ≤ 16 * 16 = mul-le-mul accepted.height_in_range.1 accepted.width_in_range.1 in
          omega arith

      -- each of its codes is below 256,
      pub lowered_small : (v code : ℕ) → get_or (lowered cells) v blank_cell ≡ pos code → code < 256
      lowered_small v code e = go (get_or cells v blank_cell) refl
        where
          go : (z : ℤ) → get_or cells v blank_cell ≡ z → code < 256
          go (pos other) k = rw (same_code (sym e ∙ lowered_at v ∙ ap (lowered_cell cells) k)) (small v other k)
          go (negsuc below) k = (let q : negsuc below ≡ pos code = sym (lowered_at v ∙ ap (lowered_cell cells) k) ∙ e in zero≢one (cc))

      -- it is accepted,
      pub lowered_accepted : Accepted height width (lowered cells)
      lowered_accepted = record {
        height_in_range = accepted.height_in_range;
        width_in_range = accepted.width_in_range;
        one_cell_a_pad = unfold lowered in (length-map cells (lowered_cell cells) ∙ accepted.one_cell_a_pad);
        cells_in_range = λ v below. rw (lowered_at v) (in_range v (accepted.cells_in_range v below));
      }
        where
          in_range : (v : ℕ) → CellInRange (get_or cells v blank_cell) → CellInRange (lowered_cell cells (get_or cells v blank_cell))
          in_range v (inl e) = rw e (inl refl)
          in_range v (inr (inl e)) = rw e (inr (inl refl))
          in_range v (inr (inr (code, e, below))) = let s = small v code e in rw e (inr (inr (first_pad code cells, refl, omega arith)))

      -- SOLVE answers the same,
      pub solve_lowered : (limit : ℕ) (buffer : List ℕ) → solve height width cells limit buffer ≡ solve height width (lowered cells) limit buffer
      solve_lowered limit buffer = solve_alike height width cells (lowered cells) accepted lowered_accepted lowered_alike limit buffer

      -- so does COMMON,
      pub common_lowered : (limit : ℕ) (buffer table : List ℕ) → common height width cells limit buffer table ≡ common height width (lowered cells) limit buffer table
      common_lowered limit buffer table = common_alike height width cells (lowered cells) accepted lowered_accepted lowered_alike limit buffer table

      -- a NEW BOARD is alike, and with it every answer of the calls on it (AlikeCalls.antt),
      pub new_lowered : AlikeAnswers (new height width cells) (new height width (lowered cells))
      new_lowered = new_alike height width cells (lowered cells) accepted lowered_accepted lowered_alike

      -- and JUDGE answers the same
      pub judge_lowered : (bytes : List ℕ) → judge height width cells bytes ≡ judge height width (lowered cells) bytes
      judge_lowered bytes = judge_alike height width cells (lowered cells) accepted lowered_accepted lowered_alike bytes
