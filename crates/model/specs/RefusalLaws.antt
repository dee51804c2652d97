-- What the grid's refusals let through is exactly what the rules call an accepted grid: `not_refused` and `accepted_is_not_refused`.
use Rattle.std.specs.Prelude.{ℕ, zero, suc, ◌*◌, ◌≤◌, ◌<◌, ◌≡◌, Bool, ◌&&◌, List, [], ◌∷◌, leb, get_or, ℤ, pos, negsuc}
use Rattle.std.proofs.Math.Path.{refl}
use Rattle.std.proofs.Common.{ap, inl, inr, arith}
use Rattle.std.proofs.Math.Bool.{true, false}
use borrow.Author.Tests.{ltb-false, leb-true, eqb-true, not-true, le-ltb, le-leb, eq-eqb}
use Rattle.std.proofs.Math.Dec.{eqb, ltb}
use Rattle.std.proofs.Math.ListN.{length}
use Rattle.rules.specs.Grid.{Size, largest_code, blank_cell, CellInRange, Accepted}
use Rattle.rules.specs.Tests.{both}
use Rattle.rules.specs.Places.{zero≢one}
use Rattle.model.specs.Bounds.{is_size}
use Rattle.model.specs.Refusals.{is_cell, first_bad_cell, grid_refusal}

-- the tests say what the rules say
pub size_of_test : (n : ℕ) → is_size n ≡ true → Size n
unfolding is_size
size_of_test n h = let (low, high) = both (leb 2 n) (leb n 16) h in (leb-true 2 n low, leb-true n 16 high)

pub test_of_size : (n : ℕ) → Size n → is_size n ≡ true
unfolding is_size
test_of_size n (low, high) = rw (le-leb 2 n low, le-leb n 16 high) refl

pub cell_of_test : (z : ℤ) → is_cell z ≡ true → CellInRange z
unfolding is_cell
cell_of_test (pos code) h = inr (inr (code, refl, ltb-false largest_code code (not-true (ltb largest_code code) h)))
cell_of_test (negsuc zero) h = inl refl
cell_of_test (negsuc (suc zero)) h = inr (inl refl)
cell_of_test (negsuc (suc (suc n))) h = absurd (let k = leb-true (suc (suc n)) 1 h in omega arith)

pub test_of_cell : (z : ℤ) → CellInRange z → is_cell z ≡ true
unfolding is_cell
test_of_cell z (inl e) = rw e refl
test_of_cell z (inr (inl e)) = rw e refl
test_of_cell z (inr (inr (code, e, below))) = rw (e, le-ltb largest_code code below) refl

-- the first bad cell
pub all_cells : (cells : List ℤ) → length cells ≤ first_bad_cell cells → (v : ℕ) → v < length cells → CellInRange (get_or cells v blank_cell)
unfolding first_bad_cell
all_cells [] none v below = absurd (omega arith)
all_cells (z ∷ cells) none v below = go (is_cell z) refl v below (all_cells cells)
  where
    go : (b : Bool) → is_cell z ≡ b → (v : ℕ) → v < suc (length cells)
        → (length cells ≤ first_bad_cell cells → (v : ℕ) → v < length cells → CellInRange (get_or cells v blank_cell)) → CellInRange (get_or (z ∷ cells) v blank_cell)
    go false h v k rest = let none' : suc (length cells) ≤ 0 = rw (h, first_bad_cell) at none in absurd (omega arith)
    go true h zero k rest = cell_of_test z h
    go true h (suc v) k rest = let none' : suc (length cells) ≤ suc (first_bad_cell cells) = rw (h, first_bad_cell) at none in rest (omega arith) v (omega arith)

pub no_bad_cell : (cells : List ℤ) → ((v : ℕ) → v < length cells → CellInRange (get_or cells v blank_cell)) → first_bad_cell cells ≡ length cells
unfolding first_bad_cell
no_bad_cell [] all = refl
no_bad_cell (z ∷ cells) all = rw (test_of_cell z (all 0 (omega arith)), first_bad_cell) (ap suc (no_bad_cell cells (λ v below. all (suc v) (omega arith))))

module _ (height width : ℕ) (cells : List ℤ) where
  pub not_refused : (grid_refusal height width cells).0 ≡ 0 → Accepted height width cells
  unfolding grid_refusal
  not_refused accepted = go (is_size height && is_size width) refl (eqb (length cells) (height * width)) refl (ltb (first_bad_cell cells) (length cells)) refl
    where
      go : (s : Bool) → (is_size height && is_size width) ≡ s → (n : Bool) → eqb (length cells) (height * width) ≡ n
          → (b : Bool) → ltb (first_bad_cell cells) (length cells) ≡ b → Accepted height width cells
      go false hs n hn b hb = zero≢one (absurd (let k = rw (hs, grid_refusal) at accepted in omega arith))
      go true hs false hn b hb = zero≢one (absurd (let k = rw (hs, hn, grid_refusal) at accepted in omega arith))
      go true hs true hn true hb = zero≢one (absurd (let k = rw (hs, hn, hb, grid_refusal) at accepted in omega arith))
      go true hs true hn false hb =
          let sizes = both (is_size height) (is_size width) hs in
          let count : length cells ≡ height * width = eqb-true _ _ hn in
          record {
            height_in_range = size_of_test height sizes.0;
            width_in_range = size_of_test width sizes.1;
            one_cell_a_pad = count;
            cells_in_range = λ v below. all_cells cells (ltb-false _ _ hb) v (omega arith);
          }

  pub accepted_is_not_refused : Accepted height width cells → grid_refusal height width cells ≡ (0, 0)
  unfolding grid_refusal
  accepted_is_not_refused a =
      let none : first_bad_cell cells ≡ length cells = no_bad_cell cells (λ v below. a.cells_in_range v (let count = a.one_cell_a_pad in omega arith)) in
      rw (test_of_size height a.height_in_range, test_of_size width a.width_in_range, eq-eqb _ _ a.one_cell_a_pad, le-ltb (first_bad_cell cells) (length cells) (omega arith)) refl
