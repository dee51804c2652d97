-- That a grid is accepted can be so in one way only, as a ghost field asks. Assumes nothing.
use Rattle.std.specs.Prelude.{ℕ, ◌≡◌, ◌≤◌, ℤ, pos, List}
use Rattle.std.proofs.Math.Path.{ap}
use Rattle.std.proofs.Common.{inl, inr}
use Rattle.std.proofs.Props.{props}
use Rattle.rules.specs.Grid.{CellInRange, blank_cell, hole_cell, Accepted, largest_code}
use Rattle.rules.specs.Places.{zero≢one}
use lib.IntN.{ℤ_set}
use mathlib.Core.HLevel.{is_prop→PathP}

module _ (z : ℤ) where
  -- a cell is a code in range
  abbrev IsCode : Type 0
  IsCode = (code : ℕ) × (z ≡ pos code) × (code ≤ largest_code)

  one_code : (a b : IsCode) → a ≡ b
  one_code a b = λ i. (same i, is_prop→PathP (λ j. z ≡ pos (same j)) (λ j. ℤ_set z (pos (same j))) a.1 b.1 i, is_prop→PathP (λ j. same j ≤ largest_code) (λ j. small (same j)) a.2 b.2 i)
    where
      same : a.0 ≡ b.0
      same = cc

      small : (code : ℕ) → IsProp (code ≤ largest_code)
      small code = Prim.hlevel props

  in_range_one_way : IsProp (CellInRange z)
  in_range_one_way (inl a) (inl b) = ap inl (ℤ_set z blank_cell a b)
  in_range_one_way (inl a) (inr (inl b)) = zero≢one (cc)
  in_range_one_way (inl a) (inr (inr b)) = zero≢one (cc)
  in_range_one_way (inr (inl a)) (inl b) = zero≢one (cc)
  in_range_one_way (inr (inr a)) (inl b) = zero≢one (cc)
  in_range_one_way (inr (inl a)) (inr (inl b)) = ap (λ x. inr (inl x)) (ℤ_set z hole_cell a b)
  in_range_one_way (inr (inl a)) (inr (inr b)) = zero≢one (cc)
  in_range_one_way (inr (inr a)) (inr (inl b)) = zero≢one (cc)
  in_range_one_way (inr (inr a)) (inr (inr b)) = ap (λ x. inr (inr x)) (one_code a b)

pub accepted_one_way : {height width : ℕ} {cells : List ℤ} → IsProp (Accepted height width cells)
accepted_one_way = Prim.hlevel (props, in_range_one_way)
