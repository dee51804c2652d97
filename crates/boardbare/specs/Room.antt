-- A bare board of any size has at most 480 undecided edges: the number depends on the sizes alone, so it is computed for every size. It
-- rests on BareArrays.antt.
use Rattle.std.specs.Prelude.{ℕ, zero, suc, ◌+◌, ◌*◌, ◌≤◌, ◌<◌, ◌≡◌, refl, Bool, true, false, List, [], ◌∷◌, eqb, leb, get_or, length}
use Rattle.std.proofs.Common.{sym, ap, ◌∙◌, arith, leb-true, ne_eqb}
use Rattle.rules.specs.Drawing.{num}
use Rattle.rules.specs.Grid.{Size}
use Rattle.rules.specs.Tests.{all_below, all_below_at}
use Rattle.boardview.specs.Told.{pick}
use Rattle.boardview.specs.View.{undecided_in}
use Rattle.boardbare.specs.BareArrays.{EdgesFrom, right_byte, down_byte, edge_byte}
use Rattle.boardbare.specs.EdgeBytes.{past_the_edges}

-- the number of undecided bytes among f at `start`, `start + 1`, and so on, n of them
unfoldable zeros : (ℕ → ℕ) → ℕ → ℕ → ℕ
zeros f start zero = 0
zeros f start (suc n) = num (eqb (f start) 0) + zeros f (start + 1) n

-- a list whose first n bytes are f's and whose others are none
few_undecided : (l : List ℕ) (f : ℕ → ℕ) (start n : ℕ) → ((i : ℕ) → i < length l → i < n → get_or l i 2 ≡ f (start + i)) → ((i : ℕ) → i < length l → n ≤ i → get_or l i 2 ≡ 2)
    → undecided_in l ≤ zeros f start n
unfolding undecided_in zeros
few_undecided [] f start n same past = omega arith
few_undecided (byte ∷ bytes) f start zero same past =
    rw (ne_eqb byte 0 (λ e. omega (arith, past 0 (omega arith) (omega arith)))) (few_undecided bytes f start zero (λ i h k. absurd (omega arith)) (λ i h k. past (suc i) (omega arith) (omega arith)))
few_undecided (byte ∷ bytes) f start (suc n) same past =
    first (same 0 (omega arith) (omega arith)) (few_undecided bytes f (start + 1) n (λ i h k. same (suc i) (omega arith) (omega arith) ∙ ap f (omega arith)) (λ i h k. past (suc i) (omega arith) (omega arith)))
  where
    split : (b : Bool) → pick b (suc (undecided_in bytes)) (undecided_in bytes) ≡ num b + undecided_in bytes
    split true = omega arith
    split false = omega arith

    at_start : start + 0 ≡ start
    at_start = omega arith

    first : byte ≡ f (start + 0) → undecided_in bytes ≤ zeros f (start + 1) n
        → pick (eqb byte 0) (suc (undecided_in bytes)) (undecided_in bytes) ≤ num (eqb (f start) 0) + zeros f (start + 1) n
    first e rest = rw (split (eqb byte 0), e, at_start) (omega arith)

abbrev few_enough : ℕ → ℕ → Bool
few_enough height width = leb (zeros (edge_byte width (height * width)) 0 (32 + 2 * (height * width))) 480

every_size : all_below (λ height. all_below (λ width. few_enough height width) 17) 17 ≡ true
unfolding all_below zeros edge_byte right_byte down_byte
every_size = refl

pub room : (height width : ℕ) → Size height → Size width → (edges : List ℕ) → EdgesFrom width (height * width) 0 edges → undecided_in edges ≤ 480
room height width h w edges filled = omega (arith, counted, leb-true (zeros (edge_byte width (height * width)) 0 (32 + 2 * (height * width))) 480 tested)
  where
    held : (i : ℕ) → i < length edges → get_or edges i 2 ≡ edge_byte width (height * width) i
    held i k = filled.holds i (omega arith) (omega (arith, filled.as_long))

    counted : undecided_in edges ≤ zeros (edge_byte width (height * width)) 0 (32 + 2 * (height * width))
    counted = few_undecided edges (edge_byte width (height * width)) 0 (32 + 2 * (height * width))
        (λ i k l. held i k ∙ ap (edge_byte width (height * width)) (omega arith)) (λ i k l. held i k ∙ sym (past_the_edges width (height * width) i l))

    tested : few_enough height width ≡ true
    tested = all_below_at (λ width. few_enough height width) 17 (all_below_at (λ height. all_below (λ width. few_enough height width) 17) 17 every_size height (omega arith)) width (omega arith)
