-- Sums of a function over a stretch of numbers: split, joined by rows, taken in pairs, bounded. They rest on nothing of the project and
-- serve to count the lines of a record.
use Rattle.std.specs.Prelude.{ℕ, zero, suc, ◌+◌, ◌*◌, ◌≤◌, ◌<◌, ◌≡◌}
use Rattle.std.proofs.Math.Path.{refl}
use Rattle.std.proofs.Common.{◌∙◌, ap, arith, suc-mul, zero-add}

-- f at `start`, `start + 1`, and so on, n of them, added up
unfoldable pub sum : (ℕ → ℕ) → ℕ → ℕ → ℕ
sum f start zero = 0
sum f start (suc n) = f start + sum f (start + 1) n

pub sum_same : (f h : ℕ → ℕ) (start n : ℕ) → ((i : ℕ) → start ≤ i → i < start + n → f i ≡ h i) → sum f start n ≡ sum h start n
unfolding sum
sum_same f h start zero same = refl
sum_same f h start (suc n) same = rw (same start (omega arith) (omega arith), sum_same f h (start + 1) n (λ i low high. same i (omega arith) (omega arith)))

-- one more at the end
pub sum_more : (f : ℕ → ℕ) (start n : ℕ) → sum f start (suc n) ≡ sum f start n + f (start + n)
unfolding sum
sum_more f start zero = let same : start + 0 ≡ start = omega arith in rw same (omega arith)
sum_more f start (suc n) =
    let rest : sum f (start + 1) (suc n) ≡ sum f (start + 1) n + f (start + 1 + n) = sum_more f (start + 1) n in
    let same : start + suc n ≡ start + 1 + n = omega arith in
    rw same (rw rest (omega arith))

pub sum_last : (f : ℕ → ℕ) (n : ℕ) → sum f 0 (suc n) ≡ sum f 0 n + f n
sum_last f n = let same : 0 + n ≡ n = omega arith in sum_more f 0 n ∙ ap (λ i. sum f 0 n + f i) same

pub sum_split : (f : ℕ → ℕ) (start a b : ℕ) → sum f start (a + b) ≡ sum f start a + sum f (start + a) b
sum_split f start a zero = let same : a + 0 ≡ a = omega arith in rw same (unfold sum in (omega arith))
sum_split f start a (suc b) =
    let same : a + suc b ≡ suc (a + b) = omega arith in
    let place : start + (a + b) ≡ start + a + b = omega arith in
    rw (same, sum_more f start (a + b), sum_split f start a b, sum_more f (start + a) b, place) (omega arith)

-- from another start
pub sum_shift : (f : ℕ → ℕ) (start n : ℕ) → sum f start n ≡ sum (λ i. f (start + i)) 0 n
sum_shift f start zero = unfold sum in refl
sum_shift f start (suc n) = rw (sum_more f start n, sum_last (λ i. f (start + i)) n, sum_shift f start n) refl

pub sum_add : (f h : ℕ → ℕ) (start n : ℕ) → sum (λ i. f i + h i) start n ≡ sum f start n + sum h start n
unfolding sum
sum_add f h start zero = refl
sum_add f h start (suc n) = let rest = sum_add f h (start + 1) n in omega arith

pub sum_bound : (f : ℕ → ℕ) (k start n : ℕ) → ((i : ℕ) → f i ≤ k) → sum f start n ≤ n * k
unfolding sum
sum_bound f k start zero below = omega arith
sum_bound f k start (suc n) below = let rest = sum_bound f k (start + 1) n below in let one = below start in let more = suc-mul n k in omega arith

-- row by row: n rows of `wide` each
pub sum_rows : (f : ℕ → ℕ) (wide n : ℕ) → sum f 0 (n * wide) ≡ sum (λ row. sum f (row * wide) wide) 0 n
sum_rows f wide zero = let none : 0 * wide ≡ 0 = omega arith in rw none (unfold sum in refl)
sum_rows f wide (suc n) =
    rw (suc-mul n wide, sum_split f 0 (n * wide) wide, zero-add (n * wide), sum_rows f wide n, sum_last (λ row. sum f (row * wide) wide) n) refl

-- in pairs
pub sum_pairs : (f : ℕ → ℕ) (n : ℕ) → sum f 0 (2 * n) ≡ sum (λ i. f (2 * i) + f (2 * i + 1)) 0 n
sum_pairs f zero = unfold sum in refl
sum_pairs f (suc n) =
    let same : 2 * suc n ≡ suc (suc (2 * n)) = omega arith in
    let odd : suc (2 * n) ≡ 2 * n + 1 = omega arith in
    rw (same, sum_last f (suc (2 * n)), sum_last f (2 * n), sum_pairs f n, sum_last (λ i. f (2 * i) + f (2 * i + 1)) n, odd) (omega arith)
