-- The lines of a drawing, each with a weight that goes by the first pad of its edge: redrawing a ring changes the weight by its four
-- edges. With weight 1 for each line this is the rules' number of lines. It rests on Ring.antt.
use Rattle.std.specs.Prelude.{ℕ, zero, suc, ◌+◌, ◌<◌, ◌≡◌, refl, ◌≢◌, Bool, true, false}
use Rattle.std.proofs.Common.{sym, ◌∙◌, arith}
use Rattle.std.proofs.Math.Decide.{ℕ_discrete}
use Rattle.rules.specs.Grid.{Edge, right, down, first, Grid, pads}
use Rattle.rules.specs.Drawing.{Drawing, drawn, num, count, number_of_lines}
use Rattle.rules.specs.Places.{zero≢one, first_inside}
use Rattle.shortest.specs.Edges.{joins_back, other_edge, set_edge, set_same, set_other}
use Rattle.shortest.specs.Ring.{Ring, RingLines, ring_lines, redraw}

-- what a line of weight k counts for, and a missing one
abbrev pub worth : ℕ → Bool → ℕ
worth k true = k
worth k false = 0

unfoldable pub total : (ℕ → ℕ) → (ℕ → Bool) → ℕ → ℕ
total weight f zero = 0
total weight f (suc n) = total weight f n + worth (weight n) (f n)

-- the weight of a drawing's lines, at the pads below n
unfoldable pub weigh : (ℕ → ℕ) → ℕ → Drawing → ℕ
weigh weight n D = total weight D.right n + total weight D.down n

total_same : (weight : ℕ → ℕ) (f h : ℕ → Bool) (n : ℕ) → ((x : ℕ) → x < n → f x ≡ h x) → total weight f n ≡ total weight h n
unfolding total
total_same weight f h zero same = refl
total_same weight f h (suc n) same = rw (total_same weight f h n (λ x l. same x (omega arith)), same n (omega arith))

-- one value changed
total_change : (weight : ℕ → ℕ) (f h : ℕ → Bool) (i : ℕ) → ((x : ℕ) → x ≢ i → h x ≡ f x) → (n : ℕ) → i < n
    → total weight h n + worth (weight i) (f i) ≡ total weight f n + worth (weight i) (h i)
unfolding total
total_change weight f h i same zero l = absurd (omega arith)
total_change weight f h i same (suc n) l =
    elim (ℕ_discrete i n) [ yes e ↦ last e | no ne ↦ before ne (total_change weight f h i same n (omega arith)) ]
  where
    last : i ≡ n → total weight h (suc n) + worth (weight i) (f i) ≡ total weight f (suc n) + worth (weight i) (h i)
    last e = rw (← e, total_same weight h f i (λ x k. same x (omega arith))) (omega arith)

    before : i ≢ n → total weight h n + worth (weight i) (f i) ≡ total weight f n + worth (weight i) (h i)
        → total weight h (suc n) + worth (weight i) (f i) ≡ total weight f (suc n) + worth (weight i) (h i)
    before ne k = rw (same n (λ p. ne (sym p))) (omega arith)

-- one edge set
weigh_set : (weight : ℕ → ℕ) (n : ℕ) (D : Drawing) (e : Edge) (line : Bool) → first e < n
    → weigh weight n (set_edge D e line) + worth (weight (first e)) (drawn D e) ≡ weigh weight n D + worth (weight (first e)) line
unfolding weigh
weigh_set weight n D (right i) line inside =
    let E = set_edge D (right i) line in
    let changed = total_change weight D.right E.right i (λ x ne. set_other D (right i) line (right x) (λ q. ne (cc))) n inside in
    let kept = total_same weight E.down D.down n (λ x l. set_other D (right i) line (down x) (λ q. zero≢one (cc))) in
    let now = rw (set_same D (right i) line) at changed in
    omega (arith, now, kept)
weigh_set weight n D (down i) line inside =
    let E = set_edge D (down i) line in
    let changed = total_change weight D.down E.down i (λ x ne. set_other D (down i) line (down x) (λ q. ne (cc))) n inside in
    let kept = total_same weight E.right D.right n (λ x l. set_other D (down i) line (right x) (λ q. zero≢one (cc))) in
    let now = rw (set_same D (down i) line) at changed in
    omega (arith, now, kept)

-- what the ring's edges count for
abbrev pub ring_worth : {g : Grid} → (ℕ → ℕ) → Ring g → RingLines → ℕ
ring_worth weight R lines =
    worth (weight (first R.ab)) lines.on_ab + worth (weight (first R.bc)) lines.on_bc
    + worth (weight (first R.cd)) lines.on_cd + worth (weight (first R.da)) lines.on_da

pub weigh_redraw : {g : Grid} (weight : ℕ → ℕ) (R : Ring g) (D : Drawing) (new : RingLines)
    → weigh weight (pads g) (redraw R D new) + ring_worth weight R (ring_lines R D) ≡ weigh weight (pads g) D + ring_worth weight R new
unfolding redraw
weigh_redraw {g} weight R D new =
    let with_ab = set_edge D R.ab new.on_ab in
    let with_bc = set_edge with_ab R.bc new.on_bc in
    let with_cd = set_edge with_bc R.cd new.on_cd in
    let e1 = weigh_set weight (pads g) D R.ab new.on_ab (first_inside g R.ab R.on_board_ab) in
    let e2 = rw (set_other D R.ab new.on_ab R.bc bc≢ab) at
    (weigh_set weight (pads g) with_ab R.bc new.on_bc (first_inside g R.bc R.on_board_bc)) in
    let e3 = rw (set_other with_ab R.bc new.on_bc R.cd cd≢bc ∙ set_other D R.ab new.on_ab R.cd cd≢ab) at
    (weigh_set weight (pads g) with_bc R.cd new.on_cd (first_inside g R.cd R.on_board_cd)) in
    let e4 = rw (set_other with_bc R.cd new.on_cd R.da da≢cd ∙ set_other with_ab R.bc new.on_bc R.da da≢bc
    ∙ set_other D R.ab new.on_ab R.da da≢ab) at
    (weigh_set weight (pads g) with_cd R.da new.on_da (first_inside g R.da R.on_board_da)) in
    omega (arith, e1, e2, e3, e4)
  where
    bc≢ab : R.bc ≢ R.ab
    bc≢ab = other_edge R.joins_bc R.joins_ab (λ e. R.apart.a≢b (sym e)) (λ e. R.apart.a≢c (sym e))

    cd≢ab : R.cd ≢ R.ab
    cd≢ab = other_edge R.joins_cd R.joins_ab (λ e. R.apart.a≢c (sym e)) (λ e. R.apart.a≢d (sym e))

    cd≢bc : R.cd ≢ R.bc
    cd≢bc = other_edge R.joins_cd R.joins_bc (λ e. R.apart.b≢c (sym e)) (λ e. R.apart.b≢d (sym e))

    da≢ab : R.da ≢ R.ab
    da≢ab = other_edge R.joins_da (joins_back R.joins_ab) (λ e. R.apart.b≢d (sym e)) R.apart.a≢b

    da≢bc : R.da ≢ R.bc
    da≢bc = other_edge R.joins_da R.joins_bc (λ e. R.apart.b≢d (sym e)) R.apart.a≢b

    da≢cd : R.da ≢ R.cd
    da≢cd = other_edge R.joins_da R.joins_cd (λ e. R.apart.c≢d (sym e)) R.apart.a≢c

-- weight 1 for each line is the number of lines
total_count : (f : ℕ → Bool) (n : ℕ) → total (λ v. 1) f n ≡ count f n
unfolding total count
total_count f zero = refl
total_count f (suc n) = rw (total_count f n, worth_one (f n))
  where
    worth_one : (line : Bool) → worth 1 line ≡ num line
    worth_one true = refl
    worth_one false = refl

pub weigh_one : (g : Grid) (D : Drawing) → weigh (λ v. 1) (pads g) D ≡ number_of_lines g D
unfolding weigh number_of_lines
weigh_one g D = rw (total_count D.right, total_count D.down)
