-- Laws of the codes as the code adds them up, place by place: with one byte more of the layout the code of a pad grows by what the line there
-- adds, if the pad is the line's first. They rest on the rules' RecordLaws.antt: a place number tells its edge, and an edge its number.
use Rattle.std.specs.Prelude.{if◌then◌else◌}
use Prim.Native.Nat.{ℕ, zero, suc, ◌+◌, ◌*◌, ◌/◌, ◌%◌, ◌≤◌, ◌<◌}
use mathlib.Core.Path.{◌≡◌, refl, sym, ap, ◌∙◌}
use mathlib.Core.Bool.{Bool, true, false}
use mathlib.Core.List.{List, [], ◌∷◌}
use native.Mathlib.Omega.{arith}
use native.Mathlib.Decide.{ℕ_discrete, dec_lt}
use native.Mathlib.Nat.{div-lt_iff_lt-mul, add-div_right}
use lib.Dec.{eqb, ltb}
use lib.ListN.{get_or, set, length, take, length-set, length-replicate, get_or-replicate, get_or-eq_default}
use lib.Seq.{get_or-take, get_or-set_same, get_or-set_other}
use borrow.Author.Tests.{eq-eqb, ne_eqb}
use Rattle.rules.specs.Grid.{Size, Edge, right, down, first, Place, edge, no_edge, place_at, field_side, places, blank, Grid, OnBoard}
use Rattle.rules.specs.Drawing.{num}
use Rattle.rules.specs.Record.{place_number}
use Rattle.rules.specs.Places.{zero≢one, first_inside}
use Rattle.rules.proofs.RecordLaws.{edge_number_in_field, edge_at_number, number_of_edge}
use Rattle.model.specs.Printed.{line_at, right_line, down_line, code_of_pad}
use Rattle.grid.specs.PadsAt.{pads_of, place_of, edge_of, IfEdge, told_place}
use Rattle.grid.specs.declared.Pads.{Pads}
use Rattle.grid.specs.declared.Direction.TheVariants.{Right, Down}
use Rattle.grid.specs.Directions.{first_to}
use Rattle.std.specs.Prelude.{Option, Some, None}
use Rattle.printed.specs.Written.{zeros}
use Rattle.printed.specs.Coded.{line_place, line_added, CodesOf}
use Rattle.printed.proofs.CodeLaws.{right_there, no_right, down_there, no_down, code_at_most_3, all_pads}

-- ## One byte more of a layout

-- 1 if the layout has a line at that place number, else 0
abbrev bit : List ℕ → ℕ → ℕ
bit layout n = if eqb (get_or layout n 0) 1 then 1 else 0

past_taken : (n : ℕ) (layout : List ℕ) (i : ℕ) → n ≤ i → get_or (take n layout) i 0 ≡ 0
past_taken zero layout i h = refl
past_taken (suc n) [] i h = refl
past_taken (suc n) (x ∷ layout) zero h = absurd (omega arith)
past_taken (suc n) (x ∷ layout) (suc i) h = past_taken n layout i (omega arith)

module _ (layout : List ℕ) (i : ℕ) where
  bit_kept : (n : ℕ) → (n ≡ i → ⊥) → bit (take (i + 1) layout) n ≡ bit (take i layout) n
  bit_kept n other = elim (dec_lt n i) [
    | yes before ↦ rw (get_or-take (i + 1) layout n 0 (omega arith), get_or-take i layout n 0 before) refl
    | no after ↦ rw (past_taken (i + 1) layout n (omega arith), past_taken i layout n (omega arith)) refl
  ]

  bit_new : bit (take (i + 1) layout) i ≡ bit layout i
  bit_new = rw (get_or-take (i + 1) layout i 0 (omega arith)) refl

  bit_not_yet : bit (take i layout) i ≡ 0
  bit_not_yet = rw (past_taken i layout i (omega arith)) refl

-- ## The edge at a place

-- 1 if this edge stands at the place, else 0
unfoldable here : Edge → Place → ℕ
here e no_edge = 0
here (right v) (edge (right u)) = num (eqb v u)
here (right v) (edge (down u)) = 0
here (down v) (edge (right u)) = 0
here (down v) (edge (down u)) = num (eqb v u)

here_same : (e : Edge) → here e (edge e) ≡ 1
unfolding here
here_same (right v) = rw (eq-eqb v v refl) refl
here_same (down v) = rw (eq-eqb v v refl) refl

here_other : (e : Edge) (p : Place) → (p ≡ edge e → ⊥) → here e p ≡ 0
unfolding here
here_other e no_edge other = refl
here_other (right v) (edge (right u)) other = rw (ne_eqb v u (λ same. other (ap (λ (n : ℕ). edge (right n)) (sym same)))) refl
here_other (right v) (edge (down u)) other = refl
here_other (down v) (edge (right u)) other = refl
here_other (down v) (edge (down u)) other = rw (ne_eqb v u (λ same. other (ap (λ (n : ℕ). edge (down n)) (sym same)))) refl

-- what a line adds to the code of each pad
adds : (codes : List ℕ) (u v k : ℕ) → u < length codes → get_or (set codes u (get_or codes u 0 + k)) v 0 ≡ get_or codes v 0 + num (eqb v u) * k
adds codes u v k inside = elim (ℕ_discrete v u) [
  | yes same ↦ rw (eq-eqb v u same, same, get_or-set_same codes u (get_or codes u 0 + k) 0 inside) (omega arith)
  | no other ↦ rw (ne_eqb v u other, get_or-set_other codes u v (get_or codes u 0 + k) 0 other) (omega arith)
]

added_at : (p : Place) (codes : List ℕ) → IfEdge p (λ e. first e < length codes) → (v : ℕ)
    → get_or (line_added p codes) v 0 ≡ get_or codes v 0 + here (right v) p + 2 * here (down v) p
unfolding line_added here
added_at no_edge codes inside v = omega arith
added_at (edge (right u)) codes inside v = omega (arith, adds codes u v 1 (inside (right u) refl))
added_at (edge (down u)) codes inside v = omega (arith, adds codes u v 2 (inside (down u) refl))

same_long : (p : Place) (codes : List ℕ) → length (line_added p codes) ≡ length codes
unfolding line_added
same_long no_edge codes = refl
same_long (edge (right u)) codes = length-set codes u (get_or codes u 0 + 1)
same_long (edge (down u)) codes = length-set codes u (get_or codes u 0 + 2)

-- ## The lines of a pad in two layouts

-- a grid of these sizes
abbrev sized : ℕ → ℕ → Grid
sized h w = record { height = h; width = w; cell = λ v. blank }

module _ (height width : ℕ) (wide : 2 ≤ width) (a b : List ℕ) (v k : ℕ) (below : v < height * width) where
  -- where the byte of an edge has k lines more in the one, so has the pad; off the board no layout has a line
  right_more : (OnBoard (sized height width) (right v) → bit a (place_number width (right v)) ≡ bit b (place_number width (right v)) + k)
      → ((OnBoard (sized height width) (right v) → ⊥) → k ≡ 0) → right_line width a (v / width) (v % width) ≡ right_line width b (v / width) (v % width) + k
  unfolding line_at OnBoard
  right_more on off = elim (dec_lt (v % width + 1) width) [
    | yes inside ↦ omega (arith, right_there height width a (v / width) (v % width) inside, right_there height width b (v / width) (v % width) inside, on (below, inside))
    | no last ↦ omega (arith, no_right height width a (v / width) (v % width) (omega arith), no_right height width b (v / width) (v % width) (omega arith), off (λ h. last h.1))
  ]

  down_more : (OnBoard (sized height width) (down v) → bit a (place_number width (down v)) ≡ bit b (place_number width (down v)) + k)
      → ((OnBoard (sized height width) (down v) → ⊥) → k ≡ 0) → down_line height width a (v / width) (v % width) ≡ down_line height width b (v / width) (v % width) + k
  unfolding line_at OnBoard
  down_more on off = elim (dec_lt (v / width + 1) height) [
    | yes inside ↦
        let next : (v + width) / width < height = rw (add-div_right v some) inside in
        omega (arith, down_there height width a (v / width) (v % width) inside, down_there height width b (v / width) (v % width) inside, on ((div-lt_iff_lt-mul some).0 next))
    | no last ↦
        omega (
          arith,
          no_down height width a (v / width) (v % width) (omega arith),
          no_down height width b (v / width) (v % width) (omega arith),
          off (λ h. last (let next : (v + width) / width < height = (div-lt_iff_lt-mul some).1 h in omega (arith, add-div_right v some))),
        )
  ]
    where
      some : 0 < width
      some = omega arith

-- ## One place more

module _ (height width : ℕ) (wide : 2 ≤ width) (layout : List ℕ) (i : ℕ) (inside : i < places height width) where
  told : (e : Edge) → line_place width layout i ≡ edge e → place_at width (i / field_side width) (i % field_side width) ≡ edge e
  unfolding line_place
  told e is = go (eqb (get_or layout i 0) 1) is
    where
      go : (t : Bool) → (if t then place_at width (i / field_side width) (i % field_side width) else no_edge) ≡ edge e → place_at width (i / field_side width) (i % field_side width) ≡ edge e
      go true h = h
      go false h = zero≢one (cc)

  its_number : (e : Edge) → line_place width layout i ≡ edge e → OnBoard (sized height width) e × (place_number width e ≡ i)
  its_number e is = number_of_edge (sized height width) wide i inside e (told e is)

  line_inside : IfEdge (line_place width layout i) (λ e. first e < height * width)
  line_inside e is = first_inside (sized height width) e (its_number e is).0

  one_bit : (e : Edge) → OnBoard (sized height width) e → bit (take (i + 1) layout) (place_number width e) ≡ bit (take i layout) (place_number width e) + here e (line_place width layout i)
  unfolding line_place
  one_bit e on = elim (ℕ_discrete (place_number width e) i) [
    | yes same ↦
        let there : place_at width (i / field_side width) (i % field_side width) ≡ edge e =
        ap (λ (n : ℕ). place_at width (n / field_side width) (n % field_side width)) (sym same) ∙ edge_at_number (sized height width) wide e on in
        ap (bit (take (i + 1) layout)) same ∙ bit_new layout i ∙ go (eqb (get_or layout i 0) 1) there
        ∙ ap (λ (n : ℕ). n + here e (line_place width layout i)) (sym (ap (bit (take i layout)) same ∙ bit_not_yet layout i))
    | no other ↦
        let none : here e (line_place width layout i) ≡ 0 = here_other e (line_place width layout i) (λ is. other (its_number e is).1) in
        bit_kept layout i (place_number width e) other ∙ (omega arith)
  ]
    where
      go : (t : Bool) → place_at width (i / field_side width) (i % field_side width) ≡ edge e
          → (if t then 1 else 0) ≡ 0 + here e (if t then place_at width (i / field_side width) (i % field_side width) else no_edge)
      go true there = rw there (omega (arith, here_same e))
      go false there = unfold here in refl

  none_off : (e : Edge) → (OnBoard (sized height width) e → ⊥) → here e (line_place width layout i) ≡ 0
  none_off e off = here_other e (line_place width layout i) (λ is. off (its_number e is).0)

  code_grows : (v : ℕ) → v < height * width
      → code_of_pad height width (take (i + 1) layout) (v / width) (v % width)
      ≡ code_of_pad height width (take i layout) (v / width) (v % width) + here (right v) (line_place width layout i) + 2 * here (down v) (line_place width layout i)
  unfolding code_of_pad
  code_grows v below = omega (
    arith,
    right_more height width wide (take (i + 1) layout) (take i layout) v (here (right v) (line_place width layout i)) below (one_bit (right v)) (none_off (right v)),
    down_more height width wide (take (i + 1) layout) (take i layout) v (here (down v) (line_place width layout i)) below (one_bit (down v)) (none_off (down v)),
  )

-- ## The line at a place, by the tests that the code makes

module _ (width : ℕ) (layout : List ℕ) (i : ℕ) where
  pub past_the_end : length layout ≤ i → None ≡ pads_of width (line_place width layout i)
  unfolding line_place pads_of
  past_the_end past = rw (get_or-eq_default layout 0 past, line_place) refl

  pub no_line : false ≡ eqb (get_or layout i 0) 1 → None ≡ pads_of width (line_place width layout i)
  unfolding line_place pads_of
  no_line other = rw (← other, line_place) refl

  pub a_line : true ≡ eqb (get_or layout i 0) 1 → {there : Option Pads} → there ≡ pads_of width (place_at width (i / field_side width) (i % field_side width)) → there ≡ pads_of width (line_place width layout i)
  unfolding line_place
  a_line is are = are ∙ rw (← is, line_place) refl

-- ## A line added to the code of its first pad

module _ (pads : Pads) (codes : List ℕ) where
  pub right_added : pads.direction ≡ Right → set codes pads.first (get_or codes pads.first 0 + 1) ≡ line_added (edge (edge_of pads)) codes
  unfolding line_added edge_of
  right_added is = rw is refl

  pub down_added : pads.direction ≡ Down → set codes pads.first (get_or codes pads.first 0 + 2) ≡ line_added (edge (edge_of pads)) codes
  unfolding line_added edge_of
  down_added is = rw is refl

-- ## The loop of `codes_of`

module _ (height width : ℕ) (h : Size height) (w : Size width) (layout : List ℕ) where
  wide : 2 ≤ width
  wide = w.0

  pub row_inside : (i : ℕ) → i < places height width → i / field_side width < 31
  row_inside i inside =
      let side : 0 < field_side width = omega (arith, wide) in
      let row : i / field_side width < field_side height = (div-lt_iff_lt-mul side).1 inside in
      omega (arith, h.1)

  pub first_small : (i : ℕ) → i < places height width → {pads : Pads} → Some pads ≡ pads_of width (line_place width layout i) → pads.first < 256
  unfolding place_of edge_of
  first_small i inside {pads} are = omega (arith, first_to pads.direction pads.first, line_inside height width wide layout i inside (edge_of pads) (sym (told_place width (line_place width layout i) are)), all_pads height width h w)

  pub none_added : {codes : List ℕ} → codes ≡ zeros 256 → CodesOf height width (take 0 layout) codes
  unfolding code_of_pad right_line down_line line_at
  none_added is = rw is (record {
    each = λ v below. all_0 v ∙ either (ltb (v % width + 1) width) (ltb (v / width + 1) height);
    are = record { small = λ v. omega (arith, all_0 v); long = length-replicate {A = ℕ} 256 0 };
  })
    where
      all_0 : (v : ℕ) → get_or (zeros 256) v 0 ≡ 0
      all_0 v = elim (dec_lt v 256) [
        | yes before ↦ get_or-replicate 256 v 0 0 before
        | no past ↦ let end : length (zeros 256) ≤ v = omega (arith, length-replicate {A = ℕ} 256 0) in get_or-eq_default (zeros 256) 0 end
      ]

      either : (s t : Bool) → ◌≡◌ {A = ℕ} 0 ((if s then 0 else 0) + 2 * (if t then 0 else 0))
      either true true = refl
      either true false = refl
      either false true = refl
      either false false = refl

  one_added : (i : ℕ) {codes after : List ℕ} → i < places height width → CodesOf height width (take i layout) codes
      → {there : Option Pads} → there ≡ pads_of width (line_place width layout i) → after ≡ line_added (place_of there) codes → CodesOf height width (take (i + 1) layout) after
  one_added i {codes} inside so_far are is = rw (is, told_place width (line_place width layout i) are) (record {
    each = λ v below. grown v ∙ rw (so_far.each v below) (sym (code_grows height width wide layout i inside v below));
    are = record { small = small; long = same_long (line_place width layout i) codes ∙ so_far.are.long };
  })
    where
      grown : (v : ℕ) → get_or (line_added (line_place width layout i) codes) v 0
          ≡ get_or codes v 0 + here (right v) (line_place width layout i) + 2 * here (down v) (line_place width layout i)
      grown = added_at (line_place width layout i) codes (λ e there. omega (arith, line_inside height width wide layout i inside e there, so_far.are.long, all_pads height width h w))

      small : (v : ℕ) → get_or (line_added (line_place width layout i) codes) v 0 ≤ 3
      small v = elim (dec_lt v (height * width)) [
        | yes below ↦
            omega (arith, grown v, so_far.each v below, code_grows height width wide layout i inside v below, code_at_most_3 height width (take (i + 1) layout) (v / width) (v % width))
        | no past ↦
            let r = here_other (right v) (line_place width layout i) (λ there. past (line_inside height width wide layout i inside (right v) there)) in
            let d = here_other (down v) (line_place width layout i) (λ there. past (line_inside height width wide layout i inside (down v) there)) in
            omega (arith, grown v, so_far.are.small v)
      ]

  -- the line of these pads is added, or there is none
  pub line_taken : (i : ℕ) {codes after : List ℕ} → i < places height width → CodesOf height width (take i layout) codes
      → {pads : Pads} → Some pads ≡ pads_of width (line_place width layout i) → after ≡ line_added (edge (edge_of pads)) codes → CodesOf height width (take (i + 1) layout) after
  unfolding place_of
  line_taken i inside so_far are is = one_added i inside so_far are is

  pub no_line_taken : (i : ℕ) {codes : List ℕ} → i < places height width → CodesOf height width (take i layout) codes
      → None ≡ pads_of width (line_place width layout i) → CodesOf height width (take (i + 1) layout) codes
  unfolding place_of line_added
  no_line_taken i inside so_far are = one_added i inside so_far are refl

  pub all_added : (i : ℕ) {codes : List ℕ} → i ≡ places height width → CodesOf height width (take i layout) codes → CodesOf height width layout codes
  unfolding code_of_pad
  all_added i {codes} end so_far = record { each = each; are = so_far.are }
    where
      whole : (e : Edge) → OnBoard (sized height width) e → bit (take i layout) (place_number width e) ≡ bit layout (place_number width e) + 0
      whole e on = let before = edge_number_in_field (sized height width) wide e on in rw (get_or-take i layout (place_number width e) 0 (omega arith)) (omega arith)

      each : (v : ℕ) → v < height * width → get_or codes v 0 ≡ code_of_pad height width layout (v / width) (v % width)
      each v below = so_far.each v below ∙ (omega (
        arith,
        right_more height width wide (take i layout) layout v 0 below (whole (right v)) (λ off. refl),
        down_more height width wide (take i layout) layout v 0 below (whole (down v)) (λ off. refl),
      ))

-- what the proofs of the functions of the codes are found by
pub ruleset coded_laws = (past_the_end, no_line, a_line, right_added, down_added, row_inside, first_small, none_added, line_taken, no_line_taken, all_added)
