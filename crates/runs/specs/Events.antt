-- The layouts and the visits in a list of events, and ascending lists: small definitions and laws that the search, the runs and the
-- last theorem share.
use Rattle.std.specs.Prelude.{ℕ, suc, ◌≤◌, ◌≡◌, refl}
use Rattle.std.proofs.Common.{ap, ⊎_elim, arith}
use mathlib.Core.List.Memᴰ
use mathlib.Core.List.{List, [], ◌∷◌, ◌++◌, Memᴰ, map}
use Rattle.rules.specs.Grid.{Grid}
use Rattle.rules.specs.Drawing.{Drawing, Placed}
use Rattle.rules.specs.Record.{record_of, drawing_of, codes, Before, Ascending, lower, later}
use Rattle.rules.proofs.RecordLaws.{record_shows, codes_same}
use Rattle.model.specs.Runs.{Event, visit, layout}

-- the records of the layout events
unfoldable pub layouts_of : List Event → List (List ℕ)
layouts_of [] = []
layouts_of (visit ∷ events) = layouts_of events
layouts_of (layout bytes ∷ events) = bytes ∷ layouts_of events

-- the first list is a beginning of the second
pub record Beginning (first whole : List (List ℕ)) : Type 0 where
  pub rest : List (List ℕ)
  pub parted : whole ≡ first ++ rest

-- the number of visit events
unfoldable pub visits_of : List Event → ℕ
visits_of [] = 0
visits_of (visit ∷ events) = suc (visits_of events)
visits_of (layout bytes ∷ events) = visits_of events

pub layouts_append : (a b : List Event) → layouts_of (a ++ b) ≡ layouts_of a ++ layouts_of b
unfolding layouts_of
layouts_append [] b = refl
layouts_append (visit ∷ a) b = layouts_append a b
layouts_append (layout bytes ∷ a) b = ap (λ rest. bytes ∷ rest) (layouts_append a b)

-- the codes of the drawing that a record shows
abbrev pub shown_codes : Grid → List ℕ → List ℕ
shown_codes g bytes = codes g (drawing_of g.width bytes)

pub codes_shown : (g : Grid) → 2 ≤ g.width → (D : Drawing) → Placed g D → shown_codes g (record_of g D) ≡ codes g D
codes_shown g wide D placed = codes_same g wide (drawing_of g.width (record_of g D)) D (record_shows g wide D placed)

-- members of a mapped list
pub map_mem : {A B : Type 0} (f : A → B) (l : List A) (y : B) → Memᴰ y (map f l) → (x : A) × Memᴰ x l × (y ≡ f x)
map_mem f [] y m = absurd (Memᴰ.not-nil m)
map_mem f (x ∷ l) y m = ⊎_elim (λ e. (x, Memᴰ.head refl, e)) (λ n. let (z, k, e) = map_mem f l y n in (z, Memᴰ.tail k, e)) (Memᴰ.cases_cons m)

pub mem_map : {A B : Type 0} (f : A → B) (l : List A) (z : A) → Memᴰ z l → Memᴰ (f z) (map f l)
mem_map f [] z m = absurd (Memᴰ.not-nil m)
mem_map f (y ∷ l) z m = ⊎_elim (λ e. Memᴰ.head (ap f e)) (λ n. Memᴰ.tail (mem_map f l z n)) (Memᴰ.cases_cons m)

-- two ascending lists, the first before the second, are one
pub ascending_append : (f : List ℕ → List ℕ) (r s : List (List ℕ)) → Ascending (map f r) → Ascending (map f s)
    → ((x y : List ℕ) → Memᴰ x r → Memᴰ y s → Before (f x) (f y)) → Ascending (map f (r ++ s))
unfolding Ascending
ascending_append f [] s p q h = q
ascending_append f (x ∷ r) s p q h = (
  (λ y m. let (z, k, e) = map_mem f (r ++ s) y m in rw e (⊎_elim (λ n. p.0 (f z) (mem_map f r z n)) (λ n. h x z (Memᴰ.head refl) n) (Memᴰ.append_cases r k))),
  ascending_append f r s p.1 q (λ a b m n. h a b (Memᴰ.tail m) n),
)

-- EACH ONCE: no member stands again further on
unfoldable pub Distinct : List (List ℕ) → Type 0
Distinct [] = Unit {0}
Distinct (x ∷ l) = (Memᴰ x l → ⊥) × Distinct l

-- (the proof takes two lists that are equal: antt matches `Before` only at two different lists)
abbrev pub leading : List ℕ → ℕ
leading [] = 0
leading (a ∷ k) = a

abbrev pub following : List ℕ → List ℕ
following [] = []
following (a ∷ k) = k

before_differs : (k l : List ℕ) → Before k l → k ≡ l → ⊥
before_differs [] l b e = elim b [ ]
before_differs (a ∷ k) [] b e = elim b [ ]
before_differs (a ∷ k) (c ∷ l) (lower h) e = let s = ap leading e in omega (arith, h, s)
before_differs (a ∷ k) (c ∷ l) (later b) e = before_differs k l b (ap following e)

pub not_before_itself : (k : List ℕ) → Before k k → ⊥
not_before_itself k b = before_differs k k b refl

pub ascending_distinct : (f : List ℕ → List ℕ) (l : List (List ℕ)) → Ascending (map f l) → Distinct l
unfolding Ascending Distinct
ascending_distinct f [] a = tt
ascending_distinct f (x ∷ l) a = ((λ m. not_before_itself (f x) (a.0 (f x) (mem_map f l x m))), ascending_distinct f l a.1)
