-- What stands in the table that `common` makes of a list of layouts: at each place the byte of its edge, and what that byte tells of the
-- layouts of the list. These are laws of any list, whoever made it; they rest on the model's Common.antt and the rules' RecordLaws.antt.
use Rattle.std.specs.Prelude.{ℕ, ◌%◌, ◌/◌, ◌≤◌, ◌<◌, ◌≡◌, ◌⊎◌, ◌↔◌, Bool, ◌&&◌, length, get_or}
use Rattle.std.proofs.Math.Path.{refl}
use Rattle.std.proofs.Common.{sym, ◌∙◌, ap}
use Rattle.std.proofs.Math.Logic.{inl, inr, ⊎_elim}
use Rattle.std.proofs.Math.Bool.{true, false, not}
use mathlib.Core.List.Memᴰ
use mathlib.Core.List.{List, [], ◌∷◌, Memᴰ}
use native.Mathlib.Omega.{arith}
use Rattle.std.proofs.Math.Decide.{dec_lt}
use borrow.Author.Tests.{not-true, not-false}
use Rattle.std.proofs.Math.ListN.{get_or-eq_default}
use Rattle.rules.specs.Grid.{Edge, Place, edge, no_edge, place_at, places, field_side}
use Rattle.rules.specs.Record.{byte_at_place, field}
use Rattle.rules.specs.RecordLaws.{get_or_from_zero, length_field}
use Rattle.rules.specs.Tests.{both, conflict, second_off}
use Rattle.std.specs.Prelude.{if◌then◌else◌}
use Rattle.model.specs.Common.{in_every_layout, in_no_layout, in_some_layouts, of_no_layout, has_line, all_have, none_has, common_byte, common_table}

-- a test of every layout of a list, made of a test of each: where it holds each passes, and where it fails one does not
module _ (each : List ℕ → Bool) (all : List (List ℕ) → Bool) (none : all [] ≡ true) (one_more : (r : List ℕ) (l : List (List ℕ)) → all (r ∷ l) ≡ each r && all l) where
  each_passes : (l : List (List ℕ)) → all l ≡ true → (r : List ℕ) → Memᴰ r l → each r ≡ true
  each_passes [] h r m = absurd (Memᴰ.not-nil m)
  each_passes (x ∷ l) h r m = let (here, later) = both (each x) (all l) (sym (one_more x l) ∙ h) in
      ⊎_elim (λ e. ap each e ∙ here) (each_passes l later r) (Memᴰ.cases_cons m)

  one_fails : (l : List (List ℕ)) → all l ≡ false → (r : List ℕ) × Memᴰ r l × (each r ≡ false)
  one_fails [] h = conflict none h
  one_fails (x ∷ l) h = go (each x) refl (one_fails l)
    where
      go : (b : Bool) → each x ≡ b → (all l ≡ false → (r : List ℕ) × Memᴰ r l × (each r ≡ false)) → (r : List ℕ) × Memᴰ r (x ∷ l) × (each r ≡ false)
      go false e later = (x, Memᴰ.head refl, e)
      go true e later = let (r, m, f) = later (second_off (each x) (all l) (sym (one_more x l) ∙ h) e) in (r, Memᴰ.tail m, f)

module _ (width : ℕ) (e : Edge) where
  -- every layout of the list has a line at the edge (b is true), or every one has none (b is false); and the same of some layout of it
  abbrev pub AllHave : List (List ℕ) → Bool → Type 0
  AllHave layouts b = (r : List ℕ) → Memᴰ r layouts → has_line width e r ≡ b

  abbrev pub OneHas : List (List ℕ) → Bool → Type 0
  OneHas layouts b = (r : List ℕ) × Memᴰ r layouts × (has_line width e r ≡ b)

  -- WHAT A BYTE TELLS OF A LIST that is not empty
  pub record TellsOfList (layouts : List (List ℕ)) (byte : ℕ) : Type 0 where
    pub every : (byte ≡ in_every_layout) ↔ AllHave layouts true
    pub none : (byte ≡ in_no_layout) ↔ AllHave layouts false
    pub some : (byte ≡ in_some_layouts) ↔ (OneHas layouts true × OneHas layouts false)
    pub one_of_three : (byte ≡ in_every_layout) ⊎ (byte ≡ in_no_layout) ⊎ (byte ≡ in_some_layouts)

  -- by the two tests that the byte is made of
  by_tests : (r : List ℕ) (l : List (List ℕ)) (a n : Bool) → all_have width e (r ∷ l) ≡ a → none_has width e (r ∷ l) ≡ n
      → TellsOfList (r ∷ l) (if a then in_every_layout else if n then in_no_layout else in_some_layouts)
  unfolding all_have none_has
  by_tests r l true n ha hn = let has = each_passes (has_line width e) (all_have width e) refl (λ x k. refl) (r ∷ l) ha in record {
    every = ((λ h. has), λ h. refl);
    none = ((λ h. absurd (omega arith)), λ f. conflict (has r (Memᴰ.head refl)) (f r (Memᴰ.head refl)));
    some = ((λ h. absurd (omega arith)), λ (y, (x, m, f)). conflict (has x m) f);
    one_of_three = inl refl;
  }
  by_tests r l false true ha hn = let lacks = each_passes (λ x. not (has_line width e x)) (none_has width e) refl (λ x k. refl) (r ∷ l) hn in record {
    every = ((λ h. absurd (omega arith)), λ f. conflict (f r (Memᴰ.head refl)) (not-true _ (lacks r (Memᴰ.head refl))));
    none = ((λ h x m. not-true _ (lacks x m)), λ h. refl);
    some = ((λ h. absurd (omega arith)), λ ((x, m, f), y). conflict f (not-true _ (lacks x m)));
    one_of_three = inr (inl refl);
  }
  by_tests r l false false ha hn =
      let (x, m, lacks) = one_fails (has_line width e) (all_have width e) refl (λ x k. refl) (r ∷ l) ha in
      let (y, k, has) = one_fails (λ x. not (has_line width e x)) (none_has width e) refl (λ x k. refl) (r ∷ l) hn in
      record {
        every = ((λ h. absurd (omega arith)), λ f. conflict (f x m) lacks);
        none = ((λ h. absurd (omega arith)), λ f. conflict (not-false _ has) (f y k));
        some = ((λ h. ((y, k, not-false _ has), (x, m, lacks))), λ h. refl);
        one_of_three = inr (inr refl);
      }

  -- the byte of the edge tells it
  pub byte_tells : (layouts : List (List ℕ)) → 0 < length layouts → TellsOfList layouts (common_byte width e layouts)
  unfolding common_byte
  byte_tells [] some = absurd (omega arith)
  byte_tells (r ∷ l) some = by_tests r l (all_have width e (r ∷ l)) (none_has width e (r ∷ l)) refl refl

  byte_small : (layouts : List (List ℕ)) → common_byte width e layouts ≤ 3
  unfolding common_byte
  byte_small [] = omega arith
  byte_small (r ∷ l) = ⊎_elim (λ h. omega arith) (⊎_elim (λ h. omega arith) (λ h. omega arith)) (byte_tells (r ∷ l) (omega arith)).one_of_three

-- an empty list: 0 at every place
pub is_empty : (layouts : List (List ℕ)) → length layouts ≡ 0 → layouts ≡ []
is_empty [] none = refl
is_empty (r ∷ l) none = absurd (omega arith)

pub empty_byte : (width : ℕ) (layouts : List (List ℕ)) → length layouts ≡ 0 → (p : Place) → byte_at_place (λ e. common_byte width e layouts) p ≡ of_no_layout
unfolding common_byte
empty_byte width [] none (edge e) = refl
empty_byte width [] none no_edge = refl
empty_byte width (r ∷ l) none p = absurd (omega arith)

-- THE TABLE
module _ (height width : ℕ) (layouts : List (List ℕ)) where
  pub table_length : length (common_table height width layouts) ≡ places height width
  unfolding common_table
  table_length = length_field height width (λ e. common_byte width e layouts)

  -- at each place the byte of its edge
  pub table_at : (i : ℕ) → i < places height width
      → get_or (common_table height width layouts) i of_no_layout ≡ byte_at_place (λ e. common_byte width e layouts) (place_at width (i / field_side width) (i % field_side width))
  unfolding common_table field
  table_at i inside = get_or_from_zero _ (places height width) i of_no_layout inside

  -- every byte is at most 3
  pub table_bytes_small : (i : ℕ) → get_or (common_table height width layouts) i of_no_layout ≤ 3
  table_bytes_small i = elim (dec_lt i (places height width)) [
    | yes inside ↦ rw (table_at i inside) (at_place (place_at width (i / field_side width) (i % field_side width)))
    | no past ↦ rw (get_or-eq_default (common_table height width layouts) of_no_layout {n = i} (omega (arith, table_length))) (omega arith)
  ]
    where
      at_place : (p : Place) → byte_at_place (λ e. common_byte width e layouts) p ≤ 3
      at_place (edge e) = byte_small width e layouts
      at_place no_edge = omega arith
