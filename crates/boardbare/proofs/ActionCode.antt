-- The pad check's code, as the branches of `action_code` come to it. Assumes nothing.
use Prim.Native.Nat.{ℕ, ◌+◌, ◌≤◌, ◌<◌}
use mathlib.Core.Path.{◌≡◌}
use borrow.Author.Tests.{lt-ltb, le-ltb, eq-eqb, ne_eqb}
use Rattle.boardview.specs.Told.{bytes_equal, undecided_side, action_code}

module _ (clues l r u d : ℕ) where
  abbrev degree : ℕ
  degree = clues + bytes_equal l r u d 1

  abbrev undecided : ℕ
  undecided = bytes_equal l r u d 0

  pub too_many : 2 < degree → 1 ≡ action_code clues l r u d
  unfolding action_code
  too_many h = simp (lt-ltb _ _ h)

  module _ (few : degree ≤ 2) where
    pub one_alone : undecided ≡ 0 → degree ≡ 1 → 1 ≡ action_code clues l r u d
    unfolding action_code
    one_alone h k = simp (le-ltb _ _ few, eq-eqb _ _ h, eq-eqb _ _ k)

    pub all_decided : undecided ≡ 0 → (degree ≡ 1 → ⊥) → 0 ≡ action_code clues l r u d
    unfolding action_code
    all_decided h k = simp (le-ltb _ _ few, eq-eqb _ _ h, ne_eqb _ _ k)

    module _ (some : undecided ≡ 0 → ⊥) (side : ℕ) (es : side ≡ undecided_side l r u) where
      pub two_lines : degree ≡ 2 → 6 + side ≡ action_code clues l r u d
      unfolding action_code
      two_lines h = simp (le-ltb _ _ few, ne_eqb _ _ some, eq-eqb _ _ h, ← es)

      module _ (not_two : degree ≡ 2 → ⊥) where
        pub last_line : undecided ≡ 1 → degree ≡ 1 → 2 + side ≡ action_code clues l r u d
        unfolding action_code
        last_line h k = simp (le-ltb _ _ few, ne_eqb _ _ some, ne_eqb _ _ not_two, eq-eqb _ _ h, eq-eqb _ _ k, ← es)

        pub last_none : undecided ≡ 1 → (degree ≡ 1 → ⊥) → 6 + side ≡ action_code clues l r u d
        unfolding action_code
        last_none h k = simp (le-ltb _ _ few, ne_eqb _ _ some, ne_eqb _ _ not_two, eq-eqb _ _ h, ne_eqb _ _ k, ← es)

        pub several_left : (undecided ≡ 1 → ⊥) → 0 ≡ action_code clues l r u d
        unfolding action_code
        several_left h = simp (le-ltb _ _ few, ne_eqb _ _ some, ne_eqb _ _ not_two, ne_eqb _ _ h)
