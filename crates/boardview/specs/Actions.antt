-- The table of the pad check's codes tells what the pad check does last: a code is read back as a slot, and the index of the table holds the
-- clue and the four bytes as its digits. It rests on View.antt. Assumes nothing.
use Prim.Native.Nat.{ℕ, zero, suc, ◌+◌, ◌*◌, ◌-◌, ◌/◌, ◌%◌, ◌≤◌, ◌<◌}
use Rattle.std.specs.Prelude.{◌≡◌, Bool, List, [], ◌∷◌, eqb, ltb, get_or}
use Rattle.std.proofs.Math.Path.{refl}
use Rattle.std.proofs.Common.{sym, ap, ◌∙◌, arith}
use Rattle.std.proofs.Math.Bool.{true, false}
use borrow.Author.Tests.{eqb-true, eq-eqb}
use Rattle.std.proofs.lemmas.Bool.{false≢true}
use Rattle.rules.specs.Drawing.{num}
use Rattle.rules.specs.Tests.{num_small}
use Rattle.boardview.specs.declared.kinds.Kinds.{Kinds}
use Rattle.boardview.specs.Told.{pick, has_bit, clue_bit, bytes_equal, undecided_side, action_code, action_entry}
use Rattle.boardview.specs.View.{slot_around, edges_around, degree_around, first_around, action_around}

-- a code read back: 0, 1, a slot for a line there, 1024 + a slot for none there
abbrev pub decoded : (width v code : ℕ) → ℕ
decoded width v code = pick (ltb code 2) code (pick (ltb code 6) (slot_around width v (code - 2)) (slot_around width v (code - 6) + 1024))

module _ (bits edges : List ℕ) (width v : ℕ) where
  abbrev left : ℕ
  left = get_or edges (30 + 2 * v) 0

  abbrev right : ℕ
  right = get_or edges (32 + 2 * v) 0

  abbrev up : ℕ
  up = get_or edges (33 + 2 * v - 2 * width) 0

  abbrev down : ℕ
  down = get_or edges (33 + 2 * v) 0

  abbrev side : (a b c : Bool) → ℕ
  side a b c = pick a 0 (pick b 1 (pick c 2 3))

  abbrev first : (a b c : Bool) → ℕ
  first a b c = pick a (30 + 2 * v) (pick b (32 + 2 * v) (pick c (33 + 2 * v - 2 * width) (33 + 2 * v)))

  line_read : (a b c : Bool) → first a b c ≡ decoded width v (2 + side a b c)
  unfolding slot_around
  line_read true b c = refl
  line_read false true c = refl
  line_read false false true = refl
  line_read false false false = refl

  none_read : (a b c : Bool) → first a b c + 1024 ≡ decoded width v (6 + side a b c)
  unfolding slot_around
  none_read true b c = refl
  none_read false true c = refl
  none_read false false true = refl
  none_read false false false = refl

  -- the pad check's last part, by its code
  pub action_is_decoded : action_around bits edges width v ≡ decoded width v (action_code (num (has_bit bits v clue_bit)) left right up down)
  unfolding action_around degree_around edges_around first_around action_code undecided_side
  action_is_decoded = go (eqb left 0) (eqb right 0) (eqb up 0) (ltb 2 degree) (eqb (bytes_equal left right up down 0) 0) (eqb degree 1) (eqb degree 2) (eqb (bytes_equal left right up down 0) 1)
    where
      degree : ℕ
      degree = num (has_bit bits v clue_bit) + bytes_equal left right up down 1

      go : (a b c too_many all_decided one two one_left : Bool)
          → pick too_many 1 (pick all_decided (pick one 1 0) (pick two (first a b c + 1024) (pick one_left (pick one (first a b c) (first a b c + 1024)) 0)))
          ≡ decoded width v (pick too_many 1 (pick all_decided (pick one 1 0) (pick two (6 + side a b c) (pick one_left (pick one (2 + side a b c) (6 + side a b c)) 0))))
      go a b c true all_decided one two one_left = refl
      go a b c false true true two one_left = refl
      go a b c false true false two one_left = refl
      go a b c false false one true one_left = none_read a b c
      go a b c false false true false true = line_read a b c
      go a b c false false false false true = none_read a b c
      go a b c false false one false false = refl

-- the digits of an index
rest_by_4 : (a k n : ℕ) → a < 4 → n ≡ a + 4 * k → n % 4 ≡ a
rest_by_4 a k n h e = omega arith

over_4 : (a k n : ℕ) → a < 4 → n ≡ a + 4 * k → n / 4 ≡ k
over_4 a k n h e = omega arith

over_16 : (a k n : ℕ) → a < 16 → n ≡ a + 16 * k → n / 16 ≡ k
over_16 a k n h e = omega arith

over_64 : (a k n : ℕ) → a < 64 → n ≡ a + 64 * k → n / 64 ≡ k
over_64 a k n h e = omega arith

over_256 : (a k n : ℕ) → a < 256 → n ≡ a + 256 * k → n / 256 ≡ k
over_256 a k n h e = omega arith

abbrev pub table_index : (clues at_left at_right at_up at_down : ℕ) → ℕ
table_index clues at_left at_right at_up at_down = at_left + 4 * at_right + 16 * at_up + 64 * at_down + 256 * clues

module _ (clues at_left at_right at_up at_down : ℕ) (few : clues ≤ 1) (low_left : at_left ≤ 2) (low_right : at_right ≤ 2) (low_up : at_up ≤ 2) (low_down : at_down ≤ 2) where
  abbrev index : ℕ
  index = table_index clues at_left at_right at_up at_down

  pub index_small : index < 512
  index_small = omega arith

  pub entry_at : action_entry index ≡ action_code clues at_left at_right at_up at_down
  unfolding action_entry
  entry_at = rw (
    over_256 (at_left + 4 * at_right + 16 * at_up + 64 * at_down) clues index (omega arith) refl,
    rest_by_4 at_left (at_right + 4 * at_up + 16 * at_down + 64 * clues) index (omega arith) (omega arith),
    over_4 at_left (at_right + 4 * at_up + 16 * at_down + 64 * clues) index (omega arith) (omega arith),
    rest_by_4 at_right (at_up + 4 * at_down + 16 * clues) (at_right + 4 * at_up + 16 * at_down + 64 * clues) (omega arith) (omega arith),
    over_16 (at_left + 4 * at_right) (at_up + 4 * at_down + 16 * clues) index (omega arith) (omega arith),
    rest_by_4 at_up (at_down + 4 * clues) (at_up + 4 * at_down + 16 * clues) (omega arith) (omega arith),
    over_64 (at_left + 4 * at_right + 16 * at_up) (at_down + 4 * clues) index (omega arith) (omega arith),
    rest_by_4 at_down clues (at_down + 4 * clues) (omega arith) refl,
  ) refl

-- the index of a pad's code
abbrev pub action_index : List ℕ → List ℕ → ℕ → ℕ → ℕ
action_index bits edges width v = table_index (num (has_bit bits v clue_bit)) (get_or edges (30 + 2 * v) 0) (get_or edges (32 + 2 * v) 0) (get_or edges (33 + 2 * v - 2 * width) 0) (get_or edges (33 + 2 * v) 0)

low : (l : List ℕ) (n : ℕ) → get_or l n 2 ≤ 2 → get_or l n 0 ≤ 2
low [] n h = omega arith
low (x ∷ l) zero h = h
low (x ∷ l) (suc n) h = low l n h

module _ (edges : List ℕ) (bytes : (n : ℕ) → get_or edges n 2 ≤ 2) where
  pub byte_low : (n : ℕ) → get_or edges n 0 ≤ 2
  byte_low n = low edges n (bytes n)

  pub action_index_small : (bits : List ℕ) (width v : ℕ) → action_index bits edges width v < 512
  action_index_small bits width v = index_small _ _ _ _ _ (num_small (has_bit bits v clue_bit)) (byte_low (30 + 2 * v)) (byte_low (32 + 2 * v)) (byte_low (33 + 2 * v - 2 * width)) (byte_low (33 + 2 * v))

  -- what the table holds there tells what the pad check does last
  module _ (kind : Kinds) (width v code : ℕ) (e : code ≡ get_or kind.actions (action_index kind.bits edges width v) 0) where
    pub code_read : code ≡ action_code (num (has_bit kind.bits v clue_bit)) (get_or edges (30 + 2 * v) 0) (get_or edges (32 + 2 * v) 0) (get_or edges (33 + 2 * v - 2 * width) 0) (get_or edges (33 + 2 * v) 0)
    code_read = e ∙ (kind.told.table (action_index kind.bits edges width v) (action_index_small kind.bits width v)
        ∙ entry_at (num (has_bit kind.bits v clue_bit)) _ _ _ _ (num_small (has_bit kind.bits v clue_bit)) (byte_low (30 + 2 * v)) (byte_low (32 + 2 * v)) (byte_low (33 + 2 * v - 2 * width)) (byte_low (33 + 2 * v)))

    pub action_read : decoded width v code ≡ action_around kind.bits edges width v
    action_read = ap (decoded width v) code_read ∙ sym (action_is_decoded kind.bits edges width v)

-- THE SLOT of an action is that of an undecided edge
open_side : (left right up down : ℕ) → (bytes_equal left right up down 0 ≡ 0 → ⊥)
    → pick (eqb left 0) left (pick (eqb right 0) right (pick (eqb up 0) up down)) ≡ 0
open_side left right up down some = go (eqb left 0) refl (eqb right 0) refl (eqb up 0) refl
  where
    go : (a : Bool) → eqb left 0 ≡ a → (b : Bool) → eqb right 0 ≡ b → (c : Bool) → eqb up 0 ≡ c → pick a left (pick b right (pick c up down)) ≡ 0
    go true p b q c r = eqb-true left 0 p
    go false p true q c r = eqb-true right 0 q
    go false p false q true r = eqb-true up 0 r
    go false p false q false r = elim (eqb down 0) as (λ d. eqb down 0 ≡ d → down ≡ 0) [ true ↦ λ e. eqb-true down 0 e | false ↦ λ e. absurd (some (rw (p, q, r, e) refl)) ] refl

-- a code from 2 on tells the first undecided side, and there is one
module _ (side code : ℕ) (few : side ≤ 3) (high : 2 ≤ code) where
  in_code : (too_many all_decided one two one_left : Bool)
      → code ≡ pick too_many 1 (pick all_decided (pick one 1 0) (pick two (6 + side) (pick one_left (pick one (2 + side) (6 + side)) 0)))
      → (all_decided ≡ false) × ((code < 6 → code - 2 ≡ side) × (6 ≤ code → code - 6 ≡ side))
  in_code true all_decided one two one_left e = absurd (omega (arith, e))
  in_code false true true two one_left e = absurd (omega (arith, e))
  in_code false true false two one_left e = absurd (omega (arith, e))
  in_code false false one true one_left e = (refl, (λ h. absurd (omega (arith, e)), λ h. omega (arith, e)))
  in_code false false true false true e = (refl, (λ h. omega (arith, e), λ h. absurd (omega (arith, e))))
  in_code false false false false true e = (refl, (λ h. absurd (omega (arith, e)), λ h. omega (arith, e)))
  in_code false false one false false e = absurd (omega (arith, e))

side_small : (a b c : Bool) → pick a 0 (pick b 1 (pick c 2 3)) ≤ 3
side_small true b c = omega arith
side_small false true c = omega arith
side_small false false true = omega arith
side_small false false false = omega arith

module _ (bits edges : List ℕ) (width v code : ℕ) (e : code ≡ action_code (num (has_bit bits v clue_bit)) (get_or edges (30 + 2 * v) 0) (get_or edges (32 + 2 * v) 0) (get_or edges (33 + 2 * v - 2 * width) 0) (get_or edges (33 + 2 * v) 0)) (high : 2 ≤ code) where
  abbrev first_side : ℕ
  first_side = pick (eqb (get_or edges (30 + 2 * v) 0) 0) 0 (pick (eqb (get_or edges (32 + 2 * v) 0) 0) 1 (pick (eqb (get_or edges (33 + 2 * v - 2 * width) 0) 0) 2 3))

  told_side : (bytes_equal (get_or edges (30 + 2 * v) 0) (get_or edges (32 + 2 * v) 0) (get_or edges (33 + 2 * v - 2 * width) 0) (get_or edges (33 + 2 * v) 0) 0 ≡ 0 → ⊥)
      × ((code < 6 → code - 2 ≡ first_side) × (6 ≤ code → code - 6 ≡ first_side))
  unfolding action_code undecided_side
  told_side = let k = in_code first_side code (side_small _ _ _) high _ _ _ _ _ e in ((λ z. absurd (false≢true (sym k.0 ∙ eq-eqb _ 0 z))), k.1)

  at_side : get_or edges (slot_around width v first_side) 0
      ≡ pick (eqb (get_or edges (30 + 2 * v) 0) 0) (get_or edges (30 + 2 * v) 0) (pick (eqb (get_or edges (32 + 2 * v) 0) 0) (get_or edges (32 + 2 * v) 0) (pick (eqb (get_or edges (33 + 2 * v - 2 * width) 0) 0) (get_or edges (33 + 2 * v - 2 * width) 0) (get_or edges (33 + 2 * v) 0)))
  unfolding slot_around
  at_side = go (eqb (get_or edges (30 + 2 * v) 0) 0) (eqb (get_or edges (32 + 2 * v) 0) 0) (eqb (get_or edges (33 + 2 * v - 2 * width) 0) 0)
    where
      go : (a b c : Bool) → get_or edges (pick (eqb (pick a 0 (pick b 1 (pick c 2 3))) 0) (30 + 2 * v) (pick (eqb (pick a 0 (pick b 1 (pick c 2 3))) 1) (32 + 2 * v) (pick (eqb (pick a 0 (pick b 1 (pick c 2 3))) 2) (33 + 2 * v - 2 * width) (33 + 2 * v)))) 0
          ≡ pick a (get_or edges (30 + 2 * v) 0) (pick b (get_or edges (32 + 2 * v) 0) (pick c (get_or edges (33 + 2 * v - 2 * width) 0) (get_or edges (33 + 2 * v) 0)))
      go true b c = refl
      go false true c = refl
      go false false true = refl
      go false false false = refl

  open_there : get_or edges (slot_around width v first_side) 0 ≡ 0
  open_there = at_side ∙ open_side _ _ _ _ told_side.0

  pub open_line : code < 6 → get_or edges (slot_around width v (code - 2)) 0 ≡ 0
  open_line h = ap (λ (n : ℕ). get_or edges (slot_around width v n) 0) (told_side.1.0 h) ∙ open_there

  pub open_none : 6 ≤ code → get_or edges (slot_around width v (code - 6)) 0 ≡ 0
  open_none h = ap (λ (n : ℕ). get_or edges (slot_around width v n) 0) (told_side.1.1 h) ∙ open_there
