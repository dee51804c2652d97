-- NOBODY DRAWS BETTER THAN THE LISTED LAYOUTS: demand 3, for every grid of at least two rows and two columns, any codes and any holes.
-- What that means of drawings and of records is said in proofs/Shortest.antt, where all three theorems stand; what it means of lists, here.
use Rattle.std.specs.Prelude.{ℕ, ◌≤◌, ◌≡◌, ◌↔◌}
use mathlib.Core.List.{List, [], Memᴰ}
use Rattle.rules.specs.Grid.{Grid}
use Rattle.rules.specs.Drawing.{Drawing, Ordinary, Listed, SamePairs, number_of_lines}
use Rattle.rules.specs.Record.{record_of, record_lines, ListedRecord}
use Rattle.shortest.specs.Fewest.{Fewest}

-- 3. LISTS. Take any list of records that holds every listed layout, and listed layouts only.
pub record HoldsTheListed (g : Grid) (records : List (List ℕ)) : Type 1 where
  pub every : (D : Drawing) → Listed g D → Memᴰ (record_of g D) records
  pub only : (bytes : List ℕ) → Memᴰ bytes records → ListedRecord g bytes

-- It cannot be bettered:
pub record NotBettered (g : Grid) (records : List (List ℕ)) : Type 1 where
  -- for every ordinary drawing it holds a layout that joins the same pads pair by pair with no more lines;
  pub matched : (D : Drawing) → Ordinary g D
      → (E : Drawing) × Memᴰ (record_of g E) records × Listed g E × SamePairs g D E × (number_of_lines g E ≤ number_of_lines g D)
  -- so it is empty exactly when no such drawing exists;
  pub empty_exactly : (records ≡ []) ↔ ((D : Drawing) → Ordinary g D → ⊥)
  -- and otherwise the fewest lines of its records is the fewest of all ordinary drawings.
  pub fewest_exactly : (n : ℕ) → Fewest record_lines (λ bytes. Memᴰ bytes records) n ↔ Fewest (number_of_lines g) (Ordinary g) n
