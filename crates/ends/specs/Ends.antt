-- What the ends of a board say of its lines, as facts about a relation between pads. An end is through exactly where the pad can take no
-- line more; an end at a pad or at a clue tells where the chain ends on the other side; every chain has a pad with at most one line, so
-- none is closed; and clues in one chain have equal codes. Refutation.antt shows what this rules out, EndsKept.antt that step c keeps it.
use Rattle.std.specs.Prelude.{ℕ, ◌≡◌, refl, ◌≢◌, ◌⊎◌, false}
use Rattle.std.proofs.Common.{inl, inr}
use Rattle.rules.specs.Grid.{Cell, clue}
use Rattle.rules.specs.Drawing.{Relation, NoLine, OneLine, TwoLines, Joined}
use Rattle.model.specs.JoinedEnds.{End, through, at_pad, at_clue}
use Rattle.model.specs.PadTests.{is_clue}
use Rattle.rules.specs.Chains.{Symmetric}

-- at most one line
abbrev pub Short : Relation → ℕ → Type 0
Short L v = (a b : ℕ) → L v a → L v b → a ≡ b

-- THE PAD IS FULL: a clue with its line, or any other pad with two; it has ROOM: a clue with none, or any other pad with at most one. (A hole
-- is such another pad here: before its edges are decided, a chain may run to it.)
pub data Full (cell : ℕ → Cell) (L : Relation) (v : ℕ) : Type 0 where
  two_lines : is_clue (cell v) ≡ false → TwoLines L v → Full cell L v
  one_line : (c : ℕ) → cell v ≡ clue c → OneLine L v → Full cell L v

pub data Room (cell : ℕ → Cell) (L : Relation) (v : ℕ) : Type 0 where
  other_room : is_clue (cell v) ≡ false → Short L v → Room cell L v
  clue_room : (c : ℕ) → cell v ≡ clue c → NoLine L v → Room cell L v

-- the other end of v's chain is pad w: no clue in the chain, and every other pad of it is passed through
pub record PadEnd (cell : ℕ → Cell) (L : Relation) (end : ℕ → End) (v w : ℕ) : Type 0 where
  pub joined : Joined L v w
  pub back : end w ≡ at_pad v
  pub no_clue : (x : ℕ) → Joined L v x → is_clue (cell x) ≡ false
  pub others_passed : (x : ℕ) → Joined L v x → (x ≡ v) ⊎ (x ≡ w) ⊎ (end x ≡ through)

-- v's chain ends at a clue of code c on the other side, and every pad of it but v is passed through
pub record ClueEnd (cell : ℕ → Cell) (L : Relation) (end : ℕ → End) (v c : ℕ) : Type 0 where
  pub pad : ℕ
  pub joined : Joined L v pad
  pub clue_at : cell pad ≡ clue c
  pub others_passed : (x : ℕ) → Joined L v x → (x ≡ v) ⊎ (end x ≡ through)

-- a pad of v's chain with at most one line
pub record LoosePad (L : Relation) (v : ℕ) : Type 0 where
  pub pad : ℕ
  pub joined : Joined L v pad
  pub short : Short L pad

-- THE ENDS SAY
pub record Ends (cell : ℕ → Cell) (L : Relation) (end : ℕ → End) : Type 0 where
  pub through_full : (v : ℕ) → end v ≡ through → Full cell L v
  pub else_room : (v : ℕ) → end v ≢ through → Room cell L v
  pub alone : (v : ℕ) → end v ≡ at_pad v → NoLine L v
  pub pad_end : (v w : ℕ) → end v ≡ at_pad w → PadEnd cell L end v w
  pub clue_end : (v c : ℕ) → end v ≡ at_clue c → ClueEnd cell L end v c
  pub loose_pad : (v : ℕ) → LoosePad L v
  pub equal_codes : (u v c d : ℕ) → cell u ≡ clue c → cell v ≡ clue d → Joined L u v → c ≡ d

-- A LINE IS ADDED between u and v
pub record Added (L M : Relation) (u v : ℕ) : Type 0 where
  pub keep : (x y : ℕ) → L x y → M x y
  pub there : M u v
  pub back : M v u
  pub only : (x y : ℕ) → M x y → L x y ⊎ ((x ≡ u) × (y ≡ v)) ⊎ ((x ≡ v) × (y ≡ u))

-- THE ENDS ARE JOINED as step c does it; A and B are the old ends of u and v
pub record Stored (end end' : ℕ → End) (u v : ℕ) (A B : End) : Type 0 where
  pub pad_a : (a : ℕ) → A ≡ at_pad a → end' a ≡ B
  pub pad_b : (b : ℕ) → B ≡ at_pad b → end' b ≡ A
  pub pad_u : A ≢ at_pad u → end' u ≡ through
  pub pad_v : B ≢ at_pad v → end' v ≡ through
  pub others : (x : ℕ) → x ≢ u → x ≢ v → A ≢ at_pad x → B ≢ at_pad x → end' x ≡ end x

-- STEP c: all that is known when a line is stored between u and v
pub record Step (cell : ℕ → Cell) (L M : Relation) (end end' : ℕ → End) (u v : ℕ) (A B : End) : Type 0 where
  pub both_ways : Symmetric L
  pub ends : Ends cell L end
  pub added : Added L M u v
  pub stored : Stored end end' u v A B
  pub at_u : end u ≡ A
  pub at_v : end v ≡ B
  pub a_not_through : A ≢ through
  pub b_not_through : B ≢ through
  pub apart : u ≢ v
  pub no_line_yet : L u v → ⊥
  pub not_closing : A ≢ at_pad v
  pub one_code : (c d : ℕ) → A ≡ at_clue c → B ≡ at_clue d → c ≡ d

pub pad_or_clue : (A : End) → A ≢ through → ((a : ℕ) × (A ≡ at_pad a)) ⊎ ((c : ℕ) × (A ≡ at_clue c))
pad_or_clue through n = absurd (n refl)
pad_or_clue (at_pad a) n = inl (a, refl)
pad_or_clue (at_clue c) n = inr (c, refl)
