-- Drawings of a grid and the rules for them: ordinary, listed, joining the same pads, the number of lines. Document 01, section Layouts.
-- Definitions only; they rest on Grid.antt. Two of them are not document 01's sentence word by word and say why they mean the same:
-- the lines at a pad, and a closed loop.
use Rattle.std.specs.Prelude.{ℕ, zero, suc, ◌+◌, ◌≤◌, ◌≡◌, ◌≢◌, ◌⊎◌, ◌↔◌, Bool, true, false}
use Rattle.rules.specs.Grid.{Edge, right, down, Cell, blank, clue, hole, Grid, pads, OnBoard, UnitSquare}

-- A DRAWING gives each edge line (true) or none (false): the edge to the right of a pad, and the edge downward.
pub record Drawing : Type 0 where
  pub right : ℕ → Bool
  pub down : ℕ → Bool

abbrev pub drawn : Drawing → Edge → Bool
drawn D (right v) = D.right v
drawn D (down v) = D.down v

-- its lines are at edges of the board only
abbrev pub Placed : Grid → Drawing → Type 0
Placed g D = (e : Edge) → drawn D e ≡ true → OnBoard g e

-- LINES between pads: v is to the right of u, to the left, below or above, and the edge between them is a line.
abbrev pub Relation : Type 1
Relation = ℕ → ℕ → Type 0

pub data Line (width : ℕ) (D : Drawing) (u v : ℕ) : Type 0 where
  rightward : v ≡ u + 1 → D.right u ≡ true → Line width D u v
  leftward : u ≡ v + 1 → D.right v ≡ true → Line width D u v
  downward : v ≡ u + width → D.down u ≡ true → Line width D u v
  upward : u ≡ v + width → D.down v ≡ true → Line width D u v

-- THE LINES AT A PAD: none, exactly one, exactly two. They are told by the pads that the lines lead to and not by a count; two edges at
-- one pad lead to different pads, so the two ways of counting agree.
abbrev pub NoLine : Relation → ℕ → Type 0
NoLine L v = (u : ℕ) → L v u → ⊥

pub record OneLine (L : Relation) (v : ℕ) : Type 0 where
  pub to : ℕ
  pub line : L v to
  pub only : (u : ℕ) → L v u → u ≡ to

pub record TwoLines (L : Relation) (v : ℕ) : Type 0 where
  pub to : ℕ
  pub also_to : ℕ
  pub apart : to ≢ also_to
  pub line : L v to
  pub also_line : L v also_to
  pub only : (u : ℕ) → L v u → (u ≡ to) ⊎ (u ≡ also_to)

-- JOINED: two pads in one chain of lines
pub data Joined (L : Relation) : ℕ → ℕ → Type 0 where
  here : {a : ℕ} → Joined L a a
  more : {a b c : ℕ} → L a b → Joined L b c → Joined L a c

-- A CLOSED LOOP, told by the family of its pads: there is one, and each has lines to two different pads of the family. Where no pad has
-- more than two lines, following them never ends and never leaves a finite board, so it closes; and the pads of a closed list of lines
-- are such a family (Loops.antt proves both).
pub record Loop (L : Relation) (Family : ℕ → Type 0) : Type 0 where
  pub pad : ℕ
  pub inside : Family pad
  pub two : (v : ℕ) → Family v → (a : ℕ) × (b : ℕ) × (a ≢ b) × Family a × Family b × L v a × L v b

-- THE ORDINARY RULES for the lines between pads: a clue pad has one line, a blank one none or two, a hole none; no closed loop; each
-- chain joins pads of equal code. (They are asked of every index; an index past the pads is blank and has no line, so nothing is asked there.)
pub record Wired (cell : ℕ → Cell) (L : Relation) : Type 1 where
  pub clue_one : (v code : ℕ) → cell v ≡ clue code → OneLine L v
  pub blank_none_or_two : (v : ℕ) → cell v ≡ blank → NoLine L v ⊎ TwoLines L v
  pub hole_none : (v : ℕ) → cell v ≡ hole → NoLine L v
  pub no_loop : (Family : ℕ → Type 0) → Loop L Family → ⊥
  pub equal_codes : (u v c d : ℕ) → cell u ≡ clue c → cell v ≡ clue d → Joined L u v → c ≡ d

-- ORDINARY: lines on the board, wired by these rules
pub record Ordinary (g : Grid) (D : Drawing) : Type 1 where
  pub placed : Placed g D
  pub wired : Wired g.cell (Line g.width D)

-- 1 for a line, 0 for none
abbrev pub num : Bool → ℕ
num true = 1
num false = 0

-- the lines in the unit square of pad v: above, on the left, on the right, below
abbrev pub square_lines : Grid → Drawing → ℕ → ℕ
square_lines g D v = num (D.right v) + num (D.down v) + num (D.down (v + 1)) + num (D.right (v + g.width))

-- the two sides of a pad; the corner rule is the same on both
pub data Side : Type 0 where
  on_left : Side
  on_right : Side

-- pad p has a line to that side
abbrev pub LineBeside : Side → Drawing → ℕ → Type 0
LineBeside on_right D p = D.right p ≡ true
LineBeside on_left D p = (u : ℕ) × (u + 1 ≡ p) × (D.right u ≡ true)

-- pad q stands diagonally below pad p, on that side
abbrev pub DiagonallyBelow : Side → ℕ → ℕ → ℕ → Type 0
DiagonallyBelow on_right width p q = q ≡ p + width + 1
DiagonallyBelow on_left width p q = q + 1 ≡ p + width

-- pad p has the two lines right+down, or left+down
abbrev pub Corner : Side → Drawing → ℕ → Type 0
Corner side D p = LineBeside side D p × (D.down p ≡ true)

abbrev pub IsClue : Grid → ℕ → Type 0
IsClue g v = (code : ℕ) × (g.cell v ≡ clue code)

abbrev pub NotBlank : Grid → ℕ → Type 0
NotBlank g v = g.cell v ≢ blank

-- LISTED: ordinary, at most two lines in each unit square, and a pad with right+down (left+down) lines has diagonally below it, on that
-- side, a pad that is not blank (a clue or a hole) or has the same two lines
pub record Listed (g : Grid) (D : Drawing) : Type 1 where
  pub ordinary : Ordinary g D
  pub squares : (v : ℕ) → UnitSquare g v → square_lines g D v ≤ 2
  pub corners : (side : Side) (p q : ℕ) → DiagonallyBelow side g.width p q → Corner side D p → NotBlank g q ⊎ Corner side D q

-- JOINS THE SAME PADS PAIR BY PAIR: two clue pads are joined in the one drawing exactly where they are joined in the other
abbrev pub SamePairs : Grid → Drawing → Drawing → Type 0
SamePairs g D E = (u v : ℕ) → IsClue g u → IsClue g v → Joined (Line g.width D) u v ↔ Joined (Line g.width E) u v

-- THE NUMBER OF LINES: how many of the edges named by the pads below n are lines
unfoldable pub count : (ℕ → Bool) → ℕ → ℕ
count f zero = 0
count f (suc n) = count f n + num (f n)

unfoldable pub number_of_lines : Grid → Drawing → ℕ
number_of_lines g D = count D.right (pads g) + count D.down (pads g)
