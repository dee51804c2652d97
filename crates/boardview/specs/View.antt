-- What the board's lent arrays show of the model's state, and what a function of the decision promises about them. The arrays are lists
-- here: a byte for each edge, an end number for each pad, the log of decided edges, and a count that holds the log's length and the flag.
-- It rests on the model's Board.antt. Nothing is proved in this file.
use Rattle.std.specs.Prelude.{ℕ, zero, suc, ◌+◌, ◌*◌, ◌-◌, ◌%◌, ◌/◌, ◌≤◌, ◌<◌, ◌≡◌, Bool, true, false, ◌&&◌, ◌||◌, not, List, [], ◌∷◌, eqb, ltb, leb, get_or, set, length, ℤ, pos, negsuc, nat_abs}
use Rattle.rules.specs.Grid.{Edge, right, down, Grid, pads}
use Rattle.rules.specs.Drawing.{num, Side, on_left, on_right}
use Rattle.model.specs.JoinedEnds.{End, through, at_pad, at_clue, is_through}
use Rattle.model.specs.PadTests.{has_down, on_board}
use Rattle.boardview.specs.declared.Arrays.{Arrays}
use Rattle.boardview.specs.declared.kinds.Kinds.{Kinds}
use Rattle.boardview.specs.Told.{pick, has_bit, clue_bit, grid_told, bytes_equal}
use Rattle.model.specs.Board.{EdgeState, undecided, line, none, State, Item, detour, corner, bar, check_pad, keep_apart, when, has_side, barred, do_item, settled, decide, check, Decide, Check}

-- THE COUNT: the log's length, plus 1024 if the flag is set, plus 2048 if the flag is set and the decision has ended.
abbrev pub logged : Arrays → ℕ
logged s = s.count % 1024

abbrev pub flag_in : ℕ → Bool
flag_in count = leb 1024 count

abbrev pub ended_in : ℕ → Bool
ended_in count = leb 2048 count

-- the flag is set and the decision has ended
abbrev pub stopped : ℕ → ℕ
stopped count = count % 1024 + 2048

-- the decision has ended if the flag is set
unfoldable pub ended : ℕ → ℕ
ended count = pick (ltb count 1024) count (stopped count)

-- the decision goes on, whether the flag is set or not
unfoldable pub going : ℕ → ℕ
going count = pick (ltb count 2048) count (count - 1024)

-- the count of a new log: no entry, and the flag as it was; where it is set, the decision has ended
unfoldable pub restarted : ℕ → ℕ
restarted count = pick (ltb count 1024) 0 2048

-- the same arrays with this count
abbrev pub with_count : Arrays → ℕ → Arrays
with_count s c = record { edges = s.edges; ends = s.ends; log = s.log; count = c }

-- SLOTS: the byte of an edge stands here; 32 bytes before the first edge hold none for ever.
abbrev pub slot : Edge → ℕ
slot (right v) = 32 + 2 * v
slot (down v) = 33 + 2 * v

-- the edge of a slot
unfoldable pub edge_of : ℕ → Edge
edge_of s = pick (eqb (s % 2) 0) (right (s / 2 - 16)) (down (s / 2 - 16))

-- the slot is one of an edge of the board
unfoldable pub slot_on : Grid → ℕ → Bool
slot_on g s = leb 32 s && on_board g (edge_of s)

-- the state that a byte stands for
unfoldable pub state_of : ℕ → EdgeState
state_of byte = pick (eqb byte 0) undecided (pick (eqb byte 1) line none)

-- the end that a number stands for
unfoldable pub end_of : ℤ → End
end_of (pos v) = at_pad v
end_of (negsuc zero) = through
end_of (negsuc (suc code)) = at_clue code

abbrev pub end_at : List ℤ → ℕ → End
end_at ends v = end_of (get_or ends v (pos v))

-- THE VIEW: the state that the arrays show.
unfoldable pub view : Arrays → State
view s = record { edge = λ e. state_of (get_or s.edges (slot e) 2); end = λ v. end_at s.ends v; flag = flag_in s.count }

-- THE GRID that the kinds tell of: its sizes, and which pads are blank, clues or holes
abbrev pub grid_in : Kinds → Grid
grid_in kinds = grid_told kinds.height kinds.width kinds.bits

-- the slot of the edge on a side of a pad: 0 left, 1 right, 2 up, 3 down
unfoldable pub slot_around : ℕ → ℕ → ℕ → ℕ
slot_around width v side = pick (eqb side 0) (30 + 2 * v) (pick (eqb side 1) (32 + 2 * v) (pick (eqb side 2) (33 + 2 * v - 2 * width) (33 + 2 * v)))

-- the number of undecided edges
unfoldable pub undecided_in : List ℕ → ℕ
undecided_in [] = 0
undecided_in (byte ∷ bytes) = pick (eqb byte 0) (suc (undecided_in bytes)) (undecided_in bytes)

-- THE LOG has an entry of three numbers for each decided edge: its slot, and the two ends where the line joined two chains; -1 in their
-- place where it joined none. Undoing an entry: the edge is undecided again; the edge's two pads get back their ends, and the pads that
-- these ends name (which are the ends of those pads: READY below, paired) get back the edge's pads.
abbrev pub second_pad : ℕ → ℕ → ℕ
second_pad width s = pick (eqb (s % 2) 0) (s / 2 - 15) (s / 2 - 16 + width)

-- the number of the pad that an end names, if it names one, is changed
unfoldable pub put_number : End → ℤ → List ℤ → List ℤ
put_number through z ends = ends
put_number (at_clue code) z ends = ends
put_number (at_pad a) z ends = set ends a z

-- step c on the list: both pads get -1, then pad A (if there is one) gets B and pad B gets A
unfoldable pub joined : ℕ → ℕ → List ℤ → List ℤ
joined v q ends = put_number (end_at ends q) (get_or ends v (pos v)) (put_number (end_at ends v) (get_or ends q (pos q)) (set (set ends v (negsuc 0)) q (negsuc 0)))

unfoldable pub unjoined : ℕ → ℕ → ℤ → ℤ → List ℤ → List ℤ
unjoined v q A B ends = pick (is_through (end_of A)) ends (put_number (end_of B) (pos q) (put_number (end_of A) (pos v) (set (set ends v A) q B)))

abbrev pub slot_logged : List ℤ → ℕ → ℕ
slot_logged log k = nat_abs (get_or log (3 * k) (pos 0))

unfoldable pub undone_one : ℕ → List ℤ → ℕ → List ℕ × List ℤ → List ℕ × List ℤ
undone_one width log k E = (
  set E.0 (slot_logged log k) 0,
  unjoined (slot_logged log k / 2 - 16) (second_pad width (slot_logged log k)) (get_or log (3 * k + 1) (pos 0)) (get_or log (3 * k + 2) (pos 0)) E.1,
)

-- edges and ends after the last `more` entries of a log of length `least + more` are undone
unfoldable pub unwound : ℕ → List ℤ → ℕ → ℕ → List ℕ × List ℤ → List ℕ × List ℤ
unwound width log least zero E = E
unwound width log least (suc more) E = unwound width log least more (undone_one width log (least + more) E)

-- an entry that can be undone: its slot is of an edge of the board, and the pads that its ends name are pads
pub record Entry (g : Grid) (log : List ℤ) (k : ℕ) : Type 0 where
  pub number : get_or log (3 * k) (pos 0) ≡ pos (slot_logged log k)
  pub on : slot_on g (slot_logged log k) ≡ true
  pub first : (a : ℕ) → end_of (get_or log (3 * k + 1) (pos 0)) ≡ at_pad a → a < pads g
  pub second : is_through (end_of (get_or log (3 * k + 1) (pos 0))) ≡ false → (b : ℕ) → end_of (get_or log (3 * k + 2) (pos 0)) ≡ at_pad b → b < pads g

-- READY: what is true of the arrays of every board.
pub record Ready (g : Grid) (s : Arrays) : Type 0 where
  pub edges_long : length s.edges ≡ 1024
  pub ends_long : length s.ends ≡ 512
  pub log_long : length s.log ≡ 1440
  pub least_width : 2 ≤ g.width
  pub largest_width : g.width ≤ 16
  pub few_pads : pads g ≤ 256
  pub mode : s.count < 3072
  pub room : logged s + undecided_in s.edges ≤ 480
  pub entries : (k : ℕ) → k < logged s → Entry g s.log k
  pub bytes : (n : ℕ) → get_or s.edges n 2 ≤ 2
  pub rim : (n : ℕ) → n < 1024 → slot_on g n ≡ false → get_or s.edges n 0 ≡ 2
  pub near : (v w : ℕ) → v < pads g → end_at s.ends v ≡ at_pad w → w < pads g
  pub paired : (v w : ℕ) → end_at s.ends v ≡ at_pad w → end_at s.ends w ≡ at_pad v

-- SINCE: the log of s' is that of s with more entries, and undoing these gives back the edges and ends of s.
pub record Since (width : ℕ) (s s' : Arrays) : Type 0 where
  pub more : ℕ
  pub longer : logged s' ≡ logged s + more
  pub kept : (i : ℕ) → i < 3 * logged s → get_or s'.log i (pos 0) ≡ get_or s.log i (pos 0)
  pub back : unwound width s'.log (logged s) more (s'.edges, s'.ends) ≡ (s.edges, s.ends)

-- WHAT A DECISION OF ONE EDGE PROMISES.
pub record Decided (g : Grid) (s : Arrays) (e : Edge) (m : EdgeState) (s' : Arrays) : Type 0 where
  pub same : (f : ℕ) → 2 * undecided_in s.edges < f → view s' ≡ decide g f e m (view s)
  pub ends_if_flagged : ended_in s'.count ≡ flag_in s'.count
  pub fewer : undecided_in s'.edges ≤ undecided_in s.edges
  pub ready : Ready g s'
  pub since : Since g.width s s'

-- ITEMS IN A ROW, which do nothing once the decision has ended.
unfoldable pub then : Grid → Decide → Check → Item → State × Bool → State × Bool
then g dec chk it P = pick P.1 P (do_item g dec chk it P.0)

unfoldable pub in_a_row : Grid → Decide → Check → List Item → State × Bool → State × Bool
in_a_row g dec chk [] P = P
in_a_row g dec chk (it ∷ is) P = in_a_row g dec chk is (then g dec chk it P)

abbrev pub shown : Arrays → State × Bool
shown s = (view s, ended_in s.count)

-- WHAT A PART OF A DECISION PROMISES: these items have been done. `rank` is 1 where a pad check may be among them.
pub record Done (g : Grid) (rank : ℕ) (s : Arrays) (is : List Item) (s' : Arrays) : Type 0 where
  pub same : (f : ℕ) → 2 * undecided_in s.edges + rank < f → shown s' ≡ in_a_row g (decide g f) (check g f) is (shown s)
  pub fewer : undecided_in s'.edges ≤ undecided_in s.edges
  pub ready : Ready g s'
  pub since : Since g.width s s'

-- THE ITEMS that the functions do, by slots: nothing where the first slot is off the board.
unfoldable pub detour_at : Grid → ℕ → ℕ → ℕ → List Item
detour_at g a b c = when (slot_on g a) (detour (edge_of a) (edge_of b) (edge_of c) ∷ [])

-- the pad that an end names, or 512
unfoldable pub pad_number : End → ℕ
pad_number through = 512
pad_number (at_pad a) = a
pad_number (at_clue code) = 512

-- the edge beside a pad on that side
abbrev pub beside : Side → ℕ → Edge
beside on_right q = right q
beside on_left q = right (q - 1)

unfoldable pub corner_at : Grid → Side → ℕ → ℕ → List Item
corner_at g side q a = when (slot_on g a) (corner q (edge_of a) (has_down g q && has_side g side q) (beside side q) (down q) ∷ [])

unfoldable pub bar_at : Grid → Bool → ℕ → List Item
bar_at g barred s = when (slot_on g s) (bar barred (edge_of s) ∷ [])

-- a pad number of 512 or more stands for no pad
unfoldable pub check_at : ℕ → List Item
check_at v = when (ltb v 512) (check_pad v ∷ [])

-- THE PAD CHECK by slots. The number of a clue's end is 1 more than its code, of another end it is 0.
unfoldable pub code_number : End → ℕ
code_number through = 0
code_number (at_pad a) = 0
code_number (at_clue code) = suc code

-- both are ends of clues, and of different ones
unfoldable pub rival : ℕ → ℕ → Bool
rival a b = pick (eqb b 0) false (not (eqb a b))

-- the edge at a slot is to be none, since it is undecided and leads to pad u, whose end is of another clue than a
unfoldable pub keeps_apart : List ℕ → List ℤ → ℕ → ℕ → ℕ → Bool
keeps_apart edges ends a s u = pick (eqb (get_or edges s 0) 0) (rival a (code_number (end_at ends u))) false

-- one of the four edges at a pad is to be none
unfoldable pub some_apart : List ℕ → List ℤ → ℕ → ℕ → ℕ → Bool
some_apart edges ends width a v = keeps_apart edges ends a (30 + 2 * v) (v - 1) || (keeps_apart edges ends a (32 + 2 * v) (v + 1)
    || (keeps_apart edges ends a (33 + 2 * v - 2 * width) (v - width) || keeps_apart edges ends a (33 + 2 * v) (v + width)))

-- the pad's end is of a clue, and one of the four edges is to be none
unfoldable pub clue_apart : List ℕ → List ℤ → ℕ → ℕ → Bool
clue_apart edges ends width v = pick (eqb (code_number (end_at ends v)) 0) false (some_apart edges ends width (code_number (end_at ends v)) v)

unfoldable pub keep_at : Grid → ℕ → ℕ → ℕ → List Item
keep_at g code s u = when (slot_on g s) (keep_apart code (edge_of s) u ∷ [])

-- how many of the four edges at a pad hold a byte
unfoldable pub edges_around : List ℕ → ℕ → ℕ → ℕ → ℕ
edges_around edges width v byte = bytes_equal (get_or edges (30 + 2 * v) 0) (get_or edges (32 + 2 * v) 0) (get_or edges (33 + 2 * v - 2 * width) 0) (get_or edges (33 + 2 * v) 0) byte

-- the undecided edges at a pad, its degree, its first undecided edge
abbrev pub undecided_around : List ℕ → ℕ → ℕ → ℕ
undecided_around edges width v = edges_around edges width v 0

unfoldable pub degree_around : List ℕ → List ℕ → ℕ → ℕ → ℕ
degree_around bits edges width v = num (has_bit bits v clue_bit) + edges_around edges width v 1

unfoldable pub first_around : List ℕ → ℕ → ℕ → ℕ
first_around edges width v = pick (eqb (get_or edges (30 + 2 * v) 0) 0) (30 + 2 * v) (pick (eqb (get_or edges (32 + 2 * v) 0) 0) (32 + 2 * v) (pick (eqb (get_or edges (33 + 2 * v - 2 * width) 0) 0) (33 + 2 * v - 2 * width) (33 + 2 * v)))

-- what the pad check does last: 0 nothing, 1 the flag, a slot: a line there, 1024 + a slot: none there
unfoldable pub action_around : List ℕ → List ℕ → ℕ → ℕ → ℕ
action_around bits edges width v = pick (ltb 2 (degree_around bits edges width v)) 1
    (pick (eqb (undecided_around edges width v) 0) (pick (eqb (degree_around bits edges width v) 1) 1 0)
    (pick (eqb (degree_around bits edges width v) 2) (first_around edges width v + 1024)
    (pick (eqb (undecided_around edges width v) 1) (pick (eqb (degree_around bits edges width v) 1) (first_around edges width v) (first_around edges width v + 1024)) 0)))

-- none at a slot: a decision on the board, nothing off it
pub record NoneAt (g : Grid) (s : Arrays) (n : ℕ) (s' : Arrays) : Type 0 where
  pub acts : slot_on g n ≡ true → Decided g s (edge_of n) none s'
  pub rests : slot_on g n ≡ false → (s'.edges ≡ s.edges) × (s'.ends ≡ s.ends) × (s'.log ≡ s.log)

-- the last part of a pad check
pub record Settled (g : Grid) (s : Arrays) (v : ℕ) (s' : Arrays) : Type 0 where
  pub same : (f : ℕ) → 2 * undecided_in s.edges < f → view s' ≡ settled g (decide g f) v (view s)
  pub ends_if_flagged : ended_in s'.count ≡ flag_in s'.count
  pub fewer : undecided_in s'.edges ≤ undecided_in s.edges
  pub ready : Ready g s'
  pub since : Since g.width s s'
