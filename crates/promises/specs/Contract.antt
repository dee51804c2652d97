-- WHAT THE CONTRACT OF AN ENGINE PROMISES beside the equation with the model, `solve` and `walk` alike: demands 2 and 3, for a run on an accepted
-- grid. It says what `Promised` (Promises.antt) says, in a type that a contract can hold: a closed loop is told by the list of its pads and not
-- by a family, which the rules prove to be the same (Loops.antt). So it is proved from `Promised` by that law alone.
use Rattle.std.specs.Prelude.{ℕ, ◌≤◌, ◌≡◌, ◌↔◌, ◌≢◌, ◌⊎◌, ℤ}
use mathlib.Core.List.{List, [], Memᴰ, map}
use Rattle.std.proofs.Common.{arith}
use Rattle.rules.specs.Grid.{Grid, grid_of, blank, clue, hole, UnitSquare, places, Accepted}
use Rattle.rules.specs.Drawing.{Drawing, Placed, Line, Joined, NoLine, OneLine, TwoLines, Ordinary, Listed, square_lines, Side, DiagonallyBelow, Corner, NotBlank, SamePairs, number_of_lines}
use Rattle.rules.specs.Loops.{ClosedList, no_loop_exactly}
use Rattle.rules.specs.Record.{record_of, record_lines, Ascending}
use Rattle.model.specs.Runs.{Event, Run, scan, fewest, no_fewest}
use Rattle.shortest.specs.Fewest.{Fewest}
use Rattle.runs.specs.Events.{layouts_of, Beginning, shown_codes, Distinct}
use Rattle.runs.specs.Runs.{RunSays}
use Rattle.runs.specs.ExactLists.{Exact}
use Rattle.promises.specs.Promises.{complete_list, Promised, promised_of}

-- AN ORDINARY DRAWING: lines on the board; a clue pad has one line, a blank one none or two, a hole none; no closed list of pads, each with a
-- line to the next and the last to the first; each chain joins pads of equal code
pub record OrdinaryDrawing (g : Grid) (D : Drawing) : Type 0 where
  pub placed : Placed g D
  pub clue_one : (v code : ℕ) → g.cell v ≡ clue code → OneLine (Line g.width D) v
  pub blank_none_or_two : (v : ℕ) → g.cell v ≡ blank → NoLine (Line g.width D) v ⊎ TwoLines (Line g.width D) v
  pub hole_none : (v : ℕ) → g.cell v ≡ hole → NoLine (Line g.width D) v
  pub no_loop : (list : List ℕ) → ClosedList (Line g.width D) list → ⊥
  pub equal_codes : (u v c d : ℕ) → g.cell u ≡ clue c → g.cell v ≡ clue d → Joined (Line g.width D) u v → c ≡ d

-- A LISTED DRAWING: ordinary, at most two lines in each unit square, and the corner rule
pub record ListedDrawing (g : Grid) (D : Drawing) : Type 0 where
  pub ordinary : OrdinaryDrawing g D
  pub squares : (v : ℕ) → UnitSquare g v → square_lines g D v ≤ 2
  pub corners : (side : Side) (p q : ℕ) → DiagonallyBelow side g.width p q → Corner side D p → NotBlank g q ⊎ Corner side D q

-- the drawings of the rules, no more and no fewer
module _ (g : Grid) (wide : 1 ≤ g.width) (D : Drawing) where
  pub to_ordinary : Ordinary g D → OrdinaryDrawing g D
  to_ordinary o = record {
    placed = o.placed;
    clue_one = o.wired.clue_one;
    blank_none_or_two = o.wired.blank_none_or_two;
    hole_none = o.wired.hole_none;
    no_loop = (no_loop_exactly g wide D o.placed).0 o.wired.no_loop;
    equal_codes = o.wired.equal_codes;
  }

  pub from_ordinary : OrdinaryDrawing g D → Ordinary g D
  from_ordinary o = record {
    placed = o.placed;
    wired = record {
      clue_one = o.clue_one;
      blank_none_or_two = o.blank_none_or_two;
      hole_none = o.hole_none;
      no_loop = (no_loop_exactly g wide D o.placed).1 o.no_loop;
      equal_codes = o.equal_codes;
    };
  }

  pub to_listed : Listed g D → ListedDrawing g D
  to_listed l = record { ordinary = to_ordinary l.ordinary; squares = l.squares; corners = l.corners }

  pub from_listed : ListedDrawing g D → Listed g D
  from_listed l = record { ordinary = from_ordinary l.ordinary; squares = l.squares; corners = l.corners }

pub record Promise (g : Grid) (events : List Event) (limit room : ℕ) (run : Run) : Type 0 where
  -- DEMAND 2. The complete list holds each listed layout exactly once, ascending, and nothing else.
  pub nothing_added : (bytes : List ℕ) → Memᴰ bytes (complete_list events) → (D : Drawing) × ListedDrawing g D × (bytes ≡ record_of g D)
  pub nothing_lost : (D : Drawing) → ListedDrawing g D → Memᴰ (record_of g D) (complete_list events)
  pub ascending : Ascending (map (shown_codes g) (complete_list events))
  pub each_once : Distinct (complete_list events)
  -- The engine stops early exactly where its count or the room runs out, and visited is its count.
  pub stops : RunSays limit (places g.height g.width) room events run
  -- Where the outcome is 0 the list is that complete one; a list that stopped early is a beginning of it.
  pub complete : run.outcome ≡ 0 → run.records ≡ complete_list events
  pub beginning : Beginning run.records (complete_list events)
  -- DEMAND 3. Nobody who draws by the ordinary rules can better a list that ended complete: it holds a layout that joins the same pads
  -- pair by pair with no more lines.
  pub matched : run.outcome ≡ 0 → (D : Drawing) → OrdinaryDrawing g D
      → (E : Drawing) × Memᴰ (record_of g E) run.records × ListedDrawing g E × SamePairs g D E × (number_of_lines g E ≤ number_of_lines g D)
  -- So it is empty exactly when no such drawing exists, and otherwise the fewest lines it reports is the fewest of all drawings.
  pub empty_exactly : run.outcome ≡ 0 → (run.records ≡ []) ↔ ((D : Drawing) → OrdinaryDrawing g D → ⊥)
  pub fewest_of_all : run.outcome ≡ 0 → run.records ≢ [] → Fewest (number_of_lines g) (OrdinaryDrawing g) (fewest run.records)
  -- The fewest lines are always those of a layout of this run, 481 for none.
  pub fewest_of_run : (run.records ≡ []) ⊎ Fewest record_lines (λ bytes. Memᴰ bytes run.records) (fewest run.records)
  pub fewest_none : run.records ≡ [] → fewest run.records ≡ no_fewest

pub promise_of : (g : Grid) (events : List Event) (limit room : ℕ) (run : Run) → 1 ≤ g.width → Promised g events limit room run → Promise g events limit room run
promise_of g events limit room run wide p = record {
  nothing_added = λ bytes m. let r = p.exactly_the_listed.nothing_added bytes m in (r.drawing, to_listed g wide r.drawing r.listed, r.shown);
  nothing_lost = λ D l. p.exactly_the_listed.nothing_lost D (from_listed g wide D l);
  ascending = p.exactly_the_listed.ascending;
  each_once = p.exactly_the_listed.each_once;
  stops = p.stops;
  complete = p.complete;
  beginning = p.beginning;
  matched = λ done D o. let (E, held, listed, same, fewer) = (p.not_bettered done).matched D (from_ordinary g wide D o) in (E, held, to_listed g wide E listed, same, fewer);
  empty_exactly = λ done. (
    (λ e D o. (p.not_bettered done).empty_exactly.0 e D (from_ordinary g wide D o)),
    (λ none. (p.not_bettered done).empty_exactly.1 (λ D o. none D (to_ordinary g wide D o))),
  );
  fewest_of_all = λ done some. let f = p.fewest_of_all done some in record
      { one = f.one; among = to_ordinary g wide f.one f.among; attained = f.attained; least = λ other o. f.least other (from_ordinary g wide other o) };
  fewest_of_run = p.fewest_of_run;
  fewest_none = p.fewest_none;
}

-- an engine whose layouts are exact keeps it
pub promise : (height width : ℕ) (cells : List ℤ) → Accepted height width cells → (events : List Event) → Exact (grid_of height width cells) (layouts_of events) → (limit room : ℕ)
    → Promise (grid_of height width cells) events limit room (scan limit (places height width) 0 room events)
unfolding grid_of
promise height width cells accepted events whole limit room =
    promise_of (grid_of height width cells) events limit room _ (let k = accepted.width_in_range.0 in omega arith) (promised_of height width cells accepted events whole limit room)
