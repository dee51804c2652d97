-- DEMAND 2 on the model, for every grid of every accepted size and code, with holes or without. The layouts of the search are, as records, each listed layout
-- exactly once, ascending by codes, and nothing else (what a run with a limit and room then gives: runs' ExactLists.antt); and no decision of
-- any caller loses a listed layout or leaves a board that is not at rest.
-- The definitions are those of the rules and of the model; this file rests on SearchLists.antt and propagation's Standing.antt.
use Rattle.std.specs.Prelude.{ℕ, ◌≡◌, true, false, List, length, ℤ}
use Rattle.rules.specs.Grid.{places, Grid, grid_of, Accepted}
use Rattle.rules.specs.Drawing.{Drawing, Listed}
use Rattle.rules.specs.ProperGrid.{Proper, accepted_proper}
use Rattle.model.specs.Board.{fresh}
use Rattle.model.specs.Calls.{Board}
use Rattle.model.specs.Refusals.{grid_refusal}
use Rattle.model.specs.Runs.{scan, solved, declined_search}
use Rattle.model.specs.Search.{search, solve}
use Rattle.propagation.specs.BoardAtRest.{BoardAtRest, board_at_rest}
use Rattle.propagation.specs.Agreement.{Agrees}
use Rattle.propagation.specs.Decisions.{Decision, AgreesWith}
use Rattle.propagation.specs.Preparing.{HolesShut}
use Rattle.propagation.proofs.Preparing.{agrees_with_fresh}
use Rattle.propagation.specs.Standing.{at_rest, holes_shut}
use Rattle.propagation.proofs.Standing.{decisions_sound, flag_means_none}
use Rattle.propagation.specs.BoardCalls.{Made}
use Rattle.runs.specs.Events.{layouts_of, shown_codes, ascending_distinct}
use Rattle.runs.specs.Branches.{Lists}
use Rattle.runs.specs.ExactLists.{Exact, ExactRun, call_is_run, call_is_declined}
use Rattle.runs.proofs.ExactLists.{exact_run}
use Rattle.exact.specs.SearchLists.{search_lists}

-- the layouts of the search with no limit
pub exact : (g : Grid) → Proper g → Exact g (layouts_of (search g))
exact g p = record {
  nothing_added = λ bytes m. let (D, listed, agrees, shown) = found.truly bytes m in record { drawing = D; listed = listed; shown = shown };
  nothing_lost = λ D listed. found.wholly D listed (agrees_with_fresh g p D listed).1;
  ascending = found.ascending;
  each_once = ascending_distinct (shown_codes g) (layouts_of (search g)) found.ascending;
}
  where
    found : Lists g (λ D. Agrees D (fresh g)) (search g)
    found = search_lists g p

-- A RUN OF THE SEARCH of an accepted grid, with any limit and any room
pub search_run : (height width : ℕ) (cells : List ℤ) → Accepted height width cells → (limit room : ℕ)
    → ExactRun (grid_of height width cells) (search (grid_of height width cells)) limit room (scan limit (places height width) 0 room (search (grid_of height width cells)))
search_run height width cells accepted limit room =
    exact_run height width cells accepted (search (grid_of height width cells)) (exact (grid_of height width cells) (accepted_proper height width cells accepted)) limit room

-- SOLVE of an accepted grid is such a run, with the answer buffer as room: nothing is refused
pub solve_is_run : (height width : ℕ) (cells : List ℤ) → Accepted height width cells → (limit : ℕ) (buffer : List ℕ)
    → solve height width cells limit buffer ≡ solved (scan limit (places height width) 0 (length buffer) (search (grid_of height width cells))) buffer
unfolding solve
solve_is_run height width cells accepted limit buffer = call_is_run (λ g. search g) height width cells accepted limit buffer

-- and of a grid that is refused it is a declined search
pub solve_is_declined : (height width : ℕ) (cells : List ℤ) → ((grid_refusal height width cells).0 ≡ 0 → ⊥) → (limit : ℕ) (buffer : List ℕ)
    → solve height width cells limit buffer ≡ declined_search (grid_refusal height width cells).0 (grid_refusal height width cells).1 buffer
unfolding solve
solve_is_declined height width cells refused limit buffer = call_is_declined (λ g. search g) height width cells refused limit buffer

-- ANY CALLER: a board as the calls hand it out, with the decisions standing now
pub record SoundBoard (b : Board) (now : List Decision) : Type 1 where
  -- with a clear flag it is at rest: every pad, every unit square, every corner, and the ends say what they should
  pub at_rest : b.state.flag ≡ false → BoardAtRest b.grid b.state
  -- and each edge at a hole is none
  pub holes_shut : b.state.flag ≡ false → HolesShut b.grid b.state
  -- a listed layout that agrees with the decisions standing agrees with every decided edge, and the flag is clear
  pub nothing_lost : (D : Drawing) → Listed b.grid D → AgreesWith D now → (b.state.flag ≡ false) × Agrees D b.state
  -- a set flag means that no listed layout agrees with them
  pub flag_means_none : b.state.flag ≡ true → (D : Drawing) → Listed b.grid D → AgreesWith D now → ⊥

pub sound_board : (b : Board) (now : List Decision) (then : List (List Decision)) → Made b now then → SoundBoard b now
sound_board b now then made = record {
  at_rest = λ clear. board_at_rest b.grid made.grid_proper.wide b.state (at_rest b.grid made.grid_proper made.now_stand clear);
  holes_shut = holes_shut b.grid made.grid_proper made.now_stand;
  nothing_lost = decisions_sound b.grid made.grid_proper made.now_stand;
  flag_means_none = flag_means_none b.grid made.grid_proper made.now_stand;
}
