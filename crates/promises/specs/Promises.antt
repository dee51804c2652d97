-- WHAT AN ENGINE PROMISES, demands 2 and 3 in one record that can be read beside the owner's words. It speaks of a run over the events of an
-- engine, with any limit and any room, on an accepted grid. An engine whose layouts are exact keeps it (`promised_of`); nothing here speaks of
-- how it finds them. For the search that is the crate exact. The proofs cite that nobody draws better than the listed layouts (crate shortest).
use Rattle.std.specs.Prelude.{ℕ, ◌≡◌, ◌≢◌, ◌⊎◌, ℤ}
use Rattle.std.proofs.Math.Path.{sym}
use Rattle.std.proofs.Common.{◌∙◌, ap}
use Rattle.std.proofs.Math.Logic.{⊎_elim, ⊎_map}
use mathlib.Core.List.{List, [], Memᴰ}
use Rattle.rules.specs.Grid.{Grid, grid_of, places, Accepted}
use Rattle.rules.specs.Drawing.{Ordinary, number_of_lines}
use Rattle.rules.specs.Record.{record_lines}
use Rattle.model.specs.Runs.{Event, Run, scan, fewest, no_fewest}
use Rattle.model.specs.Search.{search}
use Rattle.shortest.specs.Shortest.{NotBettered}
use Rattle.shortest.proofs.Shortest.{whole_list_not_bettered}
use Rattle.shortest.specs.Fewest.{Fewest}
use Rattle.runs.specs.Events.{layouts_of, Beginning}
use Rattle.rules.specs.ProperGrid.{accepted_proper}
use Rattle.runs.specs.ExactLists.{Exact, ExactRun}
use Rattle.runs.proofs.ExactLists.{exact_run}
use Rattle.exact.specs.Exact.{exact}
use Rattle.runs.specs.Runs.{RunSays}

-- the complete list: the layouts of the engine with no limit
abbrev pub complete_list : List Event → List (List ℕ)
complete_list events = layouts_of events

pub record Promised (g : Grid) (events : List Event) (limit room : ℕ) (run : Run) : Type 1 where
  -- DEMAND 2. The complete list holds each listed layout exactly once, ascending, and nothing else.
  pub exactly_the_listed : Exact g (complete_list events)
  -- The engine stops early exactly where its count or the room runs out, and visited is its count.
  pub stops : RunSays limit (places g.height g.width) room events run
  -- Where the outcome is 0 the list is that complete one; a list that stopped early is a beginning of it.
  pub complete : run.outcome ≡ 0 → run.records ≡ complete_list events
  pub beginning : Beginning run.records (complete_list events)
  -- DEMAND 3. Nobody who draws by the ordinary rules can better a list that ended complete: it holds a layout that joins the same pads
  -- pair by pair with no more lines, so it is empty exactly when no such drawing exists.
  pub not_bettered : run.outcome ≡ 0 → NotBettered g run.records
  -- The fewest lines it reports are those of a layout of this run, 481 for none; complete and not empty, the fewest of all drawings.
  pub fewest_of_run : (run.records ≡ []) ⊎ Fewest record_lines (λ bytes. Memᴰ bytes run.records) (fewest run.records)
  pub fewest_none : run.records ≡ [] → fewest run.records ≡ no_fewest
  pub fewest_of_all : run.outcome ≡ 0 → run.records ≢ [] → Fewest (number_of_lines g) (Ordinary g) (fewest run.records)

module _ (height width : ℕ) (cells : List ℤ) (accepted : Accepted height width cells) (events : List Event)
    (whole : Exact (grid_of height width cells) (complete_list events)) (limit room : ℕ) where
  abbrev the_grid : Grid
  the_grid = grid_of height width cells

  abbrev the_run : Run
  the_run = scan limit (places height width) 0 room events

  its_run : ExactRun the_grid events limit room the_run
  its_run = exact_run height width cells accepted events whole limit room

  is_complete : the_run.outcome ≡ 0 → the_run.records ≡ complete_list events
  is_complete done = its_run.stops_where.records_are ∙ ap layouts_of (its_run.stops_where.complete_whole done)

  run_not_bettered : the_run.outcome ≡ 0 → NotBettered the_grid the_run.records
  run_not_bettered done = rw (is_complete done) (unfold grid_of in
      (whole_list_not_bettered the_grid accepted.height_in_range.0 accepted.width_in_range.0 (complete_list events)
      (record { every = whole.nothing_lost; only = whole.nothing_added })))

  run_fewest : (the_run.records ≡ []) ⊎ Fewest record_lines (λ bytes. Memᴰ bytes the_run.records) (fewest the_run.records)
  run_fewest = ⊎_map (λ e. e) (λ (r, held, at). record { one = r; among = held; attained = sym at; least = its_run.fewest_lines.no_fewer })
      its_run.fewest_lines.reached

  pub promised_of : Promised the_grid events limit room the_run
  promised_of = unfold grid_of in (record {
    exactly_the_listed = whole;
    stops = its_run.stops_where;
    complete = is_complete;
    beginning = record { rest = its_run.rest; parted = sym its_run.beginning };
    not_bettered = run_not_bettered;
    fewest_of_run = run_fewest;
    fewest_none = its_run.fewest_lines.none;
    fewest_of_all = λ done some. ⊎_elim (λ e. absurd (some e)) ((run_not_bettered done).fewest_exactly (fewest the_run.records)).0 run_fewest;
  })

-- THE SEARCH keeps it
pub promised : (height width : ℕ) (cells : List ℤ) → Accepted height width cells → (limit room : ℕ)
    → Promised (grid_of height width cells) (search (grid_of height width cells)) limit room (scan limit (places height width) 0 room (search (grid_of height width cells)))
promised height width cells accepted limit room =
    promised_of height width cells accepted (search (grid_of height width cells)) (exact (grid_of height width cells) (accepted_proper height width cells accepted)) limit room
