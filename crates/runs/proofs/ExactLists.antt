-- A run of an engine whose layouts are exact is what specs/ExactLists.antt says it is. It rests on Runs.antt.
use Rattle.std.specs.Prelude.{ℕ, ◌≤◌, ℤ}
use Rattle.std.proofs.Math.Path.{sym, ap, subst}
use Rattle.std.proofs.Common.{◌∙◌, arith}
use mathlib.Core.List.Memᴰ
use mathlib.Core.List.{List, ◌++◌, Memᴰ}
use Rattle.rules.specs.Grid.{places, Grid, grid_of, Accepted}
use Rattle.rules.specs.Record.{ListedRecord, record_lines}
use Rattle.rules.proofs.LineCount.{record_lines_of, lines_bound}
use Rattle.model.specs.Runs.{Event, Run, scan}
use Rattle.runs.specs.Events.{layouts_of, visits_of, layouts_append}
use Rattle.runs.specs.Runs.{RunSays, fewest_of}
use Rattle.runs.proofs.Runs.{run_says}
use Rattle.runs.specs.ExactLists.{Exact, ExactRun}

module _ (height width : ℕ) (cells : List ℤ) (accepted : Accepted height width cells) (events : List Event)
    (whole : Exact (grid_of height width cells) (layouts_of events)) (limit room : ℕ) where
  abbrev its_grid : Grid
  its_grid = grid_of height width cells

  abbrev its_run : Run
  its_run = scan limit (places height width) 0 room events

  says : RunSays limit (places height width) room events its_run
  says = run_says limit (places height width) events room

  listed : (bytes : List ℕ) → Memᴰ bytes its_run.records → ListedRecord its_grid bytes
  listed bytes m = whole.nothing_added bytes (rw (says.beginning, layouts_append says.done says.rest) (Memᴰ.append_left _ (rw says.records_are at m)))

  few : (bytes : List ℕ) → Memᴰ bytes its_run.records → record_lines bytes ≤ 480
  unfolding grid_of
  few bytes m = let r = listed bytes m in
      let placed = r.listed.ordinary.placed in
      let tall = accepted.height_in_range.0 in
      let wide = accepted.width_in_range.0 in
      let bound = lines_bound its_grid tall wide r.drawing placed accepted.height_in_range.1 accepted.width_in_range.1 in
      let same = ap record_lines r.shown ∙ record_lines_of its_grid tall wide r.drawing placed in
      omega (arith, bound, same)

  pub exact_run : ExactRun (grid_of height width cells) events limit room (scan limit (places height width) 0 room events)
  unfolding grid_of
  exact_run = record {
    stops_where = says;
    rest = layouts_of says.rest;
    beginning = ap (λ l. l ++ layouts_of says.rest) says.records_are ∙ sym (layouts_append says.done says.rest) ∙ ap layouts_of (sym says.beginning);
    nothing_added = listed;
    complete = λ o. subst (Exact its_grid) (sym (says.records_are ∙ ap layouts_of (says.complete_whole o))) whole;
    complete_visited = λ o. says.visited_is ∙ ap visits_of (says.complete_whole o);
    fewest_lines = fewest_of its_run.records few;
  }
