-- THE TWO ENGINES AGREE. `engines_agree`: where the slow walk through every code and the search both end complete, for one grid, they answer the
-- same: number, index, layouts and fewest, and the same records in the same order, byte for byte. It is said of the two calls as a caller sees
-- them, for any grid, refused ones too, any two limits and any two buffers, whatever these held before. Also here: the walk keeps every promise of
-- Promises.antt, and what the judge marks 2 is exactly what a complete walk holds. The walk's half rests on the crate `everycode`, which knows
-- nothing of boards and propagation, the search's on the crate `exact`; that they meet is that a grid has one exact list (runs' ExactLists.antt).
use Rattle.std.specs.Prelude.{ℕ, ◌*◌, ◌≤◌, ◌<◌, ◌≡◌, refl, ◌↔◌, length, take, get_or, ℤ}
use Rattle.std.proofs.Common.{sym, ap, ◌∙◌, arith, zero-mul, length-append, take_at}
use Rattle.std.proofs.Math.Logic.Iff
use mathlib.Core.List.Memᴰ
use mathlib.Core.List.{List, [], ◌++◌, Memᴰ}
use Rattle.std.proofs.Math.Decide.{ℕ_discrete}
use Rattle.rules.specs.Grid.{Grid, grid_of, places, Accepted}
use Rattle.rules.specs.ProperGrid.{accepted_proper}
use Rattle.rules.specs.Record.{tabulate, ListedRecord}
use Rattle.rules.specs.RecordLaws.{get_or_from_zero}
use Rattle.model.specs.Refusals.{grid_refusal}
use Rattle.model.specs.RefusalLaws.{not_refused}
use Rattle.model.specs.Records.{record_at}
use Rattle.model.specs.HasRecord.{concat_length}
use Rattle.model.specs.Runs.{Run, scan, concat, Solved}
use Rattle.model.specs.Search.{search, solve}
use Rattle.model.specs.Judge.{verdict}
use Rattle.model.specs.Walk.{every_code, walk}
use Rattle.ruletest.specs.Verdict.{listed_verdict}
use Rattle.runs.specs.Events.{layouts_of}
use Rattle.runs.specs.ExactLists.{Exact, exact_same}
use Rattle.runs.proofs.HeldRecords as held
use Rattle.runs.specs.HeldRecords.{Holds}
use Rattle.exact.specs.Exact.{search_run, solve_is_run, solve_is_declined}
use Rattle.everycode.specs.EveryCode.{every_code_exact, walk_run, walk_is_run, walk_is_declined}
use Rattle.promises.specs.Promises.{Promised, promised_of}
use Rattle.promises.specs.HeldRecords.{records_left}

-- THE WALK KEEPS EVERY PROMISE of an engine
pub walk_promised : (height width : ℕ) (cells : List ℤ) → Accepted height width cells → (limit room : ℕ)
    → Promised (grid_of height width cells) (every_code (grid_of height width cells)) limit room (scan limit (places height width) 0 room (every_code (grid_of height width cells)))
walk_promised height width cells accepted limit room =
    promised_of height width cells accepted (every_code (grid_of height width cells)) (every_code_exact (grid_of height width cells) (accepted_proper height width cells accepted)) limit room

-- what the buffer of a walk holds: runs' HeldRecords.antt, for `walk`
module _ (height width : ℕ) (cells : List ℤ) (accepted : Accepted height width cells) (limit : ℕ) (buffer : List ℕ) where
  abbrev g : Grid
  g = grid_of height width cells

  abbrev walked : Solved
  walked = walk height width cells limit buffer

  abbrev walk_records : List (List ℕ)
  walk_records = (scan limit (places height width) 0 (length buffer) (every_code (grid_of height width cells))).records

  whole : Exact g (layouts_of (every_code g))
  whole = every_code_exact g (accepted_proper height width cells accepted)

  walk_records_long : (r : List ℕ) → Memᴰ r walk_records → length r ≡ places height width
  walk_records_long = held.records_long (λ g. every_code g) height width cells accepted whole limit buffer

  walk_records_left : tabulate (λ k. record_at height width walked.layouts k walked.buffer) 0 walked.layouts ≡ walk_records
  unfolding walk
  walk_records_left = held.records_left (λ g. every_code g) height width cells accepted whole limit buffer

  walk_held_exactly : (bytes : List ℕ) → Holds height width walked bytes ↔ Memᴰ bytes walk_records
  unfolding walk
  walk_held_exactly = held.held_exactly (λ g. every_code g) height width cells accepted whole limit buffer

  -- WHAT THE JUDGE MARKS 2 is exactly what a complete walk holds
  module _ (complete : (walk height width cells limit buffer).outcome ≡ 0) (bytes : List ℕ) where
    listed_walked : ListedRecord g bytes ↔ Memᴰ bytes walk_records
    listed_walked = let all = (walk_run height width cells accepted limit (length buffer)).complete (rw (walk_is_run height width cells accepted limit buffer) at complete) in
        ((λ l. Memᴰ.cast l.shown (all.nothing_lost l.drawing l.listed)), all.nothing_added bytes)

    pub walk_holds : (verdict (grid_of height width cells) bytes ≡ 2) ↔ Holds height width (walk height width cells limit buffer) bytes
    walk_holds = Iff.trans (Iff.trans (listed_verdict g (accepted_proper height width cells accepted) bytes) listed_walked) (Iff.symm (walk_held_exactly bytes))

-- ONE LIST, in two results with their buffers
pub record SameList (height width : ℕ) (walked searched : Solved) : Type 0 where
  pub number : walked.number ≡ searched.number
  pub index : walked.index ≡ searched.index
  pub layouts : walked.layouts ≡ searched.layouts
  pub fewest_lines : walked.fewest_lines ≡ searched.fewest_lines
  -- the records lie in both buffers, and they are the same bytes
  pub in_buffers : (walked.layouts * places height width ≤ length walked.buffer) × (walked.layouts * places height width ≤ length searched.buffer)
  pub same_bytes : take (walked.layouts * places height width) walked.buffer ≡ take (walked.layouts * places height width) searched.buffer
  -- record by record
  pub same_records : (k : ℕ) → k < walked.layouts → record_at height width walked.layouts k walked.buffer ≡ record_at height width searched.layouts k searched.buffer

module _ (height width : ℕ) (cells : List ℤ) (limit limit' : ℕ) (buffer buffer' : List ℕ) where
  abbrev by_walk : Solved
  by_walk = walk height width cells limit buffer

  abbrev by_search : Solved
  by_search = solve height width cells limit' buffer'

  -- a refused grid is declined by both, with the same number and index
  both_declined : ((grid_refusal height width cells).0 ≡ 0 → ⊥) → SameList height width by_walk by_search
  both_declined refused = rw (walk_is_declined height width cells refused limit buffer, solve_is_declined height width cells refused limit' buffer') (record {
    number = refl;
    index = refl;
    layouts = refl;
    fewest_lines = refl;
    in_buffers = rw zero-mul (omega arith, omega arith);
    same_bytes = rw zero-mul refl;
    same_records = λ k below. absurd (omega (arith, below));
  })

  -- an accepted one has one exact list, and both runs have it
  module _ (accepted : Accepted height width cells) (walk_complete : (walk height width cells limit buffer).outcome ≡ 0)
      (search_complete : (solve height width cells limit' buffer').outcome ≡ 0) where
    abbrev the_walk : Run
    the_walk = scan limit (places height width) 0 (length buffer) (every_code (grid_of height width cells))

    abbrev the_search : Run
    the_search = scan limit' (places height width) 0 (length buffer') (search (grid_of height width cells))

    one_list : the_search.records ≡ the_walk.records
    one_list = exact_same (grid_of height width cells) the_search.records the_walk.records
        ((search_run height width cells accepted limit' (length buffer')).complete (rw (solve_is_run height width cells accepted limit' buffer') at search_complete))
        ((walk_run height width cells accepted limit (length buffer)).complete (rw (walk_is_run height width cells accepted limit buffer) at walk_complete))

    same_layouts : by_walk.layouts ≡ by_search.layouts
    same_layouts = rw (walk_is_run height width cells accepted limit buffer, solve_is_run height width cells accepted limit' buffer', one_list) refl

    its_length : length (concat the_walk.records) ≡ length the_walk.records * places height width
    its_length = concat_length (places height width) the_walk.records (walk_records_long height width cells accepted limit buffer)

    list_fits : (rest : List ℕ) → length the_walk.records * places height width ≤ length (concat the_walk.records ++ rest)
    list_fits rest = rw length-append (omega (arith, its_length))

    list_bytes : (rest : List ℕ) → take (length the_walk.records * places height width) (concat the_walk.records ++ rest) ≡ concat the_walk.records
    list_bytes rest = take_at (concat the_walk.records) rest _ its_length

    both_complete : SameList height width by_walk by_search
    both_complete = record {
      number = rw (walk_is_run height width cells accepted limit buffer, solve_is_run height width cells accepted limit' buffer') refl;
      index = rw (walk_is_run height width cells accepted limit buffer, solve_is_run height width cells accepted limit' buffer') refl;
      layouts = same_layouts;
      fewest_lines = rw (walk_is_run height width cells accepted limit buffer, solve_is_run height width cells accepted limit' buffer', one_list) refl;
      in_buffers = rw (walk_is_run height width cells accepted limit buffer, solve_is_run height width cells accepted limit' buffer', one_list) (list_fits _, list_fits _);
      same_bytes = rw (walk_is_run height width cells accepted limit buffer, solve_is_run height width cells accepted limit' buffer', one_list) (list_bytes _ ∙ sym (list_bytes _));
      same_records = λ k below. sym (get_or_from_zero _ _ k [] below)
          ∙ ap (λ (l : List (List ℕ)). get_or l k []) (walk_records_left height width cells accepted limit buffer ∙ sym one_list ∙ sym (records_left height width cells accepted limit' buffer'))
          ∙ get_or_from_zero _ _ k [] (omega (arith, below, same_layouts));
    }

  -- THE THEOREM
  pub engines_agree : (walk height width cells limit buffer).outcome ≡ 0 → (solve height width cells limit' buffer').outcome ≡ 0
      → SameList height width (walk height width cells limit buffer) (solve height width cells limit' buffer')
  engines_agree walk_complete search_complete = elim (ℕ_discrete (grid_refusal height width cells).0 0) [
    | no refused ↦ both_declined refused
    | yes fine ↦ both_complete (not_refused height width cells fine) walk_complete search_complete
  ]
