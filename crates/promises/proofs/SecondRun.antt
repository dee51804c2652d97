-- A SECOND RUN: one grid is searched twice, the second time with at least the limit and at least the buffer of the first. `second_run` says what
-- specs/SecondRun.antt defines of every pair of calls of the model's `solve`: any grid, refused ones too, any two limits and any two buffers,
-- whatever these held before. It rests on what a second run keeps of the first (runs' TwoRuns.antt) and on what a buffer holds
-- (HeldRecords.antt).
use Rattle.std.specs.Prelude.{ℕ, ◌*◌, ◌≤◌, ◌<◌, ◌≡◌, refl, List, [], ◌++◌, length, take, get_or, ℤ}
use Rattle.std.proofs.Common.{sym, ap, ◌∙◌, append_assoc, arith, zero-mul, length-append, take_at}
use Rattle.std.proofs.Math.Decide.{ℕ_discrete}
use Rattle.std.proofs.Math.ListN.{get_or-append}
use Rattle.rules.specs.Grid.{grid_of, places, Accepted}
use Rattle.rules.specs.RecordLaws.{get_or_from_zero}
use Rattle.model.specs.Refusals.{grid_refusal}
use Rattle.model.specs.RefusalLaws.{not_refused}
use Rattle.model.specs.Records.{record_at}
use Rattle.model.specs.HasRecord.{concat_length, concat_append}
use Rattle.model.specs.Runs.{Run, scan, concat, Solved}
use Rattle.model.specs.Search.{search, solve}
use Rattle.exact.specs.Exact.{solve_is_run, solve_is_declined}
use Rattle.runs.specs.Runs.{fewest_append}
use Rattle.runs.specs.TwoRuns.{Continued, continued}
use Rattle.promises.specs.HeldRecords.{records_long, records_left}
use Rattle.promises.specs.SecondRun.{SameResult, SecondRun}

module _ (height width : ℕ) (cells : List ℤ) (limit limit' : ℕ) (higher : limit ≤ limit') (buffer buffer' : List ℕ) where
  abbrev first : Solved
  first = solve height width cells limit buffer

  abbrev second : Solved
  second = solve height width cells limit' buffer'

  -- ## A refused grid: nothing is searched

  module _ (refused : (grid_refusal height width cells).0 ≡ 0 → ⊥) where
    refused_twice : SecondRun height width first second
    refused_twice = rw (solve_is_declined height width cells refused limit buffer, solve_is_declined height width cells refused limit' buffer') (record {
      no_fewer_layouts = omega arith;
      in_buffer = rw zero-mul (omega arith);
      same_bytes = rw zero-mul refl;
      same_records = λ k below. absurd (omega (arith, below));
      visited_never_falls = omega arith;
      fewest_never_rises = omega arith;
      complete_stays = λ o. record { number = refl; index = refl; outcome = refl; layouts = refl; visited = refl; fewest_lines = refl };
    })

  -- ## An accepted one: two runs of its search

  module _ (accepted : Accepted height width cells) where
    abbrev run : ℕ → List ℕ → Run
    run n bytes = scan n (places height width) 0 (length bytes) (search (grid_of height width cells))

    abbrev one : Run
    one = run limit buffer

    abbrev two : Run
    two = run limit' buffer'

    runs_same : two ≡ one → SameResult first second
    runs_same e = rw (solve_is_run height width cells accepted limit buffer, solve_is_run height width cells accepted limit' buffer', e)
        (record { number = refl; index = refl; outcome = refl; layouts = refl; visited = refl; fewest_lines = refl })

    module _ (on : Continued (length buffer) (length buffer') one two) where
      abbrev more : List (List ℕ)
      more = on.list_goes_on.rest

      more_layouts : length two.records ≡ length (one.records ++ more)
      more_layouts = ap length on.list_goes_on.parted

      its_length : length (concat one.records) ≡ length one.records * places height width
      its_length = concat_length (places height width) one.records (records_long height width cells accepted limit buffer)

      list_bytes : (rest : List ℕ) → take (length one.records * places height width) (concat one.records ++ rest) ≡ concat one.records
      list_bytes rest = take_at (concat one.records) rest _ its_length

      begins : (rest : List ℕ) → concat two.records ++ rest ≡ concat one.records ++ (concat more ++ rest)
      begins rest = ap (λ (l : List (List ℕ)). concat l ++ rest) on.list_goes_on.parted ∙ ap (λ (l : List ℕ). l ++ rest) (concat_append one.records more) ∙ append_assoc (concat one.records) (concat more) rest

      -- record k of a buffer is that of its run
      record_k : (n : ℕ) (bytes : List ℕ) (k : ℕ) → k < length (run n bytes).records
          → record_at height width (solve height width cells n bytes).layouts k (solve height width cells n bytes).buffer ≡ get_or (run n bytes).records k []
      record_k n bytes k below = sym (get_or_from_zero _ _ k [] (rw (solve_is_run height width cells accepted n bytes) below)) ∙ ap (λ (l : List (List ℕ)). get_or l k []) (records_left height width cells accepted n bytes)

      accepted_twice : SecondRun height width first second
      accepted_twice = record {
        no_fewer_layouts = rw (solve_is_run height width cells accepted limit buffer, solve_is_run height width cells accepted limit' buffer', more_layouts, length-append) (omega arith);
        in_buffer = rw (solve_is_run height width cells accepted limit buffer, length-append) (omega (arith, its_length));
        same_bytes = rw (solve_is_run height width cells accepted limit buffer, solve_is_run height width cells accepted limit' buffer', begins) (list_bytes _ ∙ sym (list_bytes _));
        same_records = λ k below. let low : k < length one.records = (rw (solve_is_run height width cells accepted limit buffer) at below) in
            record_k limit' buffer' k (rw (more_layouts, length-append) (omega (arith, low)))
            ∙ ap (λ (l : List (List ℕ)). get_or l k []) on.list_goes_on.parted ∙ get_or-append one.records more [] k low
            ∙ sym (record_k limit buffer k low);
        visited_never_falls = rw (solve_is_run height width cells accepted limit buffer, solve_is_run height width cells accepted limit' buffer') on.visited_never_falls;
        fewest_never_rises = rw (solve_is_run height width cells accepted limit buffer, solve_is_run height width cells accepted limit' buffer', on.list_goes_on.parted) (fewest_append one.records more);
        complete_stays = λ o. runs_same (on.complete_stays (rw (solve_is_run height width cells accepted limit buffer) at o));
      }

  -- THE THEOREM
  pub second_run : length buffer ≤ length buffer' → SecondRun height width first second
  second_run wider = elim (ℕ_discrete (grid_refusal height width cells).0 0) [
    | no refused ↦ refused_twice refused
    | yes fine ↦ accepted_twice (not_refused height width cells fine) (continued limit limit' (places height width) higher (search (grid_of height width cells)) 0 (length buffer) (length buffer') wider)
  ]

  -- and where the buffers have one length, any run that is not spent has the last word
  pub ended_stays : length buffer' ≡ length buffer → (first.outcome ≡ 1 → ⊥) → SameResult first second
  ended_stays same ended = elim (ℕ_discrete (grid_refusal height width cells).0 0) [
    | no refused ↦ (refused_twice refused).complete_stays (rw (solve_is_declined height width cells refused limit buffer) refl)
    | yes fine ↦ let accepted = not_refused height width cells fine in
        runs_same accepted ((continued limit limit' (places height width) higher (search (grid_of height width cells)) 0 (length buffer) (length buffer') (omega (arith, same))
        ).ended_stays (rw (solve_is_run height width cells accepted limit buffer) at ended) same)
  ]
