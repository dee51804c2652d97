-- A run with a limit and room: how far it scans the events, and what it reports. The laws hold for every list of events; nothing here
-- speaks of boards. `run_says` at the end collects them. What they say is defined in specs/Runs.antt.
use Prim.Native.Nat.{ℕ, suc, ◌+◌, ◌*◌, ◌-◌, ◌≤◌, ◌<◌}
use Rattle.std.specs.Prelude.{◌≡◌, ◌≢◌, Bool}
use Rattle.std.proofs.Math.Path.{refl, ap}
use Rattle.std.proofs.Common.{sym, ◌∙◌, add-zero, zero-add}
use Rattle.std.proofs.Math.Bool.{true, false}
use mathlib.Core.List.{List, [], ◌∷◌, ◌++◌, append-nil}
use native.Mathlib.Omega.{arith}
use borrow.Author.Tests.{le-ltb, lt-ltb, ltb-false, ltb-true}
use Rattle.std.proofs.Math.Dec.{ltb}
use Rattle.std.proofs.Math.ListN.{length}
use Rattle.rules.specs.RecordLaws.{plus_suc}
use Rattle.model.specs.Runs.{Event, Run, with_record, scan, visit, layout}
use Rattle.runs.specs.Events.{layouts_of, visits_of}
use Rattle.runs.specs.Runs.{Passes, Spent, Full, Stop, complete, spent, full, RunSays}

module _ (limit size : ℕ) where
  after_visit : (visited room : ℕ) (events : List Event) (run : Run) → visited < limit → Stop limit size (visited + 1) room events run → Stop limit size visited room (visit ∷ events) run
  unfolding layouts_of visits_of
  after_visit visited room events run below (complete o p v r) =
      complete o (record { within_limit = (let k = p.within_limit in omega arith); within_room = p.within_room }) (v ∙ plus_suc visited (visits_of events)) r
  after_visit visited room events run below (spent o s v r) = spent o (record {
    done = visit ∷ s.done;
    rest = s.rest;
    parted = ap (λ l. visit ∷ l) s.parted;
    passes = record { within_limit = (let k = s.passes.within_limit in omega arith); within_room = s.passes.within_room };
    at_limit = (let k = s.at_limit in omega arith);
  }) v r
  after_visit visited room events run below (full o s v r) = full o (record {
    done = visit ∷ s.done;
    due = s.due;
    rest = s.rest;
    parted = ap (λ l. visit ∷ l) s.parted;
    passes = record { within_limit = (let k = s.passes.within_limit in omega arith); within_room = s.passes.within_room };
    no_room = s.no_room;
  }) (v ∙ plus_suc visited (visits_of s.done)) r

  after_layout : (visited room : ℕ) (bytes : List ℕ) (events : List Event) (run : Run) → size ≤ room → Stop limit size visited (room - size) events run
      → Stop limit size visited room (layout bytes ∷ events) (with_record bytes run)
  unfolding layouts_of visits_of
  after_layout visited room bytes events run fits (complete o p v r) =
      complete o (record { within_limit = p.within_limit; within_room = (let k = p.within_room in omega arith) }) v (ap (λ l. bytes ∷ l) r)
  after_layout visited room bytes events run fits (spent o s v r) = spent o (record {
    done = layout bytes ∷ s.done;
    rest = s.rest;
    parted = ap (λ l. layout bytes ∷ l) s.parted;
    passes = record { within_limit = s.passes.within_limit; within_room = (let k = s.passes.within_room in omega arith) };
    at_limit = s.at_limit;
  }) v (ap (λ l. bytes ∷ l) r)
  after_layout visited room bytes events run fits (full o s v r) = full o (record {
    done = layout bytes ∷ s.done;
    due = s.due;
    rest = s.rest;
    parted = ap (λ l. layout bytes ∷ l) s.parted;
    passes = record { within_limit = s.passes.within_limit; within_room = (let k = s.passes.within_room in omega arith) };
    no_room = (let k = s.no_room in omega arith);
  }) v (ap (λ l. bytes ∷ l) r)

  -- nothing is scanned yet
  nothing_yet : (visited room : ℕ) → visited ≤ limit → Passes limit size visited room []
  unfolding layouts_of visits_of
  nothing_yet visited room low = record { within_limit = omega arith; within_room = omega arith }

  -- EVERY RUN STOPS in one of the three ways
  pub stops : (events : List Event) (visited room : ℕ) → visited ≤ limit → Stop limit size visited room events (scan limit size visited room events)
  unfolding scan layouts_of visits_of
  stops [] visited room low = complete refl (nothing_yet visited room low) (sym (add-zero visited)) refl
  stops (visit ∷ events) visited room low = go (ltb visited limit) refl (λ below. stops events (visited + 1) room below)
    where
      go : (b : Bool) → ltb visited limit ≡ b → (visited + 1 ≤ limit → Stop limit size (visited + 1) room events (scan limit size (visited + 1) room events))
          → Stop limit size visited room (visit ∷ events) (scan limit size visited room (visit ∷ events))
      go true h rest = let below : visited < limit = ltb-true visited limit h in
          rw (h, scan) (after_visit visited room events (scan limit size (visited + 1) room events) below (rest (omega arith)))
      go false h rest = let past : limit ≤ visited = ltb-false visited limit h in
          rw (h, scan) (spent refl (record { done = []; rest = events; parted = refl; passes = nothing_yet visited room low; at_limit = omega arith }) (omega arith) refl)
  stops (layout bytes ∷ events) visited room low = go (ltb room size) refl (stops events visited (room - size) low)
    where
      go : (b : Bool) → ltb room size ≡ b → Stop limit size visited (room - size) events (scan limit size visited (room - size) events)
          → Stop limit size visited room (layout bytes ∷ events) (scan limit size visited room (layout bytes ∷ events))
      go false h rest = let fits : size ≤ room = ltb-false room size h in
          rw (h, scan) (after_layout visited room bytes events (scan limit size visited (room - size) events) fits rest)
      go true h rest = let short : room < size = ltb-true room size h in
          rw (h, scan) (full refl (record { done = []; due = bytes; rest = events; parted = refl; passes = nothing_yet visited room low; no_room = omega arith }) (sym (add-zero visited)) refl)

  -- so there is room for its records
  pub records_fit : (events : List Event) (room : ℕ) → length (scan limit size 0 room events).records * size ≤ room
  records_fit events room = go (stops events 0 room (omega arith))
    where
      go : Stop limit size 0 room events (scan limit size 0 room events) → length (scan limit size 0 room events).records * size ≤ room
      go (complete o p v r) = rw r p.within_room
      go (spent o s v r) = rw r s.passes.within_room
      go (full o s v r) = rw r s.passes.within_room

  -- a run gets through what passes, and its outcome is that of what follows
  through_events : (done rest : List Event) (visited room : ℕ) → Passes limit size visited room done
      → (scan limit size visited room (done ++ rest)).outcome ≡ (scan limit size (visited + visits_of done) (room - length (layouts_of done) * size) rest).outcome
  unfolding scan layouts_of visits_of
  through_events [] rest visited room p =
      ap (λ n. (scan limit size n room rest).outcome) (sym (add-zero visited)) ∙ ap (λ n. (scan limit size (visited + 0) n rest).outcome) (untouched room)
    where
      untouched : (r : ℕ) → r ≡ r - 0 * size
      untouched r = omega arith
  through_events (visit ∷ done) rest visited room p =
      rw (lt-ltb visited limit (let k = p.within_limit in omega arith), scan) (through_events done rest (visited + 1) room
      (record { within_limit = (let k = p.within_limit in omega arith); within_room = p.within_room })
      ∙ ap (λ n. (scan limit size n (room - length (layouts_of done) * size) rest).outcome) (plus_suc visited (visits_of done)))
  through_events (layout bytes ∷ done) rest visited room p =
      rw (le-ltb room size (let k = p.within_room in omega arith), scan) (through_events done rest visited (room - size)
      (record { within_limit = p.within_limit; within_room = (let k = p.within_room in omega arith) })
      ∙ ap (λ n. (scan limit size (visited + visits_of done) n rest).outcome) (less room (length (layouts_of done))))
    where
      less : (r n : ℕ) → r - size - n * size ≡ r - suc n * size
      less r n = omega arith

  complete_outcome : (events : List Event) (room : ℕ) → Passes limit size 0 room events → (scan limit size 0 room events).outcome ≡ 0
  complete_outcome events room p =
      ap (λ l. (scan limit size 0 room l).outcome) (sym (append-nil events)) ∙ through_events events [] 0 room p ∙ (unfold scan in refl)

  spent_outcome : (events : List Event) (room : ℕ) → Spent limit size 0 room events → (scan limit size 0 room events).outcome ≡ 1
  spent_outcome events room s =
      ap (λ l. (scan limit size 0 room l).outcome) s.parted ∙ through_events s.done (visit ∷ s.rest) 0 room s.passes ∙ stop
    where
      stop : (scan limit size (0 + visits_of s.done) (room - length (layouts_of s.done) * size) (visit ∷ s.rest)).outcome ≡ 1
      stop = unfold scan in (rw (le-ltb (0 + visits_of s.done) limit (let k = s.at_limit in omega arith), scan) refl)

  full_outcome : (events : List Event) (room : ℕ) → Full limit size 0 room events → (scan limit size 0 room events).outcome ≡ 2
  full_outcome events room s =
      ap (λ l. (scan limit size 0 room l).outcome) s.parted ∙ through_events s.done (layout s.due ∷ s.rest) 0 room s.passes ∙ stop
    where
      stop : (scan limit size (0 + visits_of s.done) (room - length (layouts_of s.done) * size) (layout s.due ∷ s.rest)).outcome ≡ 2
      stop = unfold scan in (rw (lt-ltb (room - length (layouts_of s.done) * size) size (let k = s.no_room in let j = s.passes.within_room in omega arith), scan) refl)

  pub run_says : (events : List Event) (room : ℕ) → RunSays limit size room events (scan limit size 0 room events)
  run_says events room = go (stops events 0 room (omega arith))
    where
      run : Run
      run = scan limit size 0 room events

      is_not : {A : Type 0} {a b : ℕ} → run.outcome ≡ a → run.outcome ≡ b → a ≢ b → A
      is_not h k n = absurd (n (sym h ∙ k))

      go : Stop limit size 0 room events run → RunSays limit size room events run
      go (complete o p v r) = record {
        done = events;
        rest = [];
        beginning = sym (append-nil events);
        records_are = r;
        visited_is = v ∙ zero-add (visits_of events);
        complete_where = ((λ h. p), (λ h. o));
        complete_whole = λ h. refl;
        spent_where = ((λ h. is_not o h (omega arith)), spent_outcome events room);
        spent_visited = λ h. is_not o h (omega arith);
        full_where = ((λ h. is_not o h (omega arith)), full_outcome events room);
      }
      go (spent o s v r) = record {
        done = s.done;
        rest = visit ∷ s.rest;
        beginning = s.parted;
        records_are = r;
        visited_is = v ∙ sym s.at_limit ∙ zero-add (visits_of s.done);
        complete_where = ((λ h. is_not o h (omega arith)), complete_outcome events room);
        complete_whole = λ h. is_not o h (omega arith);
        spent_where = ((λ h. s), (λ h. o));
        spent_visited = λ h. v;
        full_where = ((λ h. is_not o h (omega arith)), full_outcome events room);
      }
      go (full o s v r) = record {
        done = s.done;
        rest = layout s.due ∷ s.rest;
        beginning = s.parted;
        records_are = r;
        visited_is = v ∙ zero-add (visits_of s.done);
        complete_where = ((λ h. is_not o h (omega arith)), complete_outcome events room);
        complete_whole = λ h. is_not o h (omega arith);
        spent_where = ((λ h. is_not o h (omega arith)), spent_outcome events room);
        spent_visited = λ h. is_not o h (omega arith);
        full_where = ((λ h. s), (λ h. o));
      }
