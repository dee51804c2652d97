-- Two runs of one list of events, the second with at least the limit and at least the room of the first: what the second keeps of the first,
-- for the two as a whole. The laws hold for every list of events, as those of Runs.antt; nothing here speaks of boards.
use Rattle.std.specs.Prelude.{ℕ, ◌+◌, ◌-◌, ◌≤◌, ◌<◌, ◌≡◌, Bool}
use Rattle.std.proofs.Math.Path.{refl, ap}
use Rattle.std.proofs.Math.Bool.{true, false}
use mathlib.Core.List.{List, [], ◌∷◌}
use Rattle.std.proofs.Common.{arith}
use borrow.Author.Tests.{le-ltb, lt-ltb, ltb-false, ltb-true}
use Rattle.std.proofs.Math.Dec.{ltb}
use Rattle.model.specs.Runs.{Event, Run, with_record, scan, visit, layout}
use Rattle.runs.specs.Events.{Beginning}

-- a run counts on from the boards that were visited before it
visited_on : (limit size : ℕ) (events : List Event) (visited room : ℕ) → visited ≤ (scan limit size visited room events).visited
unfolding scan
visited_on limit size [] visited room = omega arith
visited_on limit size (visit ∷ events) visited room = go (ltb visited limit) refl (visited_on limit size events (visited + 1) room)
  where
    go : (b : Bool) → ltb visited limit ≡ b → visited + 1 ≤ (scan limit size (visited + 1) room events).visited → visited ≤ (scan limit size visited room (visit ∷ events)).visited
    go true h on = rw (h, scan) (omega (arith, on))
    go false h on = rw (h, scan) (omega arith)
visited_on limit size (layout r ∷ events) visited room = go (ltb room size) refl (visited_on limit size events visited (room - size))
  where
    go : (b : Bool) → ltb room size ≡ b → visited ≤ (scan limit size visited (room - size) events).visited → visited ≤ (scan limit size visited room (layout r ∷ events)).visited
    go true h on = rw (h, scan) (omega arith)
    go false h on = rw (h, scan) on

-- WHAT THE SECOND RUN KEEPS of the first, with these rooms
pub record Continued (room room' : ℕ) (first second : Run) : Type 0 where
  -- the first list is a beginning of the second, and visited never falls
  pub list_goes_on : Beginning first.records second.records
  pub visited_never_falls : first.visited ≤ second.visited
  -- a complete run has the last word, and where there is no more room any run that is not spent has
  pub complete_stays : first.outcome ≡ 0 → second ≡ first
  pub ended_stays : (first.outcome ≡ 1 → ⊥) → room' ≡ room → second ≡ first

module _ (limit limit' size : ℕ) (higher : limit ≤ limit') where
  -- the first run stops here, spent or full, where there may be more room
  stopped : (outcome visited room room' : ℕ) (events : List Event) → (outcome ≡ 0 → ⊥) → ((outcome ≡ 1 → ⊥) → room' ≡ room → ⊥)
      → Continued room room' (record { outcome = outcome; visited = visited; records = [] }) (scan limit' size visited room' events)
  stopped outcome visited room room' events early more = record {
    list_goes_on = record { rest = (scan limit' size visited room' events).records; parted = refl };
    visited_never_falls = visited_on limit' size events visited room';
    complete_stays = λ o. absurd (early o);
    ended_stays = λ o e. absurd (more o e);
  }

  pub continued : (events : List Event) (visited room room' : ℕ) → room ≤ room' → Continued room room' (scan limit size visited room events) (scan limit' size visited room' events)
  unfolding scan
  continued [] visited room room' wider = record {
    list_goes_on = record { rest = []; parted = refl };
    visited_never_falls = omega arith;
    complete_stays = λ o. refl;
    ended_stays = λ o e. refl;
  }
  continued (visit ∷ events) visited room room' wider = go (ltb visited limit) refl (continued events (visited + 1) room room' wider)
    where
      go : (b : Bool) → ltb visited limit ≡ b → Continued room room' (scan limit size (visited + 1) room events) (scan limit' size (visited + 1) room' events)
          → Continued room room' (scan limit size visited room (visit ∷ events)) (scan limit' size visited room' (visit ∷ events))
      go true h on = rw (h, lt-ltb visited limit' (let k = ltb-true visited limit h in omega arith), scan) on
      go false h on = rw (h, scan) (stopped 1 visited room room' (visit ∷ events) (λ o. absurd (omega (arith, o))) (λ o e. o refl))
  continued (layout r ∷ events) visited room room' wider = go (ltb room size) refl (ltb room' size) refl (continued events visited (room - size) (room' - size) (omega arith))
    where
      also : Continued (room - size) (room' - size) (scan limit size visited (room - size) events) (scan limit' size visited (room' - size) events)
          → Continued room room' (with_record r (scan limit size visited (room - size) events)) (with_record r (scan limit' size visited (room' - size) events))
      also on = record {
        list_goes_on = record { rest = on.list_goes_on.rest; parted = ap (λ l. r ∷ l) on.list_goes_on.parted };
        visited_never_falls = on.visited_never_falls;
        complete_stays = λ o. ap (with_record r) (on.complete_stays o);
        ended_stays = λ o e. ap (with_record r) (on.ended_stays o (omega (arith, e)));
      }

      go : (b : Bool) → ltb room size ≡ b → (b' : Bool) → ltb room' size ≡ b' → Continued (room - size) (room' - size) (scan limit size visited (room - size) events) (scan limit' size visited (room' - size) events)
          → Continued room room' (scan limit size visited room (layout r ∷ events)) (scan limit' size visited room' (layout r ∷ events))
      go false h b' h' on = rw (h, le-ltb room' size (let k = ltb-false room size h in omega arith), scan) (also on)
      go true h true h' on = rw (h, h', scan) (record { list_goes_on = record { rest = []; parted = refl }; visited_never_falls = omega arith; complete_stays = λ o. refl; ended_stays = λ o e. refl })
      go true h false h' on = let small : room < size = ltb-true room size h in let large : size ≤ room' = ltb-false room' size h' in
          rw (h, scan) (stopped 2 visited room room' (layout r ∷ events) (λ o. absurd (omega (arith, o))) (λ o e. absurd (omega (arith, small, large, e))))
