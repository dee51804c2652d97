-- A run with a limit and room: how far it scans the events, and what it reports; and the fewest lines of a list of records. Nothing here
-- speaks of boards. That every run is so, for every list of events, is `run_says` in proofs/Runs.antt.
use Prim.Native.Nat.{ℕ, suc, ◌+◌, ◌*◌, ◌≤◌, ◌<◌}
use Rattle.std.specs.Prelude.{◌≡◌, ◌↔◌, ◌⊎◌, Bool, leb}
use Rattle.std.proofs.Math.Path.{refl, ap}
use Rattle.std.proofs.Common.{◌∙◌, inl, inr, ⊎_elim}
use Rattle.std.proofs.Math.Bool.{true, false}
use mathlib.Core.List.{List, [], ◌∷◌, ◌++◌, Memᴰ, append-nil}
use native.Mathlib.Omega.{arith}
use borrow.Author.Tests.{leb-false, leb-true}
use Rattle.std.proofs.Math.ListN.{length}
use Rattle.rules.specs.Record.{record_lines}
use Rattle.model.specs.Runs.{Event, Run, no_fewest, least, fewest, visit, layout}
use Rattle.runs.specs.Events.{layouts_of, visits_of}

module _ (limit size : ℕ) where
  -- the run gets through these events: no visit passes the limit, and each layout finds room
  pub record Passes (visited room : ℕ) (events : List Event) : Type 0 where
    pub within_limit : visited + visits_of events ≤ limit
    pub within_room : length (layouts_of events) * size ≤ room

  -- SPENT: after events that it gets through, the next visit would pass the limit
  pub record Spent (visited room : ℕ) (events : List Event) : Type 0 where
    pub done : List Event
    pub rest : List Event
    pub parted : events ≡ done ++ (visit ∷ rest)
    pub passes : Passes visited room done
    pub at_limit : visited + visits_of done ≡ limit

  -- FULL: after events that it gets through, a layout is due and less than a record of room is left
  pub record Full (visited room : ℕ) (events : List Event) : Type 0 where
    pub done : List Event
    pub due : List ℕ
    pub rest : List Event
    pub parted : events ≡ done ++ (layout due ∷ rest)
    pub passes : Passes visited room done
    pub no_room : room < suc (length (layouts_of done)) * size

  -- the three ways to stop, each with what is reported
  pub data Stop (visited room : ℕ) (events : List Event) (run : Run) : Type 0 where
    complete : run.outcome ≡ 0 → Passes visited room events → run.visited ≡ visited + visits_of events → run.records ≡ layouts_of events → Stop visited room events run
    spent : run.outcome ≡ 1 → (s : Spent visited room events) → run.visited ≡ limit → run.records ≡ layouts_of s.done → Stop visited room events run
    full : run.outcome ≡ 2 → (s : Full visited room events) → run.visited ≡ visited + visits_of s.done → run.records ≡ layouts_of s.done → Stop visited room events run

  -- WHAT A RUN SAYS of the events
  pub record RunSays (room : ℕ) (events : List Event) (run : Run) : Type 0 where
    -- it scans a beginning of them: its records are the layouts of that beginning, and visited counts its visits
    pub done : List Event
    pub rest : List Event
    pub beginning : events ≡ done ++ rest
    pub records_are : run.records ≡ layouts_of done
    pub visited_is : run.visited ≡ visits_of done
    -- outcome 0 exactly where it gets through all of them; then the beginning is the whole
    pub complete_where : (run.outcome ≡ 0) ↔ Passes 0 room events
    pub complete_whole : run.outcome ≡ 0 → done ≡ events
    -- outcome 1 exactly where the next visit would pass the limit; visited equals the limit
    pub spent_where : (run.outcome ≡ 1) ↔ Spent 0 room events
    pub spent_visited : run.outcome ≡ 1 → run.visited ≡ limit
    -- outcome 2 exactly where a layout is due and less than a record of room is left
    pub full_where : (run.outcome ≡ 2) ↔ Full 0 room events

-- FEWEST: no more than the lines of any of the records; and the lines of one of them, or 481
least_is : (a b : ℕ) → ((least a b ≡ a) × (a ≤ b)) ⊎ ((least a b ≡ b) × (b ≤ a))
least_is a b = go (leb a b) refl
  where
    go : (t : Bool) → leb a b ≡ t → ((least a b ≡ a) × (a ≤ b)) ⊎ ((least a b ≡ b) × (b ≤ a))
    go true h = inl ((rw (h, least) refl), leb-true a b h)
    go false h = inr ((rw (h, least) refl), (let k = leb-false a b h in omega arith))

fewest_first : (r : List ℕ) (records : List (List ℕ)) → fewest (r ∷ records) ≡ least (record_lines r) (fewest records)
unfolding fewest
fewest_first r records = refl

fewest_below : (records : List (List ℕ)) (r : List ℕ) → Memᴰ r records → fewest records ≤ record_lines r
fewest_below [] r m = absurd (mathlib.Core.List.Memᴰ.not-nil m)
fewest_below (x ∷ l) r m = rw (fewest_first x l) (⊎_elim
    (λ e. let j = ap record_lines e in ⊎_elim (λ (h, k). omega (arith, h, k, j)) (λ (h, k). omega (arith, h, k, j)) (least_is (record_lines x) (fewest l)))
    (λ n. let j = fewest_below l r n in ⊎_elim (λ (h, k). omega (arith, h, k, j)) (λ (h, k). omega (arith, h, k, j)) (least_is (record_lines x) (fewest l)))
    (mathlib.Core.List.Memᴰ.cases_cons m))

-- more records have no more
pub fewest_append : (records more : List (List ℕ)) → fewest (records ++ more) ≤ fewest records
fewest_append [] [] = omega arith
fewest_append [] (x ∷ l) = let j = fewest_append [] l in rw (fewest_first x l) (⊎_elim (λ (h, k). omega (arith, h, k, j)) (λ (h, k). omega (arith, h, k, j)) (least_is (record_lines x) (fewest l)))
fewest_append (x ∷ l) more = let j = fewest_append l more in rw (fewest_first x l, fewest_first x (l ++ more))
    (⊎_elim (λ (h, k). ⊎_elim (λ (m, n). omega (arith, h, k, j, m, n)) (λ (m, n). omega (arith, h, k, j, m, n)) (least_is (record_lines x) (fewest l)))
    (λ (h, k). ⊎_elim (λ (m, n). omega (arith, h, k, j, m, n)) (λ (m, n). omega (arith, h, k, j, m, n)) (least_is (record_lines x) (fewest l)))
    (least_is (record_lines x) (fewest (l ++ more))))

fewest_reached : (records : List (List ℕ)) → (fewest records ≡ no_fewest) ⊎ ((r : List ℕ) × Memᴰ r records × (fewest records ≡ record_lines r))
fewest_reached [] = inl (unfold fewest in refl)
fewest_reached (x ∷ l) = rw (fewest_first x l) (⊎_elim
    (λ (h, k). inr (x, mathlib.Core.List.Memᴰ.head refl, h))
    (λ (h, k). rw h (⊎_elim (λ e. inl e) (λ (r, m, e). inr (r, mathlib.Core.List.Memᴰ.tail m, e)) (fewest_reached l)))
    (least_is (record_lines x) (fewest l)))

-- n is the fewest lines of these records, 481 for none
pub record FewestOf (records : List (List ℕ)) (n : ℕ) : Type 0 where
  pub none : records ≡ [] → n ≡ no_fewest
  pub no_fewer : (r : List ℕ) → Memᴰ r records → n ≤ record_lines r
  pub reached : (records ≡ []) ⊎ ((r : List ℕ) × Memᴰ r records × (n ≡ record_lines r))

pub fewest_of : (records : List (List ℕ)) → ((r : List ℕ) → Memᴰ r records → record_lines r ≤ 480) → FewestOf records (fewest records)
fewest_of records small = record {
  none = λ e. ap fewest e ∙ (unfold fewest in refl);
  no_fewer = fewest_below records;
  reached = go records refl small (fewest_reached records);
}
  where
    go : (l : List (List ℕ)) → records ≡ l → ((r : List ℕ) → Memᴰ r records → record_lines r ≤ 480)
        → (fewest records ≡ no_fewest) ⊎ ((r : List ℕ) × Memᴰ r records × (fewest records ≡ record_lines r))
        → (records ≡ []) ⊎ ((r : List ℕ) × Memᴰ r records × (fewest records ≡ record_lines r))
    go [] e small f = inl e
    go (x ∷ l) e small (inr f) = inr f
    go (x ∷ l) e small (inl h) =
        let m : Memᴰ x records = rw e (mathlib.Core.List.Memᴰ.head refl) in
        absurd (let k = small x m in let j = fewest_below records x m in omega arith)
