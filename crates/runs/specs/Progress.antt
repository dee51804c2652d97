-- How far a search has come, as the code keeps it: the outcome so far, the counts, the bytes used and the buffer. `advance` takes it over
-- a list of events, one after the other; it goes over a joined list piece by piece (`advance_append`), which is how the code recurses.
-- `advance_solved` says that from the start it gives exactly the model's run.
use Prim.Native.Nat.{ℕ, suc, ◌+◌, ◌-◌, ◌≤◌, ◌<◌}
use Rattle.std.specs.Prelude.{◌≡◌, Bool, eqb}
use Rattle.std.proofs.Math.Path.{refl, sym, ap}
use Rattle.std.proofs.Common.{◌∙◌, ltb-false, lt-ltb, le-ltb, le-leb, eq-eqb, add-zero, zero-add}
use Rattle.std.proofs.Math.Bool.{true, false}
use mathlib.Core.List.{List, [], ◌∷◌, ◌++◌}
use native.Mathlib.Omega.{arith}
use Rattle.std.proofs.Math.Decide.{dec_le}
use Rattle.std.proofs.lemmas.Bool.{lt-leb}
use Rattle.std.proofs.Math.Dec.{ltb}
use Rattle.std.proofs.Math.ListN.{length, drop, length-append}
use Rattle.rules.specs.Record.{record_lines}
use Rattle.model.specs.PutBytes.{put_bytes}
use Rattle.model.specs.PutBytes.{put_length, put_none, put_put}
use Rattle.model.specs.Runs.{Event, visit, layout, Run, scan, with_record, fewest, least, no_fewest, concat, Solved, solved}

pub record Progress : Type 0 where
  pub outcome : ℕ
  pub visited : ℕ
  pub layouts : ℕ
  pub fewest_lines : ℕ
  pub used : ℕ
  pub buffer : List ℕ

abbrev pub stopped : ℕ → Progress → Progress
stopped outcome P = record { outcome = outcome; visited = P.visited; layouts = P.layouts; fewest_lines = P.fewest_lines; used = P.used; buffer = P.buffer }

abbrev pub entered : Progress → Progress
entered P = record { outcome = P.outcome; visited = P.visited + 1; layouts = P.layouts; fewest_lines = P.fewest_lines; used = P.used; buffer = P.buffer }

abbrev pub listed : ℕ → List ℕ → Progress → Progress
listed size r P = record {
  outcome = P.outcome;
  visited = P.visited;
  layouts = P.layouts + 1;
  fewest_lines = least P.fewest_lines (record_lines r);
  used = P.used + size;
  buffer = put_bytes P.used r P.buffer;
}

module _ (limit size : ℕ) where
  unfoldable pub advance : Progress → List Event → Progress
  advance P [] = P
  advance P (visit ∷ events) = elim (ltb P.visited limit) [ true ↦ advance (entered P) events | false ↦ stopped 1 P ]
  advance P (layout r ∷ events) = elim (ltb (length P.buffer) (P.used + size)) [ true ↦ stopped 2 P | false ↦ advance (listed size r P) events ]

  -- a joined list, piece by piece: the second piece is looked at only where the first left the outcome 0
  unfoldable pub goes_on : List Event → Progress → Progress
  goes_on events P = elim (eqb P.outcome 0) [ true ↦ advance P events | false ↦ P ]

  pub goes_on_clear : (b : List Event) (P : Progress) → P.outcome ≡ 0 → goes_on b P ≡ advance P b
  unfolding goes_on
  goes_on_clear b P clear = rw (eq-eqb P.outcome 0 clear, goes_on)

  pub advance_append : (a b : List Event) (P : Progress) → P.outcome ≡ 0 → advance P (a ++ b) ≡ goes_on b (advance P a)
  unfolding advance goes_on
  advance_append [] b P clear = sym (goes_on_clear b P clear)
  advance_append (visit ∷ a) b P clear = go (ltb P.visited limit) refl (advance_append a b (entered P) clear)
    where
      go : (t : Bool) → ltb P.visited limit ≡ t → advance (entered P) (a ++ b) ≡ goes_on b (advance (entered P) a)
          → advance P (visit ∷ (a ++ b)) ≡ goes_on b (advance P (visit ∷ a))
      go true h rest = rw (h, advance) rest
      go false h rest = rw (h, advance) refl
  advance_append (layout r ∷ a) b P clear = go (ltb (length P.buffer) (P.used + size)) refl (advance_append a b (listed size r P) clear)
    where
      go : (t : Bool) → ltb (length P.buffer) (P.used + size) ≡ t → advance (listed size r P) (a ++ b) ≡ goes_on b (advance (listed size r P) a)
          → advance P (layout r ∷ (a ++ b)) ≡ goes_on b (advance P (layout r ∷ a))
      go true h rest = rw (h, advance) refl
      go false h rest = rw (h, advance) rest

-- THE LEAST OF TWO
pub least_left : (a b : ℕ) → a ≤ b → least a b ≡ a
least_left a b h = rw (le-leb a b h, least)

pub least_right : (a b : ℕ) → b < a → least a b ≡ b
least_right a b h = rw (lt-leb a b h, least)

least_assoc : (a b c : ℕ) → least (least a b) c ≡ least a (least b c)
least_assoc a b c = elim (dec_le a b) [
  | yes ab ↦ elim (dec_le b c) [
    | yes bc ↦ (let ac : a ≤ c = omega arith in rw (least_left a b ab, least_left b c bc, least_left a b ab, least_left a c ac) refl)
    | no cb ↦ (rw (least_left a b ab, least_right b c (omega arith)) refl)
  ]
  | no ba ↦ elim (dec_le b c) [
    | yes bc ↦ (rw (least_right a b (omega arith), least_left b c bc, least_right a b (omega arith)) refl)
    | no cb ↦ (rw (least_right a b (omega arith), least_right b c (omega arith), least_right a c (omega arith)) refl)
  ]
]

pub least_bound : (a b n : ℕ) → a ≤ n → least a b ≤ n
least_bound a b n h = elim (dec_le a b) [ yes ab ↦ rw (least_left a b ab) h | no ba ↦ rw (least_right a b (omega arith)) (omega arith) ]

-- EVENTS WHOSE RECORDS HAVE ONE SIZE
unfoldable pub Sized : ℕ → List Event → Type 0
Sized size [] = Unit {0}
Sized size (visit ∷ events) = Sized size events
Sized size (layout r ∷ events) = (length r ≡ size) × Sized size events

pub sized_append : (size : ℕ) (a b : List Event) → Sized size a → Sized size b → Sized size (a ++ b)
unfolding Sized
sized_append size [] b p q = q
sized_append size (visit ∷ a) b p q = sized_append size a b p q
sized_append size (layout r ∷ a) b (long, p) q = (long, sized_append size a b p q)

-- what a run adds to a progress
abbrev pub after_run : Progress → Run → Progress
after_run P run = record {
  outcome = run.outcome;
  visited = run.visited;
  layouts = P.layouts + length run.records;
  fewest_lines = least P.fewest_lines (fewest run.records);
  used = P.used + length (concat run.records);
  buffer = put_bytes P.used (concat run.records) P.buffer;
}

nothing_added : (P : Progress) (outcome : ℕ) → P.fewest_lines ≤ no_fewest
    → stopped outcome P ≡ after_run P (record { outcome = outcome; visited = P.visited; records = [] })
unfolding fewest concat
nothing_added P outcome bound = rw (add-zero P.layouts, add-zero P.used, least_left P.fewest_lines no_fewest bound, put_none P.used P.buffer) refl

module _ (limit size : ℕ) where
  room_test : (P : Progress) → P.used ≤ length P.buffer → ltb (length P.buffer) (P.used + size) ≡ ltb (length P.buffer - P.used) size
  room_test P inside = elim (dec_le (P.used + size) (length P.buffer)) [
    | yes fits ↦ le-ltb _ _ fits ∙ sym (le-ltb (length P.buffer - P.used) size (omega arith))
    | no short ↦ lt-ltb (length P.buffer) (P.used + size) (omega arith) ∙ sym (lt-ltb (length P.buffer - P.used) size (omega arith))
  ]

  -- one record more, then a run: the same as the run with the record in front
  record_added : (P : Progress) (r : List ℕ) (run : Run) → length r ≡ size → P.used + size ≤ length P.buffer
      → after_run (listed size r P) run ≡ after_run P (with_record r run)
  unfolding fewest concat
  record_added P r run long fits =
      rw (least_assoc P.fewest_lines (record_lines r) (fewest run.records), length-append r (concat run.records), one_more, sums, puts) refl
    where
      one_more : P.layouts + 1 + length run.records ≡ P.layouts + suc (length run.records)
      one_more = omega arith

      sums : P.used + size + length (concat run.records) ≡ P.used + (length r + length (concat run.records))
      sums = omega arith

      puts : put_bytes (P.used + size) (concat run.records) (put_bytes P.used r P.buffer) ≡ put_bytes P.used (r ++ concat run.records) P.buffer
      puts = rw (← long) (put_put P.used r (concat run.records) P.buffer (omega arith))

  pub advance_run : (events : List Event) → Sized size events → (P : Progress) → P.outcome ≡ 0 → P.used ≤ length P.buffer → P.fewest_lines ≤ no_fewest
      → advance limit size P events ≡ after_run P (scan limit size P.visited (length P.buffer - P.used) events)
  unfolding advance scan Sized
  advance_run [] sized P clear inside bound =
      nothing_added P P.outcome bound ∙ ap (λ o. after_run P (record { outcome = o; visited = P.visited; records = [] })) clear
  advance_run (visit ∷ events) sized P clear inside bound =
      go (ltb P.visited limit) refl (advance_run events sized (entered P) clear inside bound)
    where
      go : (t : Bool) → ltb P.visited limit ≡ t
          → advance limit size (entered P) events ≡ after_run P (scan limit size (P.visited + 1) (length P.buffer - P.used) events)
          → advance limit size P (visit ∷ events) ≡ after_run P (scan limit size P.visited (length P.buffer - P.used) (visit ∷ events))
      go true h rest = rw (h, advance, scan) rest
      go false h rest = rw (h, advance, scan) (nothing_added P 1 bound)
  advance_run (layout r ∷ events) sized P clear inside bound =
      go (ltb (length P.buffer) (P.used + size)) refl
      (λ fits. advance_run events sized.1 (listed size r P) clear
      (let same = put_length P.used r P.buffer (long_fits fits) in let k : P.used + size ≤ length P.buffer = fits in omega arith)
      (least_bound P.fewest_lines (record_lines r) no_fewest bound))
    where
      long_fits : P.used + size ≤ length P.buffer → P.used + length r ≤ length P.buffer
      long_fits fits = let long = sized.0 in omega arith

      go : (t : Bool) → ltb (length P.buffer) (P.used + size) ≡ t
          → (P.used + size ≤ length P.buffer → advance limit size (listed size r P) events
          ≡ after_run (listed size r P) (scan limit size P.visited (length (put_bytes P.used r P.buffer) - (P.used + size)) events))
          → advance limit size P (layout r ∷ events) ≡ after_run P (scan limit size P.visited (length P.buffer - P.used) (layout r ∷ events))
      go true h rest = let k : ltb (length P.buffer - P.used) size ≡ true = sym (room_test P inside) ∙ h in rw (h, k, advance, scan) (nothing_added P 2 bound)
      go false h rest =
          let fits : P.used + size ≤ length P.buffer = ltb-false _ _ h in
          let k : ltb (length P.buffer - P.used) size ≡ false = sym (room_test P inside) ∙ h in
          let same = put_length P.used r P.buffer (long_fits fits) in
          let room : length (put_bytes P.used r P.buffer) - (P.used + size) ≡ length P.buffer - P.used - size = omega arith in
          rw (h, k, advance, scan) (rest fits
          ∙ ap (λ n. after_run (listed size r P) (scan limit size P.visited n events)) room
          ∙ record_added P r (scan limit size P.visited (length P.buffer - P.used - size) events) sized.0 fits)

-- FROM THE START: nothing counted, no byte used
abbrev pub start : List ℕ → Progress
start buffer = record { outcome = 0; visited = 0; layouts = 0; fewest_lines = no_fewest; used = 0; buffer = buffer }

fewest_bound : (records : List (List ℕ)) → fewest records ≤ no_fewest
unfolding fewest
fewest_bound [] = omega arith
fewest_bound (r ∷ records) = elim (dec_le (record_lines r) (fewest records)) [
  | yes low ↦ (let k = fewest_bound records in rw (least_left (record_lines r) (fewest records) low) (omega arith))
  | no high ↦ (rw (least_right (record_lines r) (fewest records) (omega arith)) (fewest_bound records))
]

least_top : (n : ℕ) → n ≤ no_fewest → least no_fewest n ≡ n
least_top n h = elim (dec_le no_fewest n) [ yes k ↦ least_left no_fewest n k ∙ (omega arith) | no k ↦ least_right no_fewest n (omega arith) ]

-- what the code ends with, as the model's result
abbrev pub result_of : Progress → Solved
result_of P = record
    { number = 0; index = 0; outcome = P.outcome; layouts = P.layouts; visited = P.visited; fewest_lines = P.fewest_lines; buffer = P.buffer }

pub advance_solved : (limit size : ℕ) (events : List Event) (buffer : List ℕ) → Sized size events
    → result_of (advance limit size (start buffer) events) ≡ solved (scan limit size 0 (length buffer) events) buffer
advance_solved limit size events buffer sized =
    ap result_of (advance_run limit size events sized (start buffer) refl (omega arith) (omega arith))
    ∙ same (scan limit size 0 (length buffer - 0) events) ∙ ap (λ n. solved (scan limit size 0 n events) buffer) minus_zero
  where
    minus_zero : length buffer - 0 ≡ length buffer
    minus_zero = omega arith

    from_zero : (c : List ℕ) → put_bytes 0 c buffer ≡ c ++ drop (length c) buffer
    from_zero c = unfold put_bytes in ap (λ n. c ++ drop n buffer) (zero-add (length c))

    same : (run : Run) → result_of (after_run (start buffer) run) ≡ solved run buffer
    same run = rw (zero-add (length run.records), least_top (fewest run.records) (fewest_bound run.records), from_zero (concat run.records)) refl
