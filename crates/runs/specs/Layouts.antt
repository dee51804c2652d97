-- How far an engine has come, as its code keeps it: each layout so far fills one record of the buffer. What adding a layout does to the counts and
-- the buffer, where there is room and where there is none. It rests on Progress.antt and on the model's PutBytes.antt.
use Rattle.std.specs.Prelude.{ℕ, ◌+◌, ◌*◌, ◌-◌, ◌≤◌, ◌<◌, ◌≡◌, refl, List, [], ◌∷◌}
use Rattle.std.proofs.Math.Path.{ap}
use Rattle.std.proofs.Common.{◌∙◌, arith, lt-ltb, le-ltb}
use Rattle.std.proofs.Math.ListN.{length}
use Rattle.rules.specs.Record.{record_lines}
use Rattle.model.specs.PutBytes.{put_bytes, put_length}
use Rattle.model.specs.Runs.{Event, layout, least}
use Rattle.runs.specs.Progress.{Progress, advance}

-- with records of one size
abbrev pub progress : (size outcome visited layouts fewest_lines : ℕ) → List ℕ → Progress
progress size outcome visited layouts fewest_lines buffer = record
    { outcome = outcome; visited = visited; layouts = layouts; fewest_lines = fewest_lines; used = layouts * size; buffer = buffer }

-- ADDED: the counts and the buffer after events that are layouts only, whatever limit and count
pub record Added (size : ℕ) (events : List Event) (layouts fewest_lines : ℕ) (buffer : List ℕ) (outcome layouts' fewest_lines' : ℕ) (buffer' : List ℕ) : Type 0 where
  pub advanced : (limit visited : ℕ) → progress size outcome visited layouts' fewest_lines' buffer' ≡ advance limit size (progress size 0 visited layouts fewest_lines buffer) events
  pub inside : layouts' * size ≤ length buffer'
  pub same_length : length buffer' ≡ length buffer

module _ (size : ℕ) (r : List ℕ) (buffer : List ℕ) (layouts fewest_lines : ℕ) where
  -- a layout is due and less than a record of room is left
  pub full : (inside : layouts * size ≤ length buffer) → length buffer - layouts * size < size → Added size (layout r ∷ []) layouts fewest_lines buffer 2 layouts fewest_lines buffer
  unfolding advance
  full inside short = record {
    advanced = λ limit visited. rw (lt-ltb (length buffer) (layouts * size + size) (omega arith), advance) refl;
    inside = inside;
    same_length = refl;
  }

  -- its record is put behind those before it
  pub added : (at lines least_lines : ℕ) (buffer' : List ℕ) → length r ≡ size → at ≡ layouts * size → layouts * size ≤ length buffer → size ≤ length buffer - layouts * size
      → buffer' ≡ put_bytes at r buffer → lines ≡ record_lines r → least_lines ≡ least fewest_lines lines
      → Added size (layout r ∷ []) layouts fewest_lines buffer 0 (layouts + 1) least_lines buffer'
  unfolding advance
  added at lines least_lines buffer' long at_is inside room is lines_are least_is =
      let next : (layouts + 1) * size ≡ layouts * size + size = omega (arith, native.Mathlib.Nat.suc-mul layouts size, ap (λ (k : ℕ). k * size) (native.Mathlib.Numerals.add-one layouts)) in
      let there : buffer' ≡ put_bytes (layouts * size) r buffer = is ∙ ap (λ (k : ℕ). put_bytes k r buffer) at_is in
      let same : length buffer' ≡ length buffer = ap length there ∙ put_length (layouts * size) r buffer (omega arith) in
      record {
        advanced = λ limit visited. rw (le-ltb (length buffer) (layouts * size + size) (omega arith), advance, next, there, least_is, lines_are) refl;
        inside = omega arith;
        same_length = same;
      }

-- the number of layouts is below the length of the buffer
pub few_layouts : (size layouts room : ℕ) → 1 ≤ size → layouts * size ≤ room → size ≤ room - layouts * size → layouts + 1 ≤ room
few_layouts size layouts room one inside fits = let all : layouts * 1 ≤ layouts * size = native.Mathlib.Nat.mul-le-mul_left layouts one in omega arith
