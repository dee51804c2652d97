-- The head of the text, from what the reader and the search answer: `refused_head` for a refused file, `accepted_head` for an accepted one.
-- They rest on the contracts of the reader and of `search`.
use Prim.Native.Nat.{ℕ, zero, suc, ◌*◌}
use Rattle.std.specs.Prelude.{◌≡◌, Bool, true, false, List, [], ◌∷◌, take, ℤ, Ok, Err}
use Rattle.std.proofs.Math.Path.{refl, ap}
use Rattle.std.proofs.Common.{arith}
use Rattle.model.specs.Refusals.{grid_refusal}
use Rattle.model.specs.RefusalLaws.{accepted_is_not_refused}
use Rattle.model.specs.Runs as runs
use Rattle.model.specs.GridFile.{Standing, read, read_from, accepted, declined, refusal, is_complete, after}
use Rattle.model.specs.Routes.{found_within}
use Rattle.gridfile.specs.declared.Grid.{Grid}
use Rattle.gridfile.specs.declared.Declined.{Declined}
use Rattle.gridfile.specs.declared.Fault.{Fault}
use Rattle.gridfile.specs.declared.Fault.TheVariants.{StrayByte, EleventhDigit, LargeCode, FieldCount, BadSize, FileEnd, ByteAfterDigit, LeadingZero, HalfByte}
use Rattle.gridfile.specs.Fields.{fault_number}
use Rattle.gridfile.specs.Answers.{reading_says}
use Rattle.tally.specs.declared.Solved.{Solved}
use Rattle.tally.specs.Answers.{answer_says}
use Rattle.solver.specs.Answers.{Solves, run_of}
use Rattle.listing.specs.Listing.{grid_found, reading_found, reading_head, put_records, Headed}

-- ## A refused file

-- a declined file has H and W 0, from any standing of the reader on
pub declined_sizes : (s : Standing) (bytes : List ℕ) → ((read_from s bytes).number ≡ 0 → ⊥) → ((read_from s bytes).height ≡ 0) × ((read_from s bytes).width ≡ 0)
unfolding read_from accepted declined
declined_sizes s [] n = go (is_complete s) refl
  where
    go : (b : Bool) → is_complete s ≡ b → ((read_from s []).height ≡ 0) × ((read_from s []).width ≡ 0)
    go true h = absurd (n (rw (h, read_from) refl))
    go false h = rw (h, read_from) (refl, refl)
declined_sizes s (byte ∷ bytes) n = go (refusal s byte) refl (declined_sizes (after s byte) bytes)
  where
    go : (m : ℕ) → refusal s byte ≡ m → (((read_from (after s byte) bytes).number ≡ 0 → ⊥) → ((read_from (after s byte) bytes).height ≡ 0) × ((read_from (after s byte) bytes).width ≡ 0))
        → ((read_from s (byte ∷ bytes)).height ≡ 0) × ((read_from s (byte ∷ bytes)).width ≡ 0)
    go zero h rest = rw (h, read_from) (rest (rw (h, read_from) at n))
    go (suc m) h rest = rw (h, read_from) (refl, refl)

pub some_fault : (fault : Fault) → fault_number fault ≡ 0 → ⊥
some_fault StrayByte is = omega arith
some_fault EleventhDigit is = omega arith
some_fault LargeCode is = omega arith
some_fault FieldCount is = omega arith
some_fault BadSize is = omega arith
some_fault FileEnd is = omega arith
some_fault ByteAfterDigit is = omega arith
some_fault LeadingZero is = omega arith
some_fault HalfByte is = omega arith

module _ (file : List ℕ) where
  module _ (limit : ℕ) (buffer : List ℕ) (declined : Declined) (same : reading_says (Err declined) ≡ read file) where
    pub refused_head : Headed limit file buffer (Err declined) buffer
    unfolding reading_head reading_found put_records runs.concat
    refused_head = go (fault_number declined.fault) refl
      where
        go : (m : ℕ) → fault_number declined.fault ≡ m → Headed limit file buffer (Err declined) buffer
        go zero e = absurd (some_fault declined.fault e)
        go (suc m) e = record {
          text = rw (← same, e) refl;
          number = rw (← same) refl;
          height = rw (← same) refl;
          width = rw (← same) refl;
          outcome = rw (← same, e) refl;
          layouts = rw (← same, e) refl;
          visited = rw (← same, e) refl;
          after = rw (← same, e) refl;
        }

  -- ## An accepted file

  module _ (limit : ℕ) (buffer : List ℕ) (grid : Grid) (same : reading_says (Ok grid) ≡ read file) where
    abbrev cells : List ℤ
    cells = take (grid.height * grid.width) grid.cells

    abbrev run : runs.Run
    run = run_of grid.height grid.width cells limit buffer

    not_refused : (grid_refusal grid.height grid.width cells).0 ≡ 0
    not_refused = ap (λ (x : ℕ × ℕ). x.0) (accepted_is_not_refused grid.height grid.width cells grid.accepted)

    pub accepted_head : (found : Solved) (buffer' : List ℕ) → Solves grid.height grid.width cells limit buffer (Ok found) buffer'
        → Headed limit file buffer (Ok (record { height = grid.height; width = grid.width; found = found })) buffer'
    unfolding reading_head reading_found put_records grid_found found_within
    accepted_head found buffer' solves = let told : answer_says (Ok found) buffer' ≡ runs.solved run buffer = solves.of_run not_refused in record {
      text = rw (← same) (rw (ap (λ (s : runs.Solved). s.layouts) told, ap (λ (s : runs.Solved). s.visited) told, ap (λ (s : runs.Solved). s.fewest_lines) told, ap (λ (s : runs.Solved). s.outcome) told) refl);
      number = rw (← same) refl;
      height = rw (← same) refl;
      width = rw (← same) refl;
      outcome = rw (← same) (ap (λ (s : runs.Solved). s.outcome) told);
      layouts = rw (← same) (ap (λ (s : runs.Solved). s.layouts) told);
      visited = rw (← same) (ap (λ (s : runs.Solved). s.visited) told);
      after = rw (← same) (ap (λ (s : runs.Solved). s.buffer) told);
    }
