-- What a caller of three calls sees: a slice is read, its grid is written as a file, and what was written is read again. It follows from the
-- contracts of `read_packed`, `write` and `read` alone, for any slice that is accepted and any buffer of 2,822 bytes at least.
use Rattle.std.specs.Prelude.{ℕ, ◌*◌, ◌≤◌, ◌≡◌, refl, List, length, take, Result, Ok, Err}
use Rattle.std.proofs.Common.{sym, ap, ◌∙◌, arith}
use Rattle.model.specs.GridFile as model
use Rattle.model.specs.Writing as writer
use Rattle.model.specs.Packed.{read_packed}
use Rattle.reading.specs.WrittenBack.{pads_read}
use Rattle.reading.specs.SlicesAndFiles.{WrittenAndRead, slice_written}
use Rattle.reading.proofs.SlicesAndFiles.{slice_to_any}
use Rattle.grid.specs.declared.Refusal.TheVariants.{Size, CellCount, Cell}
use Rattle.gridfile.specs.declared.sized.Grid.{Grid}
use Rattle.gridfile.specs.declared.Declined.{Declined}
use Rattle.gridfile.specs.declared.Unwritten.{Unwritten}
use Rattle.gridfile.specs.declared.Unwritten.TheVariants.{BadGrid, NoRoom}
use Rattle.gridfile.specs.Answers.{reading_says, writing_says}

module _
    (slice buffer : List ℕ) (r : Grid) (read_slice : reading_says (Ok r) ≡ read_packed slice) (room : 2822 ≤ length buffer)
    (w : Result ℕ Unwritten) (after : List ℕ) (wrote : writing_says w after ≡ writer.write r.height r.width (take (r.height * r.width) r.cells) buffer)
  where
    of_the_slice : writing_says w after ≡ slice_written slice buffer
    of_the_slice = wrote ∙ ap (λ (s : model.Reading). writer.write s.height s.width (pads_read s) buffer) read_slice

    both_ways : WrittenAndRead slice buffer
    both_ways = slice_to_any slice (ap (λ (s : model.Reading). s.number) (sym read_slice)) buffer room

    number_0 : (writing_says w after).number ≡ 0
    number_0 = ap (λ (s : writer.Writing). s.number) of_the_slice ∙ both_ways.is_written

    -- the grid is written
    pub is_written : (long : ℕ) × (w ≡ Ok long)
    is_written = go w number_0
      where
        go : (v : Result ℕ Unwritten) → (writing_says v after).number ≡ 0 → (long : ℕ) × (v ≡ Ok long)
        go (Ok long) e = (long, refl)
        go (Err (BadGrid Size)) e = absurd (omega arith)
        go (Err (BadGrid CellCount)) e = absurd (omega arith)
        go (Err (BadGrid (Cell index))) e = absurd (omega arith)
        go (Err NoRoom) e = absurd (omega arith)

    -- and reading what was written answers what reading the slice did
    pub same_answer : (long : ℕ) → w ≡ Ok long → (again : Result Grid Declined) → reading_says again ≡ model.read (take long after) → reading_says again ≡ reading_says (Ok r)
    same_answer long is again e =
        e ∙ ap (λ (s : writer.Writing). model.read (take s.length s.buffer)) (ap (λ (v : Result ℕ Unwritten). writing_says v after) (sym is) ∙ of_the_slice)
        ∙ both_ways.same_grid ∙ sym read_slice
