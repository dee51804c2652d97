-- `reader_cases::print_grid` is safe: what is written lies in its array. Assumes nothing.
use Rattle.model.specs.Writing.{Writing, write}
use Rattle.reading.proofs.WriteRead.{written_within}
use lib.ListN.{length}
use lib.IntN.{ℤ}
use lib.Seq.{length-take-le}
use mathlib.Core.Path.{◌≡◌, sym}
use mathlib.Core.List.{List}
use Prim.Native.Nat.{ℕ, ◌≤◌}
use Rattle.reader_cases.proofs.print_grid.Goals as goal

within : (height width : ℕ) (cells : List ℤ) (buffer : List ℕ) {r : Writing} → r ≡ write height width cells buffer → r.length ≤ length r.buffer
within height width cells buffer e = rw e (written_within height width cells buffer)

pub slice_bounds-text-end : goal.slice_bounds-text-end
slice_bounds-text-end c = within _ _ _ _ c.in-Ok.ensures

pub slice_bounds-write_all-end : goal.slice_bounds-write_all-end
slice_bounds-write_all-end c = sym (length-take-le _ _ (within _ _ _ _ c.in-Ok.ensures))
