-- No two accepted slices have one grid: what is proved of that stands by itself, since it rests on `slice_is_own` of SlicesAndFiles.antt.
use Rattle.std.specs.Prelude.{◌≡◌, List, ℕ}
use Rattle.std.proofs.Common.{sym, ◌∙◌}
use Rattle.std.proofs.Math.Path.{ap}
use Rattle.model.specs.GridFile.{Reading}
use Rattle.model.specs.Packed.{read_packed, grid_slice}
use Rattle.reading.specs.WrittenBack.{pads_read}
use Rattle.reading.proofs.SlicesAndFiles.{slice_is_own}

-- ## One slice a grid

-- two accepted slices with the same reading are the same slice
pub one_slice_a_grid : (slice other : List ℕ) → (read_packed slice).number ≡ 0 → read_packed slice ≡ read_packed other → slice ≡ other
one_slice_a_grid slice other accepted same =
    sym (slice_is_own slice accepted)
    ∙ ap (λ (r : Reading). grid_slice r.height r.width (pads_read r)) same
    ∙ slice_is_own other (rw same at accepted)
