-- The grids that the theorems speak of: at least two rows and two columns, and blank past the pads. Every accepted grid is one.
use Rattle.std.specs.Prelude.{ℕ, ◌≤◌, ◌≡◌, List, ℤ}
use Rattle.std.proofs.Common.{ap}
use Rattle.std.proofs.Math.ListN.{get_or-eq_default}
use Rattle.rules.specs.Grid.{cell_of, blank_cell, Grid, grid_of, pads, Accepted, blank}

pub record Proper (g : Grid) : Type 0 where
  pub tall : 2 ≤ g.height
  pub wide : 2 ≤ g.width
  pub blank_past : (v : ℕ) → pads g ≤ v → g.cell v ≡ blank

pub accepted_proper : (height width : ℕ) (cells : List ℤ) → Accepted height width cells → Proper (grid_of height width cells)
unfolding grid_of cell_of
accepted_proper height width cells a = record {
  tall = a.height_in_range.0;
  wide = a.width_in_range.0;
  blank_past = λ v past. ap cell_of (get_or-eq_default cells blank_cell {n = v} (rw a.one_cell_a_pad past));
}
