-- The judge against the rules on small grids, with holes and without, by computation: every drawing of a grid is judged, by the judge on its
-- record and by the test of SmallGrids.antt, which counts lines and labels chains.
use Rattle.std.specs.Prelude.{ℕ, ◌≡◌, refl, List, [], ◌∷◌, map, ℤ, pos}
use Rattle.rules.specs.Grid.{cell_of, Grid, grid_of, pads, place_at, parity}
use Rattle.rules.specs.Drawing.{Drawing}
use Rattle.rules.specs.Record.{drawing_of, field, record_of, tabulate}
use Rattle.rules.specs.Tests.{all_below}
use Rattle.rules.specs.CheckedListed.{has_corner, diagonal, not_blank, squares_checked, corners_checked}
use Rattle.std.specs.Prelude.{if◌then◌else◌}
use Rattle.model.specs.JoinedEnds.{unjoinable, joined_ends, put_end, put_end_at}
use Rattle.model.specs.Judge.{after_line, after_edge, after_place, followed, is_ordinary_record, has_listed_shape, verdict}
use Rattle.model.specs.SmallGrids.{drawing_of_codes, codes_at, before_each, all_drawings, relabel, labels, codes_agree, none_closed, is_ordinary, is_listed, o, h}

-- by the test that counts and labels
unfoldable pub counted_verdict : Grid → Drawing → ℕ
counted_verdict g D = if is_ordinary g D then (if is_listed g D then 2 else 1) else 0

abbrev pub SameVerdicts : ℕ → ℕ → List ℤ → Type 0
SameVerdicts height width cells =
    let g = grid_of height width cells in
    let drawings = all_drawings g 0 (pads g) in
    map (λ l. verdict g (record_of g (drawing_of_codes l))) drawings ≡ map (λ l. counted_verdict g (drawing_of_codes l)) drawings

pub record JudgedGrids : Type 0 where
  pub blank_2_2 : SameVerdicts 2 2 (o ∷ o ∷ o ∷ o ∷ [])
  pub pair_2_2 : SameVerdicts 2 2 (pos 5 ∷ o ∷ o ∷ pos 5 ∷ [])
  pub unequal_2_2 : SameVerdicts 2 2 (pos 5 ∷ o ∷ o ∷ pos 4 ∷ [])
  pub four_2_2 : SameVerdicts 2 2 (pos 5 ∷ pos 5 ∷ pos 5 ∷ pos 5 ∷ [])
  pub corner_over_a_hole_2_2 : SameVerdicts 2 2 (o ∷ pos 0 ∷ pos 0 ∷ h ∷ [])
  pub blank_2_3 : SameVerdicts 2 3 (o ∷ o ∷ o ∷ o ∷ o ∷ o ∷ [])
  pub detour_2_3 : SameVerdicts 2 3 (pos 5 ∷ pos 5 ∷ o ∷ o ∷ o ∷ o ∷ [])
  pub around_a_hole_2_3 : SameVerdicts 2 3 (pos 5 ∷ h ∷ pos 5 ∷ o ∷ o ∷ o ∷ [])
  pub pair_3_2 : SameVerdicts 3 2 (pos 7 ∷ o ∷ o ∷ o ∷ o ∷ pos 7 ∷ [])
  pub corner_and_pair_3_2 : SameVerdicts 3 2 (pos 1 ∷ o ∷ h ∷ pos 1 ∷ pos 0 ∷ pos 0 ∷ [])
  pub loop_beside_a_pair_2_3 : SameVerdicts 2 3 (o ∷ o ∷ pos 7 ∷ o ∷ o ∷ pos 7 ∷ [])
  pub holes_3_2 : SameVerdicts 3 2 (o ∷ pos 1 ∷ pos 1 ∷ h ∷ h ∷ o ∷ [])

pub judged_grids : JudgedGrids
unfolding counted_verdict all_below drawing_of_codes codes_at before_each all_drawings relabel labels codes_agree none_closed is_ordinary is_listed drawing_of field record_of tabulate place_at parity grid_of cell_of has_corner diagonal not_blank squares_checked corners_checked unjoinable joined_ends put_end put_end_at after_line after_edge after_place followed is_ordinary_record has_listed_shape verdict
judged_grids = record {
  blank_2_2 = refl;
  pair_2_2 = refl;
  unequal_2_2 = refl;
  four_2_2 = refl;
  corner_over_a_hole_2_2 = refl;
  blank_2_3 = refl;
  detour_2_3 = refl;
  around_a_hole_2_3 = refl;
  pair_3_2 = refl;
  corner_and_pair_3_2 = refl;
  loop_beside_a_pair_2_3 = refl;
  holes_3_2 = refl;
}
