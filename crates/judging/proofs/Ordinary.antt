-- Laws of the verdict on a record of an accepted grid: it is followed from the bare ends, and where nothing is wrong the pads tell the
-- verdict and its lines are counted. They rest on the model's Judge.antt and on boardbare's BareView.antt.
use Prim.Native.Nat.{ℕ, ◌*◌, ◌-◌, ◌≤◌, ◌<◌}
use mathlib.Core.Path.{◌≡◌, refl, sym, ap, ◌∙◌, subst}
use mathlib.Core.Bool.{true}
use mathlib.Core.List.{List}
use native.Mathlib.Omega.{arith}
use lib.ListN.{get_or, length}
use lib.Seq.{take_all}
use lib.IntN.{ℤ}
use borrow.Author.Tests.{eq-eqb, ne_eqb}
use Rattle.rules.specs.Grid.{Cell, blank, clue, hole, places, cell_of, blank_cell, Grid, grid_of, Accepted}
use Rattle.rules.specs.Record.{record_lines}
use Rattle.rules.specs.Places.{zero≢one}
use Rattle.rules.specs.Tests.{all_below}
use Rattle.model.specs.JoinedEnds.{at_pad, bare_end}
use Rattle.model.specs.Judge.{so_far, followed, is_ordinary_record, has_listed_shape, verdict}
use Rattle.boardview.specs.View.{end_at}
use Rattle.boardbare.specs.BareArrays.{EndsFrom}
use Rattle.boardbare.specs.EdgeBytes.{few_pads}
use Rattle.boardbare.proofs.BareView.{bare_end_at}
use Rattle.std.specs.Prelude.{Option, IfSome, is_some}
use Rattle.std.proofs.Common.{Some, None}
use Rattle.judging.specs.Judging.{mark}
use Rattle.judging.specs.Following.{told, InUse, lines_in, FollowedOn, finished_at}

module _ (height width : ℕ) (cells : List ℤ) (ok : Accepted height width cells) where
  abbrev the_grid : Grid
  the_grid = grid_of height width cells

  pub few_cells : length cells ≤ 256
  few_cells = rw ok.one_cell_a_pad (few_pads height width ok.height_in_range ok.width_in_range)

  -- THE BARE ENDS
  module _ (bare : List ℤ) (filled : EndsFrom cells 0 bare) where
    shown : (v : ℕ) → end_at bare v ≡ bare_end v (cell_of (get_or cells v blank_cell))
    shown = bare_end_at cells bare few_cells filled

    pub bare_in_use : InUse bare
    bare_in_use = record { long = filled.as_long; near = λ v w low e. go (cell_of (get_or cells v blank_cell)) v w low (sym (shown v) ∙ e) }
      where
        go : (c : Cell) (v w : ℕ) → v < 512 → bare_end v c ≡ at_pad w → w < 512
        go blank v w low e = let same : v ≡ w = cc in omega arith
        go (clue code) v w low e = zero≢one (cc)
        go hole v w low e = let same : v ≡ w = cc in omega arith

    begun : (bytes : List ℕ) → followed the_grid bytes 0 ≡ told true bare
    unfolding followed grid_of
    begun bytes = λ i. so_far (λ v. sym (shown v) i)

    -- THE RECORD, followed to its end
    module _ (bytes : List ℕ) (long : length bytes ≡ (2 * height - 1) * (2 * width - 1)) {r : Option ℕ} {ends : List ℤ} (so : FollowedOn width bytes 0 (places height width) bare r ends) where
      at_the_end : followed the_grid bytes (places height width) ≡ told (is_some r) ends
      unfolding grid_of
      at_the_end = so.says the_grid refl (begun bytes)

      pub not_followed : r ≡ None → 0 ≡ verdict the_grid bytes
      unfolding verdict is_ordinary_record grid_of
      not_followed h = rw (eq-eqb (length bytes) (places height width) long, at_the_end, h) refl

      module _ {lines : ℕ} (right : r ≡ Some lines) where
        pub by_the_pads : mark (all_below (finished_at cells ends) (height * width)) (has_listed_shape the_grid bytes) ≡ verdict the_grid bytes
        unfolding verdict is_ordinary_record grid_of finished_at
        by_the_pads = rw (eq-eqb (length bytes) (places height width) long, at_the_end, right) refl

        pub all_lines : lines ≡ record_lines bytes
        all_lines = subst (λ (o : Option ℕ). IfSome o (λ n. n ≡ lines_in bytes (places height width))) right so.tells ∙ ap record_lines (take_all (places height width) bytes (omega (arith, long)))

  -- a record of another length
  pub wrong_length : (bytes : List ℕ) → (length bytes ≡ (2 * height - 1) * (2 * width - 1) → ⊥) → 0 ≡ verdict the_grid bytes
  unfolding verdict is_ordinary_record grid_of
  wrong_length bytes h = rw (ne_eqb (length bytes) (places height width) h) refl
