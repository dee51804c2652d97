-- The steps of the walk as its code takes them, on an accepted grid: each path of `give` and `walk_on` is one law of WalkLaws.antt. It rests on that
-- file and on GivenLaws.antt.
use Prim.Native.Nat.{ℕ, ◌+◌, ◌*◌, ◌-◌, ◌%◌, ◌/◌, ◌≤◌, ◌<◌}
use mathlib.Core.Path.{◌≡◌, refl, sym, ap, ◌∙◌}
use mathlib.Core.Bool.{Bool, true, false}
use mathlib.Core.List.{List}
use native.Mathlib.Omega.{arith}
use native.Mathlib.Nat.{mul-le-mul}
use lib.Dec.{eqb}
use lib.ListN.{length}
use Rattle.rules.specs.Grid.{Edge, right, down, Grid, grid_of, places}
use Rattle.model.specs.Walk.{may_give}
use Rattle.runs.specs.Progress.{Progress}
use Rattle.runs.specs.Layouts.{progress, Added}
use Rattle.grid.specs.declared.accepted.Grid.{Grid as AcceptedGrid}
use Rattle.grid.specs.AsGrid.{as_grid}
use Rattle.walking.specs.Given.{put_edge, tested_record}
use Rattle.walking.specs.GivenLaws.{put_length}
use Rattle.walking.specs.Walked.{Begun, Gave, WalkedOn, Going}
use Rattle.std.specs.Prelude.{Ok, Err}
use Rattle.tally.specs.declared.Tally.{Tally}
use Rattle.tally.specs.declared.Stop.{Stop}
use Rattle.tally.specs.Outcomes.{stopped_some}
use Rattle.tally.specs.Counts.{progress_of}
use Rattle.walking.specs.WalkLaws as law

module _ (grid : AcceptedGrid) where
  pub few_pads : grid.height * grid.width ≤ 256
  few_pads = mul-le-mul grid.accepted.height_in_range.1 grid.accepted.width_in_range.1

module _ (grid : AcceptedGrid) (bytes : List ℕ) (layouts : ℕ) (buffer : List ℕ) (begun : Begun grid.height grid.width bytes layouts buffer) where
  abbrev g : Grid
  g = as_grid grid

  abbrev size : ℕ
  size = places grid.height grid.width

  -- ## What has been written

  module _ (first_edge second_edge : Edge) (r d : Bool) (one_put : List ℕ) (one : one_put ≡ put_edge g first_edge r bytes) where
    one_same : length one_put ≡ length bytes
    one_same = ap length one ∙ put_length g first_edge r bytes

    pub one_long : length one_put ≡ size
    one_long = one_same ∙ begun.long

    module _ (both_put : List ℕ) (two : both_put ≡ put_edge g second_edge d one_put) where
      pub both_same : length both_put ≡ length bytes
      both_same = ap length two ∙ put_length g second_edge d one_put ∙ one_same

      pub written_begun : Begun grid.height grid.width both_put layouts buffer
      written_begun = record { long = both_same ∙ begun.long; inside = begun.inside }

  module _ (limit v tried fewest_lines : ℕ) where
    abbrev wide : 2 ≤ grid.width
    wide = grid.accepted.width_in_range.0

    abbrev P : Progress
    P = progress size 0 tried layouts fewest_lines buffer

    -- ## One code

    module _ (r d t : Bool) (says : t ≡ may_give g v r d) where
      pub not_tried : t ≡ false → Gave g limit v r d bytes P bytes P
      unfolding grid_of
      not_tried off = law.not_tried g wide limit v bytes P begun.inside r d (sym says ∙ off)

      pub spent : t ≡ true → limit ≤ tried → Gave g limit v r d bytes P bytes (progress size 1 tried layouts fewest_lines buffer)
      unfolding grid_of
      spent on over = law.spent g wide limit v bytes P begun.inside r d (sym says ∙ on) over

      pub went_on : t ≡ true → tried < limit → (one_put both_put bytes' : List ℕ) (P' : Progress) → one_put ≡ put_edge g (right v) r bytes → both_put ≡ put_edge g (down v) d one_put
          → WalkedOn g limit (v + 1) both_put (progress size 0 (tried + 1) layouts fewest_lines buffer) bytes' P' → Gave g limit v r d bytes P bytes' P'
      unfolding grid_of
      went_on on below one_put both_put bytes' P' one two walked =
          law.went_on g wide limit v bytes P begun.inside r d (sym says ∙ on) below one_put both_put bytes' P' one two walked

    -- ## A full drawing

    pub all_given : v ≤ grid.height * grid.width → grid.height * grid.width ≤ v → (o tried' layouts' fewest_lines' : ℕ) (buffer' : List ℕ)
        → Added size (tested_record g bytes) layouts fewest_lines buffer o layouts' fewest_lines' buffer' → tried' ≡ tried → WalkedOn g limit v bytes P bytes (progress size o tried' layouts' fewest_lines' buffer')
    unfolding grid_of
    all_given low high o tried' layouts' fewest_lines' buffer' added same =
        law.all_given g wide limit v bytes P begun.inside (omega arith) _
        (ap (λ (n : ℕ). progress size o n layouts' fewest_lines' buffer') same ∙ added.advanced limit tried) added.inside added.same_length

    -- ## The four codes of a pad

    module _ (low : v < grid.height * grid.width) where
      pub none_yet : Going g limit v 4 0 bytes P bytes P
      unfolding grid_of
      none_yet = law.begun g wide limit v bytes P begun.inside low refl

      pub loop_over : (m : ℕ) → m ≤ 4 → 4 ≤ m → (bytes' : List ℕ) (Q : Progress) → Going g limit v (4 - m) m bytes P bytes' Q → WalkedOn g limit v bytes P bytes' Q
      unfolding grid_of
      loop_over = law.loop_over g wide limit v bytes P begun.inside low refl

      module _ (m : ℕ) (less : m < 4) (bytes₁ bytes₂ : List ℕ) (Q : Progress) (t : Tally) (buffer' : List ℕ) (going : Going g limit v (4 - m) m bytes P bytes₁ Q) where
        pub stops_at : (s : Stop) → Gave g limit v (eqb (m % 2) 1) (eqb (m / 2) 1) bytes₁ Q bytes₂ (progress_of size (Err s) t buffer') → WalkedOn g limit v bytes P bytes₂ (progress_of size (Err s) t buffer')
        unfolding grid_of
        stops_at s gave = law.stops_at g wide limit v bytes P begun.inside low refl m less bytes₁ bytes₂ Q _ _ _ _ buffer' gave going (stopped_some s)

        pub next_one : Gave g limit v (eqb (m % 2) 1) (eqb (m / 2) 1) bytes₁ Q bytes₂ (progress_of size (Ok tt) t buffer') → Going g limit v (4 - (m + 1)) (m + 1) bytes P bytes₂ (progress_of size (Ok tt) t buffer')
        unfolding grid_of
        next_one gave = law.next_one g wide limit v bytes P begun.inside low refl m less bytes₁ bytes₂ Q _ _ _ _ buffer' gave going refl
