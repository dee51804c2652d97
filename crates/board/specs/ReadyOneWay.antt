-- What is true of the arrays of every board can be so in one way only, so that it follows from a board's ghost field. Assumes nothing.
use Rattle.std.specs.Prelude.{ℕ, ◌≡◌, refl}
use Rattle.std.proofs.Math.Path.{sym, ap}
use Rattle.std.proofs.Common.{◌∙◌, inl, inr, ◌⊎◌}
use Rattle.std.proofs.Math.Nat.{ℕ_set}
use Rattle.std.proofs.Props.{props}
use mathlib.Core.HLevel.{collapsible→set, prop→set, Unit-prop}
use mathlib.Core.Sum.{⊎_set}
use Rattle.rules.specs.Grid.{Grid}
use Rattle.model.specs.JoinedEnds.{End, through, at_pad, at_clue}
use Rattle.boardview.specs.declared.Arrays.{Arrays}
use Rattle.boardview.specs.View.{Ready}

-- two ends are the same in one way only
abbrev Parts : Type 0
Parts = Unit {0} ⊎ (ℕ ⊎ ℕ)

parts : End → Parts
parts through = inl tt
parts (at_pad v) = inr (inl v)
parts (at_clue code) = inr (inr code)

whole : Parts → End
whole (inl _) = through
whole (inr (inl v)) = at_pad v
whole (inr (inr code)) = at_clue code

back : (e : End) → whole (parts e) ≡ e
unfolding whole parts
back through = refl
back (at_pad v) = refl
back (at_clue code) = refl

parts_set : IsSet Parts
parts_set = ⊎_set (prop→set Unit-prop) (⊎_set ℕ_set ℕ_set)

end_set : IsSet End
end_set = collapsible→set (λ x y p. sym (back x) ∙ ap whole (ap parts p) ∙ back y)
    (λ x y p q. ap (λ z. sym (back x) ∙ ap whole z ∙ back y) (parts_set (parts x) (parts y) (ap parts p) (ap parts q)))

pub ready_one_way : {g : Grid} {s : Arrays} → IsProp (Ready g s)
ready_one_way = Prim.hlevel (props, end_set)
