-- What the code's ends stand for: the ends of the model. Assumes nothing.
use Rattle.std.specs.Prelude.{◌≡◌, false, refl}
use Rattle.model.specs.JoinedEnds as model
use Rattle.boardparts.specs.declared.End.{End}
use Rattle.boardparts.specs.declared.End.TheVariants.{Through, Pad, Clue}

abbrev pub end_told : End → model.End
end_told Through = model.through
end_told (Pad v) = model.at_pad v
end_told (Clue code) = model.at_clue code

pub not_through : (end : End) → (end ≡ Through → ⊥) → model.is_through (end_told end) ≡ false
not_through Through other = absurd (other refl)
not_through (Pad v) other = refl
not_through (Clue code) other = refl
