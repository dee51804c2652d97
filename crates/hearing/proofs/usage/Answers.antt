-- `hearing::usage` meets its contract: the bytes are those of the text. Assumes nothing.
use mathlib.Core.Path.{refl}
use Rattle.model.specs.Text.{bytes}
use Rattle.model.specs.JudgeText.{usage_line}
use Rattle.hearing.proofs.usage.Goals as goal

pub returns : goal.returns
unfolding usage_line bytes
returns c = refl
