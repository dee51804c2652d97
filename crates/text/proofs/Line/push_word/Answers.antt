-- `text::Line::push_word` meets its contract: what is put stands behind the text so far, and zeros behind it. Assumes nothing.
use Rattle.std.proofs.Common.{ap, ◌∙◌, ℕ, List, ◌++◌, rules}
use Rattle.text.specs.PutLaws.{put_behind}
use Rattle.text.specs.PaddedLaws.{padded_more}
use Rattle.text.proofs.Line.push_word.Goals as goal

pub returns : goal.returns
returns g c = put_behind c.put_word-self-inside.ensures (search rules) ∙ ap (λ (text : List ℕ). text ++ (c.args.word.now)) c.self.view_is

pub invariant_of-self : goal.invariant_of-self
invariant_of-self g c = padded_more c.put_word-self-inside.ensures (search rules) c.self.invariant
