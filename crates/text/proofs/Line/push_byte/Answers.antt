-- `text::Line::push_byte` meets its contract: behind the byte that is put there are zeros still. Assumes nothing.
use Rattle.std.proofs.Common.{rules}
use Rattle.text.specs.PaddedLaws.{padded_more}
use Rattle.text.proofs.Line.push_byte.Goals as goal

pub invariant_of-self : goal.invariant_of-self
invariant_of-self g c = padded_more c.put_byte-self-inside.ensures (search rules) c.self.invariant
