-- `listing::line` meets its contract: where the part is empty there is no record, and nothing is printed. Assumes nothing.
use Rattle.std.proofs.Common.{◌∙◌, sym, rules}
use Rattle.listing.specs.BufferRecords.{no_line}
use Rattle.listing.proofs.line.Goals as goal

pub returns-then-is_empty : goal.returns-then-is_empty
returns-then-is_empty c = c.new.ensures ∙ sym (no_line _ _ _ _ _ _ c.at-layout.ensures (search rules))
