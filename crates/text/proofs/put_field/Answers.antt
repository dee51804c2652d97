-- `text::put_field` meets its contract: the digits, and then the byte. Assumes nothing.
use Rattle.text.specs.PutLaws.{put_both}
use Rattle.text.proofs.put_field.Goals as goal

pub returns : goal.returns
returns c = put_both c.put_decimal-last.ensures c.put_byte.ensures
