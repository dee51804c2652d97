-- `hunekowha_read_packed` meets its contract, from those of `packed::read_packed` and `put_reading`. Assumes nothing.
use Rattle.hunekowha.proofs.Short.{reading_put}
use Rattle.hunekowha.proofs.hunekowha_read_packed.Goals as goal

pub returns : goal.returns
returns c = reading_put _ _ c.read_packed.ensures c.put_reading.ensures
