-- `hunekowha_read` meets its contract, from those of `gridfile::read` and `put_reading`. Assumes nothing.
use Rattle.hunekowha.proofs.Short.{reading_put}
use Rattle.hunekowha.proofs.hunekowha_read.Goals as goal

pub returns : goal.returns
returns c = reading_put _ _ c.read.ensures c.put_reading.ensures
