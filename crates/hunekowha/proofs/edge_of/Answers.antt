-- `hunekowha::edge_of` meets its contract. Assumes nothing.
use Rattle.hunekowha.proofs.CallLaws.{asked_byte, asked_large}
use Rattle.hunekowha.proofs.edge_of.Goals as goal

pub returns-then-state-lt256 : goal.returns-then-state-lt256
returns-then-state-lt256 c = asked_byte _ c.if-state-lt256.true

pub returns : goal.returns
returns c = asked_large _ c.if-state-lt256.false
