-- `boardbare::action_table` meets its contract: each byte is what the closure gave at its index.
use Rattle.std.proofs.Common.{rules}
use Rattle.boardbare.proofs.action_table.Goals as goal

pub returns : goal.returns
returns c =
    let made = c.from_fn.ensures.items in
    record {
      as_long = made.long;
      holds = λ i high. (let call = (made.at i 0 high).2 in search rules);
    }
