-- `boardbare::action_entry` meets its contract.
use Rattle.boardview.specs.Told.{action_entry}
use Rattle.boardbare.proofs.action_entry.Goals as goal

pub returns : goal.returns
unfolding action_entry
returns c = c.action_code.ensures
