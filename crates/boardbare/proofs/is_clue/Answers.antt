-- `boardbare::is_clue` meets its contract.
use lib.IntN.{pos}
use native.Mathlib.Omega.{arith}
use Rattle.model.specs.Lists.{default_free}
use Rattle.boardbare.proofs.Codes.{clue_is}
use Rattle.boardbare.proofs.is_clue.Goals as goal

pub returns : goal.returns
returns c = clue_is c.args.grid.now.cells.now _ _ (default_free c.args.grid.now.cells.now _ (pos 0) _ c.requires) (record { sfits = omega arith })
