-- `boardparts::store` meets its contract.
use Rattle.boardview.specs.Signed.{slot_number}
use mathlib.Core.Path.{refl}
use Rattle.boardparts.proofs.store.Goals as goal

pub returns : goal.returns
returns c = rw (c.logged-k.ensures, slot_number c.args.slot c.requires.0) refl
