-- Where less than a record of room is left the buffer is full; else the record is put behind those before it. Assumes nothing.
use mathlib.Core.Path.{refl}
use native.Mathlib.Omega.{arith}
use Rattle.std.proofs.lemmas.Result.{err_from_is_err_and}
use Rattle.runs.specs.Layouts.{full, added}
use Rattle.walking.proofs.Tested.{word_put, added_to}
use Rattle.walking.proofs.add_record.Goals as goal

pub returns-in_err-at : goal.returns-in_err-at
returns-in_err-at c =
    let p = err_from_is_err_and c.from_residual.result c.from_residual.ensures.1 in
    rw (p.1, p.2, c.in_err-at.ensures.0) (full _ _ _ _ _ c.requires.2 c.in_err-at.ensures.1, refl)

pub returns : goal.returns
returns c =
    let room = c.in_ok-at.ensures in
    added_to _ _ _ _ _ _ _ c.add.ensures
    (added _ _ _ _ _ _ _ _ _ refl room.0 c.requires.2 (omega (arith, room.0, room.1)) (word_put _ _ _ _ (omega (arith, room.0, room.1, c.requires.2)) c.put_word.ensures.stored) c.requires.1 refl)
