-- `boardundo::undo_one` meets its contract.
use Rattle.boardview.specs.Geometry.{slot_told}
use Rattle.boardview.specs.View.{undone_one}
use native.Mathlib.Omega.{arith}
use mathlib.Core.Path.{refl}
use Rattle.boardundo.proofs.undo_one.Goals as goal

pub logged_slot-slot-requires : goal.logged_slot-slot-requires
logged_slot-slot-requires c = (c.requires.0, c.requires.1.number)

pub first_pad-v-requires : goal.first_pad-v-requires
first_pad-v-requires c = rw c.logged_slot-slot.ensures (slot_told c.args.kinds.now _ c.requires.1.on).0

pub second_pad-q-requires : goal.second_pad-q-requires
second_pad-q-requires c = let b = slot_told c.args.kinds.now _ c.requires.1.on in (omega (arith, b.0, c.logged_slot-slot.ensures), omega (arith, b.1, c.logged_slot-slot.ensures), c.args.kinds.now.told.largest_width)

pub bounds-board-slot : goal.bounds-board-slot
bounds-board-slot c = let b = slot_told c.args.kinds.now _ c.requires.1.on in omega (arith, b.1, c.logged_slot-slot.ensures)

pub unjoin-requires : goal.unjoin-requires
unjoin-requires c = let b = slot_told c.args.kinds.now _ c.requires.1.on in (c.requires.0, rw (c.first_pad-v.ensures, c.logged_slot-slot.ensures) (omega (arith, b.2)), rw (c.second_pad-q.ensures, c.logged_slot-slot.ensures) (omega (arith, b.3)))

pub returns : goal.returns
unfolding undone_one
returns c = rw (c.unjoin.ensures, c.second_pad-q.ensures, c.first_pad-v.ensures, c.logged_slot-slot.ensures) refl
