-- An end is the one that its number says.
use Rattle.boardview.specs.Signed.{negative, not_negative, through_is, pad_is, clue_is}
use Rattle.boardparts.proofs.EndFromI64.from.Goals as goal

pub returns-then-number-eqminus1 : goal.returns-then-number-eqminus1
returns-then-number-eqminus1 c = through_is c.args.number c.ranges.number c.if-number-eqminus1.true

pub returns-then-number-lt0 : goal.returns-then-number-lt0
returns-then-number-lt0 c = clue_is c.args.number c.ranges.number c.if-number-eqminus1.false (negative c.args.number c.ranges.number c.if-number-lt0.true)

pub returns : goal.returns
returns c = pad_is c.args.number c.ranges.number (not_negative c.args.number c.ranges.number c.if-number-lt0.false)
