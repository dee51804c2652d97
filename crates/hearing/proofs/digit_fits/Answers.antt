-- `hearing::digit_fits` meets its contract: the line to the right, and the line downward. Assumes nothing.
use Rattle.hearing.proofs.DigitLaws.{off_to_the_right, by_downward}
use Rattle.hearing.proofs.digit_fits.Goals as goal

pub returns-then-line_fits : goal.returns-then-line_fits
returns-then-line_fits c =
    by_downward c.args.grid.now _ c.requires _ c.digit_at-digit.ensures c.if-digit-lt-ZERO.false c.if-digit-gt-THREE.false c.line_fits.ensures c.if-line_fits.true c.line_fits-then-line_fits.ensures

pub returns-else-line_fits : goal.returns-else-line_fits
returns-else-line_fits c =
    off_to_the_right c.args.grid.now _ c.requires _ c.digit_at-digit.ensures c.if-digit-lt-ZERO.false c.if-digit-gt-THREE.false c.line_fits.ensures c.if-line_fits.false
