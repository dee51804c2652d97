-- `text::put_decimal` meets its contract, with the number as the measure: the digits of the tenth part, and then the last
-- digit. Assumes nothing.
use Rattle.text.proofs.+put_decimal.Given as goal

abbrev pub decreases-put_decimal : goal.decreases-put_decimal
decreases-put_decimal l = l.number
