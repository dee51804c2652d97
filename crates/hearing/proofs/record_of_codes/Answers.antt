-- `hearing::record_of_codes` meets its contract: nothing where the codes do not fit, else the field by the bytes of the codes. Assumes nothing.
use Rattle.std.proofs.Common.{rules}
use Rattle.model.specs.JudgeText.{coded_bytes}
use Rattle.hearing.proofs.RecordLaws.{no_record, the_record}
use Rattle.hearing.proofs.record_of_codes.Goals as goal

pub returns-then-not-codes_fit : goal.returns-then-not-codes_fit
returns-then-not-codes_fit c = no_record _ _ _ c.codes_fit.ensures c.if-not-codes_fit.true

pub returns : goal.returns
returns c = the_record _ _ _ c.codes_fit.ensures c.if-not-codes_fit.false _
    (c.put_field.ensures (coded_bytes c.args.digits.now) (λ row below column inside pads are byte is. search rules)).0 c.places.ensures
