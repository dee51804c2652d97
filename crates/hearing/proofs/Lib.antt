-- Laws that the proofs of the crate share.
mod DigitLaws
mod RecordLaws
mod TextLaws
