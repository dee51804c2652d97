-- Laws that the proofs of the crate cite.
mod RecordLaws
mod LaidLaws
