-- Laws that the proofs of the crate cite.
mod CodeLaws
mod LineLaws
mod CodedLaws
