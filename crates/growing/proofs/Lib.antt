-- Laws that the proofs of the crate share.
mod ReadLaws
