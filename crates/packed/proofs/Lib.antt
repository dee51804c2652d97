-- Laws that the proofs of the crate cite.
mod PadLaws
mod SliceLaws
