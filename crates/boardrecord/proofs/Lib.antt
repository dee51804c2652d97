-- Laws that the proofs of the crate cite.
mod SlotLaws
