-- What the proofs of the crate share.
pub mod Short
pub mod CallLaws
pub mod Blocks
pub mod Replaying
pub mod Replayed
