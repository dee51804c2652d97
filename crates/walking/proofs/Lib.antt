-- What the proofs of the crate share.
pub mod Small
pub mod Tested
pub mod Steps
pub mod Answered
