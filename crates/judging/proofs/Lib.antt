-- Laws that the proofs of the crate cite.
mod Lines
mod Stretches
mod Cells
mod Drawn
mod EveryPad
mod Ordinary
pub mod Answers
