-- Laws that the proofs of the crate cite.
mod Cells
mod DirectionLaws
mod TwoCases
