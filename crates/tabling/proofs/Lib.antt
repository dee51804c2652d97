-- Laws that the proofs of the crate share, and that the head and the rows together are what `common` prints.
mod RowLaws
pub mod TableRows
pub mod Whole
