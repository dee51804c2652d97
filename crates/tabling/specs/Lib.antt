-- What the contracts of the crate cite, and what the head and the rows together are.
pub mod Tabling
pub mod HeadLaws
pub mod TableRows
pub mod Whole
