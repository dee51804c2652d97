-- What the contracts of the crate cite beside the model.
pub mod Fields
pub mod Answers
pub mod Rows
