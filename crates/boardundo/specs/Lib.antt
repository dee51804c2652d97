-- What is said of undoing beside the contracts, which cite boardview's definitions.
pub mod Undone
