-- What the contracts of the crate cite beside the model.
pub mod Written
pub mod Filled
pub mod Coded
