-- What the contracts of the crate cite beside the model, and what they tell of a slice that is written out as a file.
pub mod Pads
pub mod WrittenOut
