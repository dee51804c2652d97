-- The arrays of a bare board: what they hold, and what it is that they show the model's bare board.
pub mod BareArrays
pub mod Filling
pub mod EdgeBytes
pub mod KindBits
pub mod Bars
pub mod Room
pub mod BareView
