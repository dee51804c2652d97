-- What the functions for other languages give, by the definitions of the crate `model`.
pub mod Lent
pub mod Replay
