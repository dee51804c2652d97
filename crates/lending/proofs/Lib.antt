-- The walks, by hand, of the two functions by which an engine's tally is lent: proved once, for every engine.
pub mod Engine
pub mod Lent
pub mod Made
