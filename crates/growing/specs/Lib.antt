-- The limits of the runs, how one is read, and what a program prints with them.
pub mod Limits
pub mod Whole
