-- The search lists exactly the listed layouts.
pub mod Passed
pub mod WholeBoard
pub mod NextPad
pub mod Branch
pub mod SearchLists
pub mod Exact
