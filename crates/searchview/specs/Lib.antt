-- The search in theory: what the lent arrays show of it, and the laws of its steps.
pub mod Sizes
pub mod Shown
pub mod ShownLaws
pub mod EdgeSet
pub mod NextPad
pub mod Searched
pub mod SearchLaws
pub mod SameEvents
