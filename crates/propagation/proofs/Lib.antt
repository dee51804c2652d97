-- That a decision loses no listed layout, and that the bound on its nesting is enough: the theorems that rest on the number of undecided edges
-- (specs/Undecided.antt); bottom up.
pub mod Sound
pub mod Decisions
pub mod Preparing
pub mod Standing
pub mod Fuel
