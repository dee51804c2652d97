-- The leaves state their promises with the definitions of boardview; here is what the code's sides, directions, ends and actions stand for.
pub mod Sides
pub mod Ends
pub mod Actions
