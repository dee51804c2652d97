-- The tally with nothing counted, and what an engine counts into one.
pub mod Outcomes
pub mod Empty
pub mod Counts
pub mod Lent
pub mod Answers
