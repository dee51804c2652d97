-- What the walk has given so far, what its parts promise, and what it answers.
pub mod Given
pub mod GivenLaws
pub mod Walked
pub mod WalkLaws
pub mod Answers
