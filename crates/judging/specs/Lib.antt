-- What the judge answers, and what its parts promise.
pub mod Judging
pub mod Following
pub mod Shape
pub mod Every
